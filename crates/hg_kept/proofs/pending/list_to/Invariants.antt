use Rattle.std.proofs.Common.{◌≡◌, ◌≤◌, vec_len, vec_capacity}
use Rattle.hg_model.specs.Prefix.{links_of}
use Rattle.hg_kept.specs.Waiting.{ListsTo}
use Rattle.hg_kept.proofs.pending.list_to.Given as goal

abbrev pub invariant-loop-x : goal.invariant-loop-x
invariant-loop-x g l =
    ListsTo (links_of (g.P.Prefix.graph l.p)) l.ends l.looked l.x l.fn.places.items l.places.items
    × (vec_len l.places ≤ l.x)
    × (vec_capacity l.places ≡ vec_capacity l.fn.places)
