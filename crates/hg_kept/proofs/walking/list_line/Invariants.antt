use Rattle.std.proofs.Common.{◌≡◌, vec_capacity}
use Rattle.hg_model.specs.Prefix.{links_of}
use Rattle.hg_kept.proofs.WalkLaws.{IsWalked}
use Rattle.hg_kept.proofs.walking.list_line.Given as goal

abbrev pub invariant-line : goal.invariant-line
invariant-line g l =
    IsWalked (links_of (g.P.Prefix.graph l.p)) l.low l.end l.fn.fresh.items l.last l.fresh.items × (vec_capacity l.fresh ≡ vec_capacity l.fn.fresh)

abbrev pub decreases-line : goal.decreases-line
decreases-line g l = l.last
