use Rattle.std.proofs.Common.{◌≡◌, vec_capacity}
use Rattle.hg_model.specs.Prefix.{links_of}
use Rattle.hg_order.specs.Famous.{all_have}
use Rattle.hg_kept.proofs.StepLaws.{IsParted}
use Rattle.hg_kept.proofs.pending.move_received.Given as goal

abbrev pub invariant-loop-i : goal.invariant-loop-i
invariant-loop-i g l =
    IsParted (all_have (links_of (g.P.Prefix.graph l.p)) l.famous) l.i l.fn.places l.places l.fresh.items l.kept
    × (vec_capacity l.fresh ≡ vec_capacity l.fn.fresh)
