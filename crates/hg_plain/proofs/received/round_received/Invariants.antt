use Rattle.std.proofs.Common.{◌≡◌, None}
use Rattle.hg_model.specs.Places.{least_below}
use Rattle.hg_model.specs.Order.{can_receive}
use Rattle.hg_model.specs.Prefix.{links_of}
use Rattle.hg_plain.proofs.received.round_received.Given as goal

abbrev pub invariant-loop-r : goal.invariant-loop-r
invariant-loop-r l = least_below (λ r. r) l.r (can_receive l.p.members (links_of l.p) l.marks l.x) ≡ None
