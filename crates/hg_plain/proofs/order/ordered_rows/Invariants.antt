use Rattle.std.proofs.Common.{◌≡◌}
use Rattle.hg_model.specs.Prefix.{links_of}
use Rattle.hg_plain.specs.Rounds.{ordered_before}
use Rattle.hg_plain.proofs.order.ordered_rows.Given as goal

abbrev pub invariant-loop-r : goal.invariant-loop-r
invariant-loop-r l = l.order.items ≡ ordered_before l.p.members l.p.rows (links_of l.p) l.marks l.r
