use Rattle.std.proofs.Common.{◌≡◌, ◌++◌, drop}
use Rattle.hg_outcome.specs.Ledger.{order_lines}
use Rattle.hg_model.specs.Prefix.{links_of}
use Rattle.hg_play.proofs.printing.order_lines.Given as goal

abbrev pub invariant-loop-i : goal.invariant-loop-i
invariant-loop-i g l = l.lines.items ++ order_lines (g.P.Prefix.graph l.p).rows (links_of (g.P.Prefix.graph l.p)) (drop l.i l.order) (drop l.i l.effects) ≡ order_lines (g.P.Prefix.graph l.p).rows (links_of (g.P.Prefix.graph l.p)) l.order l.effects
