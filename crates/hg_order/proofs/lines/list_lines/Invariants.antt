use Rattle.std.proofs.Common.{◌≡◌, length, take, vec_capacity}
use Rattle.std.specs.Prelude.{get_or}
use Rattle.hg_order.specs.Lined.{AreLinesOf}
use Rattle.hg_order.proofs.lines.list_lines.Given as goal

abbrev pub invariant-loop-i : goal.invariant-loop-i
invariant-loop-i g l = record {
  lines : AreLinesOf (g.P.Prefix.graph l.p).rows (g.P.Sight.shape l.p).links (take l.i l.places) l.low l.lines.items l.starts;
  begins : get_or l.starts l.i 0 ≡ length l.lines.items;
  long : length l.starts ≡ length l.fn.starts;
  room : vec_capacity l.lines ≡ vec_capacity l.fn.lines;
}
