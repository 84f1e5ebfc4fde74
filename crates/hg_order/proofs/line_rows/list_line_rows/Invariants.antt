use Rattle.std.proofs.Common.{◌≡◌, ◌≤◌, ◌+◌, length, vec_capacity}
use Rattle.hg_order.specs.Timers.{line_rows_below}
use Rattle.hg_order.proofs.line_rows.list_line_rows.Given as goal

abbrev pub invariant-loop-z : goal.invariant-loop-z
invariant-loop-z g l = record {
  listed : l.line_rows.items ≡ line_rows_below (g.P.Prefix.graph l.p) l.ends l.low l.z;
  few : length l.line_rows.items + l.low ≤ l.z;
  room : vec_capacity l.line_rows ≡ vec_capacity l.fn.line_rows;
}
