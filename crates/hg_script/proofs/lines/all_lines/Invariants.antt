use Rattle.std.proofs.Common.{◌≡◌, ◌+◌, ◌++◌, length}
use Rattle.hg_script.proofs.lines.all_lines.Given as goal

abbrev pub invariant-loop : goal.invariant-loop
invariant-loop g l = record {
  told : l.all.items ++ g.L.LineSource.rest l.lines ≡ g.L.LineSource.rest l.initial.lines;
  left : l.counter + length (g.L.LineSource.rest l.lines) ≡ l.count;
}
