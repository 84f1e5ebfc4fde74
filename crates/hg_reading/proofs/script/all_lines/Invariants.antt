use Rattle.std.proofs.Common.{◌≡◌, ◌≤◌, ◌+◌, length}
use Rattle.std.specs.List.{All}
use Rattle.std.specs.Str.Lines.{lines}
use Rattle.hg_script.specs.Lawful.{IsLine}
use Rattle.hg_script.specs.Script.{lines_after, nothing_above}
use Rattle.hg_reading.proofs.script.all_lines.Given as goal

abbrev pub invariant-lines : goal.invariant-lines
invariant-lines l = record {
  read : lines_after l.members l.workers nothing_above 1 (lines l.bytes) ≡ lines_after l.members l.workers l.above l.number (lines l.rest);
  lawful : All (IsLine l.members l.workers) l.above.lines;
  room : l.number + length l.rest ≤ length l.bytes + 1;
}

abbrev pub decreases-lines : goal.decreases-lines
decreases-lines l = length l.rest
