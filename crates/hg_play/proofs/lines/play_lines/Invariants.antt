use Rattle.std.proofs.Common.{take}
use Rattle.hg_play.specs.Nodes.{IsKept, seen_alone}
use Rattle.hg_play.specs.Tape.{no_tape}
use Rattle.hg_play.specs.Through.{MatchesParts}
use Rattle.hg_play.proofs.lines.play_lines.Given as goal

abbrev pub invariant-loop-line : goal.invariant-loop-line
invariant-loop-line l = record {
  kept : IsKept (seen_alone l.initial.world) (seen_alone l.world);
  told : MatchesParts l.game.members.now (take l.line-index l.lines) (seen_alone l.initial.world) no_tape (seen_alone l.world) l.tape;
}
