use Rattle.std.proofs.Common.{◌≡◌, ◌+◌, [], drop, length}
use Rattle.hg_play.specs.Nodes.{IsKept, seen_alone}
use Rattle.hg_play.proofs.QuietLaws.{QuietSoFar}
use Rattle.hg_play.proofs.lines.play_quietly.Given as goal

abbrev pub invariant-loop : goal.invariant-loop
invariant-loop g l = record {
  kept : IsKept (seen_alone l.initial.world) (seen_alone l.world);
  rest : g.L.LineSource.rest l.lines ≡ drop l.counter (g.L.LineSource.rest l.initial.lines);
  count : l.count ≡ length (g.L.LineSource.rest l.initial.lines);
  silent : l.tape.printed ≡ [];
  told : QuietSoFar l.game.members.now (g.L.LineSource.rest l.initial.lines) l.counter l.initial.world l.world l.tape.labels;
}
