use Rattle.std.proofs.Common.{◌≤◌}
use Rattle.hg_board.specs.Calls.{Stays}
use Rattle.hg_board.specs.Crews.{MarksAll, MarksOf}
use Rattle.hg_workers.specs.Turns.{marks_seen}
use Rattle.hg_workers.proofs.voters.VotersCrew.work.Given as goal

abbrev pub invariant-loop-turn : goal.invariant-loop-turn
invariant-loop-turn g l = record {
  stays : Stays g.V.Verifier.accepts l.shared l.fn.seat l.seat;
  counted : MarksOf l.shared l.share l.fn.seat l.seat l.count;
  all : MarksAll l.shared l.share l.fn.seat l.seat;
  small : l.count ≤ marks_seen l.shared l.seat;
}
