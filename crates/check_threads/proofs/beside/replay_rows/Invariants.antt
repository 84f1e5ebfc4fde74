use Rattle.std.proofs.Common.{◌≡◌}
use Rattle.hg_board.specs.Seats.{IsOf}
use Rattle.check_threads.proofs.beside.replay_rows.Given as goal

abbrev pub invariant-loop-place : goal.invariant-loop-place
invariant-loop-place g l = record {
  of : IsOf l.shared l.seat;
  parts : l.seat.parts ≡ l.fn.seat.parts;
}
