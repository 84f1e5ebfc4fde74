use Rattle.std.proofs.Common.{◌≡◌, ◌++◌}
use Rattle.hg_board.specs.Seats.{IsOf}
use Rattle.hg_crowd.specs.Crowd.{IsStill}
use Rattle.hg_storm.specs.Fates.{HasFates}
use Rattle.hg_storm.specs.Keeping.{AddsNoRow, KeepsSeat}
use Rattle.hg_storm.specs.Receiving.{TakesFirst}
use Rattle.hg_storm.proofs.taking.take_all.Given as goal

abbrev pub invariant-messages : goal.invariant-messages
invariant-messages g l = record {
  of : IsOf l.shared l.seat;
  still : IsStill l.fn.seat l.seat;
  seat : KeepsSeat g.V.Verifier.accepts l.shared l.fn.seat l.seat;
  made : AddsNoRow l.fn.seat l.seat;
  fates : HasFates g.V.Verifier.accepts l.shared l.seat l.intake.taken.items l.intake.refused.items;
  first : TakesFirst l.fn.intake.taken.items l.fn.messages.items l.message-iterator.rest.items l.intake.taken.items;
  taken : l.intake.taken.items ++ l.message-iterator.rest.items ≡ l.fn.intake.taken.items ++ l.fn.messages.items;
}
