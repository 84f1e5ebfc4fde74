use Rattle.std.proofs.Common.{◌≡◌}
use Rattle.hg_board.proofs.turn.enter.Given as goal

abbrev pub invariant-loop : goal.invariant-loop
invariant-loop g l = (l.raw.table_id ≡ l.initial.raw.table_id) × (l.raw.me ≡ l.initial.raw.me)
