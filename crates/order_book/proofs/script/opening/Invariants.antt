use Rattle.std.proofs.Common.{◌≡◌}
use Rattle.hg_model.specs.Places.{table}
use Rattle.order_book.specs.Script.{first_event}
use Rattle.order_book.proofs.script.opening.Given as goal

abbrev pub invariant-loop-member : goal.invariant-loop-member
invariant-loop-member l = l.actions.items ≡ table first_event l.member
