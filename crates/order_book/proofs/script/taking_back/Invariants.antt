use Rattle.std.proofs.Common.{◌≡◌, drop}
use Rattle.order_book.specs.Script.{taking_back}
use Rattle.order_book.proofs.script.taking_back.Given as goal

abbrev pub invariant-loop-order : goal.invariant-loop-order
invariant-loop-order l = taking_back l.order-items l.member ≡ taking_back (drop l.order-index l.order-items) l.member
