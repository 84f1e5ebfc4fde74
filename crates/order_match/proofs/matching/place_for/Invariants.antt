use Rattle.std.proofs.Common.{◌≡◌, ◌++◌, take, drop}
use Rattle.order_match.specs.Matching.{insert_order}
use Rattle.order_match.proofs.matching.place_for.Given as goal

abbrev pub invariant-loop-place : goal.invariant-loop-place
invariant-loop-place l = insert_order l.side l.order l.resting ≡ take l.place l.resting ++ insert_order l.side l.order (drop l.place l.resting)
