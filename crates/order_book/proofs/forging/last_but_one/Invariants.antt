use Rattle.std.proofs.Common.{◌≡◌, take}
use Rattle.hg_life.specs.NodeView.{node_rows}
use Rattle.order_book.specs.Script.{last_names}
use Rattle.order_book.proofs.forging.last_but_one.Given as goal

abbrev pub invariant-loop-place : goal.invariant-loop-place
invariant-loop-place l = (l.before, l.last) ≡ last_names l.member (take l.place (node_rows l.node))
