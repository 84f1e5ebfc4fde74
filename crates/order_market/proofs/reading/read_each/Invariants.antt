use Rattle.std.proofs.Common.{◌≡◌, map, take}
use Rattle.hg_life.specs.NodeView.{node_rows}
use Rattle.order_match.specs.Books.{with_events}
use Rattle.order_market.specs.Market.{event_in}
use Rattle.order_market.proofs.reading.read_each.Given as goal

abbrev pub invariant-loop-placed : goal.invariant-loop-placed
invariant-loop-placed l = l.book ≡ with_events l.fn.book (map (event_in (node_rows l.node)) (take l.placed-index l.order))
