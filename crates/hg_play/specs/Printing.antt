-- What is printed of an order
use Rattle.std.specs.Prelude.{List}
use Rattle.hg_outcome.specs.declared.outcome.OrderLine.{OrderLine}
use Rattle.hg_model.specs.declared.row.Placed.{Placed}
use Rattle.hg_life.specs.declared.pay.Effect.{Effect}
use Rattle.hg_outcome.specs.Ledger.{order_lines}
use Rattle.hg_model.specs.Prefix.{Graph, links_of}

-- the rows of an order with what came of them
abbrev pub lines_of : Graph → List Placed → List Effect → List OrderLine
lines_of g order effects = order_lines g.rows (links_of g) order effects
