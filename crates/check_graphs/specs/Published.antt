-- What a node tells once all that its graph decides is published
use Rattle.std.specs.Prelude.{◌≡◌}
use Rattle.hg_model.specs.Order.{closed_of, order_of}
use Rattle.hg_life.specs.NodeView.{NodeView, kept_of, last_closed_of, node_rows}

-- its kept order and its last closed round are those of its rows
pub record IsPublished {K : Type 0} (v : NodeView K) : Type 0 where
  pub order : kept_of v ≡ order_of v.start.members v.start.coin (node_rows v)
  pub closed : last_closed_of v ≡ closed_of v.start.members v.start.coin (node_rows v)
