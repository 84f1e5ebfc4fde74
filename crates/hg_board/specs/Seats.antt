-- A shared node and its seats, as callers see them
use Rattle.std.specs.Prelude.{◌≡◌, ℕ, List, Option, Some}
use Rattle.atomic_table.specs.Seated.{TableId}
use Rattle.hg_life.specs.History.{Change}
use Rattle.hg_life.specs.NodeView.{NodeView}
use Rattle.hg_gossip.specs.Holding.{Seen}
use Rattle.hg_board.specs.Table.{node_at}
use Rattle.hg_board.specs.declared.view.View.{View}

-- a shared node: its table, and the node that it was started with
pub record SharedNode (V : Type 0) : Type 0 where
  pub table : TableId
  pub start : NodeView V

-- a seat: its table and the node that this was started with, the history that it has seen, the positions of the changes
-- that its own calls added, and its parts
pub record SeatView (V : Type 0) : Type 0 where
  pub table : TableId
  pub start : Option (NodeView V)
  pub seen : List Change
  pub mine : List ℕ
  pub parts : ℕ

module _ {V : Type 0} where
  abbrev pub shared_node : TableId → NodeView V → SharedNode V
  shared_node table start = record { table = table; start = start }

  abbrev pub seat_view : TableId → Option (NodeView V) → List Change → List ℕ → ℕ → SeatView V
  seat_view table start seen mine parts = record { table = table; start = start; seen = seen; mine = mine; parts = parts }

  abbrev pub seat_view_of : TableId → View V → SeatView V
  seat_view_of table v = seat_view table v.start v.seen v.mine v.parts

  -- the seat is one of this shared node
  pub record IsOf (p : SharedNode V) (s : SeatView V) : Type 0 where
    pub table : s.table ≡ p.table
    pub start : s.start ≡ Some p.start

  -- the node as the seat has seen it, and the seat's own positions
  abbrev pub seen_by : SharedNode V → SeatView V → Seen V
  seen_by p s = record { node = node_at p.start s.seen; positions = s.mine }
