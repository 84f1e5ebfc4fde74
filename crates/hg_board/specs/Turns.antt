-- What a seat has and knows while it holds the turn
use Rattle.std.specs.Prelude.{◌≡◌, ℕ, ◌<◌, ◌≤◌, List, [], ◌∷◌, ◌++◌, length, drop, None}
use Rattle.atomic_table.specs.Seated.{TableId}
use Rattle.hg_model.specs.Orders.{IsPrefix}
use Rattle.hg_life.specs.History.{Change}
use Rattle.hg_life.specs.History.Change.{Marked}
use Rattle.hg_life.specs.NodeView.{NodeView, IsNode, with_changes}
use Rattle.hg_model.specs.Shares.{whole}
use Rattle.hg_life.specs.Signing.{Accepts}
use Rattle.hg_gossip.specs.Holding.{positions_from}
use Rattle.hg_board.specs.Table.{HasSeen, node_at, view}
use Rattle.hg_board.specs.Steps.{Hand}
use Rattle.hg_board.specs.declared.view.Hold.TheVariants.{Free, Loaded}
use Rattle.hg_board.specs.declared.view.View.{View}

-- two words and one slot
pub record IsSized (t : TableId) : Type 0 where
  pub words : t.words ≡ 2
  pub slots : t.slots ≡ 1

-- the change at the end; of none any
abbrev pub last_change : List Change → Change
last_change [] = Marked 0 whole
last_change (e ∷ []) = e
last_change (e ∷ d ∷ h) = last_change (d ∷ h)

module _ {V : Type 0} where
  -- the seat has the turn and has seen the whole history, and the node is out
  abbrev pub inside_at : View V → List Change → List ℕ → Hand V
  inside_at v history mine = (view v.start history [] mine v.parts Loaded, (0, None) ∷ [])

  -- the turn is given
  abbrev pub outside_at : View V → List Change → List ℕ → Hand V
  outside_at v history mine = (view v.start history [] mine v.parts Free, [])

  pub record IsInside (m : Hand V) : Type 0 where
    pub alive : 0 < m.0.parts
    pub inside : m ≡ inside_at m.0 m.0.seen m.0.mine

  -- the positions with those of the changes that the history has beyond what was seen
  abbrev pub mine_with : View V → List Change → List ℕ
  mine_with v history = v.mine ++ positions_from (length v.seen) (drop (length v.seen) history)

  -- it is inside, with a node that has this history, whose length is the count
  pub record Enters (accepts : V → Accepts) (start : NodeView V) (m n : Hand V) (node : NodeView V) (count : ℕ) : Type 0 where
    pub history : List Change
    pub knows : HasSeen start m.0.seen m.0.mine
    pub seen : IsPrefix m.0.seen history
    pub lawful : IsNode accepts (node_at start history)
    pub alive : 0 < m.0.parts
    pub inside : n ≡ inside_at m.0 history m.0.mine
    pub found : node ≡ node_at start history
    pub counted : count ≡ length history

  -- the node has one change more at most
  pub record IsGrown (old new : NodeView V) : Type 0 where
    pub changes : List Change
    pub few : length changes ≤ 1
    pub grown : new ≡ with_changes old changes
