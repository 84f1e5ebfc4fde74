-- Many nodes between threads, and a seat of each: what one branch knows of what the others did
use Rattle.std.specs.Prelude.{◌≡◌, ℕ, ◌<◌, ◌≤◌, List, length, get_or, Some, slice_get}
use Rattle.hg_model.specs.Orders.{IsPrefix}
use Rattle.hg_model.specs.Shares.{Share}
use Rattle.hg_life.specs.Signing.{Accepts}
use Rattle.hg_life.specs.History.{Change}
use Rattle.hg_life.specs.History.Change.{Marked}
use Rattle.hg_life.specs.NodeView.{NodeView, IsNode, node_rows}
use Rattle.hg_board.specs.Positions.{times, AreBelow}
use Rattle.hg_board.specs.Table.{node_at}
use Rattle.hg_board.specs.Seats.{IsOf, SharedNode, SeatView}

-- two lists of one length, pair by pair
pub record Each {A B : Type 0} (R : A → B → Type 0) (xs : List A) (ys : List B) : Type 0 where
  pub count : length ys ≡ length xs
  pub each : (k : ℕ) (a : A) (b : B) → k < length xs → R (get_or xs k a) (get_or ys k b)

-- the change at a position publishes marks, and nothing else
abbrev pub IsMark : List Change → ℕ → Type 0
IsMark history q = (len : ℕ) × (share : Share) × (slice_get history q ≡ Some (Marked len share))

module _ {V : Type 0} where
  -- of the changes since the start, those that are not the seat's own are marks
  abbrev pub OthersMark : SharedNode V → SeatView V → Type 0
  OthersMark p s = (q : ℕ) → length p.start.history ≤ q → q < length s.seen → times q s.mine ≡ 0 → IsMark s.seen q

  -- a seat of this node: it has seen all that the node was started with, and its own changes
  pub record IsSeat (accepts : V → Accepts) (p : SharedNode V) (s : SeatView V) : Type 0 where
    pub of : IsOf p s
    pub begun : IsPrefix p.start.history s.seen
    pub within : AreBelow (length s.seen) s.mine
    pub node : IsNode accepts (node_at p.start s.seen)

  -- a seat of each node
  abbrev pub AreSeats : (V → Accepts) → List (SharedNode V) → List (SeatView V) → Type 0
  AreSeats accepts shared seats = Each (IsSeat accepts) shared seats

  -- it is the same seat still, which has seen more
  pub record IsStill (old new : SeatView V) : Type 0 where
    pub same : new.table ≡ old.table
    pub start : new.start ≡ old.start
    pub parts : new.parts ≡ old.parts
    pub seen : IsPrefix old.seen new.seen

  abbrev pub AreStill : List (SeatView V) → List (SeatView V) → Type 0
  AreStill olds news = Each IsStill olds news

  -- Once all seats are back: others only marked, the node has the rows that the seat has seen, its history goes on from
  -- what the seat has seen, and what came to it through other seats are marks.
  pub record IsEnded (p : SharedNode V) (s : SeatView V) (node : NodeView V) : Type 0 where
    pub start : node.start ≡ p.start.start
    pub others : OthersMark p s
    pub rows : node_rows node ≡ node_rows (node_at p.start s.seen)
    pub later : IsPrefix s.seen node.history
    pub marks : (q : ℕ) → length p.start.history ≤ q → q < length node.history → times q s.mine ≡ 0 → IsMark node.history q
