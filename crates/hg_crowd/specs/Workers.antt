-- Many nodes as they are started, worked on by callers beside each other, and finished
use Rattle.std.specs.Prelude.{◌≡◌, ℕ, ◌<◌, ◌≤◌, Bool, List, [], ◌∷◌, ◌++◌, length, get_or, Some}
use Rattle.std.specs.List.{AllByRecursion}
use Rattle.hg_model.specs.Shares.{Share, share_fame, whole}
use Rattle.hg_model.specs.Fame.{mark_at}
use Rattle.hg_life.specs.Signing.{Accepts}
use Rattle.hg_life.specs.NodeView.{NodeView, node_links, node_marks, node_rows}
use Rattle.hg_board.specs.Table.{all_parts}
use Rattle.hg_board.specs.Seats.{SharedNode, SeatView}
use Rattle.hg_board.specs.Calls.{Absorbs, IsStarted, IsWhole}
use Rattle.hg_board.specs.Crews.{MarksAll}
use Rattle.hg_crowd.specs.Crowd.{IsMark, IsStill}

-- each witness that the rows of the node decide has its mark
abbrev pub HasAllMarks : {V : Type 0} → NodeView V → Type 0
HasAllMarks v =
    (x : ℕ) (famous : Bool) → share_fame v.start.members v.start.coin (node_rows v) (node_links v) whole x ≡ Some famous →
    mark_at (node_marks v) x ≡ Some famous

module _ {V : Type 0} where
  -- it is the same seat still, and its own calls added marks alone
  pub record Worked (old new : SeatView V) : Type 0 where
    pub still : IsStill old new
    pub more : List ℕ
    pub mine : new.mine ≡ old.mine ++ more
    pub marks : AllByRecursion (IsMark new.seen) more

  -- it has more parts than so many
  abbrev pub HasMore : ℕ → SeatView V → Type 0
  HasMore many s = many < s.parts

  -- it has all
  abbrev pub HasAll : SeatView V → Type 0
  HasAll s = s.parts ≡ all_parts

  -- each node was started, in order, with its first seat
  pub record AreStarted (accepts : V → Accepts) (nodes : List (NodeView V)) (shared : List (SharedNode V)) (seats : List (SeatView V)) : Type 0 where
    pub shared_count : length shared ≡ length nodes
    pub seats_count : length seats ≡ length nodes
    pub each : (k : ℕ) (node : NodeView V) (p : SharedNode V) (s : SeatView V) → k < length nodes →
        IsStarted accepts (get_or shared k p) (get_or nodes k node) (get_or seats k s)

  -- one node more is started, behind those that were
  abbrev pub StartsOne : (V → Accepts) → NodeView V → List (SharedNode V) → List (SeatView V) → List (SharedNode V) → List (SeatView V) → Type 0
  StartsOne accepts node shared seats more_shared more_seats =
      (nodes : List (NodeView V)) → AreStarted accepts nodes shared seats → AreStarted accepts (nodes ++ node ∷ []) more_shared more_seats

  -- these are the nodes again, in order
  pub record AreWhole (shared : List (SharedNode V)) (seats : List (SeatView V)) (nodes : List (NodeView V)) : Type 0 where
    pub shared_count : length shared ≡ length nodes
    pub seats_count : length seats ≡ length nodes
    pub each : (k : ℕ) (p : SharedNode V) (s : SeatView V) (node : NodeView V) → k < length nodes →
        IsWhole (get_or shared k p) (get_or seats k s) (get_or nodes k node)

  -- each seat was absorbed by that of the same node
  pub record AllAbsorb (accepts : V → Accepts) (shared : List (SharedNode V)) (olds others news : List (SeatView V)) : Type 0 where
    pub count : length news ≡ length olds
    pub each : (k : ℕ) (p : SharedNode V) (s other t : SeatView V) → k < length olds →
        Absorbs accepts (get_or shared k p) (get_or olds k s) (get_or others k other) (get_or news k t)

  -- of each node, each witness of the share that the graph of the old history decides has its mark in the new one
  pub record AllMark (shared : List (SharedNode V)) (share : Share) (olds news : List (SeatView V)) : Type 0 where
    pub each : (k : ℕ) (p : SharedNode V) (s t : SeatView V) → k < length olds → MarksAll (get_or shared k p) share (get_or olds k s) (get_or news k t)

  -- so do those of the first shares of so many, up to this one
  abbrev pub AllMarkUpTo : List (SharedNode V) → ℕ → ℕ → List (SeatView V) → List (SeatView V) → Type 0
  AllMarkUpTo shared last shares olds news = (k : ℕ) → k ≤ last → AllMark shared (record { k = k; «of» = shares }) olds news
