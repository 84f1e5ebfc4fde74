-- What each call of a shared node promises its seat
use Rattle.std.specs.Prelude.{◌≡◌, ℕ, ◌+◌, ◌-◌, ◌≤◌, true, List, [], ◌++◌, length, Option}
use Rattle.hg_life.specs.declared.answers.PutAnswer.{PutAnswer}
use Rattle.hg_life.specs.declared.answers.MakeAnswer.{MakeAnswer}
use Rattle.hg_model.specs.Shares.{Share}
use Rattle.hg_model.specs.Orders.{IsPrefix}
use Rattle.hg_life.specs.NodeView.{NodeView, IsNode}
use Rattle.hg_life.specs.Calls.{publish_answer, publish_changes}
use Rattle.hg_life.specs.Signing.{Accepts}
use Rattle.hg_life.specs.History.{Change}
use Rattle.hg_node.specs.Next.{MakesNext}
use Rattle.hg_gossip.specs.Holding.{Makes, PutsBytes, Rules, Seen, Waits, with_own}
use Rattle.hg_board.specs.Positions.{times, once_from, AreBelow}
use Rattle.hg_board.specs.Table.{all_parts, node_at}
use Rattle.hg_board.specs.Steps.{longer}
use Rattle.hg_board.specs.Seats.{IsOf, SharedNode, SeatView, seen_by, seat_view}

-- others may change the node too
abbrev pub rules_shared : {V : Type 0} → (V → Accepts) → Rules V
rules_shared accepts = record { accepts = accepts; shared = true }

-- what a share found was published at the history then reached, and so many were marked
pub record Publishes {V : Type 0} (rules : Rules V) (old : Seen V) (len : ℕ) (share : Share) (new : Seen V) (count : ℕ) : Type 0 where
  pub reached : Seen V
  pub waits : Waits rules old reached
  pub answers : count ≡ publish_answer reached.node len share
  pub grown : new ≡ with_own reached (publish_changes reached.node len share)

module _ {V : Type 0} (accepts : V → Accepts) (p : SharedNode V) where
  -- it is a seat of the node still, with as many parts; it has seen more, which is a history of the node and has all that
  -- this was started with, and the seat's own changes
  pub record Stays (old new : SeatView V) : Type 0 where
    pub of : IsOf p new
    pub parts : new.parts ≡ old.parts
    pub seen : IsPrefix old.seen new.seen
    pub begun : IsPrefix p.start.history new.seen
    pub within : AreBelow (length new.seen) new.mine
    pub node : IsNode accepts (node_at p.start new.seen)

  -- its call added nothing: others' changes alone are new
  abbrev pub SeatWaits : SeatView V → SeatView V → Type 0
  SeatWaits old new = Waits (rules_shared accepts) (seen_by p old) (seen_by p new)

  -- the bytes were put to the node at a history of which the seat had seen a prefix
  abbrev pub SeatPuts : SeatView V → List ℕ → SeatView V → PutAnswer → Type 0
  SeatPuts old bytes new answer = PutsBytes (rules_shared accepts) (seen_by p old) bytes (seen_by p new) answer

  -- so was the event made
  abbrev pub SeatMakes : SeatView V → List (List ℕ) → ℕ → List ℕ → SeatView V → MakeAnswer → Type 0
  SeatMakes old others time payload new answer = Makes (rules_shared accepts) (seen_by p old) others time payload (seen_by p new) answer

  -- so was the event that comes next, or nothing where none does
  pub record SeatMakesNext (old : SeatView V) (time : ℕ) (new : SeatView V) (made : Option MakeAnswer) : Type 0 where
    pub reached : Seen V
    pub waits : Waits (rules_shared accepts) (seen_by p old) reached
    pub more : List Change
    pub grown : seen_by p new ≡ with_own reached more
    pub makes : MakesNext accepts reached.node time made (seen_by p new).node

  -- so was published what the share found
  abbrev pub SeatPublishes : SeatView V → ℕ → Share → SeatView V → ℕ → Type 0
  SeatPublishes old len share new count = Publishes (rules_shared accepts) (seen_by p old) len share (seen_by p new) count

  -- the first seat of a node: it has seen the whole history and added nothing, and has all parts
  pub record IsStarted (node : NodeView V) (s : SeatView V) : Type 0 where
    pub of : IsOf p s
    pub start : p.start ≡ node
    pub seen : s.seen ≡ node.history
    pub mine : s.mine ≡ []
    pub parts : s.parts ≡ all_parts
    pub lawful : IsNode accepts node

  -- both seats in one: of what they had seen the shorter is a prefix of the longer, which is kept
  pub record Absorbs (old other new : SeatView V) : Type 0 where
    pub of : IsOf p new
    pub parts : new.parts ≡ old.parts + other.parts
    pub mine : new.mine ≡ old.mine ++ other.mine
    pub once : (q : ℕ) → times q new.mine ≤ 1
    pub within : AreBelow (length new.seen) new.mine
    pub seen : new.seen ≡ longer old.seen other.seen
    pub begins : IsPrefix old.seen new.seen
    pub ends : IsPrefix other.seen new.seen
    pub node : IsNode accepts (node_at p.start new.seen)

module _ {V : Type 0} where
  -- the node as the seat has seen it, and the changes since the start are the seat's, each once
  pub record IsWhole (p : SharedNode V) (s : SeatView V) (node : NodeView V) : Type 0 where
    pub seen : node ≡ node_at p.start s.seen
    pub later : IsPrefix p.start.history s.seen
    pub all : (q : ℕ) → times q s.mine ≡ once_from (length p.start.history) (length s.seen) q

  -- a split moves one part to a new seat, which has seen as much and added nothing
  abbrev pub after_split : SeatView V → SeatView V
  after_split s = seat_view s.table s.start s.seen s.mine (s.parts - 1)

  abbrev pub split_off : SeatView V → SeatView V
  split_off s = seat_view s.table s.start s.seen [] 1
