-- Events that come to a shared node in one turn
use Rattle.std.specs.Prelude.{◌≡◌, ◌<◌, true, cond, List, ◌∷◌, ◌++◌, length, fold}
use Rattle.std.specs.List.{AllByRecursion}
use Rattle.hg_model.specs.declared.row.Row.{Row}
use Rattle.hg_model.specs.Stakes.{member_count}
use Rattle.hg_life.specs.Spelling.{Spells, spelling}
use Rattle.hg_model.specs.Held.{is_held}
use Rattle.hg_life.specs.History.{Change}
use Rattle.hg_life.specs.NodeView.{NodeView, Start, node_rows, with_changes}
use Rattle.hg_life.specs.Signing.{Accepts}
use Rattle.hg_node.specs.Puts.{WouldAccept, is_signed}
use Rattle.hg_gossip.specs.declared.gossip.Taken.{Taken}
use Rattle.hg_gossip.specs.Gossip.{none_taken}
use Rattle.hg_gossip.specs.Nodes.{Taking, take_event, taking_of}
use Rattle.hg_gossip.specs.Holding.{Seen, Waits, WouldTake, positions_from, with_own}
use Rattle.hg_board.specs.Seats.{SharedNode, SeatView, seen_by}
use Rattle.hg_board.specs.Calls.{rules_shared}
use Rattle.hg_board.specs.Steps.{Hand}
use Rattle.hg_board.specs.Turns.{inside_at}

-- a member made the event, and a node that began so accepts its signature
pub record IsSignedFor {K : Type 0} (accepts : K → Accepts) (start : Start K) (row : Row) : Type 0 where
  pub fits : row.creator < member_count start.members
  pub signed : is_signed accepts start row ≡ true

abbrev pub AreSignedFor : {K : Type 0} → (K → Accepts) → Start K → List Row → Type 0
AreSignedFor accepts start rows = AllByRecursion (IsSignedFor accepts start) rows

-- each event is spelled as its name says
abbrev pub AreSpelled : List Row → Type 0
AreSpelled rows = AllByRecursion (λ (row : Row). Spells (spelling row) row) rows

-- the node and the counts with one event more, unless the node has its name
abbrev pub take_row : {K : Type 0} → (K → Accepts) → Taking K → Row → Taking K
take_row accepts t row = cond (is_held (node_rows t.node) row.name) t (take_event accepts t (spelling row))

-- with these events more, one after the other
unfoldable pub taking_rows : {K : Type 0} → (K → Accepts) → NodeView K → List Row → Taking K
taking_rows accepts v rows = fold (take_row accepts) (taking_of v none_taken) rows

-- while a seat holds the turn its node got these changes more, and the seat has their positions
pub record AddsInside {V : Type 0} (m n : Hand V) (old new : NodeView V) : Type 0 where
  pub more : List Change
  pub grown : new ≡ with_changes old more
  pub inside : n ≡ inside_at m.0 (m.0.seen ++ more) (m.0.mine ++ positions_from (length m.0.seen) more)

-- some of the first of the events were taken, and there was no memory to accept the next one
pub record TakesFirst {K : Type 0} (accepts : K → Accepts) (old : NodeView K) (rows : List Row) (new : NodeView K) : Type 0 where
  pub first : List Row
  pub next : Row
  pub rest : List Row
  pub whole : rows ≡ first ++ next ∷ rest
  pub counts : Taken
  pub taken : taking_rows accepts old first ≡ taking_of new counts
  pub full : WouldAccept accepts new (spelling next)

-- the node that is seen takes the event, so that memory is needed for it
abbrev pub WouldTakeRow : {V : Type 0} → (V → Accepts) → Seen V → Row → Type 0
WouldTakeRow accepts s row = WouldTake (rules_shared accepts) s (spelling row)

module _ {V : Type 0} (accepts : V → Accepts) (p : SharedNode V) where
  -- the events came to the node at one history, of which the seat had seen a prefix; what they added follows it, and each
  -- change of these is the seat's
  pub record SeatTakes (old : SeatView V) (rows : List Row) (new : SeatView V) (counts : Taken) : Type 0 where
    pub reached : Seen V
    pub waits : Waits (rules_shared accepts) (seen_by p old) reached
    pub more : List Change
    pub taken : taking_rows accepts reached.node rows ≡ taking_of (with_changes reached.node more) counts
    pub grown : seen_by p new ≡ with_own reached more

  -- some of the first of them did, and there was no memory to accept the next one
  pub record SeatTakesFirst (old : SeatView V) (rows : List Row) (new : SeatView V) : Type 0 where
    pub first : List Row
    pub next : Row
    pub rest : List Row
    pub whole : rows ≡ first ++ next ∷ rest
    pub counts : Taken
    pub takes : SeatTakes old first new counts
    pub full : WouldTakeRow accepts (seen_by p new) next
