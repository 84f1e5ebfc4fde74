-- Many shared nodes with a seat of each, as one value, and what a call of one of them leaves
use Rattle.std.specs.Prelude.{◌≡◌, ℕ, ◌<◌, List, Result, IfOk, OnErr, length, get_or, set}
use Rattle.hg_model.specs.declared.row.Row.{Row}
use Rattle.hg_life.specs.declared.answers.PutAnswer.{PutAnswer}
use Rattle.hg_life.specs.declared.answers.MakeAnswer.{MakeAnswer}
use Rattle.hg_life.specs.Signing.{Accepts}
use Rattle.hg_life.specs.NodeView.{NodeView}
use Rattle.hg_gossip.specs.declared.gossip.Taken.{Taken}
use Rattle.hg_gossip.specs.Holding.{WouldSign, WouldTake}
use Rattle.hg_board.specs.Seats.{SharedNode, SeatView, seen_by}
use Rattle.hg_board.specs.Calls.{SeatMakes, SeatPuts, SeatWaits, Stays, rules_shared}
use Rattle.hg_board.specs.Taking.{AreSignedFor, SeatTakes, SeatTakesFirst}
use Rattle.hg_crowd.specs.Crowd.{IsSeat}

-- the shared nodes, and the seats in the same order
pub record PartyView (V : Type 0) : Type 0 where
  pub places : List (SharedNode V)
  pub seats : List (SeatView V)

module _ {V : Type 0} where
  abbrev pub party_view : List (SharedNode V) → List (SeatView V) → PartyView V
  party_view places seats = record { places = places; seats = seats }

  -- the rows are signed as the node at k has it
  abbrev pub AreSignedAt : (V → Accepts) → List (SharedNode V) → ℕ → List Row → Type 0
  AreSignedAt accepts places k rows = (p : SharedNode V) → AreSignedFor accepts (get_or places k p).start.start rows

module _ {V : Type 0} (accepts : V → Accepts) where
  -- the seat of the node at k, which it was before, moved as is told of it; the nodes are the same, and all other seats are as
  -- they were
  pub record MovesOne (IsTold : SharedNode V → SeatView V → SeatView V → Type 0) (k : ℕ) (old new : PartyView V) : Type 0 where
    pub within : k < length old.places
    pub place : SharedNode V
    pub before : SeatView V
    pub after : SeatView V
    pub is_place : place ≡ get_or old.places k place
    pub is_before : before ≡ get_or old.seats k before
    pub seat : IsSeat accepts place before
    pub moved : new ≡ party_view old.places (set old.seats k after)
    pub told : IsTold place before after

  -- bytes were put to the node
  pub record Puts {E : Type 0} (bytes : List ℕ) (result : Result PutAnswer E) (p : SharedNode V) (old new : SeatView V) : Type 0 where
    pub stays : Stays accepts p old new
    pub ok : IfOk result (SeatPuts accepts p old bytes new)
    pub err : OnErr result (SeatWaits accepts p old new)
    pub free : OnErr result (WouldTake (rules_shared accepts) (seen_by p new) bytes)

  -- an event was made there, or refused
  pub record Makes {E : Type 0} (others : List (List ℕ)) (time : ℕ) (payload : List ℕ) (result : Result MakeAnswer E) (p : SharedNode V) (old new : SeatView V) : Type 0 where
    pub stays : Stays accepts p old new
    pub ok : IfOk result (SeatMakes accepts p old others time payload new)
    pub err : OnErr result (SeatWaits accepts p old new)
    pub free : OnErr result (WouldSign (seen_by p new) others payload)

  -- rows came to it in one turn
  pub record Takes {E : Type 0} (rows : List Row) (result : Result Taken E) (p : SharedNode V) (old new : SeatView V) : Type 0 where
    pub stays : Stays accepts p old new
    pub ok : IfOk result (SeatTakes accepts p old rows new)
    pub err : OnErr result (SeatTakesFirst accepts p old rows new)

  -- it was read, as the seat then has seen it
  pub record Reads (IsFound : NodeView V → Type 0) (p : SharedNode V) (old new : SeatView V) : Type 0 where
    pub stays : Stays accepts p old new
    pub waits : SeatWaits accepts p old new
    pub found : IsFound (seen_by p new).node

  -- the node at k was read, and unless memory ran out this was found
  abbrev pub ReadsOne : {A E : Type 0} → ℕ → PartyView V → PartyView V → Result A E → (NodeView V → A → Type 0) → Type 0
  ReadsOne k old new result IsFound = MovesOne (Reads (λ v. IfOk result (IsFound v))) k old new
