-- The calls that may change a shared node, in the plain words of a history and one change more
use Rattle.std.specs.Prelude.{ℕ, ◌≡◌, ◌<◌, true, List, [], ◌∷◌, ◌++◌, length, map, None, Ok}
use Rattle.hg_model.specs.declared.row.Row.{Row}
use Rattle.hg_life.specs.declared.answers.PutAnswer.{PutAnswer}
use Rattle.hg_life.specs.declared.answers.PutAnswer.TheVariants.{Accepted}
use Rattle.hg_life.specs.declared.answers.MakeFault.{MakeFault}
use Rattle.hg_life.specs.declared.answers.MakeAnswer.TheVariants as made
use Rattle.hg_model.specs.Orders.{IsPrefix}
use Rattle.hg_life.specs.Reading.{read_event}
use Rattle.hg_model.specs.Shares.{Share}
use Rattle.hg_model.specs.Held.{lacking}
use Rattle.hg_model.specs.Graph.{HasDistinctNames}
use Rattle.hg_life.specs.Spelling.{spelling}
use Rattle.hg_life.specs.Verdict.{made_row}
use Rattle.hg_life.specs.History.{Change}
use Rattle.hg_life.specs.History.Change.{Took, Made, Marked}
use Rattle.hg_life.specs.NodeView.{NodeView, node_rows}
use Rattle.hg_life.specs.Calls.{make_answer, make_body, make_draft, publish_answer, put_answer}
use Rattle.hg_life.specs.Signing.{Accepts}
use Rattle.hg_gossip.specs.Nodes.{taking}
use Rattle.hg_board.specs.Table.{node_at}
use Rattle.hg_board.specs.Seats.{SharedNode, SeatView}
use Rattle.hg_board.specs.Calls.{SeatMakes, SeatPublishes, SeatPuts}
use Rattle.hg_board.specs.Taking.{AreSpelled, taking_rows}

-- what the seat then has seen is a history of which it had seen a prefix, and this change, at whose position it is its own
pub record AddsOne {V : Type 0} (old new : SeatView V) (history : List Change) (change : Change) : Type 0 where
  pub begins : IsPrefix old.seen history
  pub grown : new.seen ≡ history ++ change ∷ []
  pub mine : new.mine ≡ old.mine ++ length history ∷ []

-- it has seen more, and added nothing
pub record AddsNone {V : Type 0} (old new : SeatView V) : Type 0 where
  pub begins : IsPrefix old.seen new.seen
  pub mine : new.mine ≡ old.mine

-- a put that was accepted adds the row that the bytes spell, as the node does in the history before it
abbrev pub PutsAddOne : (V : Type 0) → Type 0
PutsAddOne V = (accepts : V → Accepts) (p : SharedNode V) (old new : SeatView V) (bytes : List ℕ) (place : ℕ) → SeatPuts accepts p old bytes new (Accepted place) →
    (h : List Change) × (row : Row) × AddsOne old new h (Took row) × (read_event bytes ≡ Ok row) × (put_answer accepts (node_at p.start h) bytes ≡ Accepted place)

-- any other put answers as the node does in what the seat then has seen
abbrev pub OtherPutsAddNone : (V : Type 0) → Type 0
OtherPutsAddNone V = (accepts : V → Accepts) (p : SharedNode V) (old new : SeatView V) (bytes : List ℕ) (answer : PutAnswer) → SeatPuts accepts p old bytes new answer →
    ((place : ℕ) → answer ≡ Accepted place → ⊥) → AddsNone old new × (answer ≡ put_answer accepts (node_at p.start new.seen) bytes)

-- the node's member signed such an event so
abbrev pub IsSignedBy : {V : Type 0} → (V → Accepts) → NodeView V → List (List ℕ) → ℕ → List ℕ → List ℕ → Type 0
IsSignedBy accepts v others time payload sig = accepts v.start.keys v.start.own (make_body v others time payload) sig ≡ true

-- an event that was made is one change more: the row that the node makes in the history before it, signed by its member
abbrev pub MakesAddOne : (V : Type 0) → Type 0
MakesAddOne V = (accepts : V → Accepts) (p : SharedNode V) (old new : SeatView V) (others : List (List ℕ)) (time : ℕ) (payload : List ℕ) (place : ℕ) →
    SeatMakes accepts p old others time payload new (made.Made place) →
    (h : List Change) × (sig : List ℕ) × AddsOne old new h (Made (made_row p.start.start.own (node_rows (node_at p.start h)) others time payload sig))
    × IsSignedBy accepts (node_at p.start h) others time payload sig × (make_answer (node_at p.start h) others time payload sig ≡ made.Made place)

-- one that was refused adds nothing, and is refused by what the seat then has seen
abbrev pub OtherMakesAddNone : (V : Type 0) → Type 0
OtherMakesAddNone V = (accepts : V → Accepts) (p : SharedNode V) (old new : SeatView V) (others : List (List ℕ)) (time : ℕ) (payload : List ℕ) (fault : MakeFault) →
    SeatMakes accepts p old others time payload new (made.Refused fault) →
    AddsNone old new × (sig : List ℕ)
    × (make_draft (node_at p.start new.seen) others payload ≡ None → IsSignedBy accepts (node_at p.start new.seen) others time payload sig)
    × (make_answer (node_at p.start new.seen) others time payload sig ≡ made.Refused fault)

-- a publication that marked some witnesses is one change more, with as many as the node marks in the history before it
abbrev pub PublishesAddOne : (V : Type 0) → Type 0
PublishesAddOne V = (accepts : V → Accepts) (p : SharedNode V) (old new : SeatView V) (len : ℕ) (share : Share) (count : ℕ) → 0 < count → SeatPublishes accepts p old len share new count →
    (h : List Change) × AddsOne old new h (Marked len share) × (count ≡ publish_answer (node_at p.start h) len share)

-- one that marked none adds nothing
abbrev pub OtherPublishesAddNone : (V : Type 0) → Type 0
OtherPublishesAddNone V = (accepts : V → Accepts) (p : SharedNode V) (old new : SeatView V) (len : ℕ) (share : Share) → SeatPublishes accepts p old len share new 0 →
    AddsNone old new × (publish_answer (node_at p.start new.seen) len share ≡ 0)

-- events of different names that come in one turn are put one after the other, but for those whose names the node had
abbrev pub TurnsTakeEach : (V : Type 0) → Type 0
TurnsTakeEach V = (accepts : V → Accepts) (v : NodeView V) (rows : List Row) → HasDistinctNames rows → AreSpelled rows →
    taking_rows accepts v rows ≡ taking accepts v (map spelling (lacking (node_rows v) rows))
