-- What came of the messages that a node took: the event of each is held, or was refused by what the node held then
use Rattle.std.specs.Prelude.{◌≡◌, ℕ, suc, ◌<◌, ◌≤◌, ◌⊎◌, ⊤, IsTrue, List, [], ◌∷◌, ◌++◌, length, take, get_or, Some, Ok, slice_get}
use Rattle.std.specs.List.{AllByRecursion}
use Rattle.hg_model.specs.declared.row.Row.{Row}
use Rattle.hg_model.specs.Held.{is_held}
use Rattle.hg_life.specs.declared.answers.PutAnswer.{PutAnswer}
use Rattle.hg_life.specs.declared.answers.PutAnswer.TheVariants.{Accepted, Known, Refused}
use Rattle.hg_life.specs.Reading.{read_event}
use Rattle.hg_life.specs.History.{Change}
use Rattle.hg_life.specs.History.Change.{Took, Made}
use Rattle.hg_life.specs.NodeView.{NodeView, node_rows}
use Rattle.hg_life.specs.Calls.{put_answer}
use Rattle.hg_life.specs.Signing.{Accepts}
use Rattle.hg_mail.specs.declared.message.Message.{Message}
use Rattle.hg_board.specs.Table.{node_at}
use Rattle.hg_board.specs.Seats.{SharedNode, SeatView}
use Rattle.hg_storm.specs.declared.taking.RefusedMessage.{RefusedMessage}

-- the bytes spell an event, and the node has a row of its name
pub record HoldsEvent {K : Type 0} (v : NodeView K) (bytes : List ℕ) : Type 0 where
  pub row : Row
  pub reads : read_event bytes ≡ Ok row
  pub held : IsTrue (is_held (node_rows v) row.name)

abbrev pub no_message : Message
no_message = record { from = 0; number = 0; bytes = [] }

-- the bytes of a message, by its place among those that were taken
abbrev pub bytes_at : List Message → ℕ → List ℕ
bytes_at taken j = (get_or taken j no_message).bytes

-- the message of this place is among those that were refused
abbrev pub IsRefused : ℕ → List RefusedMessage → Type 0
IsRefused j [] = ⊥
IsRefused j (r ∷ rs) = (r.index ≡ j) ⊎ IsRefused j rs

-- the change at this position made a row
pub record IsMade (history : List Change) (q : ℕ) : Type 0 where
  pub row : Row
  pub at : slice_get history q ≡ Some (Made row)

-- one of the messages spells this row
pub record IsOfMessage (taken : List Message) (row : Row) : Type 0 where
  pub index : ℕ
  pub inside : index < length taken
  pub reads : read_event (bytes_at taken index) ≡ Ok row

-- the change at this position took the row of one of the messages
pub record IsTaken (history : List Change) (taken : List Message) (q : ℕ) : Type 0 where
  pub row : Row
  pub at : slice_get history q ≡ Some (Took row)
  pub message : IsOfMessage taken row

abbrev pub CameBy : List Change → List Message → ℕ → Type 0
CameBy history taken q = IsMade history q ⊎ IsTaken history taken q

-- the refusals, with one more where this is one
abbrev pub after_put : ℕ → ℕ → List RefusedMessage → PutAnswer → List RefusedMessage
after_put index at refused (Accepted p) = refused
after_put index at refused (Known p) = refused
after_put index at refused (Refused why) = refused ++ record { index = index; why = why; at = at } ∷ []

-- they stand in the order of the messages, each once, from this place on
abbrev pub AreRising : ℕ → List RefusedMessage → Type 0
AreRising from [] = ⊤
AreRising from (r ∷ rs) = (from ≤ r.index) × AreRising (suc r.index) rs

-- of the first messages each was refused, or the node of this history holds its event
abbrev pub AreHeld : {V : Type 0} → SharedNode V → List Change → List Message → List RefusedMessage → ℕ → Type 0
AreHeld p history taken refused end = (j : ℕ) → j < end → IsRefused j refused ⊎ HoldsEvent (node_at p.start history) (bytes_at taken j)

module _ {V : Type 0} (accepts : V → Accepts) (p : SharedNode V) where
  -- the node refused the message so, at the first changes of its history; there it had the events of all messages that were
  -- taken before, but for those that it refused
  pub record Refuses (history : List Change) (taken : List Message) (refused : List RefusedMessage) (r : RefusedMessage) : Type 0 where
    pub index : r.index < length taken
    pub within : r.at ≤ length history
    pub verdict : put_answer accepts (node_at p.start (take r.at history)) (bytes_at taken r.index) ≡ Refused r.why
    pub before : AreHeld p (take r.at history) taken refused r.index

  -- of a seat through which nothing but these messages was put: each is held or refused, which is told once, and each of the
  -- seat's own changes made a row or took that of a message
  pub record HasFates (s : SeatView V) (taken : List Message) (refused : List RefusedMessage) : Type 0 where
    pub refusals : AllByRecursion (Refuses s.seen taken refused) refused
    pub once : AreRising 0 refused
    pub held : AreHeld p s.seen taken refused (length taken)
    pub came : AllByRecursion (CameBy s.seen taken) s.mine
