-- What a member has sent to another: its node's first rows, in order, through one port
use Rattle.std.specs.Prelude.{◌≡◌, ℕ, ◌+◌, ◌<◌, ◌≤◌, ◌⊎◌, List, [], ◌∷◌, ◌++◌, length, map, take}
use Rattle.hg_life.specs.Spelling.{spelling}
use Rattle.hg_life.specs.NodeView.{node_rows}
use Rattle.hg_mail.specs.declared.message.Message.{Message}
use Rattle.hg_mail.specs.Messages.{sender_view}
use Rattle.hg_mail.specs.Mailboxes.{IsPortOf, MailboxView, PortView}
use Rattle.hg_board.specs.Table.{node_at}
use Rattle.hg_board.specs.Seats.{SharedNode, SeatView}
use Rattle.hg_storm.specs.declared.sending.Dispatch.{Dispatch}

-- the bytes of the rows that a seat has seen, in order
abbrev pub bytes_seen : {V : Type 0} → SharedNode V → SeatView V → List (List ℕ)
bytes_seen p s = map spelling (node_rows (node_at p.start s.seen))

-- a member's rows as messages, numbered from this place on
abbrev pub messages_from : ℕ → ℕ → List (List ℕ) → List Message
messages_from from place [] = []
messages_from from place (bytes ∷ rows) = record { from = from; number = place; bytes = bytes } ∷ messages_from from (place + 1) rows

-- through this port the first of these rows were put in, so many, and nothing else
pub record HasSent (m : MailboxView) (from : ℕ) (rows : List (List ℕ)) (sent : ℕ) (p : PortView) : Type 0 where
  pub of : IsPortOf m p
  pub put : p.view ≡ sender_view from (messages_from from 0 (take sent rows))
  pub within : sent ≤ length rows
  pub part : p.count.parts ≡ 1
  pub mine : p.count.mine ≡ sent
  pub none : p.count.collects ≡ 0
  pub finds : p.count.findings ≡ []

-- these rows were put in too
pub record Sends (from place : ℕ) (rows : List (List ℕ)) (p q : PortView) : Type 0 where
  pub put : (put : List Message) → p.view ≡ sender_view from put → q.view ≡ sender_view from (put ++ messages_from from place rows)
  pub parts : q.count.parts ≡ p.count.parts
  pub mine : q.count.mine ≡ p.count.mine + length rows
  pub collects : q.count.collects ≡ p.count.collects
  pub finds : q.count.findings ≡ p.count.findings
  pub seen : p.count.seen ≤ q.count.seen

-- no message came back meanwhile
abbrev pub NoneBack : PortView → PortView → Type 0
NoneBack p q = q.count.full ≡ p.count.full

-- one did: so many were counted, and not noted as taken out, as there is room for, which the port counts
pub record WasFull (m : MailboxView) (p q : PortView) : Type 0 where
  pub once : q.count.full ≡ p.count.full + 1
  pub counted : m.room ≤ q.count.seen

-- how many rows the node had at some time of the call: at these first changes of what the seat then has seen
pub record IsDue {V : Type 0} (p : SharedNode V) (old new : SeatView V) (due : ℕ) : Type 0 where
  pub at : ℕ
  pub least : length old.seen ≤ at
  pub most : at ≤ length new.seen
  pub rows : due ≡ length (node_rows (node_at p.start (take at new.seen)))

-- of so many rows all were put in, and none came back; or fewer were, and one did
abbrev pub AreIn : MailboxView → PortView → PortView → ℕ → ℕ → Type 0
AreIn m p q count sent = ((sent ≡ count) × NoneBack p q) ⊎ ((sent < count) × WasFull m p q)

-- all rows that were due were sent, and none came back; or one did, which is counted
abbrev pub SendsAll : PortView → PortView → Dispatch → Dispatch → Type 0
SendsAll p q old new = (new.full ≡ old.full) × (new.sent ≡ new.due) × NoneBack p q

abbrev pub SendsSome : MailboxView → PortView → PortView → Dispatch → Dispatch → Type 0
SendsSome m p q old new = (new.full ≡ old.full + 1) × WasFull m p q

abbrev pub Dispatches : MailboxView → PortView → PortView → Dispatch → Dispatch → Type 0
Dispatches m p q old new = SendsAll p q old new ⊎ SendsSome m p q old new
