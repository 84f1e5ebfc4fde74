-- A mailbox and its ports as callers see them, and what the calls promise
use Rattle.std.specs.Prelude.{◌≡◌, ℕ, ◌+◌, ◌%◌, ◌^◌, ◌<◌, ◌≤◌, List, [], ◌∷◌, ◌++◌, Option, length}
use Rattle.atomic_table.specs.Seated.{TableId}
use Rattle.atomic_table.specs.declared.shared.Seat.{Seat}
use Rattle.crossbeam_queue.specs.declared.array_queue.Doing.{Doing}
use Rattle.crossbeam_queue.specs.declared.array_queue.Slotted.{Slotted}
use Rattle.crossbeam_queue.specs.Passes.{Pass, ruled_capacity, view}
use Rattle.hg_mail.specs.declared.message.Message.{Message}
use Rattle.hg_mail.specs.declared.posting.PostAnswer.{PostAnswer}
use Rattle.hg_mail.specs.declared.posting.PostAnswer.TheVariants.{Posted, Full}
use Rattle.hg_mail.specs.declared.view.View.{View}
use Rattle.hg_mail.specs.declared.view.Finding.{Finding}
use Rattle.hg_mail.specs.declared.view.CountView.{CountView}
use Rattle.hg_mail.specs.Messages as mail
use Rattle.hg_mail.specs.Messages.{Puts, first_view, joined_view, spent_view}
use Rattle.hg_mail.specs.Count.{after_part, first_count, joined_count, one_part, seeing, spent_count}

-- a mailbox: the tables of its queue and of its count, and for how many messages it has room
pub record MailboxView : Type 0 where
  pub queue : TableId
  pub table : TableId
  pub room : ℕ

-- a port: the tables of its mailbox, and what it knows of the messages and of their count
pub record PortView : Type 0 where
  pub queue : TableId
  pub table : TableId
  pub view : View
  pub count : CountView

abbrev pub port_of : Pass Message View → Seat (Option ℕ) CountView → PortView
port_of pass seat = record { queue = pass.table_id; table = seat.table_id; view = view pass; count = seat.me.0 }

abbrev pub mailbox_of : {Q A : Type 0} → Slotted (Option Message) (Doing Message View) Q A → TableId → MailboxView
mailbox_of queue table = record { queue = queue.table.shared.table_id; table = table; room = ruled_capacity queue }

-- the port is one of this mailbox
abbrev pub IsPortOf : MailboxView → PortView → Type 0
IsPortOf m p = (p.queue ≡ m.queue) × (p.table ≡ m.table) × (p.count.room ≡ m.room)

-- an empty mailbox, and its first port
pub record IsOpened (places : ℕ) (m : MailboxView) (p : PortView) : Type 0 where
  pub of : IsPortOf m p
  pub room : m.room ≡ places
  pub view : p.view ≡ first_view
  pub count : p.count ≡ first_count places

-- the port of the next sender was given out, and is this
abbrev pub after_issue : PortView → PortView
after_issue p = record p { view = mail.after_issue p.view; count = after_part p.count }

abbrev pub issued : PortView → PortView
issued p = record p { view = mail.issued p.view; count = one_part p.count.room }

-- the receiver's port was given out, and is this
abbrev pub after_hand : PortView → PortView
after_hand p = record p { view = mail.after_hand p.view; count = after_part p.count }

abbrev pub handed : PortView → PortView
handed p = record p { view = mail.handed p.view; count = one_part p.count.room }

-- the rights of both, and their shares of the count; the other one keeps none
abbrev pub joined : PortView → PortView → PortView
joined p q = record p { view = joined_view p.view q.view; count = joined_count p.count q.count }

abbrev pub spent : PortView → PortView
spent p = record p { view = spent_view; count = spent_count p.count.room }

-- so many were found to be counted
abbrev pub after_looking : PortView → ℕ → PortView
after_looking p found = record p { count = seeing p.count found }

-- these messages were taken out too
abbrev pub after_taking : PortView → List Message → PortView
after_taking p taken = record p { view = mail.after_taking p.view taken }

-- by one call that collects these were taken out, and noted: at most as many as there is room for; and fewer only where all that
-- had been counted, as the call found at its step on that count, which wraps, is out
pub record Collects (room : ℕ) (p : PortView) (taken : List Message) (q : PortView) : Type 0 where
  pub finding : Finding
  pub next : p.count.collects ≤ finding.number
  pub most : length taken ≤ room
  pub fewer : length taken < room → finding.counted % 2 ^ 64 ≤ length q.view.taken
  pub findings : q.count.findings ≡ p.count.findings ++ finding ∷ []
  pub collects : q.count.collects ≡ p.count.collects + 1
  pub out : q.count.out ≡ p.count.out + length taken
  pub view : q.view ≡ mail.after_taking p.view taken
  -- nothing else is new to the port
  pub queue : q.queue ≡ p.queue
  pub table : q.table ≡ p.table
  pub room_is : q.count.room ≡ p.count.room
  pub parts : q.count.parts ≡ p.count.parts
  pub mine : q.count.mine ≡ p.count.mine
  pub full : q.count.full ≡ p.count.full
  pub seen : q.count.seen ≡ p.count.seen
  pub dates : q.count.dates ≡ p.count.dates

-- the same of a port's two tokens
abbrev pub CollectsAt : ℕ → Pass Message View → Seat (Option ℕ) CountView → List Message → Pass Message View → Seat (Option ℕ) CountView → Type 0
CollectsAt room pass seat taken pass_after seat_after = Collects room (port_of pass seat) taken (port_of pass_after seat_after)

-- a message was put in, and counted
pub record IsPosted (p : PortView) (message : Message) (q : PortView) : Type 0 where
  pub put : Puts p.view message q.view
  pub parts : q.count.parts ≡ p.count.parts
  pub mine : q.count.mine ≡ p.count.mine + 1
  pub full : q.count.full ≡ p.count.full
  pub collects : q.count.collects ≡ p.count.collects
  pub seen : p.count.seen ≤ q.count.seen
  pub date : ℕ
  pub dates : q.count.dates ≡ p.count.dates ++ date ∷ []
  pub findings : q.count.findings ≡ p.count.findings

-- a message came back: so many were counted, and not noted as taken out, as there is room for, which the port counts
pub record IsFull (room : ℕ) (p : PortView) (message : Message) (back : Message) (q : PortView) : Type 0 where
  pub same : back ≡ message
  pub full : q.count.full ≡ p.count.full + 1
  pub counted : room ≤ q.count.seen
  -- nothing else is new to the port
  pub view : q.view ≡ p.view
  pub parts : q.count.parts ≡ p.count.parts
  pub mine : q.count.mine ≡ p.count.mine
  pub collects : q.count.collects ≡ p.count.collects
  pub seen : p.count.seen ≤ q.count.seen
  pub dates : q.count.dates ≡ p.count.dates
  pub findings : q.count.findings ≡ p.count.findings

abbrev pub Answers : ℕ → PortView → Message → PostAnswer → PortView → Type 0
Answers room p message Posted q = IsPosted p message q
Answers room p message (Full back) q = IsFull room p message back q

-- the same of a port's two tokens
abbrev pub AnswersAt : ℕ → Pass Message View → Seat (Option ℕ) CountView → Message → PostAnswer → Pass Message View → Seat (Option ℕ) CountView → Type 0
AnswersAt room pass seat message answer pass_after seat_after = Answers room (port_of pass seat) message answer (port_of pass_after seat_after)

abbrev pub Posts : MailboxView → PortView → Message → PostAnswer → PortView → Type 0
Posts m p message answer q = IsPortOf m q × Answers m.room p message answer q

-- some messages were taken out, and are lost
pub record TakesSome (p q : PortView) : Type 0 where
  pub messages : List Message
  pub taken : q ≡ after_taking p messages
