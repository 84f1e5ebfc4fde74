-- What a port knows of a mailbox's messages, and how that changes
use Rattle.std.specs.Prelude.{◌≡◌, ℕ, ◌+◌, ◌<◌, ◌⊎◌, ◌==◌, ◌||◌, true, false, cond, List, [], ◌∷◌, ◌++◌, map}
use Rattle.std.specs.List.{AllByRecursion, filter}
use Rattle.hg_mail.specs.declared.message.Message.{Message}
use Rattle.hg_mail.specs.declared.view.Sender.{Sender}
use Rattle.hg_mail.specs.declared.view.View.{View}

-- of these messages those of one sender, in order
abbrev pub messages_of : ℕ → List Message → List Message
messages_of from messages = filter (λ m. m.from == from) messages

-- each message is of one of the first senders
abbrev pub AreFrom : ℕ → List Message → Type 0
AreFrom senders messages = AllByRecursion (λ (m : Message). m.from < senders) messages

abbrev pub sender : ℕ → List Message → Sender
sender from put = record { from = from; put = put }

-- every right, over an empty mailbox
abbrev pub first_view : View
first_view = record { gives = true; next = 0; takes = true; taken = []; senders = [] }

-- no right
abbrev pub spent_view : View
spent_view = record { gives = false; next = 0; takes = false; taken = []; senders = [] }

-- that of one sender
abbrev pub sender_view : ℕ → List Message → View
sender_view from put = record spent_view { senders = sender from put ∷ [] }

-- that of the receiver
abbrev pub receiver_view : List Message → View
receiver_view taken = record spent_view { takes = true; taken = taken }

-- the port of the next sender is given out
abbrev pub after_issue : View → View
after_issue v = record v { next = v.next + 1 }

abbrev pub issued : View → View
issued v = sender_view v.next []

-- the receiver's port is given out
abbrev pub after_hand : View → View
after_hand v = record v { takes = false }

abbrev pub handed : View → View
handed v = receiver_view v.taken

-- the rights of both
abbrev pub joined_view : View → View → View
joined_view v w = record {
  gives = w.gives || v.gives;
  next = cond w.gives w.next v.next;
  takes = w.takes || v.takes;
  taken = cond w.takes w.taken v.taken;
  senders = v.senders ++ w.senders;
}

-- these messages were taken out too
abbrev pub after_taking : View → List Message → View
after_taking v messages = record v { taken = v.taken ++ messages }

-- the port is this sender's alone
pub record IsSender (from : ℕ) (v : View) : Type 0 where
  pub put : List Message
  pub is : v ≡ sender_view from put

-- the sender is one of these
abbrev pub IsAmong : ℕ → List Sender → Type 0
IsAmong from [] = ⊥
IsAmong from (s ∷ ss) = (s.from ≡ from) ⊎ IsAmong from ss

-- the port puts in for this sender, and may have other rights too
abbrev pub HasPort : ℕ → View → Type 0
HasPort from v = IsAmong from v.senders

-- a sender once this message was put in, which may be another's
abbrev pub after_put : Message → Sender → Sender
after_put message s = record s { put = s.put ++ messages_of s.from (message ∷ []) }

-- this message was put in too
abbrev pub after_post : View → Message → View
after_post v message = record v { senders = map (after_put message) v.senders }

-- what one step of a port does: one of its senders puts a message in
abbrev pub Puts : View → Message → View → Type 0
Puts v message w = w ≡ after_post v message

-- a message is taken out
abbrev pub Takes : View → Message → View → Type 0
Takes v message w = w ≡ after_taking v (message ∷ [])

-- of each sender of the port, all that it put in was taken out
abbrev pub IsEmptied : View → Type 0
IsEmptied v = AllByRecursion (λ (s : Sender). s.put ≡ messages_of s.from v.taken) v.senders

-- a port that gives out senders' ports knows whose messages were taken out: senders' to whom it gave one
abbrev pub KnowsSenders : View → Type 0
KnowsSenders v = v.gives ≡ true → AreFrom v.next v.taken

-- every right, with those of all senders
pub record IsWhole (v : View) : Type 0 where
  pub takes : v.takes ≡ true
  pub gives : v.gives ≡ true
  pub senders : (from : ℕ) → from < v.next → HasPort from v

-- some messages were taken out
pub record TakesSome (v w : View) : Type 0 where
  pub messages : List Message
  pub taken : w ≡ after_taking v messages
