-- A member's mailbox and its node: what was taken out was put
use Rattle.std.specs.Prelude.{◌≡◌, ◌⊎◌, ⊤, ℕ, ◌+◌, ◌%◌, ◌^◌, ◌<◌, ◌≤◌, List, [], ◌∷◌, ◌++◌, length, sum}
use Rattle.hg_model.specs.Orders.{IsPrefix}
use Rattle.hg_mail.specs.declared.view.Finding.{Finding}
use Rattle.hg_mail.specs.declared.view.CountView.{CountView}
use Rattle.hg_mail.specs.declared.message.Message.{Message}
use Rattle.hg_mail.specs.Messages.{receiver_view}
use Rattle.hg_mail.specs.Mailboxes.{Collects, IsPortOf, MailboxView, PortView}

-- a collect that found this took so many, after so many were out: all that had been counted when it noted that it collects, or as
-- many as there is room for. The count wraps.
pub record TookDue (room out : ℕ) (f : Finding) (more : ℕ) : Type 0 where
  pub most : more ≤ room
  pub fewer : more < room → f.counted % 2 ^ 64 ≤ out + more

-- so did each of these, one after the other
abbrev pub EachTookDue : ℕ → ℕ → List Finding → List ℕ → Type 0
EachTookDue room out [] [] = ⊤
EachTookDue room out [] (n ∷ ns) = ⊥
EachTookDue room out (f ∷ fs) [] = ⊥
EachTookDue room out (f ∷ fs) (n ∷ ns) = TookDue room out f n × EachTookDue room (out + n) fs ns

-- so many were taken by them in all
pub record TookAllDue (room : ℕ) (findings : List Finding) (out : ℕ) : Type 0 where
  pub parts : List ℕ
  pub all : sum parts ≡ out
  pub each : EachTookDue room 0 findings parts

-- the port is the receiver's, and these are all messages that were taken out, by its collects, each of which took what was due
pub record IsInbox (m : MailboxView) (taken : List Message) (p : PortView) : Type 0 where
  pub of : IsPortOf m p
  pub view : p.view ≡ receiver_view taken
  pub took : TookAllDue m.room p.count.findings (length taken)

-- one part, by whose port nothing was put in, and which collected so often and found something each time
pub record HasCollectedAlone (times : ℕ) (n : CountView) : Type 0 where
  pub parts : n.parts ≡ 1
  pub mine : n.mine ≡ 0
  pub full : n.full ≡ 0
  pub collects : n.collects ≡ times
  pub each : length n.findings ≡ times

-- by one call that collects these messages more were taken out through the port, and taken: all that had been counted when it noted
-- that it collects, or as many as there is room for, and never more than that
pub record TakesMore (m : MailboxView) (p q : PortView) (old new : List Message) : Type 0 where
  pub more : List Message
  pub grown : new ≡ old ++ more
  pub collects : Collects m.room p more q

-- of these messages the first were taken, and the last, which are these, were not
pub record TakesFirst (old messages lost new : List Message) : Type 0 where
  pub more : List Message
  pub grown : new ≡ old ++ more
  pub whole : messages ≡ more ++ lost

-- .. and some are among the last
pub record TakesNotAll (old messages new : List Message) : Type 0 where
  pub lost : List Message
  pub some : 0 < length lost
  pub first : TakesFirst old messages lost new

-- messages were taken out, of which the first were taken, and the others are lost
pub record LosesSome (m : MailboxView) (p q : PortView) (old new : List Message) : Type 0 where
  pub lost : List Message
  pub some : 0 < length lost
  pub grows : IsPrefix old new
  pub out : TakesMore m p q old (new ++ lost)

-- .. or none was taken out
abbrev pub LosesRest : MailboxView → PortView → PortView → List Message → List Message → Type 0
LosesRest m p q old new = ((q ≡ p) × (new ≡ old)) ⊎ LosesSome m p q old new
