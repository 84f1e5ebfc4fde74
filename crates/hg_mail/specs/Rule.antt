-- The rule of a mailbox: what was put in is what was taken out, and then what it holds. A sender has one port, which knows
-- what it has put in; one port takes out, and one gives out senders' ports
use Rattle.std.specs.Prelude.{◌≡◌, ℕ, ◌<◌, ◌≤◌, true, List, [], ◌++◌}
use Rattle.std.specs.List.{AllByRecursion}
use mathlib.Core.Option.{some}
use lib.ListN.{get_elem?}
use Rattle.crossbeam_queue.specs.Fifo.{Held}
use Rattle.hg_mail.specs.declared.message.Message.{Message}
use Rattle.hg_mail.specs.declared.view.Sender.{Sender}
use Rattle.hg_mail.specs.declared.view.View.{View}
use Rattle.hg_mail.specs.Messages.{messages_of}

-- which ports have which rights, by their numbers; how many senders there are; what was taken out, and all that was put in
pub record Ledger : Type 0 where
  pub receiver : ℕ
  pub giver : ℕ
  pub next : ℕ
  pub port_of : ℕ → ℕ
  pub taken : List Message
  pub put : List Message

-- this port has the sender, and knows all that it has put in
pub record HasSender (l : Ledger) (port : ℕ) (s : Sender) : Type 0 where
  pub known : s.from < l.next
  pub here : l.port_of s.from ≡ port
  pub all : s.put ≡ messages_of s.from l.put

-- what a port knows is so
pub record Knows (l : Ledger) (port : ℕ) (v : View) : Type 0 where
  pub takes : v.takes ≡ true → (port ≡ l.receiver) × (v.taken ≡ l.taken)
  pub gives : v.gives ≡ true → (port ≡ l.giver) × (v.next ≡ l.next)
  pub senders : AllByRecursion (HasSender l port) v.senders

-- of the messages that the mailbox holds, oldest first, and of what each port knows
pub record Delivers (held : List Message) (views : List View) : Type 0 where
  pub ledger : Ledger
  pub all : ledger.put ≡ ledger.taken ++ held
  pub fresh : (from : ℕ) → ledger.next ≤ from → messages_of from ledger.put ≡ []
  pub each : (port : ℕ) (v : View) → get_elem? views port ≡ some v → Knows ledger port v

-- a step at which the mailbox held these messages, and a port knew v
pub record IsAt (v : View) (held : List Message) : Type 0 where
  pub views : List View
  pub port : ℕ
  pub rule : Delivers held views
  pub here : get_elem? views port ≡ some v

-- at a step of the call, at which the port knew v, the mailbox held so many messages
abbrev pub HeldAt : View → ℕ → Type 0
HeldAt v count = Held count (IsAt v)
