-- What the members sent each other, by the names of their nodes' rows
use Rattle.std.specs.Prelude.{ℕ, ◌≡◌, ◌<◌, ◌≤◌, not, cond, ◌==◌, List, [], ◌++◌, All, length, map, take, get_or, sum_by}
use Rattle.std.specs.Global.{Vec}
use Rattle.std.specs.List.{filter, flat_map}
use Rattle.hg_model.specs.declared.row.Row.{Row}
use Rattle.hg_life.specs.NodeView.{NodeView, node_rows}
use Rattle.hg_mail.specs.declared.message.Message.{Message}
use Rattle.hg_mail.specs.Messages.{messages_of}
use Rattle.hg_mail.specs.Count.{AreFoundBy}
use Rattle.hg_mail.specs.Mailboxes.{PortView}
use Rattle.hg_storm.specs.declared.plan.Plan.{Plan}
use Rattle.hg_storm.specs.declared.sending.Dispatch.{Dispatch}
use Rattle.hg_storm.specs.declared.desk.Log.{Log}
use Rattle.hg_storm.specs.declared.threads.Joined.{Joined}
use Rattle.hg_storm.specs.declared.mails.Mail.{Mail}
use Rattle.hg_storm.specs.Joins.{AreTold, IsSentTo, dispatch_to}
use Rattle.hg_storm.specs.Keeping.{Secrets}
use Rattle.hg_storm.specs.Receiving.{TookAllDue}
use Rattle.hg_storm.specs.Threads.{turns_of}

-- the names of a node's rows, in order
abbrev pub names_in : NodeView Secrets → List (List ℕ)
names_in v = map (λ (r : Row). r.name) (node_rows v)

-- no name stands twice
abbrev pub AreOnce : List (List ℕ) → Type 0
AreOnce names = (x y : ℕ) → x < length names → y < length names → get_or names x [] ≡ get_or names y [] → x ≡ y

abbrev pub pair_of : Mail → ℕ × ℕ
pair_of m = (m.from, m.to)

-- one of these members with each other one, and each with each other one
abbrev pub pairs_from : List ℕ → ℕ → List (ℕ × ℕ)
pairs_from circle from = map (λ to. (from, to)) (filter (λ to. not (to == from)) circle)

abbrev pub pairs_in : List ℕ → List (ℕ × ℕ)
pairs_in circle = flat_map (pairs_from circle) circle

-- how many names were sent to a member
abbrev pub names_to : List Mail → ℕ → ℕ
names_to mails to = sum_by (λ (m : Mail). cond (m.to == to) (length m.sent.items) 0) mails

-- how many its mailbox had left
abbrev pub names_left : List Mail → ℕ → ℕ
names_left mails to = sum_by (λ (m : Mail). cond (m.to == to) (length m.left.items) 0) mails

-- how many it took
abbrev pub names_taken : List Mail → ℕ → ℕ
names_taken mails to = sum_by (λ (m : Mail). cond (m.to == to) (length m.taken.items) 0) mails

-- how often one came back from its mailbox
abbrev pub names_back : List Mail → ℕ → ℕ
names_back mails to = sum_by (λ (m : Mail). cond (m.to == to) m.full 0) mails

-- By the port of a member's mailbox that took all others back: the member collected once in each of its turns, and took all that was
-- sent but what is left. At each turn's collect it took all that had been counted when it noted that it collects, or as many as there
-- is room for; what had been counted is told by the dates of all messages. As many messages came back as is told; and as many were
-- taken out as names were sent to it.
pub record IsCollected (plan : Plan) (room : ℕ) (mails : List Mail) (to : ℕ) (q : PortView) : Type 0 where
  pub collects : q.count.collects ≡ turns_of plan to
  pub each : length q.count.findings ≡ turns_of plan to
  pub found : AreFoundBy q.count.dates q.count.findings
  pub took : TookAllDue room q.count.findings (names_taken mails to)
  pub back : q.count.full ≡ names_back mails to
  pub out : length q.view.taken ≡ names_to mails to

-- what a mail tells of the rows that were sent
abbrev pub dispatch_of : Mail → Dispatch
dispatch_of m = record { sent = length m.sent.items; full = m.full; due = m.due }

-- The first rows of the sender's node were sent, all that were due unless the other's mailbox was full; the other took the first
-- of them, and its mailbox had left the others. Of all mails to the other no more names are left than its mailbox has room for, and
-- where that was full, they have as many. So many of the sender's turns made no event.
pub record IsMail (plan : Plan) (room : ℕ) (mails : List Mail) (v : NodeView Secrets) (idle : ℕ) (m : Mail) : Type 0 where
  pub sent : m.sent.items ≡ take (length m.sent.items) (names_in v)
  pub once : AreOnce m.sent.items
  pub parts : m.sent.items ≡ m.taken.items ++ m.left.items
  pub due : IsSentTo plan m.from m.to v idle (dispatch_of m)
  pub full : 0 < m.full → room ≤ names_to mails m.to
  pub few : names_left mails m.to ≤ room

-- there is one mail for each two different ones of the members that have nodes in each direction
pub record AreMails (plan : Plan) (room : ℕ) (nodes : List (NodeView Secrets)) (idle : List ℕ) (mails : List Mail) : Type 0 where
  pub pairs : map pair_of mails ≡ pairs_in plan.circle.items
  pub each : All (λ (m : Mail). (v : NodeView Secrets) (i : ℕ) → IsMail plan room mails (get_or nodes m.from v) (get_or idle m.from i) m) mails

-- ---- by what the threads told

-- the names of the rows that messages carry, by their numbers
abbrev pub names_told : List (List ℕ) → List Message → List (List ℕ)
names_told names messages = map (λ (m : Message). get_or names m.number []) messages

-- what came of a storm's threads, by some plan and some room
abbrev pub HasTold : Joined → Type 0
HasTold joined = (plan : Plan) × (room : ℕ) × AreTold plan room joined.nodes.items joined.logs.items joined.left.items

-- a message of this sender is of one of its first rows
abbrev pub IsOfRow : ℕ → ℕ → Message → Type 0
IsOfRow from rows m = m.from ≡ from → m.number < rows

-- Of these names, which are those of the sender's rows, the first were sent, each once. The other took the messages among these
-- that are the sender's, and its mailbox had left those among these; they are all that was sent, in order.
pub record IsToldMail (names : List (List ℕ)) (d : Dispatch) (took rest : List Message) (m : Mail) : Type 0 where
  pub within : d.sent ≤ length names
  pub sent : m.sent.items ≡ take d.sent names
  pub once : AreOnce m.sent.items
  pub taken : m.taken.items ≡ names_told names (messages_of m.from took)
  pub left : m.left.items ≡ names_told names (messages_of m.from rest)
  pub parts : m.sent.items ≡ m.taken.items ++ m.left.items
  pub full : m.full ≡ d.full
  pub due : m.due ≡ d.due

-- among these nodes, logs and what the mailboxes had left, by the members' numbers
pub record IsMailIn (nodes : List (NodeView Secrets)) (logs : List Log) (left : List (Vec Message)) (m : Mail) : Type 0 where
  pub from : m.from < length nodes
  pub to : m.to < length nodes
  pub mail : (v : NodeView Secrets) (g : Log) (l : Vec Message) →
      IsToldMail (names_in (get_or nodes m.from v)) (dispatch_to (get_or logs m.from g) m.to) (get_or logs m.to g).intake.taken.items (get_or left m.to l).items m

abbrev pub IsMailOf : Joined → Mail → Type 0
IsMailOf joined = IsMailIn joined.nodes.items joined.logs.items joined.left.items

-- one for each two different ones of these members in each direction
pub record AreMailsOf (joined : Joined) (circle : List ℕ) (mails : List Mail) : Type 0 where
  pub pairs : map pair_of mails ≡ pairs_in circle
  pub each : All (IsMailOf joined) mails
