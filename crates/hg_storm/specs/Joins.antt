-- What the mailboxes' first ports know once all ports are back: what each member sent each, took and left
use Rattle.std.specs.Prelude.{ℕ, zero, suc, ◌≡◌, ◌≢◌, ◌+◌, ◌<◌, ◌≤◌, ◌⊎◌, Bool, true, nat_le, cond, List, [], ◌∷◌, ◌++◌, Vec, length, take, get_or, map}
use Rattle.hg_life.specs.Signing.{accepts_by}
use Rattle.hg_life.specs.Spelling.{spelling}
use Rattle.hg_life.specs.NodeView.{IsNode, NodeView, node_rows}
use Rattle.hg_storm.specs.Keeping.{Secrets}
use Rattle.hg_mail.specs.declared.message.Message.{Message}
use Rattle.hg_mail.specs.declared.view.Sender.{Sender}
use Rattle.hg_mail.specs.Count.{AreFoundBy, all_parts}
use Rattle.hg_mail.specs.Messages.{AreFrom, IsEmptied, IsWhole, after_taking, messages_of, sender}
use Rattle.hg_mail.specs.Mailboxes.{IsPortOf, MailboxView, PortView, joined}
use Rattle.hg_board.specs.Seats.{IsOf, SharedNode, SeatView}
use Rattle.hg_crowd.specs.Workers.{AllAbsorb}
use Rattle.hg_crowd.specs.Laws.{IsSession}
use Rattle.hg_storm.specs.declared.plan.Plan.{Plan}
use Rattle.hg_storm.specs.declared.sending.Dispatch.{Dispatch}
use Rattle.hg_storm.specs.declared.desk.Log.{Log}
use Rattle.hg_storm.specs.declared.desk.Job.{Job}
use Rattle.hg_storm.specs.Sending.{bytes_seen, messages_from}
use Rattle.hg_storm.specs.Drawing.{HasDrawn, times_drawn}
use Rattle.hg_storm.specs.Ends.{EndsWithFates}
use Rattle.hg_storm.specs.Receiving.{TookAllDue}
use Rattle.hg_storm.specs.Turning.{AreIdle, AreTurnRows, HadRows, IsCounted, Stands, WasDue, own_rows, rows_by}
use Rattle.hg_storm.specs.Threads.{Pairs, no_dispatch, place_of, turns_of}

-- what members did, by their numbers: what each put into each one's mailbox, and how often that was full; what each took, and
-- how often it collected
pub record Tale : Type 0 where
  pub put : ℕ → ℕ → List Message
  pub full : ℕ → ℕ → ℕ
  pub taken : ℕ → List Message
  pub collects : ℕ → ℕ

-- the sum of the first values
abbrev pub sum_below : ℕ → (ℕ → ℕ) → ℕ
sum_below zero f = 0
sum_below (suc n) f = sum_below n f + f n

-- how many messages the first members put into a mailbox
abbrev pub put_to : Tale → ℕ → ℕ → ℕ
put_to tale n k = sum_below n (λ j. length (tale.put j k))

-- how often messages of the first members came back from it
abbrev pub full_to : Tale → ℕ → ℕ → ℕ
full_to tale n k = sum_below n (λ j. tale.full j k)

-- what a log tells of the rows that were sent to member k
abbrev pub dispatch_to : Log → ℕ → Dispatch
dispatch_to log k = get_or log.dispatches.items k no_dispatch

abbrev pub put_by : ℕ → List (List ℕ) → Log → ℕ → List Message
put_by me rows log k = messages_from me 0 (take (dispatch_to log k).sent rows)

-- what jobs tell, by their places; beyond them what this node and this job do
abbrev pub tale_of : List (SharedNode Secrets) → List Job → SharedNode Secrets → Job → Tale
tale_of places jobs p d = record {
  put = λ j k. put_by j (bytes_seen (get_or places j p) (get_or jobs j d).desk.seat) (get_or jobs j d).desk.log k;
  full = λ j k. (dispatch_to (get_or jobs j d).desk.log k).full;
  taken = λ k. (get_or jobs k d).desk.log.intake.taken.items;
  collects = λ k. (get_or jobs k d).desk.inbox.count.collects;
}

-- the sender is one of these
abbrev pub HasSender : Sender → List Sender → Type 0
HasSender s [] = ⊥
HasSender s (x ∷ xs) = (x ≡ s) ⊎ HasSender s xs

-- one part is still to come back with the receiver's port
abbrev pub due_back : Bool → ℕ
due_back later = cond later 1 0

-- how often the receiver collected is known once its port is back
abbrev pub known_back : Bool → ℕ → ℕ
known_back later n = cond later 0 n

-- of n members the ports of the first ones are back in the first port of the mailbox of member k
pub record IsBack (tale : Tale) (n back k : ℕ) (m : MailboxView) (q : PortView) : Type 0 where
  pub of : IsPortOf m q
  pub gives : q.view.gives ≡ true
  pub next : q.view.next ≡ n
  pub takes : k < back → q.view.takes ≡ true
  pub taken : k < back → q.view.taken ≡ tale.taken k
  pub senders : (j : ℕ) → j < back → HasSender (sender j (tale.put j k)) q.view.senders
  pub parts : q.count.parts + n + due_back (nat_le back k) ≡ all_parts + back
  pub mine : q.count.mine ≡ put_to tale back k
  pub full : (j : ℕ) → j < back → 0 < tale.full j k → m.room ≤ q.count.seen
  pub often : q.count.full ≡ full_to tale back k
  pub collects : q.count.collects ≡ known_back (nat_le back k) (tale.collects k)
  pub finds : back ≤ k → q.count.findings ≡ []
  pub each : k < back → length q.count.findings ≡ tale.collects k
  pub took : k < back → TookAllDue m.room q.count.findings (length (tale.taken k))

abbrev pub AreBack : Tale → ℕ → ℕ → List MailboxView → List PortView → Type 0
AreBack tale n back mails masters = Pairs (IsBack tale n back) mails masters

-- ports of these mailboxes
abbrev pub ArePortsOf : List MailboxView → List PortView → Type 0
ArePortsOf mails ports = Pairs (λ _. IsPortOf) mails ports

-- the ports of one member were taken into the first ones, that of its own mailbox's receiver too
pub record AreGathered (me : ℕ) (mails : List MailboxView) (olds ports : List PortView) (inbox : PortView) (news : List PortView) : Type 0 where
  pub of : ArePortsOf mails news
  pub others : (k : ℕ) (q a b : PortView) → k < length mails → k ≢ me → get_or news k q ≡ joined (get_or olds k a) (get_or ports k b)
  pub own : (q a b : PortView) → get_or news me q ≡ joined (joined (get_or olds me a) (get_or ports me b)) inbox

-- the ports of all jobs were, and their seats were taken into those of the crews
pub record AreAbsorbed (mails : List MailboxView) (places : List (SharedNode Secrets)) (jobs : List Job) (masters : List PortView) (lasts : List (SeatView Secrets)) (told : List Log) : Type 0 where
  pub back : (p : SharedNode Secrets) (d : Job) → AreBack (tale_of places jobs p d) (length mails) (length mails) mails masters
  pub seats : AllAbsorb accepts_by places (map (λ (j : Job). j.seat) jobs) (map (λ (j : Job). j.desk.seat) jobs) lasts
  pub logs : told ≡ map (λ (j : Job). j.desk.log) jobs

-- the members' jobs after their turns, each at its member's place
pub record HasTurned (plan : Plan) (mails : List MailboxView) (p : SharedNode Secrets) (k : ℕ) (j : Job) : Type 0 where
  pub me : j.desk.me ≡ k
  pub seat : IsOf p j.seat
  pub place : ℕ
  pub turns : ℕ
  pub stands : Stands plan place mails p turns turns j.desk

pub record HaveTurned (mails : List MailboxView) (places : List (SharedNode Secrets)) (jobs : List Job) : Type 0 where
  pub plan : Plan
  pub jobs_count : length jobs ≡ length mails
  pub places_count : length places ≡ length mails
  pub each : (k : ℕ) (p : SharedNode Secrets) (d : Job) → k < length jobs → HasTurned plan mails (get_or places k p) k (get_or jobs k d)

-- by this port of a mailbox all was taken out: what was put through it is what was taken before, and then this. Each message is
-- of a sender whose port it gave out; where all these are back, no more is left than the mailbox has room for
pub record Empties (m : MailboxView) (q : PortView) (left : List Message) : Type 0 where
  pub all : IsEmptied (after_taking q.view left)
  pub known : q.view.gives ≡ true → AreFrom q.view.next (q.view.taken ++ left)
  pub whole : q.count.parts ≡ all_parts → q.count.seen ≤ q.count.mine
  pub few : IsWhole q.view → length left ≤ m.room
  pub found : q.count.parts ≡ all_parts → AreFoundBy q.count.dates q.count.findings

-- each of these ports takes out
abbrev pub TakeOut : List MailboxView → List PortView → Type 0
TakeOut mails masters = Pairs (λ k m q. IsPortOf m q × (q.view.takes ≡ true)) mails masters

abbrev pub EmptyAll : {Z : Type 0} → List MailboxView → List PortView → List (Vec Message Z) → Type 0
EmptyAll {Z} mails masters left = Pairs (λ (k : ℕ) (q : PortView) (l : Vec Message Z). (m : MailboxView) → Empties (get_or mails k m) q l.items) masters left

-- the port once that was taken out: it notes what it noted
pub record HasEmptied (q : PortView) (left : List Message) (r : PortView) : Type 0 where
  pub taken : r.view.taken ≡ q.view.taken ++ left
  pub back : r.count.full ≡ q.count.full
  pub collects : r.count.collects ≡ q.count.collects
  pub dates : r.count.dates ≡ q.count.dates
  pub finds : r.count.findings ≡ q.count.findings

-- so have all
pub record HaveEmptied {Z : Type 0} (olds : List PortView) (left : List (Vec Message Z)) (news : List PortView) : Type 0 where
  pub count : length news ≡ length olds
  pub each : (k : ℕ) (q r : PortView) (l : Vec Message Z) → k < length olds → HasEmptied (get_or olds k q) (get_or left k l).items (get_or news k r)

-- of each member what it put into each mailbox is what was taken of it and what is left, and nobody else put anything in; no more
-- is left than one has room for, and where one was full, as many messages were put in
pub record AreEmptied {Z : Type 0} (tale : Tale) (n : ℕ) (mails : List MailboxView) (left : List (Vec Message Z)) : Type 0 where
  pub count : length left ≡ length mails
  pub mail : (j k : ℕ) (l : Vec Message Z) → j < n → k < length mails → tale.put j k ≡ messages_of j (tale.taken k) ++ messages_of j (get_or left k l).items
  pub known : (k : ℕ) (l : Vec Message Z) → k < length mails → AreFrom n (tale.taken k ++ (get_or left k l).items)
  pub few : (k : ℕ) (l : Vec Message Z) (m : MailboxView) → k < length mails → length (get_or left k l).items ≤ (get_or mails k m).room
  pub full : (j k : ℕ) (m : MailboxView) → j < n → k < length mails → 0 < tale.full j k → (get_or mails k m).room ≤ put_to tale n k

-- ---- what all members did, by their numbers, and their nodes then

-- of one member, whose node is this: its own rows, each of which is a turn's, and its turns that made none are together as many as
-- all its turns, and each of the latter has its cause
pub record CountsTurns (plan : Plan) (k : ℕ) (p : SharedNode Secrets) (node : NodeView Secrets) (idle : ℕ) : Type 0 where
  pub start : p.start.start ≡ node.start
  pub rows : rows_by node.start.own (node_rows node) + idle ≡ turns_of plan k
  pub made : AreTurnRows node (turns_of plan k)
  pub causes : AreIdle p node.history (turns_of plan k) idle

-- so its log tells, and what it took is held or was refused
pub record IsTold (plan : Plan) (k : ℕ) (p : SharedNode Secrets) (node : NodeView Secrets) (log : Log) : Type 0 where
  pub lawful : IsNode accepts_by node
  pub turns : CountsTurns plan k p node log.idle
  pub fates : EndsWithFates accepts_by p node log.intake.taken.items log.intake.refused.items

abbrev pub rows_of_node : NodeView Secrets → List (List ℕ)
rows_of_node v = map spelling (node_rows v)

-- what member j, whose node this is, sent to member k: the rows that were due, unless its mailbox was full; due were those that
-- the node had once the last turn that drew k had made its own
pub record IsSentTo (plan : Plan) (j k : ℕ) (node : NodeView Secrets) (idle : ℕ) (d : Dispatch) : Type 0 where
  pub within : d.sent ≤ length (rows_of_node node)
  pub counted : IsCounted (HasDrawn plan j (place_of plan j) (turns_of plan j) k) (length (rows_of_node node))
      (times_drawn plan j (place_of plan j) (turns_of plan j) k) d
  pub due : HasDrawn plan j (place_of plan j) (turns_of plan j) k →
      WasDue plan j (place_of plan j) (turns_of plan j) k node (own_rows node) (turns_of plan j) idle (HadRows node d.due)

-- what nodes and logs tell, by their places; beyond them what this node and this log do
abbrev pub tale_told : Plan → List (NodeView Secrets) → List Log → NodeView Secrets → Log → Tale
tale_told plan nodes logs v g = record {
  put = λ j k. put_by j (rows_of_node (get_or nodes j v)) (get_or logs j g) k;
  full = λ j k. (dispatch_to (get_or logs j g) k).full;
  taken = λ k. (get_or logs k g).intake.taken.items;
  collects = λ k. turns_of plan k;
}

-- by the first port of a member's mailbox, which took all others back: so often the member collected, and so often a message came
-- back; and what was taken out is what it took, and then what was left; each collect took what was due, which is told by the dates of
-- all messages
pub record HasCollected (tale : Tale) (n k room : ℕ) (left : List Message) (q : PortView) : Type 0 where
  pub collects : q.count.collects ≡ tale.collects k
  pub each : length q.count.findings ≡ tale.collects k
  pub found : AreFoundBy q.count.dates q.count.findings
  pub took : TookAllDue room q.count.findings (length (tale.taken k))
  pub back : q.count.full ≡ full_to tale n k
  pub taken : q.view.taken ≡ tale.taken k ++ left

-- so it is of all, by what nodes and logs tell; each collected once in each of its turns
pub record HaveCollected {Z : Type 0} (plan : Plan) (room : ℕ) (nodes : List (NodeView Secrets)) (logs : List Log) (left : List (Vec Message Z)) (ports : List PortView) : Type 0 where
  pub count : length ports ≡ length nodes
  pub each : (k : ℕ) (v : NodeView Secrets) (g : Log) (l : Vec Message Z) (q : PortView) → k < length nodes →
      HasCollected (tale_told plan nodes logs v g) (length nodes) k room (get_or left k l).items (get_or ports k q)

-- the nodes, the logs and what the mailboxes had left, once all threads are joined
pub record AreTold {Z : Type 0} (plan : Plan) (room : ℕ) (nodes : List (NodeView Secrets)) (logs : List Log) (left : List (Vec Message Z)) : Type 0 where
  pub logs_count : length logs ≡ length nodes
  pub left_count : length left ≡ length nodes
  pub sent : (j k : ℕ) (v : NodeView Secrets) (g : Log) → j < length nodes → k < length nodes →
      IsSentTo plan j k (get_or nodes j v) (get_or logs j g).idle (dispatch_to (get_or logs j g) k)
  pub mail : (j k : ℕ) (v : NodeView Secrets) (g : Log) (l : Vec Message Z) → j < length nodes → k < length nodes →
      (tale_told plan nodes logs v g).put j k ≡ messages_of j (get_or logs k g).intake.taken.items ++ messages_of j (get_or left k l).items
  pub known : (k : ℕ) (g : Log) (l : Vec Message Z) → k < length nodes → AreFrom (length nodes) ((get_or logs k g).intake.taken.items ++ (get_or left k l).items)
  pub few : (k : ℕ) (l : Vec Message Z) → k < length nodes → length (get_or left k l).items ≤ room
  pub full : (j k : ℕ) (v : NodeView Secrets) (g : Log) → j < length nodes → k < length nodes → 0 < (dispatch_to (get_or logs j g) k).full → room ≤ put_to (tale_told plan nodes logs v g) (length nodes) k
  pub each : (k : ℕ) (v : NodeView Secrets) (g : Log) → k < length nodes → (p : SharedNode Secrets) × IsTold plan k p (get_or nodes k v) (get_or logs k g)

-- the nodes were shared, and beside the turns others only marked
pub record HasSession (nodes ends : List (NodeView Secrets)) : Type 0 where
  pub places : List (SharedNode Secrets)
  pub called : List (SeatView Secrets)
  pub run : IsSession accepts_by nodes places called ends
