-- The mailboxes and the members' jobs before their threads and after them
use Rattle.std.specs.Prelude.{IfOk, Result, ℕ, ◌≡◌, ◌+◌, ◌<◌, ◌≤◌, Bool, nat_le, cond, List, [], length, get_or, replicate, unwrap_or, Option, Some, None}
use Rattle.hg_model.specs.Shares.{whole}
use Rattle.hg_life.specs.Signing.{accepts_by}
use Rattle.hg_storm.specs.Keeping.{Secrets}
use Rattle.hg_mail.specs.declared.view.View.{View}
use Rattle.hg_mail.specs.Count.{all_parts, one_part}
use Rattle.hg_mail.specs.Messages.{first_view, receiver_view, sender_view}
use Rattle.hg_mail.specs.Mailboxes.{IsPortOf, MailboxView, PortView}
use Rattle.hg_board.specs.Seats.{SharedNode, SeatView}
use Rattle.hg_board.specs.Calls.{after_split, split_off}
use Rattle.hg_board.specs.Crews.{MarksAll}
use Rattle.hg_crowd.specs.Crowd.{IsSeat}
use Rattle.hg_crowd.specs.Workers.{Worked}
use Rattle.hg_storm.specs.declared.plan.Plan.{Plan}
use Rattle.hg_storm.specs.declared.sending.Dispatch.{Dispatch}
use Rattle.hg_storm.specs.declared.desk.Log.{Log}
use Rattle.hg_storm.specs.declared.desk.Desk.{Desk}
use Rattle.hg_storm.specs.declared.desk.Job.{Job}
use Rattle.hg_storm.specs.Drawing.{IsDrawing, first_state, place_in}
use Rattle.hg_storm.specs.Turning.{GoesOn, Stands}

-- pair by pair, with their place
pub record Pairs {A B : Type 0} (R : ℕ → A → B → Type 0) (xs : List A) (ys : List B) : Type 0 where
  pub count : length ys ≡ length xs
  pub each : (k : ℕ) (a : A) (b : B) → k < length xs → R k (get_or xs k a) (get_or ys k b)

-- ---- the first ports, before the threads

-- what the first port knows once so many senders' ports were given out, and the receiver's or not
abbrev pub opened_view : ℕ → Bool → View
opened_view issued takes = record first_view { next = issued; takes = takes }

-- one part is away where the receiver's port is
abbrev pub away : Bool → ℕ
away takes = cond takes 0 1

-- the first port of the mailbox of place k: so many senders' ports were given out, and the receivers' of the mailboxes below a bound
pub record IsFirstPort (issued bound k : ℕ) (m : MailboxView) (q : PortView) : Type 0 where
  pub of : IsPortOf m q
  pub view : q.view ≡ opened_view issued (nat_le bound k)
  pub parts : q.count.parts + issued + away (nat_le bound k) ≡ all_parts
  pub mine : q.count.mine ≡ 0
  pub back : q.count.full ≡ 0
  pub collects : q.count.collects ≡ 0
  pub finds : q.count.findings ≡ []

-- so it is of all mailboxes, where so many members have their ports
abbrev pub AreOpened : ℕ → List MailboxView → List PortView → Type 0
AreOpened members mails masters = Pairs (IsFirstPort members members) mails masters

-- ports were given out to one member more, up to the mailbox of this place
abbrev pub AreIssuing : ℕ → ℕ → List MailboxView → List PortView → Type 0
AreIssuing me i mails masters =
    Pairs (λ k m q. ((k < i) → IsFirstPort (me + 1) me k m q) × ((i ≤ k) → IsFirstPort me me k m q)) mails masters

-- one member more has its senders' ports, and not yet its receiver's
abbrev pub AreIssued : ℕ → List MailboxView → List PortView → Type 0
AreIssued me mails masters = Pairs (IsFirstPort (me + 1) me) mails masters

-- each has room for so many messages
abbrev pub HaveRoom : ℕ → List MailboxView → Type 0
HaveRoom room mails = (k : ℕ) (m : MailboxView) → k < length mails → (get_or mails k m).room ≡ room

-- a port of a sender that has put in nothing, and of a receiver that took nothing
pub record IsNewSender (me : ℕ) (m : MailboxView) (q : PortView) : Type 0 where
  pub of : IsPortOf m q
  pub view : q.view ≡ sender_view me []
  pub count : q.count ≡ one_part m.room

pub record IsNewReceiver (m : MailboxView) (q : PortView) : Type 0 where
  pub of : IsPortOf m q
  pub view : q.view ≡ receiver_view []
  pub count : q.count ≡ one_part m.room

abbrev pub AreNewSenders : ℕ → List MailboxView → List PortView → Type 0
AreNewSenders me mails ports = Pairs (λ _. IsNewSender me) mails ports

abbrev pub no_dispatch : Dispatch
no_dispatch = record { sent = 0; full = 0; due = 0 }

-- a log of nothing
pub record IsNewLog (count : ℕ) (log : Log) : Type 0 where
  pub dispatches : log.dispatches.items ≡ replicate count no_dispatch
  pub taken : log.intake.taken.items ≡ []
  pub refused : log.intake.refused.items ≡ []
  pub idle : log.idle ≡ 0

-- the desk of a member before its first turn, with this seat
pub record IsNewDesk (mails : List MailboxView) (seed own : ℕ) (s : SeatView Secrets) (d : Desk) : Type 0 where
  pub me : d.me ≡ own
  pub seat : d.seat ≡ s
  pub draws : d.draws ≡ first_state seed own
  pub log : IsNewLog (length mails) d.log
  pub ports : AreNewSenders own mails d.ports.items
  pub inbox : (m : MailboxView) → IsNewReceiver (get_or mails own m) d.inbox

-- a member's job before its first turn: a seat was split off the first one of its node
pub record IsNewJob (mails : List MailboxView) (seed me : ℕ) (first : SeatView Secrets) (j : Job) : Type 0 where
  pub desk : IsNewDesk mails seed me (split_off first) j.desk
  pub seat : j.seat ≡ after_split first

abbrev pub AreNewJobs : List MailboxView → ℕ → List (SeatView Secrets) → List Job → Type 0
AreNewJobs mails seed firsts jobs = Pairs (IsNewJob mails seed) firsts jobs

-- ---- what the threads do

-- a member without a node takes no turns
abbrev pub turns_at : Plan → Option ℕ → ℕ
turns_at plan None = 0
turns_at plan (Some place) = plan.turns

-- how many turns a member takes, and its place among those with nodes
abbrev pub turns_of : Plan → ℕ → ℕ
turns_of plan me = turns_at plan (place_in plan.circle.items me)

abbrev pub place_of : Plan → ℕ → ℕ
place_of plan me = unwrap_or (place_in plan.circle.items me) 0

-- a member took its turns, and a crew worked beside them, which with a turn or more marks what the graph before it decides
pub record IsDoneJob (plan : Plan) (mails : List MailboxView) (p : SharedNode Secrets) (old new : Job) : Type 0 where
  pub on : GoesOn old.desk new.desk
  pub worked : Worked old.seat new.seat
  pub marked : 0 < turns_of plan old.desk.me → MarksAll p whole old.seat new.seat
  pub stands : Stands plan (place_of plan old.desk.me) mails p (turns_of plan old.desk.me) (turns_of plan old.desk.me) new.desk

-- so did all
pub record AreDoneJobs (plan : Plan) (mails : List MailboxView) (places : List (SharedNode Secrets)) (olds news : List Job) : Type 0 where
  pub count : length news ≡ length olds
  pub each : (k : ℕ) (p : SharedNode Secrets) (a b : Job) → k < length olds → IsDoneJob plan mails (get_or places k p) (get_or olds k a) (get_or news k b)

-- what came of the thread of one
abbrev pub ComesOf : {E : Type 0} → Plan → List MailboxView → SharedNode Secrets → Job → Result Job E → Type 0
ComesOf plan mails p old result = IfOk result (IsDoneJob plan mails p old)

-- of each, by the member whose it is
pub record AllCome {E : Type 0} (plan : Plan) (mails : List MailboxView) (places : List (SharedNode Secrets)) (olds : List Job) (results : List (Result Job E)) : Type 0 where
  pub count : length results ≡ length olds
  pub each : (k : ℕ) (p : SharedNode Secrets) (a : Job) (r : Result Job E) → k < length olds →
      ComesOf plan mails (get_or places (get_or olds k a).desk.me p) (get_or olds k a) (get_or results k r)

-- a job of the member whose place it has, before its first turn
pub record MayRun (mails : List MailboxView) (places : List (SharedNode Secrets)) (plan : Plan) (j : Job) : Type 0 where
  pub me : j.desk.me < length mails
  pub count : length places ≡ length mails
  pub stands : (place : ℕ) (p : SharedNode Secrets) → Stands plan place mails (get_or places j.desk.me p) 0 0 j.desk
  pub draws : IsDrawing plan j.desk.me 0 j.desk.draws
  pub seat : (p : SharedNode Secrets) → IsSeat accepts_by (get_or places j.desk.me p) j.seat
