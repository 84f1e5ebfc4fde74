-- A member's turns: what it has sent, taken and made after so many of them
use Rattle.std.specs.Prelude.{ℕ, zero, suc, ◌≡◌, [], ◌+◌, ◌<◌, ◌≤◌, ◌^◌, ◌⊎◌, ◌==◌, ⊤, Bool, true, false, List, length, take, get_or, slice_get, count_by, ◌++◌, Option, Some, None}
use Rattle.std.specs.List.{AllByRecursion}
use Rattle.hg_model.specs.declared.row.Row.{Row}
use Rattle.hg_life.specs.declared.answers.MakeAnswer.{MakeAnswer}
use Rattle.hg_life.specs.declared.answers.MakeAnswer.TheVariants as answer
use Rattle.hg_life.specs.History.{Change}
use Rattle.hg_life.specs.History.Change.{Made}
use Rattle.hg_life.specs.NodeView.{NodeView, node_rows}
use Rattle.hg_life.specs.Signing.{accepts_by}
use Rattle.hg_life.specs.Verdict.{last_name, parents_on}
use Rattle.hg_node.specs.Next.{MakesNext, next_others}
use Rattle.hg_mail.specs.declared.message.Message.{Message}
use Rattle.hg_mail.specs.Mailboxes.{MailboxView, PortView}
use Rattle.hg_board.specs.Positions.{AreBelow, times}
use Rattle.hg_board.specs.Table.{node_at}
use Rattle.hg_board.specs.Seats.{SharedNode, SeatView}
use Rattle.hg_board.specs.Calls.{SeatMakesNext}
use Rattle.hg_crowd.specs.Crowd.{IsSeat, IsStill}
use Rattle.hg_storm.specs.declared.plan.Plan.{Plan}
use Rattle.hg_storm.specs.declared.sending.Dispatch.{Dispatch}
use Rattle.hg_storm.specs.declared.desk.Log.{Log}
use Rattle.hg_storm.specs.declared.desk.Desk.{Desk}
use Rattle.hg_storm.specs.Drawing.{Draws, HasDrawn, IsLastDraw, times_drawn}
use Rattle.hg_storm.specs.Fates.{HasFates}
use Rattle.hg_storm.specs.Keeping.{Secrets, rows_made, rows_made_in}
use Rattle.hg_storm.specs.Receiving.{HasCollectedAlone, IsInbox}
use Rattle.hg_storm.specs.Sending.{HasSent, bytes_seen}

-- ---- turns that made nothing

-- no event was made: there was nothing to make one on, or it was refused
abbrev pub IsIdle : Option MakeAnswer → Type 0
IsIdle None = ⊤
IsIdle (Some (answer.Made place)) = ⊥
IsIdle (Some (answer.Refused fault)) = ⊤

-- a node after the first changes of its history
abbrev pub node_then : NodeView Secrets → ℕ → NodeView Secrets
node_then v at = node_at v (take at v.history)

-- after so many changes the node makes no event of this time
pub record IsIdleAt (v : NodeView Secrets) (time at : ℕ) : Type 0 where
  pub made : Option MakeAnswer
  pub idle : IsIdle made
  pub next : MakesNext accepts_by (node_then v at) time made (node_then v at)

-- so it is after some of its changes, which are so many or more
pub record IsIdleTurn (v : NodeView Secrets) (since time : ℕ) : Type 0 where
  pub at : ℕ
  pub later : since ≤ at
  pub within : at ≤ length v.history
  pub none : IsIdleAt v time at

-- of so many turns that follow the first ones so many made nothing, each for its cause, after so many changes or more; the
-- times of turns are counted from 1
abbrev pub AreIdleSince : NodeView Secrets → ℕ → ℕ → ℕ → ℕ → Type 0
AreIdleSince v since first zero idle = idle ≡ 0
AreIdleSince v since first (suc t) idle =
    AreIdleSince v since first t idle
    ⊎ ((less : ℕ) × (idle ≡ suc less) × AreIdleSince v since first t less × IsIdleTurn v since (first + suc t))

-- so it is of the first turns
abbrev pub AreIdle : SharedNode Secrets → List Change → ℕ → ℕ → Type 0
AreIdle p history turns idle = AreIdleSince (node_at p.start history) 0 0 turns idle

-- ---- the rows that a node had once a turn had made its own

-- how many of the rows a member made
abbrev pub rows_by : ℕ → List Row → ℕ
rows_by m rows = count_by (λ (row : Row). row.creator == m) rows

-- how many rows of its own a node had after the first changes of its history
abbrev pub own_rows : NodeView Secrets → ℕ → ℕ
own_rows v at = rows_by v.start.own (node_rows (node_then v at))

-- the last one of so many changes made an event of this time
pub record IsMadeAt (v : NodeView Secrets) (time at : ℕ) : Type 0 where
  pub row : Row
  pub of_time : row.time ≡ time
  pub last : ℕ
  pub first : at ≡ suc last
  pub made : slice_get v.history last ≡ Some (Made row)

-- a row that the node makes at one of its first turns: its next event, which is its first one or stands on its last row and on
-- the last row by another member, without payload, and the time is the turn's number, from 1
pub record IsTurnRow (v : NodeView Secrets) (turns : ℕ) (row : Row) : Type 0 where
  pub others : List (List ℕ)
  pub next : next_others v ≡ Some others
  pub parents : row.parents ≡ parents_on (last_name v.start.own (node_rows v)) others
  pub payload : row.payload ≡ []
  pub first : 0 < row.time
  pub last : row.time ≤ turns

-- all rows that a node made are such rows, each where its history made it, and their times rise
pub record AreTurnRows (v : NodeView Secrets) (turns : ℕ) : Type 0 where
  pub each : (q : ℕ) (row : Row) → slice_get v.history q ≡ Some (Made row) → IsTurnRow (node_then v q) turns row
  pub rising : (q r : ℕ) (a b : Row) → q < r → slice_get v.history q ≡ Some (Made a) → slice_get v.history r ≡ Some (Made b) → a.time < b.time

-- so are those that were made through a seat
pub record HasTurnRows (p : SharedNode Secrets) (turns : ℕ) (s : SeatView Secrets) : Type 0 where
  pub each : (q : ℕ) (row : Row) → 0 < times q s.mine → slice_get s.seen q ≡ Some (Made row) → IsTurnRow (node_at p.start (take q s.seen)) turns row
  pub rising : (q r : ℕ) (a b : Row) → 0 < times q s.mine → 0 < times r s.mine → q < r → slice_get s.seen q ≡ Some (Made a) → slice_get s.seen r ≡ Some (Made b) → a.time < b.time

-- After so many changes the turns up to this one have made their rows or nothing, and no later turn has. The last of these
-- turns did so just then. The rows that were made by then and the idle ones of these turns are together as many as the turns,
-- and the other idle ones come later.
pub record AreOver (v : NodeView Secrets) (made : ℕ → ℕ) (turns idle over at : ℕ) : Type 0 where
  pub within : at ≤ length v.history
  pub end : IsMadeAt v over at ⊎ IsIdleAt v over at
  pub early : ℕ
  pub rows : made at + early ≡ over
  pub before : AreIdleSince (node_then v at) 0 0 over early
  pub rest : ℕ
  pub all : over + rest ≡ turns
  pub late : ℕ
  pub both : early + late ≡ idle
  pub after : AreIdleSince v at over rest late

-- so it was of the first changes once the last turn that draws the member had made its row or nothing
pub record WasDue (plan : Plan) (me place drawn k : ℕ) (v : NodeView Secrets) (made : ℕ → ℕ) (turns idle : ℕ) (IsSo : ℕ → Type 0) : Type 0 where
  pub turn : ℕ
  pub last : IsLastDraw plan me place drawn k turn
  pub at : ℕ
  pub over : AreOver v made turns idle (turn + 1) at
  pub due : IsSo at

-- the node had so many rows after its first changes
abbrev pub HadRows : NodeView Secrets → ℕ → ℕ → Type 0
HadRows v due at = due ≡ length (node_rows (node_then v at))

-- the seat has counted so many rows, and added nothing from those first changes on until then
pub record HasCounted (p : SharedNode Secrets) (s : SeatView Secrets) (due at : ℕ) : Type 0 where
  pub when : ℕ
  pub past : at ≤ when
  pub within : when ≤ length s.seen
  pub alone : AllByRecursion (λ q. (q < at) ⊎ (when ≤ q)) s.mine
  pub rows : due ≡ length (node_rows (node_at p.start (take when s.seen)))

-- the last turn has made its row or nothing, and since then the seat has added nothing
pub record HasEnded (p : SharedNode Secrets) (s : SeatView Secrets) (turns idle : ℕ) : Type 0 where
  pub at : ℕ
  pub over : AreOver (node_at p.start s.seen) (rows_made_in s) turns idle turns at
  pub mine : AreBelow at s.mine

-- ---- what was sent to one member

-- how many rows were due to a member, and what is left of them: some were where a turn drew it, and of those all were sent
-- unless its mailbox was full, once at most for each of so many draws
pub record IsCounted (Drawn : Type 0) (rows times : ℕ) (d : Dispatch) : Type 0 where
  pub drawn : 0 < d.due + d.full → Drawn
  pub due : Drawn → 0 < d.due
  pub late : d.due ≤ rows
  pub sent : d.full ≡ 0 → d.sent ≡ d.due
  pub few : d.full ≤ times

-- through this port the member sent that, and so often one came back; where the mailbox was full, as many were put in and counted as
-- it has room for
pub record HasServed (plan : Plan) (me place turns : ℕ) (rows : List (List ℕ)) (k : ℕ) (m : MailboxView) (d : Dispatch) (q : PortView) : Type 0 where
  pub sent : HasSent m me rows d.sent q
  pub counted : IsCounted (HasDrawn plan me place turns k) (length rows) (times_drawn plan me place turns k) d
  pub back : q.count.full ≡ d.full
  pub full : 0 < d.full → m.room ≤ q.count.seen

-- to each member
pub record HasServedAll (plan : Plan) (me place turns : ℕ) (rows : List (List ℕ)) (mails : List MailboxView) (ds : List Dispatch) (qs : List PortView) : Type 0 where
  pub dispatches : length ds ≡ length mails
  pub ports : length qs ≡ length mails
  pub each : (k : ℕ) (m : MailboxView) (d : Dispatch) (q : PortView) → k < length mails →
      HasServed plan me place turns rows k (get_or mails k m) (get_or ds k d) (get_or qs k q)

-- ---- a member between two steps of its turns

-- after so many draws and so many rows that were made or could not be; before each of these the member collected once
pub record Standing (plan : Plan) (place : ℕ) (mails : List MailboxView) (p : SharedNode Secrets) (drawn made own : ℕ) (log : Log) (s : SeatView Secrets) (qs : List PortView) (box : PortView) : Type 0 where
  pub me : own < length mails
  pub seat : IsSeat accepts_by p s
  pub fates : HasFates accepts_by p s log.intake.taken.items log.intake.refused.items
  pub inbox : (m : MailboxView) → IsInbox (get_or mails own m) log.intake.taken.items box
  pub alone : HasCollectedAlone made box.count
  pub served : HasServedAll plan own place drawn (bytes_seen p s) mails log.dispatches.items qs
  pub room : 0 < p.start.start.limit
  pub some : 0 < made → 0 < length (bytes_seen p s)
  pub rows : rows_made s + log.idle ≡ made
  pub turned : HasTurnRows p made s
  pub idle : AreIdle p s.seen made log.idle
  pub ended : 0 < made → HasEnded p s made log.idle
  pub dues : (k : ℕ) (d : Dispatch) → HasDrawn plan own place drawn k →
      WasDue plan own place drawn k (node_at p.start s.seen) (rows_made_in s) made log.idle (HasCounted p s (get_or log.dispatches.items k d).due)

abbrev pub Stands : Plan → ℕ → List MailboxView → SharedNode Secrets → ℕ → ℕ → Desk → Type 0
Stands plan place mails p drawn made d = Standing plan place mails p drawn made d.me d.log d.seat d.ports.items d.inbox

-- a member stands somewhere in its turns, so many of which made a row or could not
pub record IsAtTurns (mails : List MailboxView) (p : SharedNode Secrets) (made : ℕ) (d : Desk) : Type 0 where
  pub plan : Plan
  pub place : ℕ
  pub drawn : ℕ
  pub few : drawn < 2 ^ 32
  pub stands : Stands plan place mails p drawn made d

-- through this port a node's first rows were put in, no fewer than are told, and nothing else; and so often one came back
pub record HasPut (me : ℕ) (rows : List (List ℕ)) (m : MailboxView) (d : Dispatch) (q : PortView) : Type 0 where
  pub sent : HasSent m me rows q.count.mine q
  pub told : d.sent ≤ q.count.mine
  pub back : q.count.full ≡ d.full

-- A member whose memory ran out in a turn, after so many rows that were made or could not be. Its node is one that the laws speak
-- of still; of what it took out the last may be lost, and what came of the rest is told; and nothing is told as sent that was not.
pub record HasStopped (mails : List MailboxView) (p : SharedNode Secrets) (made : ℕ) (d : Desk) : Type 0 where
  pub me : d.me < length mails
  pub seat : IsSeat accepts_by p d.seat
  pub fates : HasFates accepts_by p d.seat d.log.intake.taken.items d.log.intake.refused.items
  pub lost : List Message
  pub inbox : (m : MailboxView) → IsInbox (get_or mails d.me m) (d.log.intake.taken.items ++ lost) d.inbox
  pub alone : HasCollectedAlone made d.inbox.count ⊎ HasCollectedAlone (made + 1) d.inbox.count
  pub rows : rows_made d.seat + d.log.idle ≡ made
  pub put : (k : ℕ) (m : MailboxView) (c : Dispatch) (q : PortView) → k < length mails →
      HasPut d.me (bytes_seen p d.seat) (get_or mails k m) (get_or d.log.dispatches.items k c) (get_or d.ports.items k q)

-- .. before the turn's row or after it
abbrev pub HasStoppedIn : List MailboxView → SharedNode Secrets → ℕ → Desk → Type 0
HasStoppedIn mails p made d = HasStopped mails p made d ⊎ HasStopped mails p (made + 1) d

-- so it is of a member that stood there before
abbrev pub MayStop : List MailboxView → SharedNode Secrets → Desk → Desk → Type 0
MayStop mails p old new = (made : ℕ) → IsAtTurns mails p made old → HasStopped mails p made new

-- it is the same member still, with its node
pub record GoesOn (old new : Desk) : Type 0 where
  pub me : new.me ≡ old.me
  pub still : IsStill old.seat new.seat

-- a row more was made, or could not be
abbrev pub MakesOneMore : List MailboxView → SharedNode Secrets → ℕ → Desk → Desk → Type 0
MakesOneMore mails p made old new =
    (plan : Plan) (place drawn : ℕ) → Stands plan place mails p drawn made old → Stands plan place mails p drawn (made + 1) new

-- the member that a turn draws was served, once the turn's row was made or could not be
abbrev pub ServesOneMore : List MailboxView → SharedNode Secrets → ℕ → Desk → Desk → Type 0
ServesOneMore mails p peer old new =
    (plan : Plan) (place drawn : ℕ) → Draws plan old.me place drawn peer → Stands plan place mails p drawn (drawn + 1) old →
    Stands plan place mails p (drawn + 1) (drawn + 1) new

-- ---- steps of a turn

-- whether this answer is a row that was made
abbrev pub is_row : Option MakeAnswer → Bool
is_row None = false
is_row (Some (answer.Made place)) = true
is_row (Some (answer.Refused fault)) = false

-- the node's next event was made, or could not be
pub record HasMade (p : SharedNode Secrets) (old : SeatView Secrets) (time : ℕ) (new : SeatView Secrets) (made : Bool) : Type 0 where
  pub answer : Option MakeAnswer
  pub is : made ≡ is_row answer
  pub next : SeatMakesNext accepts_by p old time new answer
