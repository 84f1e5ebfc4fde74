-- A member whose memory runs out in a turn: what it leaves
use Rattle.std.proofs.Common.{◌≡◌, ◌⊎◌, ⊎_elim, inl, inr, ℕ, ◌+◌, ◌<◌, ◌≤◌, List, [], ◌++◌, append-nil, length, set, get_or, sym, ap, ◌∙◌, subst, arith}
use mathlib.Core.Logic.{dite}
use native.Mathlib.Decide.{ℕ_discrete}
use Rattle.std.proofs.lemmas.List.{get_or-set_same, get_or-set_other, get_or_default}
use Rattle.hg_model.specs.Orders.{IsPrefix}
use Rattle.hg_life.specs.Signing.{accepts_by}
use Rattle.hg_history.proofs.StateLaws.{prefix_more}
use Rattle.hg_mail.specs.declared.message.Message.{Message}
use Rattle.hg_mail.specs.Mailboxes.{Collects, MailboxView, PortView}
use Rattle.hg_board.specs.Seats.{SharedNode, SeatView}
use Rattle.hg_board.specs.Calls.{SeatWaits, Stays}
use Rattle.hg_crowd.specs.Crowd.{IsSeat, IsStill}
use Rattle.hg_storm.specs.declared.plan.Plan.{Plan}
use Rattle.hg_storm.specs.declared.sending.Dispatch.{Dispatch}
use Rattle.hg_storm.specs.declared.taking.RefusedMessage.{RefusedMessage}
use Rattle.hg_storm.specs.declared.desk.Desk.{Desk}
use Rattle.hg_storm.specs.Fates.{HasFates}
use Rattle.hg_storm.specs.Keeping.{AddsNoRow, Secrets, rows_made}
use Rattle.hg_storm.specs.Receiving.{HasCollectedAlone, IsInbox, LosesRest, LosesSome, TakesMore}
use Rattle.hg_storm.specs.Sending.{HasSent, NoneBack, bytes_seen}
use Rattle.hg_storm.specs.Turning.{HasPut, HasServed, HasStopped, Stands}
use Rattle.hg_storm.proofs.KeepLaws.{waiting_keeps}
use Rattle.hg_storm.proofs.MadeLaws.{came_below, no_row_more, no_row_on, none_made, waits_none}
use Rattle.hg_storm.proofs.SendLaws.{counted_later}
use Rattle.hg_storm.proofs.TurnLaws.{alone_on, inbox_on, served_read}

-- a seat that had taken messages waited then
module _ (p : SharedNode Secrets) (s t u : SeatView Secrets) (taken : List Message) (refused : List RefusedMessage) (still : IsStill s t) (none : AddsNoRow s t) (fates : HasFates accepts_by p t taken refused)
    (stays : Stays accepts_by p t u) (waits : SeatWaits accepts_by p t u) where
  pub waited_first : IsPrefix s.seen u.seen
  waited_first = prefix_more s.seen t.seen u.seen still.seen stays.seen

  pub waited_seat : IsSeat accepts_by p u
  waited_seat = record { of = stays.of; begun = stays.begun; within = stays.within; node = stays.node }

  pub waited_none : AddsNoRow s u
  waited_none = no_row_on s t u still.seen none (none_made t u (came_below t.seen taken t.mine fates.came) (waits_none accepts_by p t u waits))

  pub waited_fates : HasFates accepts_by p u taken refused
  waited_fates = waiting_keeps Secrets accepts_by p t u waits taken refused fates

-- a seat that added nothing made no row
pub quiet_none : (p : SharedNode Secrets) (s t : SeatView Secrets) (taken : List Message) (refused : List RefusedMessage) → HasFates accepts_by p s taken refused → IsPrefix s.seen t.seen → t.mine ≡ s.mine → AddsNoRow s t
quiet_none p s t taken refused fates first mine = none_made s t (came_below s.seen taken s.mine fates.came) (record { begins = first; mine = mine })

-- what was put through a port, once the node has more rows
put_later : (plan : Plan) (me place turns k : ℕ) (p : SharedNode Secrets) (s t : SeatView Secrets) (m : MailboxView) (d : Dispatch) (q : PortView) → IsPrefix s.seen t.seen →
    HasServed plan me place turns (bytes_seen p s) k m d q → HasPut me (bytes_seen p t) m d q
put_later plan me place turns k p s t m d q first was = record { sent = counted_later p s t m me d.sent q first was.sent; told = omega (arith, was.sent.mine); back = was.back }

-- a desk on which no row was made
module _ (plan : Plan) (place : ℕ) (mails : List MailboxView) (p : SharedNode Secrets) (drawn made : ℕ) (old new : Desk) (was : Stands plan place mails p drawn made old)
    (me : new.me ≡ old.me) (first : IsPrefix old.seat.seen new.seat.seen) (seat : IsSeat accepts_by p new.seat) (none : AddsNoRow old.seat new.seat) (idle : new.log.idle ≡ old.log.idle)
    (dispatches : new.log.dispatches.items ≡ old.log.dispatches.items)
    (fates : HasFates accepts_by p new.seat new.log.intake.taken.items new.log.intake.refused.items) where
  abbrev taken : List Message
  taken = old.log.intake.taken.items

  abbrev taken_now : List Message
  taken_now = new.log.intake.taken.items

  rows_now : List (List ℕ)
  rows_now = bytes_seen p new.seat

  abbrev HasPutAll : ℕ → Type 0
  HasPutAll own = (k : ℕ) (m : MailboxView) (c : Dispatch) (q : PortView) → k < length mails →
      HasPut own (bytes_seen p new.seat) (get_or mails k m) (get_or new.log.dispatches.items k c) (get_or new.ports.items k q)

  abbrev HasOut : ℕ → List Message → Type 0
  HasOut own out = (m : MailboxView) → IsInbox (get_or mails own m) out new.inbox

  rows_same : rows_made new.seat + new.log.idle ≡ made
  rows_same = omega (arith, no_row_more old.seat new.seat first none, idle, was.rows)

  stops : (lost : List Message) → HasOut old.me (taken_now ++ lost) → HasCollectedAlone made new.inbox.count ⊎ HasCollectedAlone (made + 1) new.inbox.count → HasPutAll old.me → HasStopped mails p made new
  stops lost box alone put = record {
    me = subst (λ (own : ℕ). own < length mails) (sym me) was.me;
    seat = seat;
    fates = fates;
    lost = lost;
    inbox = subst (λ (own : ℕ). HasOut own (taken_now ++ lost)) (sym me) box;
    alone = alone;
    rows = rows_same;
    put = subst HasPutAll (sym me) put;
  }

  -- what was sent stands
  put_same : new.ports.items ≡ old.ports.items → HasPutAll old.me
  put_same ports k m c q inside =
      subst (λ (x : List Dispatch × List PortView). HasPut old.me (bytes_seen p new.seat) (get_or mails k m) (get_or x.0 k c) (get_or x.1 k q)) (λ i. (sym dispatches i, sym ports i))
      (put_later plan old.me place drawn k p old.seat new.seat (get_or mails k m) (get_or old.log.dispatches.items k c) (get_or old.ports.items k q) first (was.served.each k m c q inside))

  -- in a call that takes what came
  module _ (m : MailboxView) (m_is : m ≡ get_or mails old.me m) (ports : new.ports.items ≡ old.ports.items) where
    own_inbox : IsInbox m taken old.inbox
    own_inbox = subst (λ (x : MailboxView). IsInbox x taken old.inbox) (sym m_is) (was.inbox m)

    of_own : (out : List Message) → IsInbox m out new.inbox → HasOut old.me out
    of_own out is n = subst (λ (x : MailboxView). IsInbox x out new.inbox) (m_is ∙ get_or_default mails old.me m n was.me) is

    counted_once : (more : List Message) → Collects m.room old.inbox more new.inbox → HasCollectedAlone (made + 1) new.inbox.count
    counted_once more collects = alone_on m.room made old.inbox new.inbox more was.alone collects

    none_out : (new.inbox ≡ old.inbox) × (taken_now ≡ taken) → HasStopped mails p made new
    none_out same =
        let out : taken ≡ taken_now ++ [] = sym same.1 ∙ sym (append-nil taken_now) in
        stops [] (λ n. subst (λ (x : List Message × PortView). IsInbox (get_or mails old.me n) x.0 x.1) (λ i. (out i, sym same.0 i)) (was.inbox n))
        (inl (subst (λ (x : PortView). HasCollectedAlone made x.count) (sym same.0) was.alone)) (put_same ports)

    some_out : LosesSome m old.inbox new.inbox taken taken_now → HasStopped mails p made new
    some_out some =
        stops some.lost (of_own (taken_now ++ some.lost) (inbox_on m taken (taken_now ++ some.lost) old.inbox new.inbox own_inbox some.out))
        (inr (counted_once some.out.more some.out.collects)) (put_same ports)

    pub stops_taking : LosesRest m old.inbox new.inbox taken taken_now → HasStopped mails p made new
    stops_taking loses = ⊎_elim none_out some_out loses

    -- .. and in one that makes a row
    pub stops_making : TakesMore m old.inbox new.inbox taken taken_now → HasStopped mails p made new
    stops_making takes =
        let all : taken_now ≡ taken_now ++ [] = sym (append-nil taken_now) in
        stops [] (of_own (taken_now ++ []) (subst (λ (out : List Message). IsInbox m out new.inbox) all (inbox_on m taken taken_now old.inbox new.inbox own_inbox takes)))
        (inr (counted_once takes.more takes.collects)) (put_same ports)

  -- in a call that sends to a member
  module _ (k : ℕ) (inside : k < length mails) (m : MailboxView) (c : Dispatch) (q r : PortView)
      (m_is : m ≡ get_or mails k m) (c_is : c ≡ get_or old.log.dispatches.items k c) (q_is : q ≡ get_or old.ports.items k q)
      (counted : HasSent m old.me (bytes_seen p new.seat) r.count.mine r) (more : q.count.mine ≤ r.count.mine) (back : NoneBack q r)
      (ports : new.ports.items ≡ set old.ports.items k r) (inbox : new.inbox ≡ old.inbox) (intake : taken_now ≡ taken) where
    before : HasServed plan old.me place drawn (bytes_seen p old.seat) k m c q
    before = served_read plan old.me place drawn (bytes_seen p old.seat) mails old.log.dispatches.items old.ports.items k m c q was.served inside m_is c_is q_is

    now : HasPut old.me (bytes_seen p new.seat) m c r
    now = record { sent = counted; told = omega (arith, before.sent.mine, more); back = back ∙ before.back }

    put_now : (j : ℕ) (n : MailboxView) (d : Dispatch) (e : PortView) → j < length mails →
        HasPut old.me (bytes_seen p new.seat) (get_or mails j n) (get_or old.log.dispatches.items j d) (get_or (set old.ports.items k r) j e)
    put_now j n d e low = dite (ℕ_discrete j k)
        (λ same.
        let mail_is : m ≡ get_or mails j n = m_is ∙ (get_or_default mails k m n inside ∙ ap (λ (i : ℕ). get_or mails i n) (sym same)) in
        let told_is : c ≡ get_or old.log.dispatches.items j d =
        c_is ∙ (get_or_default old.log.dispatches.items k c d (omega (arith, inside, was.served.dispatches)) ∙ ap (λ (i : ℕ). get_or old.log.dispatches.items i d) (sym same)) in
        let port_is : r ≡ get_or (set old.ports.items k r) j e =
        sym (ap (λ (i : ℕ). get_or (set old.ports.items k r) i e) same ∙ get_or-set_same old.ports.items k r e (omega (arith, inside, was.served.ports))) in
        subst (λ (x : MailboxView × Dispatch × PortView). HasPut old.me (bytes_seen p new.seat) x.0 x.1 x.2) (λ i. (mail_is i, told_is i, port_is i)) now)
        (λ ne.
        subst (λ (x : PortView). HasPut old.me (bytes_seen p new.seat) (get_or mails j n) (get_or old.log.dispatches.items j d) x) (sym (get_or-set_other old.ports.items k j r e ne))
        (put_later plan old.me place drawn j p old.seat new.seat (get_or mails j n) (get_or old.log.dispatches.items j d) (get_or old.ports.items j e) first (was.served.each j n d e low)))

    pub stops_sending : HasStopped mails p made new
    stops_sending =
        let out : taken ≡ taken_now ++ [] = sym intake ∙ sym (append-nil taken_now) in
        stops [] (λ n. subst (λ (x : List Message × PortView). IsInbox (get_or mails old.me n) x.0 x.1) (λ i. (out i, sym inbox i)) (was.inbox n))
        (inl (subst (λ (x : PortView). HasCollectedAlone made x.count) (sym inbox) was.alone))
        (λ j n d e low. subst (λ (x : List Dispatch × List PortView). HasPut old.me (bytes_seen p new.seat) (get_or mails j n) (get_or x.0 j d) (get_or x.1 j e)) (λ i. (sym dispatches i, sym ports i)) (put_now j n d e low))
