-- What the threads have before they begin: the first ports as others are given out, and desks that have done nothing
use Rattle.std.proofs.Common.{◌≡◌, ◌≢◌, ⊎_elim, ℕ, ◌+◌, ◌-◌, ◌<◌, ◌≤◌, Bool, true, false, nat_le, List, [], ◌∷◌, ◌++◌, length, length-append, append_assoc, append-nil, get_or, set, replicate, refl, sym, ap, ◌∙◌, subst, arith}
use Rattle.std.specs.Prelude.{All}
use Rattle.std.proofs.lemmas.Bool.{cases_lt, le-leb, lt-leb}
use Rattle.std.proofs.lemmas.List.{get_or_append_left, get_or_at, get_or_default, get_or_push, get_or-replicate, length-replicate}
use mathlib.Core.Logic.{dite}
use native.Mathlib.Decide.{ℕ_discrete}
use Rattle.hg_life.specs.Signing.{accepts_by}
use Rattle.hg_mail.specs.declared.message.Message.{Message}
use Rattle.hg_mail.specs.declared.view.View.{View}
use Rattle.hg_mail.specs.declared.view.CountView.{CountView}
use Rattle.hg_mail.specs.Count.{all_parts, one_part}
use Rattle.hg_mail.specs.Messages as mail
use Rattle.hg_mail.specs.Messages.{sender_view, receiver_view}
use Rattle.hg_mail.specs.Mailboxes.{IsOpened, IsPortOf, MailboxView, PortView, after_hand, after_issue, handed, issued}
use Rattle.hg_board.specs.Seats.{IsOf, SharedNode, SeatView}
use Rattle.hg_board.specs.Calls.{after_split, split_off}
use Rattle.hg_board.proofs.PositionLaws.{times_none}
use Rattle.hg_crowd.specs.Crowd.{AreSeats, IsSeat}
use Rattle.hg_crowd.specs.Workers.{HasMore}
use Rattle.hg_crowd.proofs.ListLaws.{pair_at, some_of}
use Rattle.hg_crowd.proofs.WorkLaws.{seat_after_split, seat_split_off}
use Rattle.hg_storm.specs.declared.plan.Plan.{Plan}
use Rattle.hg_storm.specs.declared.sending.Dispatch.{Dispatch}
use Rattle.hg_storm.specs.declared.taking.RefusedMessage.{RefusedMessage}
use Rattle.hg_storm.specs.declared.desk.Log.{Log}
use Rattle.hg_storm.specs.declared.desk.Desk.{Desk}
use Rattle.hg_storm.specs.declared.desk.Job.{Job}
use Rattle.hg_storm.specs.Drawing.{HasDrawn, first_state}
use Rattle.hg_storm.specs.Fates.{HasFates}
use Rattle.hg_storm.specs.Keeping.{Secrets, rows_made}
use Rattle.hg_storm.specs.Receiving.{HasCollectedAlone, IsInbox, TookAllDue}
use Rattle.hg_storm.specs.Sending.{bytes_seen}
use Rattle.hg_storm.specs.Turning.{HasServed, HasServedAll, Standing}
use Rattle.hg_storm.specs.Threads.{AreIssued, AreIssuing, AreNewJobs, AreNewSenders, AreOpened, HaveRoom, IsFirstPort, IsNewDesk, IsNewJob, IsNewLog, IsNewReceiver, IsNewSender, MayRun, away, no_dispatch, opened_view}
use Rattle.hg_storm.proofs.PairLaws.{pair_read, pairs_map, pairs_push, pairs_set}

-- ---- mailboxes and their first ports

opened_first : (room k : ℕ) (m : MailboxView) (q : PortView) → IsOpened room m q → IsFirstPort 0 0 k m q
opened_first room k m q opened =
    let first : nat_le 0 k ≡ true = le-leb 0 k (omega arith) in record {
      of = opened.of;
      view = opened.view ∙ ap (opened_view 0) (sym first);
      parts = subst (λ (b : Bool). q.count.parts + 0 + away b ≡ all_parts) (sym first) (omega (arith, ap (λ (c : CountView). c.parts) opened.count));
      mine = ap (λ (c : CountView). c.mine) opened.count;
      back = ap (λ (c : CountView). c.full) opened.count;
      collects = ap (λ (c : CountView). c.collects) opened.count;
      finds = ap (λ (c : CountView). c.findings) opened.count;
    }

-- so many mailboxes are open
pub record Opening (n places : ℕ) (mails : List MailboxView) (masters : List PortView) : Type 0 where
  pub count : length mails ≡ n
  pub opened : AreOpened 0 mails masters
  pub room : HaveRoom places mails

pub opening_none : (room : ℕ) (mails : List MailboxView) (masters : List PortView) → mails ≡ [] → masters ≡ [] → Opening 0 room mails masters
opening_none room mails masters no_mail no_master = record {
  count = ap length no_mail;
  opened = record {
    count = ap length no_master ∙ sym (ap length no_mail);
    each = λ k m q inside. absurd (omega (arith, ap length no_mail, inside));
  };
  room = λ k m inside. absurd (omega (arith, ap length no_mail, inside));
}

pub opening_one : (i room : ℕ) (mails more_mails : List MailboxView) (masters more_masters : List PortView) (m : MailboxView) (q : PortView) → Opening i room mails masters → IsOpened room m q →
    more_mails ≡ mails ++ m ∷ [] → more_masters ≡ masters ++ q ∷ [] → Opening (i + 1) room more_mails more_masters
opening_one i room mails more_mails masters more_masters m q so opened mails_are masters_are = record {
  count = omega (arith, ap length mails_are, length-append mails (m ∷ []), so.count);
  opened = subst (λ (z : List MailboxView × List PortView). AreOpened 0 z.0 z.1) (λ j. (sym mails_are j, sym masters_are j))
      (pairs_push (IsFirstPort 0 0) mails masters m q so.opened (opened_first room (length mails) m q opened));
  room = subst (HaveRoom room) (sym mails_are) pushed;
}
  where
    pushed : HaveRoom room (mails ++ m ∷ [])
    pushed k d inside = dite (ℕ_discrete k (length mails))
        (λ e.
        let at : k ≡ length mails = e in
        ap (λ (x : MailboxView). x.room) (get_or_push mails m d k (sym at)) ∙ opened.room)
        (λ ne.
        let early : k < length mails = omega (arith, ne, inside, length-append mails (m ∷ [])) in
        ap (λ (x : MailboxView). x.room) (get_or_append_left mails (m ∷ []) d k early) ∙ so.room k d early)

-- ---- a port of each mailbox for one member

-- what is away is at most one part
away_few : (b : Bool) → away b ≤ 1
away_few true = omega arith
away_few false = omega arith

first_gives : (issued_count bound k : ℕ) (m : MailboxView) (q : PortView) → IsFirstPort issued_count bound k m q → q.view.gives ≡ true
first_gives n bound k m q first = ap (λ (v : View). v.gives) first.view

first_parts : (issued_count bound k : ℕ) (m : MailboxView) (q : PortView) → issued_count ≤ 128 → IsFirstPort issued_count bound k m q → 1 < q.count.parts
first_parts n bound k m q few first = omega (arith, first.parts, away_few (nat_le bound k), few)

issued_first : (me k : ℕ) (m : MailboxView) (q new : PortView) → me ≤ 128 → IsFirstPort me me k m q → new ≡ after_issue q → IsFirstPort (me + 1) me k m new
issued_first me k m q new few first is = subst (IsFirstPort (me + 1) me k m) (sym is) (record {
  of = first.of;
  view = ap mail.after_issue first.view;
  parts = omega (arith, first.parts, first_parts me me k m q few first);
  mine = first.mine;
  back = first.back;
  collects = first.collects;
  finds = first.finds;
})

new_sender : (me bound k : ℕ) (m : MailboxView) (q port : PortView) → IsFirstPort me bound k m q → port ≡ issued q → IsNewSender me m port
new_sender me bound k m q port first is = subst (IsNewSender me m) (sym is) (record {
  of = first.of;
  view = ap (λ (v : View). sender_view v.next []) first.view;
  count = ap one_part first.of.2;
})

-- ports of the first mailboxes, so many, were given out to the member
pub record Issuing (me k room : ℕ) (mails : List MailboxView) (masters ports : List PortView) : Type 0 where
  pub issuing : AreIssuing me k mails masters
  pub count : length ports ≡ k
  pub fits : length mails ≤ room
  pub senders : (j : ℕ) (m : MailboxView) (q : PortView) → j < k → IsNewSender me (get_or mails j m) (get_or ports j q)

pub issuing_none : (me room : ℕ) (mails : List MailboxView) (masters ports : List PortView) → AreOpened me mails masters → ports ≡ [] → length mails ≤ room → Issuing me 0 room mails masters ports
issuing_none me room mails masters ports opened none fits = record {
  issuing = pairs_map (IsFirstPort me me) (λ j m q. (j < 0 → IsFirstPort (me + 1) me j m q) × (0 ≤ j → IsFirstPort me me j m q)) mails masters
      (λ j m q low first. ((λ no. absurd (omega (arith, no))), (λ le. first))) opened;
  count = ap length none;
  fits = fits;
  senders = λ j m q no. absurd (omega (arith, no));
}

module _ (me k room : ℕ) (mails : List MailboxView) (masters ports : List PortView) (m : MailboxView) (q : PortView)
    (so : Issuing me k room mails masters ports) (inside : k < length mails) (m_is : m ≡ get_or mails k m) (q_is : q ≡ get_or masters k q) where
  issuing_first : IsFirstPort me me k m q
  issuing_first =
      (pair_read (λ j n p. (j < k → IsFirstPort (me + 1) me j n p) × (k ≤ j → IsFirstPort me me j n p)) mails masters k m q so.issuing inside m_is q_is).1 (omega arith)

  -- what the port is asked
  pub issuing_of : IsPortOf m q
  issuing_of = issuing_first.of

  pub issuing_gives : q.view.gives ≡ true
  issuing_gives = first_gives me me k m q issuing_first

  pub issuing_parts : me < 128 → 1 < q.count.parts
  issuing_parts few = first_parts me me k m q (omega (arith, few)) issuing_first

  pub issuing_one : (new port : PortView) (more : List PortView) → me < 128 → new ≡ after_issue q → port ≡ issued q → more ≡ ports ++ port ∷ [] → Issuing me (k + 1) room mails (set masters k new) more
  issuing_one new port more few new_is port_is more_is = record {
    issuing = pairs_set (λ j n p. (j < k → IsFirstPort (me + 1) me j n p) × (k ≤ j → IsFirstPort me me j n p))
        (λ j n p. (j < k + 1 → IsFirstPort (me + 1) me j n p) × (k + 1 ≤ j → IsFirstPort me me j n p)) mails masters k m new so.issuing inside m_is
        ((λ early. issued_first me k m q new (omega (arith, few)) issuing_first new_is), (λ past. absurd (omega (arith, past))))
        (λ j n p low ne was. ((λ early. was.0 (omega (arith, early, ne))), (λ past. was.1 (omega (arith, past)))));
    count = omega (arith, ap length more_is, length-append ports (port ∷ []), so.count);
    fits = so.fits;
    senders = λ j n p early. dite (ℕ_discrete j k)
        (λ e.
        let at : j ≡ k = e in
        let is_m : get_or mails j n ≡ m = ap (λ (i : ℕ). get_or mails i n) at ∙ (get_or_default mails k n m inside ∙ sym m_is) in
        let is_port : get_or more j p ≡ port = ap (λ (l : List PortView). get_or l j p) more_is ∙ get_or_push ports port p j (so.count ∙ sym at) in
        subst (λ (z : MailboxView × PortView). IsNewSender me z.0 z.1) (λ i. (sym is_m i, sym is_port i)) (new_sender me me k m q port issuing_first port_is))
        (λ ne.
        let low : j < k = omega (arith, early, ne) in
        let is_port : get_or more j p ≡ get_or ports j p = ap (λ (l : List PortView). get_or l j p) more_is ∙ get_or_append_left ports (port ∷ []) p j (omega (arith, low, so.count)) in
        subst (IsNewSender me (get_or mails j n)) (sym is_port) (so.senders j n p low));
  }

module _ (me k room : ℕ) (mails : List MailboxView) (masters ports : List PortView) (so : Issuing me k room mails masters ports) (all : k ≡ length mails) where
  pub issued_all : AreIssued me mails masters
  issued_all = pairs_map (λ j m q. (j < k → IsFirstPort (me + 1) me j m q) × (k ≤ j → IsFirstPort me me j m q)) (IsFirstPort (me + 1) me) mails masters
      (λ j m q low was. was.0 (omega (arith, low, all))) so.issuing

  pub issued_senders : AreNewSenders me mails ports
  issued_senders = record { count = so.count ∙ all; each = λ j m q low. so.senders j m q (omega (arith, low, all)) }

-- ---- the receiver's port of the member's own mailbox

-- but for the member's own mailbox the bounds are the same
same_bound : (me j : ℕ) → j ≢ me → nat_le me j ≡ nat_le (me + 1) j
same_bound me j ne = ⊎_elim
    (λ (low : j < me). lt-leb me j low ∙ sym (lt-leb (me + 1) j (omega (arith, low))))
    (λ (past : me ≤ j). le-leb me j past ∙ sym (le-leb (me + 1) j (omega (arith, past, ne))))
    (cases_lt j me)

bound_moved : (me j : ℕ) (m : MailboxView) (q : PortView) → j ≢ me → IsFirstPort (me + 1) me j m q → IsFirstPort (me + 1) (me + 1) j m q
bound_moved me j m q ne first = record {
  of = first.of;
  view = first.view ∙ ap (opened_view (me + 1)) (same_bound me j ne);
  parts = subst (λ (b : Bool). q.count.parts + (me + 1) + away b ≡ all_parts) (same_bound me j ne) first.parts;
  mine = first.mine;
  back = first.back;
  collects = first.collects;
  finds = first.finds;
}

module _ (me : ℕ) (mails : List MailboxView) (masters : List PortView) (m : MailboxView) (q : PortView) (opened : AreIssued me mails masters) (inside : me < length mails) (few : length mails ≤ 128)
    (m_is : m ≡ get_or mails me m) (q_is : q ≡ get_or masters me q) where
  own_first : IsFirstPort (me + 1) me me m q
  own_first = pair_read (IsFirstPort (me + 1) me) mails masters me m q opened inside m_is q_is

  own_bound : nat_le me me ≡ true
  own_bound = le-leb me me (omega arith)

  -- what the port is asked
  pub hand_of : IsPortOf m q
  hand_of = own_first.of

  pub hand_takes : q.view.takes ≡ true
  hand_takes = ap (λ (v : View). v.takes) own_first.view ∙ own_bound

  pub hand_parts : 1 < q.count.parts
  hand_parts = first_parts (me + 1) me me m q (omega (arith, inside, few)) own_first

  handed_first : (new : PortView) → new ≡ after_hand q → IsFirstPort (me + 1) (me + 1) me m new
  handed_first new is =
      let gone : nat_le (me + 1) me ≡ false = lt-leb (me + 1) me (omega arith) in
      let whole : q.count.parts + (me + 1) + 0 ≡ 65536 = subst (λ (b : Bool). q.count.parts + (me + 1) + away b ≡ all_parts) own_bound own_first.parts in
      let less : (q.count.parts - 1) + (me + 1) + 1 ≡ 65536 = omega (arith, whole, hand_parts) in
      subst (IsFirstPort (me + 1) (me + 1) me m) (sym is) (record {
        of = own_first.of;
        view = ap mail.after_hand own_first.view ∙ ap (opened_view (me + 1)) (sym gone);
        parts = subst (λ (b : Bool). (q.count.parts - 1) + (me + 1) + away b ≡ all_parts) (sym gone) less;
        mine = own_first.mine;
        back = own_first.back;
        collects = own_first.collects;
        finds = own_first.finds;
      })

  pub hand_all : (new : PortView) → new ≡ after_hand q → AreOpened (me + 1) mails (set masters me new)
  hand_all new is =
      pairs_set (IsFirstPort (me + 1) me) (IsFirstPort (me + 1) (me + 1)) mails masters me m new opened inside m_is (handed_first new is) (λ j n p low ne first. bound_moved me j n p ne first)

  pub new_receiver : (port : PortView) → port ≡ handed q → (d : MailboxView) → IsNewReceiver (get_or mails me d) port
  new_receiver port is d =
      let at : get_or mails me d ≡ m = get_or_default mails me d m inside ∙ sym m_is in
      subst (λ (z : MailboxView × PortView). IsNewReceiver z.0 z.1) (λ i. (sym at i, sym is i)) (record {
        of = own_first.of;
        view = ap (λ (v : View). receiver_view v.taken) own_first.view;
        count = ap one_part own_first.of.2;
      })

-- ---- the members' jobs

none_left : {A : Type 0} (xs : List A) → length xs ≡ 0 → xs ≡ []
none_left [] none = refl
none_left (x ∷ xs) none = absurd (omega (arith, none))

-- the first of these seats have their members' jobs, and the last are left
pub record Seating (mails : List MailboxView) (seed : ℕ) (seats : List (SeatView Secrets)) (masters : List PortView) (jobs : List Job) (left : List (SeatView Secrets)) : Type 0 where
  pub opened : AreOpened (length jobs) mails masters
  pub firsts : List (SeatView Secrets)
  pub all : firsts ++ left ≡ seats
  pub new : AreNewJobs mails seed firsts jobs

pub seating_none : (mails : List MailboxView) (seed : ℕ) (seats : List (SeatView Secrets)) (masters : List PortView) (jobs : List Job) (left : List (SeatView Secrets)) →
    AreOpened 0 mails masters → jobs ≡ [] → left ≡ seats → Seating mails seed seats masters jobs left
seating_none mails seed seats masters jobs left opened none all = record {
  opened = subst (λ (n : ℕ). AreOpened n mails masters) (sym (ap length none)) opened;
  firsts = [];
  all = all;
  new = record { count = ap length none; each = λ k s j no. absurd (omega (arith, no)) };
}

module _ (mails : List MailboxView) (seed : ℕ) (seats : List (SeatView Secrets)) (masters : List PortView) (jobs : List Job) (first : SeatView Secrets) (left : List (SeatView Secrets))
    (so : Seating mails seed seats masters jobs (first ∷ left)) (n : ℕ) (at : n ≡ length jobs) where
  seating_below : n < length seats
  seating_below = omega (arith, at, ap length so.all, length-append so.firsts (first ∷ left), so.new.count)

  pub seating_inside : length seats ≡ length mails → n < length mails
  seating_inside count = omega (arith, count, seating_below)

  pub seating_opened : AreOpened n mails masters
  seating_opened = subst (λ (k : ℕ). AreOpened k mails masters) (sym at) so.opened

  seating_at : first ≡ get_or seats n first
  seating_at = sym (get_or_at so.firsts first left first n (sym (at ∙ so.new.count))) ∙ ap (λ (l : List (SeatView Secrets)). get_or l n first) so.all

  pub seating_seat : (places : List (SharedNode Secrets)) (p : SharedNode Secrets) → AreSeats accepts_by places seats → p ≡ get_or places n p → IsOf p first
  seating_seat places p are is = (pair_at (IsSeat accepts_by) places seats n p first are (omega (arith, are.count, seating_below)) is seating_at).of

  pub seating_parts : All (HasMore 1) seats → 1 < first.parts
  seating_parts more = subst (HasMore 1) (sym seating_at) (more n first seating_below)

  pub seating_one : (seat_now own : SeatView Secrets) (masters_now : List PortView) (desk : Desk) (job : Job) (jobs_now : List Job) → seat_now ≡ after_split first →
      own ≡ split_off first → AreOpened (n + 1) mails masters_now → IsNewDesk mails seed n own desk → job.desk ≡ desk → job.seat ≡ seat_now → jobs_now ≡ jobs ++ job ∷ [] →
      Seating mails seed seats masters_now jobs_now left
  seating_one seat_now own masters_now desk job jobs_now seat_is own_is opened new_desk desk_is job_seat jobs_are =
      let here : IsNewJob mails seed n first job = record {
        desk = subst (λ (z : SeatView Secrets × Desk). IsNewDesk mails seed n z.0 z.1) (λ i. (own_is i, sym desk_is i)) new_desk;
        seat = job_seat ∙ seat_is;
      } in
      let long : n + 1 ≡ length jobs_now = omega (arith, at, ap length jobs_are, length-append jobs (job ∷ [])) in
      record {
        opened = subst (λ (k : ℕ). AreOpened k mails masters_now) long opened;
        firsts = so.firsts ++ first ∷ [];
        all = append_assoc so.firsts (first ∷ []) left ∙ so.all;
        new = subst (AreNewJobs mails seed (so.firsts ++ first ∷ [])) (sym jobs_are)
            (pairs_push (IsNewJob mails seed) so.firsts jobs first job so.new (subst (λ (k : ℕ). IsNewJob mails seed k first job) (at ∙ so.new.count) here));
      }

module _ (mails : List MailboxView) (seed : ℕ) (seats : List (SeatView Secrets)) (masters : List PortView) (jobs : List Job) (left : List (SeatView Secrets)) (so : Seating mails seed seats masters jobs left)
    (none : length left ≡ 0) where
  seated : so.firsts ≡ seats
  seated = sym (append-nil so.firsts) ∙ (ap (λ (l : List (SeatView Secrets)). so.firsts ++ l) (sym (none_left left none)) ∙ so.all)

  pub seated_all : AreNewJobs mails seed seats jobs
  seated_all = subst (λ (l : List (SeatView Secrets)). AreNewJobs mails seed l jobs) seated so.new

  pub seated_masters : length seats ≡ length mails → AreOpened (length mails) mails masters
  seated_masters count = subst (λ (n : ℕ). AreOpened n mails masters) (so.new.count ∙ (ap length seated ∙ count)) so.opened

-- ---- a new job may run

-- nothing was sent to a member
served_none : (plan : Plan) (place own : ℕ) (rows : List (List ℕ)) (k : ℕ) (m : MailboxView) (q : PortView) → IsNewSender own m q → HasServed plan own place 0 rows k m no_dispatch q
served_none plan place own rows k m q new = record {
  sent = record {
    of = new.of;
    put = new.view;
    within = omega arith;
    part = ap (λ (c : CountView). c.parts) new.count;
    mine = ap (λ (c : CountView). c.mine) new.count;
    none = ap (λ (c : CountView). c.collects) new.count;
    finds = ap (λ (c : CountView). c.findings) new.count;
  };
  counted = record {
    drawn = λ no. absurd (omega (arith, no));
    due = λ (has : HasDrawn plan own place 0 k). absurd (omega (arith, has.early));
    late = omega arith;
    sent = λ none. refl;
    few = omega arith;
  };
  back = ap (λ (c : CountView). c.full) new.count;
  full = λ no. absurd (omega (arith, no));
}

served_nobody : (plan : Plan) (place own : ℕ) (rows : List (List ℕ)) (mails : List MailboxView) (ds : List Dispatch) (ports : List PortView) → ds ≡ replicate (length mails) no_dispatch →
    AreNewSenders own mails ports → HasServedAll plan own place 0 rows mails ds ports
served_nobody plan place own rows mails ds ports none new = record {
  dispatches = ap length none ∙ length-replicate (length mails) no_dispatch;
  ports = new.count;
  each = λ k m d q inside.
      let is : get_or ds k d ≡ no_dispatch = ap (λ (l : List Dispatch). get_or l k d) none ∙ get_or-replicate (length mails) k no_dispatch d inside in
      subst (λ (x : Dispatch). HasServed plan own place 0 rows k (get_or mails k m) x (get_or ports k q)) (sym is)
      (served_none plan place own rows k (get_or mails k m) (get_or ports k q) (new.each k m q inside));
}

fates_none : (p : SharedNode Secrets) (first : SeatView Secrets) → HasFates accepts_by p (split_off first) [] []
fates_none p first = record { refusals = tt; once = tt; held = λ j no. absurd (omega (arith, no)); came = tt }

alone_first : (n : CountView) (room : ℕ) → n ≡ one_part room → HasCollectedAlone 0 n
alone_first n room is = subst (HasCollectedAlone 0) (sym is) (record { parts = refl; mine = refl; full = refl; collects = refl; each = refl })

-- no collect took anything
took_none : (room least : ℕ) (inbox : PortView) → inbox.count ≡ one_part room → TookAllDue least inbox.count.findings 0
took_none room least inbox new = subst (λ (n : CountView). TookAllDue least n.findings 0) (sym new) (record { parts = []; all = refl; each = tt })

-- with a seat that added nothing, ports that put in nothing, one that took nothing, and an empty log
begins : (plan : Plan) (place : ℕ) (mails : List MailboxView) (p : SharedNode Secrets) (own : ℕ) (log : Log) (first : SeatView Secrets) (ports : List PortView) (inbox : PortView) → own < length mails → 0 < p.start.start.limit →
    IsSeat accepts_by p first → IsNewLog (length mails) log → AreNewSenders own mails ports → ((m : MailboxView) → IsNewReceiver (get_or mails own m) inbox) →
    Standing plan place mails p 0 0 own log (split_off first) ports inbox
begins plan place mails p own log first ports inbox inside room seat new senders box = record {
  me = inside;
  seat = seat_split_off accepts_by p first seat;
  fates = subst (λ (z : List Message × List RefusedMessage). HasFates accepts_by p (split_off first) z.0 z.1) (λ i. (sym new.taken i, sym new.refused i)) (fates_none p first);
  inbox = λ m. subst (λ (l : List Message). IsInbox (get_or mails own m) l inbox) (sym new.taken) (record { of = (box m).of; view = (box m).view; took = took_none (get_or mails own m).room (get_or mails own m).room inbox (box m).count });
  alone = alone_first inbox.count (get_or mails own (some_of mails own inside)).room (box (some_of mails own inside)).count;
  served = served_nobody plan place own (bytes_seen p (split_off first)) mails log.dispatches.items ports new.dispatches senders;
  room = room;
  some = λ no. absurd (omega (arith, no));
  rows = omega (arith, new.idle, none_made);
  turned = record {
    each = λ q row own at. absurd (omega (arith, own, times_none q));
    rising = λ q r a b own other less at there. absurd (omega (arith, own, times_none q));
  };
  idle = new.idle;
  ended = λ no. absurd (omega (arith, no));
  dues = λ k d drew. absurd (omega (arith, drew.early));
}
  where
    none_made : rows_made (split_off first) ≡ 0
    none_made = refl

new_job_may_run : (plan : Plan) (mails : List MailboxView) (places : List (SharedNode Secrets)) (k : ℕ) (first : SeatView Secrets) (job : Job) → k < length mails → length places ≡ length mails →
    ((p : SharedNode Secrets) → 0 < (get_or places k p).start.start.limit) → ((p : SharedNode Secrets) → IsSeat accepts_by (get_or places k p) first) → IsNewJob mails plan.seed k first job → MayRun mails places plan job
new_job_may_run plan mails places k first job inside count room seat new =
    let d = new.desk in
    let me : k ≡ job.desk.me = sym d.me in
    record {
      me = omega (arith, me, inside);
      count = count;
      stands = λ place p. subst (λ (z : ℕ × SeatView Secrets). Standing plan place mails (get_or places z.0 p) 0 0 z.0 job.desk.log z.1 job.desk.ports.items job.desk.inbox) (λ i. (me i, sym d.seat i))
          (begins plan place mails (get_or places k p) k job.desk.log first job.desk.ports.items job.desk.inbox inside (room p) (seat p) d.log d.ports d.inbox);
      draws = λ others. d.draws ∙ ap (λ (n : ℕ). first_state plan.seed n) me;
      seat = λ p. subst (λ (z : ℕ × SeatView Secrets). IsSeat accepts_by (get_or places z.0 p) z.1) (λ i. (me i, sym new.seat i)) (seat_after_split accepts_by (get_or places k p) first (seat p));
    }

pub new_jobs_may_run : (plan : Plan) (mails : List MailboxView) (places : List (SharedNode Secrets)) (firsts : List (SeatView Secrets)) (jobs : List Job) →
    length places ≡ length mails → ((k : ℕ) (p : SharedNode Secrets) → k < length places → 0 < (get_or places k p).start.start.limit) → AreSeats accepts_by places firsts → AreNewJobs mails plan.seed firsts jobs → All (MayRun mails places plan) jobs
new_jobs_may_run plan mails places firsts jobs count rooms seats new k job inside =
    let low : k < length firsts = omega (arith, inside, new.count) in
    let below : k < length places = omega (arith, low, seats.count) in
    let s : SeatView Secrets = some_of firsts k low in
    new_job_may_run plan mails places k (get_or firsts k s) (get_or jobs k job) (omega (arith, below, count)) count (λ p. rooms k p below) (λ p. seats.each k p s below) (new.each k s job low)

pub new_job_me : (mails : List MailboxView) (seed : ℕ) (firsts : List (SeatView Secrets)) (jobs : List Job) (k : ℕ) (d : Job) →
    AreNewJobs mails seed firsts jobs → k < length jobs → (get_or jobs k d).desk.me ≡ k
new_job_me mails seed firsts jobs k d new inside =
    let low : k < length firsts = omega (arith, inside, new.count) in
    (new.each k (some_of firsts k low) d low).desk.me
