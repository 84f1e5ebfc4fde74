-- A member's turn: what it takes and makes, and what it sends
use Rattle.std.proofs.Common.{◌≡◌, ◌≢◌, ⊎_elim, ℕ, zero, suc, ◌==◌, ◌+◌, ◌<◌, ◌≤◌, Bool, true, false, cond, List, [], ◌∷◌, ◌++◌, length, length-append, length-set, set, get_or, refl, sym, ap, ◌∙◌, subst, arith}
use mathlib.Core.Logic.{dite}
use native.Mathlib.Decide.{ℕ_discrete}
use Rattle.std.proofs.lemmas.Bool.{eq-eqb}
use Rattle.std.proofs.lemmas.List.{get_or-set_same, get_or-set_other, get_or_default}
use Rattle.std.proofs.Math.Seq.{take-length}
use Rattle.hg_model.specs.Orders.{IsPrefix}
use Rattle.hg_life.specs.History.{Change}
use Rattle.hg_life.specs.NodeView.{NodeView}
use Rattle.hg_life.specs.Signing.{accepts_by}
use Rattle.hg_gossip.specs.Holding.{positions_from}
use Rattle.hg_mail.specs.declared.message.Message.{Message}
use Rattle.hg_mail.specs.declared.view.View.{View}
use Rattle.hg_mail.specs.declared.view.Finding.{Finding}
use Rattle.hg_mail.specs.Messages.{after_taking, receiver_view}
use Rattle.hg_mail.specs.Mailboxes.{Collects, MailboxView, PortView}
use Rattle.hg_board.specs.Positions.{AreBelow}
use Rattle.hg_board.specs.Table.{node_at}
use Rattle.hg_board.specs.Seats.{SharedNode, SeatView}
use Rattle.hg_board.specs.Calls.{Stays}
use Rattle.hg_board.proofs.PrefixLaws.{prefix_length}
use Rattle.hg_history.proofs.StateLaws.{prefix_more}
use Rattle.hg_crowd.specs.Crowd.{IsStill}
use Rattle.hg_storm.specs.declared.plan.Plan.{Plan}
use Rattle.hg_storm.specs.declared.sending.Dispatch.{Dispatch}
use Rattle.hg_storm.specs.declared.desk.Log.{Log}
use Rattle.hg_made.specs.Draws.{next_state, state_after}
use Rattle.hg_storm.specs.Drawing.{Draws, HasDrawn, IsDrawing, first_state, peer_at, state_at, times_drawn}
use Rattle.hg_storm.specs.Fates.{HasFates}
use Rattle.hg_storm.specs.Keeping.{AddsNoRow, KeepsSeat, Secrets, rows_made, rows_made_in}
use Rattle.hg_storm.specs.Receiving.{HasCollectedAlone, IsInbox, TakesMore, TookAllDue}
use Rattle.hg_storm.proofs.TakeLaws.{took_next}
use Rattle.hg_storm.specs.Sending.{Dispatches, HasSent, IsDue, SendsAll, SendsSome, bytes_seen}
use Rattle.hg_storm.specs.Turning.{AreIdle, HasCounted, HasEnded, HasMade, HasServed, HasServedAll, IsCounted, IsIdleTurn, Standing, WasDue, is_row}
use Rattle.hg_storm.proofs.KeepLaws.{making_keeps, still_keeps}
use Rattle.hg_storm.proofs.MadeLaws.{came_below, from_past, made_whole, next_begins, next_early, next_mine, no_row_more, none_made, reached_by}
use Rattle.hg_storm.proofs.SendLaws.{due_least, due_most, rows_longer, sent_later}
use Rattle.hg_storm.proofs.DueLaws.{counted_on, due_later, due_next, due_now, due_still, ended_on, idle_later, idle_next}
use Rattle.hg_storm.proofs.NextLaws.{ends_now, idle_now, rows_after, some_rows}
use Rattle.hg_storm.proofs.TurnRowLaws.{turned_more, turned_on}

-- what was sent, once the node has more rows

counted_later : (Drawn : Type 0) (rows more turns : ℕ) (d : Dispatch) → rows ≤ more → IsCounted Drawn rows turns d → IsCounted Drawn more turns d
counted_later Drawn rows more turns d le was = record { drawn = was.drawn; due = was.due; late = omega (arith, was.late, le); sent = was.sent; few = was.few }

module _ (plan : Plan) (me place : ℕ) (p : SharedNode Secrets) (s t : SeatView Secrets) (first : IsPrefix s.seen t.seen) where
  pub served_later : (turns k : ℕ) (m : MailboxView) (d : Dispatch) (q : PortView) → HasServed plan me place turns (bytes_seen p s) k m d q → HasServed plan me place turns (bytes_seen p t) k m d q
  served_later turns k m d q was = record {
    sent = sent_later p s t m me d.sent q first was.sent;
    counted = counted_later (HasDrawn plan me place turns k) (length (bytes_seen p s)) (length (bytes_seen p t)) (times_drawn plan me place turns k) d (rows_longer p s t first) was.counted;
    back = was.back;
    full = was.full;
  }

  pub all_later : (turns : ℕ) (mails : List MailboxView) (ds : List Dispatch) (ports : List PortView) → HasServedAll plan me place turns (bytes_seen p s) mails ds ports →
      HasServedAll plan me place turns (bytes_seen p t) mails ds ports
  all_later turns mails ds ports was = record {
    dispatches = was.dispatches;
    ports = was.ports;
    each = λ k m d q inside. served_later turns k (get_or mails k m) (get_or ds k d) (get_or ports k q) (was.each k m d q inside);
  }

-- what was sent to a member whose mailbox, dispatch and port were read
pub served_read : (plan : Plan) (me place turns : ℕ) (rows : List (List ℕ)) (mails : List MailboxView) (ds : List Dispatch) (ports : List PortView) (k : ℕ) (m : MailboxView) (d : Dispatch) (q : PortView) →
    HasServedAll plan me place turns rows mails ds ports → k < length mails → m ≡ get_or mails k m → d ≡ get_or ds k d → q ≡ get_or ports k q → HasServed plan me place turns rows k m d q
served_read plan me place turns rows mails ds ports k m d q all inside m_is d_is q_is =
    subst (λ (x : MailboxView × Dispatch × PortView). HasServed plan me place turns rows k x.0 x.1 x.2) (λ i. (sym m_is i, sym d_is i, sym q_is i)) (all.each k m d q inside)

-- the draw of a turn
pub drawn_next : (plan : Plan) (me t old new : ℕ) → IsDrawing plan me t old → 1 < length plan.circle.items → new ≡ next_state old → new ≡ state_at plan me (t + 1)
drawn_next plan me t old new is others next =
    next ∙ (ap next_state (is others) ∙ ap (state_after (first_state plan.seed me)) (one t))
  where
    one : (n : ℕ) → suc n ≡ n + 1
    one n = omega arith

-- ---- what a turn takes and makes

pub inbox_on : (m : MailboxView) (old new : List Message) (p q : PortView) → IsInbox m old p → TakesMore m p q old new → IsInbox m new q
inbox_on m old new p q is takes = record {
  of = (takes.collects.queue ∙ is.of.0, takes.collects.table ∙ is.of.1, takes.collects.room_is ∙ is.of.2);
  view = all;
  took = subst (λ (x : List Finding × ℕ). TookAllDue m.room x.0 x.1) (λ i. (sym takes.collects.findings i, sym long i)) (took_next m.room (length old) p.count.findings takes.collects.finding (length takes.more) is.took (record {
    most = takes.collects.most;
    fewer = λ few. omega (arith, takes.collects.fewer few, ap (λ (v : View). length v.taken) all, long);
  }));
}
  where
    all : q.view ≡ receiver_view new
    all = takes.collects.view ∙ (ap (λ (v : View). after_taking v takes.more) is.view ∙ ap receiver_view (sym takes.grown))

    long : length new ≡ length old + length takes.more
    long = ap length takes.grown ∙ length-append old takes.more

-- .. and it collected once more
pub alone_on : (room times : ℕ) (p q : PortView) (more : List Message) → HasCollectedAlone times p.count → Collects room p more q → HasCollectedAlone (times + 1) q.count
alone_on room times p q more is takes = record {
  parts = takes.parts ∙ is.parts;
  mine = takes.mine ∙ is.mine;
  full = takes.full ∙ is.full;
  collects = omega (arith, takes.collects, is.collects);
  each = ap length takes.findings ∙ omega (arith, length-append p.count.findings (takes.finding ∷ []), is.each);
}

-- the turn's row is made, or could not be
module _ (plan : Plan) (place : ℕ) (mails : List MailboxView) (p : SharedNode Secrets) (drawn made me : ℕ) (log log_now : Log) (s t u : SeatView Secrets) (ports : List PortView) (inbox inbox_now : PortView)
    (old : Standing plan place mails p drawn made me log s ports inbox) (m : MailboxView) (m_is : m ≡ get_or mails me m)
    (still : IsStill s t) (keeps : KeepsSeat accepts_by p s t) (no_row : AddsNoRow s t)
    (box : IsInbox m log_now.intake.taken.items inbox_now) (more_out : List Message) (count : Collects m.room inbox more_out inbox_now)
    (fates : HasFates accepts_by p t log_now.intake.taken.items log_now.intake.refused.items)
    (stays : Stays accepts_by p t u) (b : Bool) (has : HasMade p t (made + 1) u b)
    (dispatches : log_now.dispatches.items ≡ log.dispatches.items) (idle : log_now.idle ≡ log.idle + cond b 0 1) where
  first : IsPrefix s.seen u.seen
  first = prefix_more s.seen t.seen u.seen still.seen stays.seen

  more : suc made ≡ made + 1
  more = omega arith

  abbrev before : NodeView Secrets
  before = node_at p.start s.seen

  abbrev after : NodeView Secrets
  after = node_at p.start u.seen

  below : AreBelow (length t.seen) t.mine
  below = came_below t.seen log_now.intake.taken.items t.mine fates.came

  same_made : rows_made t ≡ rows_made s
  same_made = no_row_more s t still.seen no_row

  rows_now : rows_made u + log_now.idle ≡ made + 1
  rows_now =
      let after = rows_after p t u (made + 1) has.answer has.next below in
      let either : ◌≡◌ {A = ℕ} (cond b 0 1) (cond (is_row has.answer) 0 1) = ap (λ (c : Bool). cond c 0 1) has.is in
      omega (arith, after, same_made, old.rows, idle, either, one_each (is_row has.answer))
    where
      one_each : (c : Bool) → ◌≡◌ {A = ℕ} (cond c 1 0 + cond c 0 1) 1
      one_each true = refl
      one_each false = refl

  -- where the turn made nothing, that is after all changes so far
  turn : b ≡ false → (since : ℕ) → since ≤ length u.seen → IsIdleTurn after since (made + 1)
  turn none since later = record { at = length u.seen; later = later; within = omega arith; none = idle_now p t u (made + 1) has.answer has.next (sym has.is ∙ none) }

  idle_all : AreIdle p u.seen (made + 1) log_now.idle
  idle_all =
      let time : made + 1 ≡ 0 + suc made = omega arith in
      subst (λ (k : ℕ). AreIdle p u.seen k log_now.idle) more
      (idle_next after 0 0 made log.idle log_now.idle b idle (λ none. subst (IsIdleTurn after 0) time (turn none 0 (omega arith)))
      (idle_later before after refl first 0 0 made log.idle old.idle))

  ended_now : HasEnded p u (made + 1) log_now.idle
  ended_now = record {
    at = length u.seen;
    over = record {
      within = omega arith;
      end = ends_now p t u (made + 1) has.answer has.next;
      early = log_now.idle;
      rows = ap (λ (n : ℕ). n + log_now.idle) (made_whole u (length u.seen) (omega arith)) ∙ rows_now;
      before = subst (λ (h : List Change). AreIdle p h (made + 1) log_now.idle) (sym (take-length u.seen)) idle_all;
      rest = 0;
      all = omega arith;
      late = 0;
      both = omega arith;
      after = refl;
    };
    mine = stays.within;
  }

  same_early : (n : ℕ) → n ≤ length s.seen → rows_made_in u n ≡ rows_made_in s n
  same_early n inside = next_early accepts_by p t u (made + 1) has.answer has.next below n (omega (arith, inside, prefix_length s.seen t.seen still.seen)) ∙ no_row.rows n

  counted_more : (due at : ℕ) → HasCounted p s due at → HasCounted p u due at
  counted_more due at was =
      let reached : List Change = reached_by accepts_by p t u (made + 1) has.answer has.next in
      let past = from_past (length t.seen) (length reached) has.next.more (prefix_length t.seen reached (next_begins accepts_by p t u (made + 1) has.answer has.next)) in
      counted_on p t u stays.seen due at (positions_from (length reached) has.next.more) (next_mine accepts_by p t u (made + 1) has.answer has.next) past
      (counted_on p s t still.seen due at no_row.more no_row.mine no_row.later was)

  due_all : (k : ℕ) (d : Dispatch) → HasDrawn plan me place drawn k →
      WasDue plan me place drawn k after (rows_made_in u) (made + 1) log_now.idle (HasCounted p u (get_or log.dispatches.items k d).due)
  due_all k d drew =
      let due : ℕ = (get_or log.dispatches.items k d).due in
      due_next after made log.idle log_now.idle b idle turn plan me place drawn k (rows_made_in u) (HasCounted p u due)
      (due_later before after refl first plan me place drawn k (rows_made_in s) (rows_made_in u) made log.idle (HasCounted p s due) (HasCounted p u due) same_early
      (λ n low. counted_more due n) (old.dues k d drew))

  pub makes_more : Standing plan place mails p drawn (made + 1) me log_now u ports inbox_now
  makes_more = record {
    me = old.me;
    seat = record { of = stays.of; begun = stays.begun; within = stays.within; node = stays.node };
    fates = making_keeps Secrets accepts_by p t u (made + 1) has.answer has.next log_now.intake.taken.items log_now.intake.refused.items fates;
    inbox = λ m'. subst (λ (x : MailboxView). IsInbox x log_now.intake.taken.items inbox_now) (m_is ∙ get_or_default mails me m m' old.me) box;
    alone = alone_on m.room made inbox inbox_now more_out old.alone count;
    served = subst (λ (ds : List Dispatch). HasServedAll plan me place drawn (bytes_seen p u) mails ds ports) (sym dispatches) (all_later plan me place p s u first drawn mails log.dispatches.items ports old.served);
    room = old.room;
    some = λ _. some_rows p t u (made + 1) has.answer has.next old.room;
    rows = rows_now;
    turned = turned_more p made t u has.answer has.next below
        (turned_on p made s t still.seen (came_below s.seen log.intake.taken.items s.mine old.fates.came) old.turned no_row);
    idle = idle_all;
    ended = λ _. ended_now;
    dues = λ k d drew.
        subst (λ (ds : List Dispatch). WasDue plan me place drawn k after (rows_made_in u) (made + 1) log_now.idle (HasCounted p u (get_or ds k d).due)) (sym dispatches) (due_all k d drew);
  }

-- ---- what a turn sends

abbrev one_if : Bool → ℕ
one_if b = cond b 1 0

times_next : (plan : Plan) (me place turns k : ℕ) → times_drawn plan me place (turns + 1) k ≡ times_drawn plan me place turns k + one_if (k == peer_at plan me place turns)
times_next plan me place turns k = ap (λ (n : ℕ). times_drawn plan me place n k) (one turns)
  where
    one : (n : ℕ) → n + 1 ≡ suc n
    one n = omega arith

times_drew : (plan : Plan) (me place turns k : ℕ) → k ≡ peer_at plan me place turns → times_drawn plan me place (turns + 1) k ≡ times_drawn plan me place turns k + 1
times_drew plan me place turns k is =
    times_next plan me place turns k ∙ ap (λ (b : Bool). times_drawn plan me place turns k + one_if b) (eq-eqb k (peer_at plan me place turns) is)

-- a member is drawn once at most in a turn
pub times_most : (plan : Plan) (me place turns k : ℕ) → times_drawn plan me place turns k ≤ turns
times_most plan me place zero k = omega arith
times_most plan me place (suc t) k = omega (arith, times_most plan me place t k, once (k == peer_at plan me place t))
  where
    once : (b : Bool) → one_if b ≤ 1
    once true = omega arith
    once false = omega arith

drawn_later : (plan : Plan) (me place turns k : ℕ) → HasDrawn plan me place turns k → HasDrawn plan me place (turns + 1) k
drawn_later plan me place turns k d = record { turn = d.turn; early = omega (arith, d.early); draws = d.draws }

drawn_before : (plan : Plan) (me place turns j k : ℕ) → Draws plan me place turns k → j ≢ k → HasDrawn plan me place (turns + 1) j → HasDrawn plan me place turns j
drawn_before plan me place turns j k draws ne d = dite (ℕ_discrete d.turn turns)
    (λ same. absurd (ne (d.draws.peer ∙ (ap (peer_at plan me place) same ∙ sym draws.peer))))
    (λ apart. record { turn = d.turn; early = omega (arith, d.early, apart); draws = d.draws })

-- a member that the turn did not draw
served_other : (plan : Plan) (me place turns : ℕ) (rows : List (List ℕ)) (j : ℕ) (m : MailboxView) (d : Dispatch) (q : PortView) →
    (HasDrawn plan me place (turns + 1) j → HasDrawn plan me place turns j) → HasServed plan me place turns rows j m d q → HasServed plan me place (turns + 1) rows j m d q
served_other plan me place turns rows j m d q before was =
    let c = was.counted in record {
      sent = was.sent;
      counted = record {
        drawn = λ some. drawn_later plan me place turns j (c.drawn some);
        due = λ drawn. c.due (before drawn);
        late = c.late;
        sent = c.sent;
        few = omega (arith, c.few, times_next plan me place turns j);
      };
      back = was.back;
      full = was.full;
    }

-- the one that it drew
served_now : (plan : Plan) (me place turns k : ℕ) (old new : List (List ℕ)) (m : MailboxView) (c d : Dispatch) (q r : PortView) → Draws plan me place turns k → 0 < length old →
    HasServed plan me place turns old k m c q → HasSent m me new d.sent r → length old ≤ d.due → d.due ≤ length new → Dispatches m q r c d → q.count.seen ≤ r.count.seen → HasServed plan me place (turns + 1) new k m d r
served_now plan me place turns k old new m c d q r draws some was sent least most rest seen =
    let few = was.counted.few in
    let more = times_drew plan me place turns k draws.peer in record {
      sent = sent;
      counted = record {
        drawn = λ _. record { turn = turns; early = omega arith; draws = draws };
        due = λ _. omega (arith, least, some);
        late = most;
        sent = λ none. ⊎_elim (λ (all : SendsAll q r c d). all.1) (λ (some : SendsSome m q r c d). absurd (omega (arith, some.0, none))) rest;
        few = ⊎_elim (λ (all : SendsAll q r c d). omega (arith, all.0, few, more)) (λ (some : SendsSome m q r c d). omega (arith, some.0, few, more)) rest;
      };
      back = ⊎_elim (λ (all : SendsAll q r c d). all.2 ∙ (was.back ∙ sym all.0)) (λ (some : SendsSome m q r c d). omega (arith, some.1.once, was.back, some.0)) rest;
      full = λ often. ⊎_elim
          (λ (all : SendsAll q r c d). (let room : m.room ≤ q.count.seen = was.full (omega (arith, all.0, often)) in omega (arith, room, seen)))
          (λ (some : SendsSome m q r c d). some.1.counted) rest;
    }

-- nobody is drawn where there is no other
pub serves_none : (plan : Plan) (place : ℕ) (mails : List MailboxView) (p : SharedNode Secrets) (drawn made me : ℕ) (log : Log) (s : SeatView Secrets) (ports : List PortView) (inbox : PortView) →
    length plan.circle.items ≤ 1 → Standing plan place mails p drawn made me log s ports inbox → Standing plan place mails p (drawn + 1) made me log s ports inbox
serves_none plan place mails p drawn made me log s ports inbox none old =
    let all = old.served in record {
      me = old.me;
      seat = old.seat;
      fates = old.fates;
      inbox = old.inbox;
      alone = old.alone;
      served = record {
        dispatches = all.dispatches;
        ports = all.ports;
        each = λ k m d q inside. served_other plan me place drawn (bytes_seen p s) k (get_or mails k m) (get_or log.dispatches.items k d) (get_or ports k q)
            (λ d. absurd (omega (arith, d.draws.others, none))) (all.each k m d q inside);
      };
      room = old.room;
      some = old.some;
      rows = old.rows;
      turned = old.turned;
      idle = old.idle;
      ended = old.ended;
      dues = λ k d drew. absurd (omega (arith, drew.draws.others, none));
    }

module _ (plan : Plan) (place : ℕ) (mails : List MailboxView) (p : SharedNode Secrets) (drawn me : ℕ) (log log_now : Log) (s t : SeatView Secrets) (ports : List PortView) (inbox : PortView)
    (old : Standing plan place mails p drawn (drawn + 1) me log s ports inbox) (k : ℕ) (draws : Draws plan me place drawn k) (inside : k < length mails)
    (m : MailboxView) (c d : Dispatch) (q r : PortView) (m_is : m ≡ get_or mails k m) (c_is : c ≡ get_or log.dispatches.items k c) (q_is : q ≡ get_or ports k q)
    (still : IsStill s t) (keeps : KeepsSeat accepts_by p s t) (mine : t.mine ≡ s.mine)
    (sent : HasSent m me (bytes_seen p t) d.sent r) (due : IsDue p s t d.due) (rest : Dispatches m q r c d) (seen : q.count.seen ≤ r.count.seen)
    (dispatches : log_now.dispatches.items ≡ set log.dispatches.items k d) (intake : log_now.intake ≡ log.intake) (idle : log_now.idle ≡ log.idle) where
  abbrev ds : List Dispatch
  ds = set log.dispatches.items k d

  was : HasServed plan me place drawn (bytes_seen p s) k m c q
  was = served_read plan me place drawn (bytes_seen p s) mails log.dispatches.items ports k m c q old.served inside m_is c_is q_is

  now : HasServed plan me place (drawn + 1) (bytes_seen p t) k m d r
  now = served_now plan me place drawn k (bytes_seen p s) (bytes_seen p t) m c d q r draws (old.some (omega arith)) was sent (due_least p s t d.due still.seen due) (due_most p s t d.due due) rest seen

  served_at : (j : ℕ) (m' : MailboxView) (d' : Dispatch) (q' : PortView) → j < length mails →
      HasServed plan me place (drawn + 1) (bytes_seen p t) j (get_or mails j m') (get_or ds j d') (get_or (set ports k r) j q')
  served_at j m' d' q' low = dite (ℕ_discrete j k)
      (λ e.
      let mail_is : m ≡ get_or mails j m' = m_is ∙ (get_or_default mails k m m' inside ∙ ap (λ (n : ℕ). get_or mails n m') (sym e)) in
      let count_is : d ≡ get_or ds j d' = sym (ap (λ (n : ℕ). get_or ds n d') e ∙ get_or-set_same log.dispatches.items k d d' (omega (arith, inside, old.served.dispatches))) in
      let port_is : r ≡ get_or (set ports k r) j q' = sym (ap (λ (n : ℕ). get_or (set ports k r) n q') e ∙ get_or-set_same ports k r q' (omega (arith, inside, old.served.ports))) in
      subst (λ (x : ℕ × MailboxView × Dispatch × PortView). HasServed plan me place (drawn + 1) (bytes_seen p t) x.0 x.1 x.2 x.3) (λ i. (sym e i, mail_is i, count_is i, port_is i)) now)
      (λ ne.
      let count_is : get_or log.dispatches.items j d' ≡ get_or ds j d' = sym (get_or-set_other log.dispatches.items k j d d' ne) in
      let port_is : get_or ports j q' ≡ get_or (set ports k r) j q' = sym (get_or-set_other ports k j r q' ne) in
      subst (λ (x : Dispatch × PortView). HasServed plan me place (drawn + 1) (bytes_seen p t) j (get_or mails j m') x.0 x.1) (λ i. (count_is i, port_is i))
      (served_other plan me place drawn (bytes_seen p t) j (get_or mails j m') (get_or log.dispatches.items j d') (get_or ports j q') (drawn_before plan me place drawn j k draws ne)
      (served_later plan me place p s t still.seen drawn j (get_or mails j m') (get_or log.dispatches.items j d') (get_or ports j q') (old.served.each j m' d' q' low))))

  low_before : AreBelow (length s.seen) s.mine
  low_before = came_below s.seen log.intake.taken.items s.mine old.fates.came

  adds_none : AddsNoRow s t
  adds_none = none_made s t low_before (record { begins = still.seen; mine = mine })

  abbrev sent_after : NodeView Secrets
  sent_after = node_at p.start t.seen

  abbrev WasDueTo : ℕ → ℕ → Type 0
  WasDueTo j n = WasDue plan me place (drawn + 1) j sent_after (rows_made_in t) (drawn + 1) log.idle (HasCounted p t n)

  was_ended : HasEnded p s (drawn + 1) log.idle
  was_ended = old.ended (omega arith)

  due_to : (j : ℕ) (d' : Dispatch) → HasDrawn plan me place (drawn + 1) j → WasDueTo j (get_or ds j d').due
  due_to j d' drew = dite (ℕ_discrete j k)
      (λ e.
      let count_is : d ≡ get_or ds j d' = sym (ap (λ (n : ℕ). get_or ds n d') e ∙ get_or-set_same log.dispatches.items k d d' (omega (arith, inside, old.served.dispatches))) in
      subst (λ (x : ℕ × Dispatch). WasDueTo x.0 x.1.due) (λ i. (sym e i, count_is i)) (due_now p s t still.seen mine low_before (drawn + 1) log.idle plan me place drawn k d.due refl draws was_ended due))
      (λ ne.
      let n : ℕ = (get_or log.dispatches.items j d').due in
      let count_is : get_or log.dispatches.items j d' ≡ get_or ds j d' = sym (get_or-set_other log.dispatches.items k j d d' ne) in
      subst (λ (x : Dispatch). WasDueTo j x.due) count_is
      (due_still plan me place drawn j sent_after (rows_made_in t) (drawn + 1) log.idle (HasCounted p t n) (λ other. ne (other.peer ∙ sym draws.peer))
      (due_later (node_at p.start s.seen) sent_after refl still.seen plan me place drawn j (rows_made_in s) (rows_made_in t) (drawn + 1) log.idle (HasCounted p s n) (HasCounted p t n)
      (λ at low. adds_none.rows at) (λ at low. counted_on p s t still.seen n at adds_none.more adds_none.mine adds_none.later)
      (old.dues j d' (drawn_before plan me place drawn j k draws ne drew)))))

  pub serves_more : Standing plan place mails p (drawn + 1) (drawn + 1) me log_now t (set ports k r) inbox
  serves_more = record {
    me = old.me;
    seat = keeps old.seat;
    fates = rw intake (still_keeps accepts_by p s t still.seen mine log.intake.taken.items log.intake.refused.items old.fates);
    inbox = rw intake old.inbox;
    alone = old.alone;
    served = record {
      dispatches = ap length dispatches ∙ (length-set log.dispatches.items k d ∙ old.served.dispatches);
      ports = length-set ports k r ∙ old.served.ports;
      each = rw dispatches served_at;
    };
    room = old.room;
    some = λ some. omega (arith, old.some some, rows_longer p s t still.seen);
    rows = rw idle (ap (λ (n : ℕ). n + log.idle) (no_row_more s t still.seen adds_none) ∙ old.rows);
    turned = turned_on p (drawn + 1) s t still.seen low_before old.turned adds_none;
    idle = rw idle (idle_later (node_at p.start s.seen) sent_after refl still.seen 0 0 (drawn + 1) log.idle old.idle);
    ended = rw idle (λ _. ended_on p s t still.seen mine low_before (drawn + 1) log.idle was_ended);
    dues = rw (dispatches, idle) due_to;
  }
