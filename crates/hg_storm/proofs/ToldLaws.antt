-- What became of each member: what came of its messages, and what it sent
use Rattle.std.proofs.Common.{◌≡◌, ℕ, zero, suc, ◌+◌, ◌<◌, ◌≤◌, nat_le, Bool, true, List, [], ◌++◌, length, map, take, drop, get_or, refl, sym, ap, ◌∙◌, subst, arith}
use Rattle.std.specs.Prelude.{All, Vec, count_by}
use mathlib.Core.Logic.{dite}
use native.Mathlib.Decide.{ℕ_discrete}
use Rattle.std.proofs.lemmas.Bool.{lt-leb, true≢false}
use Rattle.std.proofs.lemmas.List.{get_or-map, length-map, length-take, length-take-le, take-append-drop}
use Rattle.hg_model.specs.Orders.{IsPrefix}
use Rattle.hg_life.specs.History.{Change, empty}
use Rattle.hg_life.specs.NodeView.{IsNode, NodeView, node_rows, terms_of}
use Rattle.hg_life.specs.Signing.{accepts_by}
use Rattle.hg_life.specs.Spelling.{spelling}
use Rattle.hg_mail.specs.declared.message.Message.{Message}
use Rattle.hg_mail.specs.declared.view.Finding.{Finding}
use Rattle.hg_mail.specs.declared.view.CountView.{CountView}
use Rattle.hg_mail.specs.Count.{AreFoundBy}
use Rattle.hg_mail.specs.Messages.{AreFrom, messages_of}
use Rattle.hg_mail.specs.Mailboxes.{MailboxView, PortView}
use Rattle.hg_board.specs.Positions.{AreBelow, times}
use Rattle.hg_board.specs.Table.{node_at}
use Rattle.hg_board.specs.Seats.{SharedNode, SeatView}
use Rattle.hg_board.specs.Calls.{Absorbs, IsStarted, IsWhole}
use Rattle.hg_board.proofs.PositionLaws.{below_more, times-append}
use Rattle.hg_board.proofs.PrefixLaws.{prefix_length, prefix_of_prefix}
use Rattle.hg_crowd.specs.Crowd.{IsEnded, IsMark}
use Rattle.hg_crowd.specs.Workers.{AreWhole}
use Rattle.hg_crowd.proofs.EndLaws.{ended}
use Rattle.hg_crowd.proofs.ListLaws.{some_of}
use Rattle.hg_crowd.proofs.MarkLaws.{mark_before, rows_stay}
use Rattle.hg_crowd.proofs.WorkLaws.{worked_none}
use Rattle.hg_storm.specs.declared.plan.Plan.{Plan}
use Rattle.hg_storm.specs.declared.desk.Job.{Job}
use Rattle.hg_storm.specs.declared.desk.Log.{Log}
use Rattle.hg_storm.specs.Drawing.{HasDrawn, times_drawn}
use Rattle.hg_storm.specs.Keeping.{Secrets, is_made, rows_made, rows_made_in}
use Rattle.hg_storm.specs.Sending.{bytes_seen}
use Rattle.hg_storm.specs.Threads.{HaveRoom, no_dispatch, place_of, turns_of}
use Rattle.hg_storm.specs.Turning.{HadRows, HasCounted, IsCounted, WasDue, own_rows, rows_by}
use Rattle.hg_storm.specs.Receiving.{TookAllDue}
use Rattle.hg_storm.specs.Joins.{AreAbsorbed, AreEmptied, AreTold, Empties, EmptyAll, HasCollected, HasEmptied, HaveCollected, HaveEmptied, IsBack, IsSentTo, IsTold, TakeOut, Tale, dispatch_to, full_to, known_back, put_by, put_to, rows_of_node, sum_below, tale_of, tale_told}
use Rattle.hg_storm.proofs.BackLaws.{first_of}
use Rattle.hg_storm.proofs.CloseLaws.{back_parts, all_are_emptied}
use Rattle.hg_storm.proofs.EndLaws.{fates_last}
use Rattle.hg_storm.proofs.FateLaws.{take_later}
use Rattle.hg_storm.proofs.MadeLaws.{is_made_in, made_front}
use Rattle.hg_storm.proofs.OwnRowLaws.{made_all, made_in, made_then, own_made, steps_first, times_between}
use Rattle.hg_storm.proofs.ThreadLaws.{AreJoined, IsDone, absorbed_at, done_at, news_count}
use Rattle.hg_storm.proofs.DueLaws.{due_later, idle_later, then_same}
use Rattle.hg_storm.proofs.TurnRowLaws.{all_turned}

-- ---- one member

module _ (plan : Plan) (mails : List MailboxView) (k : ℕ) (p : SharedNode Secrets) (first back : SeatView Secrets) (begun node : NodeView Secrets) (j : Job)
    (started : IsStarted accepts_by p begun first) (new : begun.history ≡ []) (done : IsDone plan mails p first k j) (absorbs : Absorbs accepts_by p j.seat j.desk.seat back) (whole : IsWhole p back node) where
  its_end : IsEnded p j.desk.seat node
  its_end = ended accepts_by p first j.desk.seat j.seat back back begun node started done.still done.stands.seat done.worked absorbs (worked_none back) whole

  from_none : p.start.history ≡ []
  from_none = ap (λ (v : NodeView Secrets). v.history) started.start ∙ new

  at_most_once : (q : ℕ) → times q j.desk.seat.mine ≤ 1
  at_most_once q =
      let all : times q back.mine ≡ times q j.seat.mine + times q j.desk.seat.mine = ap (times q) absorbs.mine ∙ times-append q j.seat.mine j.desk.seat.mine in
      omega (arith, all, absorbs.once q)

  -- each change that made a row was made by the member's calls
  own_change : (q : ℕ) → q < length node.history → is_made_in node.history q ≡ true → times q j.desk.seat.mine ≡ 1
  own_change q low made = dite (ℕ_discrete (times q j.desk.seat.mine) 0)
      (λ none. absurd (true≢false (sym made ∙ ap is_made (its_end.marks q (omega (arith, ap length from_none)) low none).2)))
      (λ some. omega (arith, some, at_most_once q))

  lawful : IsNode accepts_by node
  lawful = subst (IsNode accepts_by) (sym whole.seen) absorbs.node

  below : AreBelow (length node.history) j.desk.seat.mine
  below = below_more (length j.desk.seat.seen) (length node.history) j.desk.seat.mine (prefix_length j.desk.seat.seen node.history its_end.later) done.stands.seat.within

  rows_and_idle : rows_by node.start.own (node_rows node) + j.desk.log.idle ≡ turns_of plan k
  rows_and_idle =
      let h : List Change = node.history in
      let all : rows_by node.start.own (node_rows node) ≡ made_in h = own_made (terms_of accepts_by node.start) node.start.members node.start.coin node.start.own h lawful.history.steps in
      let those : count_by (is_made_in h) j.desk.seat.mine ≡ made_in h = made_all (length h) h j.desk.seat.mine (omega arith) below own_change in
      let early : count_by (is_made_in h) j.desk.seat.mine ≡ rows_made j.desk.seat = made_front j.desk.seat.seen h j.desk.seat.mine its_end.later done.stands.seat.within in
      let counted : rows_made j.desk.seat + j.desk.log.idle ≡ turns_of plan k = done.stands.rows in
      omega (arith, all, those, early, counted)

  -- the rows of its own among its first changes
  own_early : (at : ℕ) → at ≤ length j.desk.seat.seen → own_rows node at ≡ rows_made_in j.desk.seat at
  own_early at inside =
      let h : List Change = node.history in
      let n = node.start in
      let all : own_rows node at ≡ made_in (take at h) =
      own_made (terms_of accepts_by n) n.members n.coin n.own (take at h) (steps_first (terms_of accepts_by n) n.members n.coin n.own at empty h lawful.history.steps) in
      let those : count_by (is_made_in (take at h)) j.desk.seat.mine ≡ made_in (take at h) =
      made_all (length h) (take at h) j.desk.seat.mine (omega (arith, length-take at h)) below (λ q low made. own_change q low (made_then at h q made)) in
      all ∙ (sym those ∙ ap (λ (l : List Change). count_by (is_made_in l) j.desk.seat.mine) (sym (take_later at j.desk.seat.seen h inside its_end.later)))

  pub is_told : IsTold plan k p node j.desk.log
  is_told = record {
    lawful = lawful;
    turns = record {
      start = sym its_end.start;
      rows = rows_and_idle;
      made = all_turned p (turns_of plan k) j.desk.seat node from_none its_end done.stands.seat.within done.stands.turned;
      causes = idle_later (node_at p.start j.desk.seat.seen) (node_at p.start node.history) refl its_end.later 0 0 (turns_of plan k) j.desk.log.idle done.stands.idle;
    };
    fates = fates_last Secrets accepts_by p j.desk.seat node j.desk.log.intake.taken.items j.desk.log.intake.refused.items from_none its_end done.stands.fates;
  }

  pub same_rows : bytes_seen p j.desk.seat ≡ rows_of_node node
  same_rows = sym (ap (map spelling) its_end.rows)

  -- what was added while the seat had added nothing are marks, which bring no rows
  had_rows : (due at : ℕ) → HasCounted p j.desk.seat due at → HadRows node due at
  had_rows due at was =
      let h : List Change = node.history in
      let n = node.start in
      let inside : was.when ≤ length h = omega (arith, was.within, prefix_length j.desk.seat.seen h its_end.later) in
      let long = length-take-le was.when h inside in
      let short = length-take-le at h (omega (arith, was.past, inside)) in
      let whole_front : IsPrefix (take was.when h) h = (drop was.when h, sym (take-append-drop was.when h)) in
      let front : IsPrefix (take at h) (take was.when h) =
      prefix_of_prefix (take at h) (take was.when h) h (drop at h, sym (take-append-drop at h)) whole_front (omega (arith, was.past, long, short)) in
      let marks : (q : ℕ) → length (take at h) ≤ q → q < length (take was.when h) → IsMark (take was.when h) q = λ q past low.
      mark_before (take was.when h) h q whole_front low
      (its_end.marks q (omega (arith, ap length from_none)) (omega (arith, low, long, inside))
      (times_between at was.when q j.desk.seat.mine was.alone (omega (arith, past, short)) (omega (arith, low, long)))) in
      let none = rows_stay n.members n.coin (take at h) (take was.when h) front marks in
      was.rows ∙ (ap (λ (v : NodeView Secrets). length (node_rows v)) (then_same (node_at p.start j.desk.seat.seen) node its_end.start its_end.later was.when was.within) ∙ ap length none.0)

  due_to : (to : ℕ) → HasDrawn plan k (place_of plan k) (turns_of plan k) to →
      WasDue plan k (place_of plan k) (turns_of plan k) to node (own_rows node) (turns_of plan k) j.desk.log.idle (HadRows node (dispatch_to j.desk.log to).due)
  due_to to =
      let due : ℕ = (dispatch_to j.desk.log to).due in
      subst (λ (me : ℕ). HasDrawn plan me (place_of plan k) (turns_of plan k) to →
      WasDue plan me (place_of plan k) (turns_of plan k) to node (own_rows node) (turns_of plan k) j.desk.log.idle (HadRows node due)) done.me
      (λ drew. due_later (node_at p.start j.desk.seat.seen) node its_end.start its_end.later plan j.desk.me (place_of plan k) (turns_of plan k) to (rows_made_in j.desk.seat) (own_rows node)
      (turns_of plan k) j.desk.log.idle (HasCounted p j.desk.seat due) (HadRows node due) own_early (λ at low. had_rows due at) (done.stands.dues to no_dispatch drew))

  -- what it sent to another
  pub is_sent_to : (to : ℕ) → to < length mails → IsSentTo plan k to node j.desk.log.idle (dispatch_to j.desk.log to)
  is_sent_to to inside =
      let all = done.stands.served in
      let m : MailboxView = some_of mails to inside in
      let q : PortView = some_of j.desk.ports.items to (omega (arith, inside, all.ports)) in
      let served = all.each to m no_dispatch q inside in
      record {
        within = subst (λ (rows : List (List ℕ)). (dispatch_to j.desk.log to).sent ≤ length rows) same_rows served.sent.within;
        counted = subst (λ (x : ℕ × List (List ℕ)). IsCounted (HasDrawn plan x.0 (place_of plan k) (turns_of plan k) to) (length x.1) (times_drawn plan x.0 (place_of plan k) (turns_of plan k) to) (dispatch_to j.desk.log to))
            (λ i. (done.me i, same_rows i)) served.counted;
        due = due_to to;
      }

-- ---- all of them

pub sum_same : (n : ℕ) (f g : ℕ → ℕ) → ((j : ℕ) → j < n → f j ≡ g j) → sum_below n f ≡ sum_below n g
sum_same zero f g same = refl
sum_same (suc n) f g same = λ i. sum_same n f g (λ j low. same j (omega (arith, low))) i + same n (omega arith) i

module _ {Z : Type 0} (plan : Plan) (room : ℕ) (mails : List MailboxView) (nodes ends : List (NodeView Secrets)) (places : List (SharedNode Secrets)) (firsts lasts : List (SeatView Secrets)) (olds news : List Job)
    (masters : List PortView) (logs : List Log) (left : List (Vec Message Z)) (none : All (λ (v : NodeView Secrets). v.history ≡ []) nodes) (rooms : HaveRoom room mails)
    (joined : AreJoined plan mails nodes places firsts olds news) (absorbed : AreAbsorbed mails places news masters lasts logs) (takes : TakeOut mails masters) (emptied : EmptyAll mails masters left) (whole : AreWhole places lasts ends) where
  jobs_count : length news ≡ length ends
  jobs_count = omega (arith, news_count plan mails nodes places firsts olds news joined, joined.seats.count, whole.shared_count)

  mails_count : length mails ≡ length ends
  mails_count = omega (arith, joined.count, joined.started.shared_count, whole.shared_count)

  log_is : (k : ℕ) (g : Log) (d : Job) → k < length ends → (get_or news k d).desk.log ≡ get_or logs k g
  log_is k g d inside =
      sym (ap (λ (ls : List Log). get_or ls k g) absorbed.logs ∙ get_or-map (λ (j : Job). j.desk.log) news k d g (omega (arith, inside, jobs_count)))

  module _ (k : ℕ) (p : SharedNode Secrets) (v : NodeView Secrets) (d : Job) (inside : k < length ends) where
    there : k < length firsts
    there = omega (arith, inside, joined.seats.count, whole.shared_count)

    here : k < length nodes
    here = omega (arith, inside, joined.started.shared_count, whole.shared_count)

    a_seat : SeatView Secrets
    a_seat = some_of firsts k there

    its_start : IsStarted accepts_by (get_or places k p) (get_or nodes k v) (get_or firsts k a_seat)
    its_start = joined.started.each k v p a_seat here

    its_turns : IsDone plan mails (get_or places k p) (get_or firsts k a_seat) k (get_or news k d)
    its_turns = done_at plan mails nodes places firsts olds news joined k p a_seat d there

    its_seats : Absorbs accepts_by (get_or places k p) (get_or news k d).seat (get_or news k d).desk.seat (get_or lasts k a_seat)
    its_seats = absorbed_at plan mails nodes places firsts olds news joined lasts absorbed.seats k p a_seat d there

    its_node : IsWhole (get_or places k p) (get_or lasts k a_seat) (get_or ends k v)
    its_node = whole.each k p a_seat v inside

    told_at : IsTold plan k (get_or places k p) (get_or ends k v) (get_or news k d).desk.log
    told_at = is_told plan mails k (get_or places k p) (get_or firsts k a_seat) (get_or lasts k a_seat) (get_or nodes k v) (get_or ends k v) (get_or news k d) its_start (none k v here) its_turns its_seats its_node

    rows_at : bytes_seen (get_or places k p) (get_or news k d).desk.seat ≡ rows_of_node (get_or ends k v)
    rows_at = same_rows plan mails k (get_or places k p) (get_or firsts k a_seat) (get_or lasts k a_seat) (get_or nodes k v) (get_or ends k v) (get_or news k d) its_start (none k v here) its_turns its_seats its_node

    sent_at : (to : ℕ) → to < length mails → IsSentTo plan k to (get_or ends k v) (get_or news k d).desk.log.idle (dispatch_to (get_or news k d).desk.log to)
    sent_at = is_sent_to plan mails k (get_or places k p) (get_or firsts k a_seat) (get_or lasts k a_seat) (get_or nodes k v) (get_or ends k v) (get_or news k d) its_start (none k v here) its_turns its_seats its_node

  some_place : (k : ℕ) → k < length ends → SharedNode Secrets
  some_place k inside = some_of places k (omega (arith, inside, whole.shared_count))

  some_job : (k : ℕ) → k < length ends → Job
  some_job k inside = some_of news k (omega (arith, inside, jobs_count))

  -- what the first ports know is what nodes and logs tell
  put_same : (j k : ℕ) (p : SharedNode Secrets) (d : Job) (v : NodeView Secrets) (g : Log) → j < length ends → (tale_of places news p d).put j k ≡ (tale_told plan ends logs v g).put j k
  put_same j k p d v g inside = λ i. put_by j (rows_at j p v d inside i) (log_is j g d inside i) k

  module _ (j k : ℕ) (v : NodeView Secrets) (g : Log) (j_in : j < length ends) (k_in : k < length ends) where
    rest : AreEmptied (tale_of places news (some_place j j_in) (some_job j j_in)) (length mails) mails left
    rest = all_are_emptied (tale_of places news (some_place j j_in) (some_job j j_in)) (length mails) mails masters left (omega arith) (absorbed.back (some_place j j_in) (some_job j j_in)) emptied

    sender_in : j < length mails
    sender_in = omega (arith, j_in, mails_count)

    taker_in : k < length mails
    taker_in = omega (arith, k_in, mails_count)

    mail_told : (l : Vec Message Z) → (tale_told plan ends logs v g).put j k ≡ messages_of j (get_or logs k g).intake.taken.items ++ messages_of j (get_or left k l).items
    mail_told l =
        sym (put_same j k (some_place j j_in) (some_job j j_in) v g j_in)
        ∙ (rest.mail j k l sender_in taker_in ∙ ap (λ (log : Log). messages_of j log.intake.taken.items ++ messages_of j (get_or left k l).items) (log_is k g (some_job j j_in) k_in))

    known_told : (l : Vec Message Z) → AreFrom (length ends) ((get_or logs k g).intake.taken.items ++ (get_or left k l).items)
    known_told l = subst (λ (x : ℕ × Log). AreFrom x.0 (x.1.intake.taken.items ++ (get_or left k l).items)) (λ i. (mails_count i, log_is k g (some_job j j_in) k_in i)) (rest.known k l taker_in)

    few_told : (l : Vec Message Z) → length (get_or left k l).items ≤ room
    few_told l =
        let m : MailboxView = some_of mails k taker_in in
        let fits : (get_or mails k m).room ≡ room = rooms k m taker_in in
        omega (arith, rest.few k l m taker_in, fits)

    full_told : 0 < (dispatch_to (get_or logs j g) k).full → room ≤ put_to (tale_told plan ends logs v g) (length ends) k
    full_told often =
        let m : MailboxView = some_of mails k taker_in in
        let some : 0 < (dispatch_to (get_or news j (some_job j j_in)).desk.log k).full = subst (λ (log : Log). 0 < (dispatch_to log k).full) (sym (log_is j g (some_job j j_in) j_in)) often in
        let held : (get_or mails k m).room ≤ put_to (tale_of places news (some_place j j_in) (some_job j j_in)) (length mails) k = rest.full j k m sender_in taker_in some in
        let fits : (get_or mails k m).room ≡ room = rooms k m taker_in in
        let sums : put_to (tale_of places news (some_place j j_in) (some_job j j_in)) (length ends) k ≡ put_to (tale_told plan ends logs v g) (length ends) k =
        sum_same (length ends) _ _ (λ i low. ap length (put_same i k (some_place j j_in) (some_job j j_in) v g low)) in
        let whole_sum : put_to (tale_of places news (some_place j j_in) (some_job j j_in)) (length mails) k ≡ put_to (tale_told plan ends logs v g) (length ends) k =
        ap (λ (n : ℕ). put_to (tale_of places news (some_place j j_in) (some_job j j_in)) n k) mails_count ∙ sums in
        omega (arith, held, fits, whole_sum)

  -- what the first ports have counted, once all is out
  module _ (k : ℕ) (v : NodeView Secrets) (g : Log) (inside : k < length ends) where
    abbrev its_tale : Tale
    its_tale = tale_of places news (some_place k inside) (some_job k inside)

    collects_same : its_tale.collects k ≡ turns_of plan k
    collects_same = (its_turns k (some_place k inside) v (some_job k inside) inside).stands.alone.collects

    often_same : full_to its_tale (length mails) k ≡ full_to (tale_told plan ends logs v g) (length ends) k
    often_same =
        ap (λ (n : ℕ). full_to its_tale n k) mails_count
        ∙ sum_same (length ends) _ _ (λ i low. ap (λ (log : Log). (dispatch_to log k).full) (log_is i g (some_job k inside) low))

    port_told : (l : Vec Message Z) (m : MailboxView) (q r : PortView) → m.room ≡ room → IsBack its_tale (length mails) (length mails) k m q → Empties m q (get_or left k l).items →
        HasEmptied q (get_or left k l).items r → HasCollected (tale_told plan ends logs v g) (length ends) k room (get_or left k l).items r
    port_told l m q r fits back empty out =
        let low : k < length mails = omega (arith, inside, mails_count) in
        let known : known_back (nat_le (length mails) k) (its_tale.collects k) ≡ its_tale.collects k = ap (λ (b : Bool). known_back b (its_tale.collects k)) (lt-leb (length mails) k low) in record {
          collects = out.collects ∙ (back.collects ∙ (known ∙ collects_same));
          back = out.back ∙ (back.often ∙ often_same);
          each = ap length out.finds ∙ (back.each low ∙ collects_same);
          found = subst (λ (x : List ℕ × List Finding). AreFoundBy x.0 x.1) (λ i. (sym out.dates i, sym out.finds i)) (empty.found (back_parts its_tale (length mails) k m q low back));
          took = subst (λ (x : ℕ × List Finding × List Message). TookAllDue x.0 x.1 (length x.2))
              (λ i. (fits i, sym out.finds i, ap (λ (log : Log). log.intake.taken.items) (log_is k g (some_job k inside) inside) i)) (back.took low);
          taken = out.taken ∙ ap (λ (ms : List Message). ms ++ (get_or left k l).items) (back.taken low ∙ ap (λ (log : Log). log.intake.taken.items) (log_is k g (some_job k inside) inside));
        }

  pub have_collected : (ports : List PortView) → HaveEmptied masters left ports → HaveCollected plan room ends logs left ports
  have_collected ports out = record {
    count = omega (arith, out.count, takes.count, mails_count);
    each = λ k v g l q inside.
        let low : k < length mails = omega (arith, inside, mails_count) in
        let m : MailboxView = some_of mails k low in
        port_told k v g inside l (get_or mails k m) (get_or masters k q) (get_or ports k q) (rooms k m low) ((absorbed.back (some_place k inside) (some_job k inside)).each k m q low)
        (emptied.each k q l (omega (arith, low, takes.count)) m) (out.each k q q l (omega (arith, low, takes.count)));
  }

  pub are_told : AreTold plan room ends logs left
  are_told = record {
    logs_count = ap length absorbed.logs ∙ (length-map news (λ (j : Job). j.desk.log) ∙ jobs_count);
    left_count = omega (arith, emptied.count, takes.count, mails_count);
    sent = λ j k v g j_in k_in. subst (λ (log : Log). IsSentTo plan j k (get_or ends j v) log.idle (dispatch_to log k)) (log_is j g (some_job j j_in) j_in)
        (sent_at j (some_place j j_in) v (some_job j j_in) j_in k (omega (arith, k_in, mails_count)));
    mail = λ j k v g l j_in k_in. mail_told j k v g j_in k_in l;
    known = λ k g l k_in. first_of _ ends (omega (arith, k_in)) (λ v. known_told k k v g k_in k_in l);
    few = λ k l k_in. few_told k k (some_of ends k k_in) (some_job k k_in).desk.log k_in k_in l;
    full = λ j k v g j_in k_in often. full_told j k v g j_in k_in often;
    each = λ k v g inside. (
      get_or places k (some_place k inside),
      subst (IsTold plan k (get_or places k (some_place k inside)) (get_or ends k v)) (log_is k g (some_job k inside) inside) (told_at k (some_place k inside) v (some_job k inside) inside),
    );
  }
