-- What is known once all ports and seats are back, and what the mailboxes have left
use Rattle.std.specs.Prelude.{IfOk, OnOk, Vec}
use Rattle.std.proofs.Common.{◌≡◌, ◌≢◌, inl, inr, ⊎_elim, ℕ, ◌+◌, ◌<◌, ◌≤◌, nat_eq, nat_le, true, Result, Ok, Err, List, [], ◌∷◌, ◌++◌, length, drop, map, get_or, set, refl, sym, ap, ◌∙◌, subst, arith}
use Rattle.std.specs.List.{AllByRecursion}
use Rattle.std.proofs.lemmas.Bool.{lt-leb}
use Rattle.std.proofs.lemmas.List.{append-nil, append_assoc, get_or-map, get_or-set_other, get_or-set_same, get_or_default, length-append, length-map, length-set, length_push, nil_from_length}
use Rattle.std.proofs.lemmas.List.Elements.{filter-append}
use Rattle.hg_life.specs.Signing.{accepts_by}
use Rattle.hg_mail.specs.declared.message.Message.{Message}
use Rattle.hg_mail.specs.declared.view.Sender.{Sender}
use Rattle.hg_mail.specs.Count.{AreFoundBy, all_parts}
use Rattle.hg_mail.specs.Messages.{AreFrom, IsAmong, IsEmptied, IsWhole, KnowsSenders, after_taking, messages_of, sender}
use Rattle.hg_mail.specs.Mailboxes as mailbox
use Rattle.hg_mail.specs.Mailboxes.{MailboxView, PortView}
use Rattle.hg_board.specs.Seats.{SharedNode, SeatView}
use Rattle.hg_board.specs.Calls.{Absorbs}
use Rattle.hg_crowd.specs.Workers.{AllAbsorb}
use Rattle.hg_crowd.proofs.ListLaws.{push_at}
use Rattle.hg_storm.specs.declared.desk.Log.{Log}
use Rattle.hg_storm.specs.declared.desk.Job.{Job}
use Rattle.hg_storm.specs.Keeping.{Secrets}
use Rattle.hg_storm.specs.Threads.{AreOpened}
use Rattle.hg_storm.proofs.SendLaws.{drop_some}
use Rattle.hg_storm.proofs.BackLaws.{back_next, back_none, first_of, next_at}
use Rattle.hg_storm.specs.Joins.{AreAbsorbed, AreBack, AreEmptied, AreGathered, ArePortsOf, Empties, EmptyAll, HasEmptied, HasSender, HasTurned, HaveEmptied, HaveTurned, IsBack, TakeOut, Tale, due_back, put_to, tale_of}

-- ---- all ports are back

-- the port has all parts
pub back_parts : (tale : Tale) (n k : ℕ) (m : MailboxView) (q : PortView) → k < n → IsBack tale n n k m q → q.count.parts ≡ all_parts
back_parts tale n k m q inside b =
    let none : due_back (nat_le n k) ≡ 0 = ap due_back (lt-leb n k inside) in
    omega (arith, b.parts, none)

-- each first port takes out: where there are mailboxes, there are nodes and jobs
pub absorbed_take_out : (mails : List MailboxView) (places : List (SharedNode Secrets)) (jobs : List Job) (masters : List PortView) (lasts : List (SeatView Secrets)) (told : List Log) →
    length places ≡ length mails → length jobs ≡ length mails → ArePortsOf mails masters → AreAbsorbed mails places jobs masters lasts told → TakeOut mails masters
absorbed_take_out mails places jobs masters lasts told places_count jobs_count of absorbed = record {
  count = of.count;
  each = λ k m q inside. first_of _ places (omega (arith, inside, places_count)) (λ p. first_of _ jobs (omega (arith, inside, jobs_count)) (λ d.
      let b = (absorbed.back p d).each k m q inside in (b.of, b.takes inside)));
}

-- ---- what is left

-- a port that counted and took out all
pub empties : {Z E : Type 0} (m : MailboxView) (p q r : PortView) (counted : ℕ) (result : Result (Vec Message Z) E) → q ≡ mailbox.after_looking p counted → (p.count.parts ≡ all_parts → q.count.seen ≤ p.count.mine) → (p.count.parts ≡ all_parts → AreFoundBy p.count.dates p.count.findings) →
    IfOk result (λ (left : Vec Message Z). r ≡ mailbox.after_taking q left.items) → OnOk result (KnowsSenders r.view) → OnOk result (IsEmptied r.view) → (IsWhole q.view → IfOk result (λ (left : Vec Message Z). length left.items ≤ m.room)) →
    IfOk result (λ (left : Vec Message Z). Empties m p left.items)
empties m p q r counted (Err e) looked whole found taken known all room = tt
empties m p q r counted (Ok left) looked whole found taken known all room =
    let view : r.view ≡ after_taking p.view left.items = ap (λ (x : PortView). x.view) taken ∙ ap (λ (x : PortView). after_taking x.view left.items) looked in
    record {
      all = subst IsEmptied view all;
      known = subst KnowsSenders view known;
      whole = λ parts. let seen = whole parts in let is = ap (λ (x : PortView). x.count.seen) looked in omega (arith, seen, is);
      few = λ all_back. room (subst IsWhole (sym (ap (λ (x : PortView). x.view) looked)) all_back);
      found = found;
    }

-- .. and what it then knows
pub emptied_port : {Z E : Type 0} (p q r : PortView) (counted : ℕ) (result : Result (Vec Message Z) E) → q ≡ mailbox.after_looking p counted → IfOk result (λ (left : Vec Message Z). r ≡ mailbox.after_taking q left.items) →
    IfOk result (λ (left : Vec Message Z). HasEmptied p left.items r)
emptied_port p q r counted (Err e) looked taken = tt
emptied_port p q r counted (Ok left) looked taken =
    let is : r ≡ mailbox.after_taking (mailbox.after_looking p counted) left.items = taken ∙ ap (λ (x : PortView). mailbox.after_taking x left.items) looked in record {
      taken = ap (λ (x : PortView). x.view.taken) is;
      back = ap (λ (x : PortView). x.count.full) is;
      collects = ap (λ (x : PortView). x.count.collects) is;
      dates = ap (λ (x : PortView). x.count.dates) is;
      finds = ap (λ (x : PortView). x.count.findings) is;
    }

-- of one of the senders
of_sender : (P : Sender → Type 0) (s : Sender) (ss : List Sender) → HasSender s ss → AllByRecursion P ss → P s
of_sender P s [] has all = absurd has
of_sender P s (x ∷ ss) has all = ⊎_elim (λ (is : x ≡ s). subst P is all.0) (λ (rest : HasSender s ss). of_sender P s ss rest all.1) has

-- what was put is what was taken, and what is left
put_is : (tale : Tale) (n j k : ℕ) (m : MailboxView) (q : PortView) (left : List Message) → j < n → k < n → IsBack tale n n k m q → Empties m q left →
    tale.put j k ≡ messages_of j (tale.taken k) ++ messages_of j left
put_is tale n j k m q left j_in k_in b e =
    of_sender (λ (s : Sender). s.put ≡ messages_of s.from (q.view.taken ++ left)) (sender j (tale.put j k)) q.view.senders (b.senders j j_in) e.all
    ∙ (filter-append (λ (x : Message). nat_eq x.from j) q.view.taken left ∙ ap (λ (ms : List Message). messages_of j ms ++ messages_of j left) (b.taken k_in))

-- each message is of a member
known_is : (tale : Tale) (n k : ℕ) (m : MailboxView) (q : PortView) (left : List Message) → k < n → IsBack tale n n k m q → Empties m q left → AreFrom n (tale.taken k ++ left)
known_is tale n k m q left k_in b e = subst (λ (x : ℕ × List Message). AreFrom x.0 (x.1 ++ left)) (λ i. (b.next i, b.taken k_in i)) (e.known b.gives)

is_among : (s : Sender) (ss : List Sender) → HasSender s ss → IsAmong s.from ss
is_among s [] has = absurd has
is_among s (x ∷ ss) has = ⊎_elim (λ (is : x ≡ s). inl (ap (λ (y : Sender). y.from) is)) (λ (rest : HasSender s ss). inr (is_among s ss rest)) has

-- the port has every right
back_whole : (tale : Tale) (n k : ℕ) (m : MailboxView) (q : PortView) → k < n → IsBack tale n n k m q → IsWhole q.view
back_whole tale n k m q inside b = record {
  takes = b.takes inside;
  gives = b.gives;
  senders = λ from low. is_among (sender from (tale.put from k)) q.view.senders (b.senders from (omega (arith, low, b.next)));
}

module _ {Z : Type 0} where
  -- of each member what it put into each mailbox is what was taken of it and what is left
  pub all_are_emptied : (tale : Tale) (n : ℕ) (mails : List MailboxView) (masters : List PortView) (left : List (Vec Message Z)) → length mails ≤ n →
      AreBack tale n n mails masters → EmptyAll mails masters left → AreEmptied tale n mails left
  all_are_emptied tale n mails masters left few back empty = record {
    count = empty.count ∙ back.count;
    mail = λ j k l j_in k_in.
        let Q : Type 0 = tale.put j k ≡ messages_of j (tale.taken k) ++ messages_of j (get_or left k l).items in
        first_of Q mails (omega (arith, k_in)) (λ m. first_of Q masters (omega (arith, k_in, back.count)) (λ q.
        put_is tale n j k (get_or mails k m) (get_or masters k q) (get_or left k l).items j_in (omega (arith, k_in, few)) (back.each k m q k_in) (empty.each k q l (omega (arith, k_in, back.count)) m)));
    known = λ k l k_in.
        let Q : Type 0 = AreFrom n (tale.taken k ++ (get_or left k l).items) in
        first_of Q mails (omega (arith, k_in)) (λ m. first_of Q masters (omega (arith, k_in, back.count)) (λ q.
        known_is tale n k (get_or mails k m) (get_or masters k q) (get_or left k l).items (omega (arith, k_in, few)) (back.each k m q k_in) (empty.each k q l (omega (arith, k_in, back.count)) m)));
    few = λ k l m k_in.
        let Q : Type 0 = length (get_or left k l).items ≤ (get_or mails k m).room in
        first_of Q masters (omega (arith, k_in, back.count)) (λ q.
        (empty.each k q l (omega (arith, k_in, back.count)) m).few (back_whole tale n k (get_or mails k m) (get_or masters k q) (omega (arith, k_in, few)) (back.each k m q k_in)));
    full = λ j k m j_in k_in some.
        let Q : Type 0 = (get_or mails k m).room ≤ put_to tale n k in
        first_of Q masters (omega (arith, k_in, back.count)) (λ q.
        let b = back.each k m q k_in in
        first_of Q left (omega (arith, k_in, back.count, empty.count)) (λ l.
        let seen = (empty.each k q l (omega (arith, k_in, back.count)) m).whole (back_parts tale n k (get_or mails k m) (get_or masters k q) (omega (arith, k_in, few)) b) in
        omega (arith, b.full j j_in some, seen, b.mine)));
  }

-- ---- the seats that come back

-- those of the first jobs were taken into those of the crews
pub record AbsorbFirst (places : List (SharedNode Secrets)) (jobs : List Job) (i : ℕ) (lasts : List (SeatView Secrets)) : Type 0 where
  pub count : length lasts ≡ i
  pub each : (k : ℕ) (p : SharedNode Secrets) (d : Job) (t : SeatView Secrets) → k < i → Absorbs accepts_by (get_or places k p) (get_or jobs k d).seat (get_or jobs k d).desk.seat (get_or lasts k t)

pub absorb_none : (places : List (SharedNode Secrets)) (jobs : List Job) → AbsorbFirst places jobs 0 []
absorb_none places jobs = record { count = refl; each = λ k p d t none. absurd (omega arith) }

pub absorb_one : (places : List (SharedNode Secrets)) (jobs : List Job) (i : ℕ) (lasts : List (SeatView Secrets)) (p : SharedNode Secrets) (j : Job) (new : SeatView Secrets) → AbsorbFirst places jobs i lasts → i < length jobs → i < length places →
    p ≡ get_or places i p → j ≡ get_or jobs i j → Absorbs accepts_by p j.seat j.desk.seat new → AbsorbFirst places jobs (i + 1) (lasts ++ new ∷ [])
absorb_one places jobs i lasts p j new first inside place_in p_is j_is absorbs = record {
  count = omega (arith, length_push lasts new, first.count);
  each = λ k q d t below. push_at (λ (z : ℕ) (s : SeatView Secrets). Absorbs accepts_by (get_or places z q) (get_or jobs z d).seat (get_or jobs z d).desk.seat s) lasts new
      (subst (λ (z : ℕ). Absorbs accepts_by (get_or places z q) (get_or jobs z d).seat (get_or jobs z d).desk.seat new) (sym first.count)
      (subst (λ (x : SharedNode Secrets × Job). Absorbs accepts_by x.0 x.1.seat x.1.desk.seat new)
      (λ z. ((p_is ∙ get_or_default places i p q place_in) z, (j_is ∙ get_or_default jobs i j d inside) z)) absorbs))
      (λ z s z_in. first.each z q d s (omega (arith, z_in, first.count))) k t (omega (arith, below, first.count));
}

pub absorb_every : (places : List (SharedNode Secrets)) (jobs : List Job) (i : ℕ) (lasts : List (SeatView Secrets)) → length jobs ≡ i → AbsorbFirst places jobs i lasts →
    AllAbsorb accepts_by places (map (λ (j : Job). j.seat) jobs) (map (λ (j : Job). j.desk.seat) jobs) lasts
absorb_every places jobs i lasts all first =
    let seat : Job → SeatView Secrets = λ j. j.seat in
    let own : Job → SeatView Secrets = λ j. j.desk.seat in
    let many : length (map seat jobs) ≡ length jobs = length-map jobs seat in record {
      count = first.count ∙ (sym all ∙ sym many);
      each = λ k p s other t inside.
          let below : k < length jobs = omega (arith, inside, many) in
          first_of _ jobs (omega (arith, below)) (λ d.
          subst (λ (x : SeatView Secrets × SeatView Secrets). Absorbs accepts_by (get_or places k p) x.0 x.1 (get_or lasts k t))
          (λ z. (sym (get_or-map seat jobs k d s below) z, sym (get_or-map own jobs k d other below) z))
          (first.each k p d t (omega (arith, below, all))));
    }

-- ---- one job after the other

abbrev pub log_of : Job → Log
log_of j = j.desk.log

-- what came back of the jobs before these
pub record Closing (mails : List MailboxView) (places : List (SharedNode Secrets)) (jobs rest : List Job) (masters : List PortView) (lasts : List (SeatView Secrets)) (told : List Log) : Type 0 where
  pub of : ArePortsOf mails masters
  pub back : (p : SharedNode Secrets) (d : Job) → AreBack (tale_of places jobs p d) (length mails) (length told) mails masters
  pub seats : AbsorbFirst places jobs (length told) lasts
  pub logs : told ++ map log_of rest ≡ map log_of jobs

pub closing_none : (mails : List MailboxView) (places : List (SharedNode Secrets)) (jobs : List Job) (masters : List PortView) → AreOpened (length mails) mails masters → Closing mails places jobs jobs masters [] []
closing_none mails places jobs masters opened = record {
  of = record { count = opened.count; each = λ k m q inside. (opened.each k m q inside).of };
  back = λ p d. back_none (tale_of places jobs p d) mails masters opened;
  seats = absorb_none places jobs;
  logs = refl;
}

-- the job at hand
module _ (mails : List MailboxView) (places : List (SharedNode Secrets)) (jobs : List Job) (h : HaveTurned mails places jobs) (told : List Log) (me : ℕ) (job : Job) (later : List Job) (p : SharedNode Secrets)
    (me_is : me ≡ length told) (next : drop (length told) jobs ≡ job ∷ later) (p_is : p ≡ get_or places me p) where
  job_in : me < length jobs
  job_in = omega (arith, drop_some (length told) jobs job later next, me_is)

  job_at : (d : Job) → job ≡ get_or jobs me d
  job_at d = next_at jobs later job d (length told) next ∙ ap (λ (z : ℕ). get_or jobs z d) (sym me_is)

  pub job_turned : HasTurned h.plan mails p me job
  job_turned = subst (λ (x : SharedNode Secrets × Job). HasTurned h.plan mails x.0 me x.1) (λ z. (sym p_is z, sym (job_at job) z)) (h.each me p job job_in)

  -- its ports and its seats came back
  pub closing_one : (masters news : List PortView) (lasts : List (SeatView Secrets)) (new : SeatView Secrets) → Closing mails places jobs (job ∷ later) masters lasts told →
      AreGathered me mails masters job.desk.ports.items job.desk.inbox news → Absorbs accepts_by p job.seat job.desk.seat new →
      Closing mails places jobs later news (lasts ++ new ∷ []) (told ++ job.desk.log ∷ [])
  closing_one masters news lasts new c g absorbs =
      let long : me + 1 ≡ length (told ++ job.desk.log ∷ []) = omega (arith, me_is, length_push told job.desk.log) in record {
        of = g.of;
        back = λ q d. subst (λ (z : ℕ). AreBack (tale_of places jobs q d) (length mails) z mails news) long
            (back_next mails places jobs me job masters news h job_in (job_at job) g (λ r e. subst (λ (z : ℕ). AreBack (tale_of places jobs r e) (length mails) z mails masters) (sym me_is) (c.back r e)) q d);
        seats = subst (λ (z : ℕ). AbsorbFirst places jobs z (lasts ++ new ∷ [])) long
            (absorb_one places jobs me lasts p job new (subst (λ (z : ℕ). AbsorbFirst places jobs z lasts) (sym me_is) c.seats) job_in (omega (arith, job_in, h.jobs_count, h.places_count)) p_is (job_at job) absorbs);
        logs = append_assoc told (job.desk.log ∷ []) (map log_of later) ∙ c.logs;
      }

module _ (mails : List MailboxView) (places : List (SharedNode Secrets)) (jobs rest : List Job) (h : HaveTurned mails places jobs) (masters : List PortView) (lasts : List (SeatView Secrets)) (told : List Log)
    (none : length rest ≡ 0) (c : Closing mails places jobs rest masters lasts told) where
  all_closed : length jobs ≡ length told
  all_closed = omega (arith, ap length c.logs, length-append told (map log_of rest), length-map rest log_of, length-map jobs log_of, none)

  pub closed : AreAbsorbed mails places jobs masters lasts told
  closed = record {
    back = λ p d. subst (λ (z : ℕ). AreBack (tale_of places jobs p d) (length mails) z mails masters) (sym all_closed ∙ h.jobs_count) (c.back p d);
    seats = absorb_every places jobs (length told) lasts all_closed c.seats;
    logs = sym (append-nil told) ∙ (ap (λ (js : List Job). told ++ map log_of js) (sym (nil_from_length rest none)) ∙ c.logs);
  }

  pub closed_take_out : TakeOut mails masters
  closed_take_out = absorbed_take_out mails places jobs masters lasts told h.places_count h.jobs_count c.of closed

-- ---- one mailbox after the other is emptied

-- the first ones are: their ports have changed, and the others not
pub record Emptying {Z : Type 0} (i : ℕ) (mails : List MailboxView) (olds news : List PortView) (left : List (Vec Message Z)) : Type 0 where
  pub count : length news ≡ length olds
  pub left_count : length left ≡ i
  pub still : (k : ℕ) (q : PortView) → i ≤ k → get_or news k q ≡ get_or olds k q
  pub each : (k : ℕ) (q : PortView) (l : Vec Message Z) → k < i → (m : MailboxView) → Empties (get_or mails k m) (get_or olds k q) (get_or left k l).items
  pub ports : (k : ℕ) (q r : PortView) (l : Vec Message Z) → k < i → HasEmptied (get_or olds k q) (get_or left k l).items (get_or news k r)

module _ {Z : Type 0} where
  -- the port that is read next is as it was
  emptying_read : (i : ℕ) (mails : List MailboxView) (olds news : List PortView) (left : List (Vec Message Z)) (q : PortView) → Emptying i mails olds news left → q ≡ get_or news i q → q ≡ get_or olds i q
  emptying_read i mails olds news left q e is = is ∙ e.still i q (omega arith)

  pub emptying_one : (i : ℕ) (mails : List MailboxView) (olds news : List PortView) (left : List (Vec Message Z)) (box : MailboxView) (q r : PortView) (rest : Vec Message Z) → Emptying i mails olds news left → i < length mails →
      i < length olds → box ≡ get_or mails i box → q ≡ get_or news i q → Empties box q rest.items → HasEmptied q rest.items r → Emptying (i + 1) mails olds (set news i r) (left ++ rest ∷ [])
  emptying_one i mails olds news left box q r rest e box_in inside box_is is empties emptied = record {
    count = length-set news i r ∙ e.count;
    left_count = omega (arith, length_push left rest, e.left_count);
    still = λ k d above. let ne : k ≢ i = (λ x. absurd (omega (arith, x, above))) in get_or-set_other news i k r d ne ∙ e.still k d (omega (arith, above));
    each = λ k d l below m. push_at (λ (z : ℕ) (x : Vec Message Z). Empties (get_or mails z m) (get_or olds z d) x.items) left rest
        (subst (λ (z : ℕ). Empties (get_or mails z m) (get_or olds z d) rest.items) (sym e.left_count)
        (subst (λ (x : MailboxView × PortView). Empties x.0 x.1 rest.items)
        (λ z. ((box_is ∙ get_or_default mails i box m box_in) z, (emptying_read i mails olds news left q e is ∙ get_or_default olds i q d inside) z)) empties))
        (λ z x z_in. e.each z d x (omega (arith, z_in, e.left_count)) m) k l (omega (arith, below, e.left_count));
    ports = λ k d n l below. push_at (λ (z : ℕ) (x : Vec Message Z). HasEmptied (get_or olds z d) x.items (get_or (set news i r) z n)) left rest
        (subst (λ (z : ℕ). HasEmptied (get_or olds z d) rest.items (get_or (set news i r) z n)) (sym e.left_count)
        (subst (λ (x : PortView × PortView). HasEmptied x.0 rest.items x.1)
        (λ z. ((emptying_read i mails olds news left q e is ∙ get_or_default olds i q d inside) z, sym (get_or-set_same news i r n (omega (arith, inside, e.count))) z)) emptied))
        (λ z x z_in.
        let ne : z ≢ i = (λ y. absurd (omega (arith, y, z_in, e.left_count))) in
        subst (HasEmptied (get_or olds z d) (get_or left z x).items) (sym (get_or-set_other news i z r n ne)) (e.ports z d n x (omega (arith, z_in, e.left_count)))) k l (omega (arith, below, e.left_count));
  }

  -- all are
  pub emptied_all : (i : ℕ) (mails : List MailboxView) (olds news : List PortView) (left : List (Vec Message Z)) → Emptying i mails olds news left → i ≡ length mails → length olds ≡ length mails → EmptyAll mails olds left
  emptied_all i mails olds news left e all same = record {
    count = omega (arith, e.left_count, all, same);
    each = λ k q l inside m. e.each k q l (omega (arith, inside, all, same)) m;
  }

  pub emptied_ports : (i : ℕ) (mails : List MailboxView) (olds news : List PortView) (left : List (Vec Message Z)) → Emptying i mails olds news left → i ≡ length mails → length olds ≡ length mails → HaveEmptied olds left news
  emptied_ports i mails olds news left e all same = record { count = e.count; each = λ k q r l inside. e.ports k q r l (omega (arith, inside, all, same)) }
