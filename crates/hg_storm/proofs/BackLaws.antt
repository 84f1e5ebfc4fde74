-- Ports that come back, one member after the other
use Rattle.std.proofs.Common.{◌≡◌, ◌≢◌, ⊎_elim, inl, inr, ℕ, zero, suc, ◌+◌, ◌<◌, ◌≤◌, Bool, nat_le, List, [], ◌∷◌, ◌++◌, length, take, drop, get_or, set, refl, sym, ap, ◌∙◌, subst, add-one, arith}
use mathlib.Core.Logic.{dite}
use native.Mathlib.Decide.{ℕ_discrete}
use Rattle.std.proofs.lemmas.Bool.{le-leb, lt-leb, cases_lt}
use Rattle.std.proofs.lemmas.List.{get_or-set_other, get_or-set_same, append-nil, get_or_default, length-drop, length-set, length-take-le}
use Rattle.hg_mail.specs.declared.message.Message.{Message}
use Rattle.hg_mail.specs.declared.view.Sender.{Sender}
use Rattle.hg_mail.specs.declared.view.View.{View}
use Rattle.hg_mail.specs.declared.view.Finding.{Finding}
use Rattle.hg_mail.specs.Count.{joined_count}
use Rattle.hg_mail.specs.Messages.{joined_view, receiver_view, sender, sender_view}
use Rattle.hg_mail.specs.Mailboxes.{IsPortOf, MailboxView, PortView, joined}
use Rattle.hg_board.specs.Seats.{SharedNode}
use Rattle.hg_crowd.proofs.ListLaws.{set_at}
use Rattle.hg_storm.specs.declared.plan.Plan.{Plan}
use Rattle.hg_storm.specs.declared.sending.Dispatch.{Dispatch}
use Rattle.hg_storm.specs.declared.desk.Job.{Job}
use Rattle.hg_storm.specs.Keeping.{Secrets}
use Rattle.hg_storm.specs.Receiving.{HasCollectedAlone, TookAllDue}
use Rattle.hg_storm.specs.Sending.{bytes_seen, messages_from}
use Rattle.hg_storm.specs.Turning.{HasServed}
use Rattle.hg_storm.specs.Threads.{AreOpened, away, no_dispatch}
use Rattle.hg_storm.proofs.SendLaws.{drop_next, drop_some}
use Rattle.hg_storm.specs.Joins.{AreBack, AreGathered, ArePortsOf, HasSender, HasTurned, HaveTurned, IsBack, Tale, dispatch_to, due_back, full_to, known_back, put_by, put_to, tale_of}

-- ---- lists

module _ {A : Type 0} where
  -- a fact for which some element is wanted, of a list that has one
  pub first_of : (Q : Type 0) (xs : List A) → 0 < length xs → ((x : A) → Q) → Q
  first_of Q [] some f = absurd (omega arith)
  first_of Q (x ∷ xs) some f = f x

  pub drop_rest : (k : ℕ) (xs : List A) (x : A) (rest : List A) → drop k xs ≡ x ∷ rest → (k < length xs) × (rest ≡ drop (k + 1) xs)
  drop_rest k xs x rest is = (drop_some k xs x rest is, sym (drop_next k xs x rest is))

  pub drop_none : (k : ℕ) (xs rest : List A) → rest ≡ drop k xs → length rest ≡ 0 → length xs ≤ k
  drop_none k xs rest is none = omega (arith, length-drop k xs, ap length is, none)

  -- the next element of a list of which so many are done
  pub next_at : (xs rest : List A) (x d : A) (k : ℕ) → drop k xs ≡ x ∷ rest → x ≡ get_or xs k d
  next_at [] rest x d zero is = absurd (cc is)
  next_at [] rest x d (suc k) is = absurd (cc is)
  next_at (y ∷ xs) rest x d zero is = cc is
  next_at (y ∷ xs) rest x d (suc k) is = next_at xs rest x d k is

-- ---- the ports of one member, one after the other

-- a mailbox and its port that were read
pub port_read : (mails : List MailboxView) (ports : List PortView) (k : ℕ) (m : MailboxView) (q : PortView) → ArePortsOf mails ports → k < length mails → m ≡ get_or mails k m → q ≡ get_or ports k q → IsPortOf m q
port_read mails ports k m q of inside m_is q_is = subst (λ (x : MailboxView × PortView). IsPortOf x.0 x.1) (λ i. (sym m_is i, sym q_is i)) (of.each k m q inside)

-- the first ones of its ports are taken into the first ports
pub record Gathering (i : ℕ) (mails : List MailboxView) (olds ports news : List PortView) : Type 0 where
  pub of : ArePortsOf mails news
  pub done : (k : ℕ) (q a b : PortView) → k < i → get_or news k q ≡ joined (get_or olds k a) (get_or ports k b)
  pub still : (k : ℕ) (q : PortView) → i ≤ k → get_or news k q ≡ get_or olds k q

-- a port of the same mailbox is changed
ports_set : (mails : List MailboxView) (ports : List PortView) (i : ℕ) (new : PortView) → ArePortsOf mails ports → i < length mails → ((m : MailboxView) → IsPortOf (get_or mails i m) new) → ArePortsOf mails (set ports i new)
ports_set mails ports i new of inside is = record {
  count = length-set ports i new ∙ of.count;
  each = λ k m q k_in. set_at (λ (j : ℕ) (p : PortView). IsPortOf (get_or mails j m) p) ports i new (is m) (λ j p j_in _. of.each j m p (omega (arith, j_in, of.count))) k q (omega (arith, k_in, of.count));
}

-- what is joined to a port leaves it in its mailbox
joined_of : (m : MailboxView) (a b c : PortView) → c ≡ joined a b → IsPortOf m a → IsPortOf m c
joined_of m a b c is of = subst (IsPortOf m) (sym is) of

pub gathering_one : (i : ℕ) (mails : List MailboxView) (olds ports news : List PortView) (a b c : PortView) → Gathering i mails olds ports news → i < length mails → length ports ≡ length mails → length olds ≡ length mails →
    a ≡ get_or news i a → b ≡ get_or ports i b → c ≡ joined a b → Gathering (i + 1) mails olds ports (set news i c)
gathering_one i mails olds ports news a b c g inside ports_count olds_count a_is b_is c_is =
    let here : i < length news = omega (arith, inside, g.of.count) in
    let now : (d e : PortView) → c ≡ joined (get_or olds i d) (get_or ports i e) = λ d e.
    c_is ∙ (λ z. joined
    ((a_is ∙ (g.still i a (omega arith) ∙ get_or_default olds i a d (omega (arith, inside, olds_count)))) z)
    ((b_is ∙ get_or_default ports i b e (omega (arith, inside, ports_count))) z)) in record {
      of = ports_set mails news i c g.of inside (λ m. joined_of (get_or mails i m) a b c c_is (subst (IsPortOf (get_or mails i m)) (sym a_is) (g.of.each i m a inside)));
      done = λ k q d e below. dite (ℕ_discrete k i)
          (λ same.
          let at : get_or (set news i c) k q ≡ c = ap (λ (z : ℕ). get_or (set news i c) z q) same ∙ get_or-set_same news i c q here in
          at ∙ (now d e ∙ ap (λ (z : ℕ). joined (get_or olds z d) (get_or ports z e)) (sym same)))
          (λ ne. get_or-set_other news i k c q ne ∙ g.done k q d e (omega (arith, below, ne)));
      still = λ k q above. let ne : k ≢ i = (λ e. absurd (omega (arith, e, above))) in get_or-set_other news i k c q ne ∙ g.still k q (omega (arith, above));
    }

pub gathered : (me i : ℕ) (mails : List MailboxView) (olds ports news : List PortView) (a inbox c : PortView) → Gathering i mails olds ports news → length mails ≤ i → me < length mails →
    a ≡ get_or news me a → c ≡ joined a inbox → AreGathered me mails olds ports inbox (set news me c)
gathered me i mails olds ports news a inbox c g full inside a_is c_is =
    let here : me < length news = omega (arith, inside, g.of.count) in record {
      of = ports_set mails news me c g.of inside (λ m. joined_of (get_or mails me m) a inbox c c_is (subst (IsPortOf (get_or mails me m)) (sym a_is) (g.of.each me m a inside)));
      others = λ k q d e k_in ne. get_or-set_other news me k c q ne ∙ g.done k q d e (omega (arith, full, k_in));
      own = λ q d e. get_or-set_same news me c q here ∙ (c_is ∙ ap (λ (x : PortView). joined x inbox) (a_is ∙ g.done me a d e (omega (arith, full, inside))));
    }

-- ---- what came back with them

-- a sender's port brings back what was put through it, one part, how often a message came back, and where its mailbox was full,
-- that so many were counted
record Brings (me : ℕ) (put : List Message) (often : ℕ) (m : MailboxView) (q : PortView) : Type 0 where
  pub view : q.view ≡ sender_view me put
  pub parts : q.count.parts ≡ 1
  pub mine : q.count.mine ≡ length put
  pub full : 0 < often → m.room ≤ q.count.seen
  pub back : q.count.full ≡ often
  pub none : q.count.collects ≡ 0
  pub finds : q.count.findings ≡ []

has_left : (s : Sender) (xs ys : List Sender) → HasSender s xs → HasSender s (xs ++ ys)
has_left s [] ys has = absurd has
has_left s (x ∷ xs) ys has = ⊎_elim (λ is. inl is) (λ rest. inr (has_left s xs ys rest)) has

has_end : (s : Sender) (xs : List Sender) → HasSender s (xs ++ s ∷ [])
has_end s [] = inl refl
has_end s (x ∷ xs) = inr (has_end s xs)

sum_next : (tale : Tale) (i k : ℕ) → put_to tale (i + 1) k ≡ put_to tale i k + length (tale.put i k)
sum_next tale i k = ap (λ (z : ℕ). put_to tale z k) (add-one i)

often_next : (tale : Tale) (i k : ℕ) → full_to tale (i + 1) k ≡ full_to tale i k + tale.full i k
often_next tale i k = ap (λ (z : ℕ). full_to tale z k) (add-one i)

module _ (tale : Tale) (n i k : ℕ) (m : MailboxView) (a b : PortView) (was : IsBack tale n i k m a) (part : Brings i (tale.put i k) (tale.full i k) m b) where
  -- all senders so far, and this one
  senders_next : (j : ℕ) → j < i + 1 → HasSender (sender j (tale.put j k)) (a.view.senders ++ b.view.senders)
  senders_next j below = subst (λ (w : View). HasSender (sender j (tale.put j k)) (a.view.senders ++ w.senders)) (sym part.view)
      (dite (ℕ_discrete j i)
      (λ e. subst (λ (z : ℕ). HasSender (sender z (tale.put z k)) (a.view.senders ++ sender i (tale.put i k) ∷ [])) (sym e) (has_end (sender i (tale.put i k)) a.view.senders))
      (λ ne. has_left (sender j (tale.put j k)) a.view.senders (sender i (tale.put i k) ∷ []) (was.senders j (omega (arith, below, ne)))))

  -- so many were counted where its mailbox was full
  full_next : (seen : ℕ) → a.count.seen ≤ seen → b.count.seen ≤ seen → (j : ℕ) → j < i + 1 → 0 < tale.full j k → m.room ≤ seen
  full_next seen first second j below some = dite (ℕ_discrete j i)
      (λ e. let here : 0 < tale.full i k = subst (λ (z : ℕ). 0 < tale.full z k) e some in omega (arith, part.full here, second))
      (λ ne. omega (arith, was.full j (omega (arith, below, ne)) some, first))

  same_finds : (joined_count a.count b.count).findings ≡ a.count.findings
  same_finds = ap (λ (fs : List Finding). a.count.findings ++ fs) part.finds ∙ append-nil a.count.findings

  -- the mailbox of another member
  back_other : (c : PortView) → k ≢ i → c ≡ joined a b → IsBack tale n (i + 1) k m c
  back_other c ne is =
      let same : nat_le (i + 1) k ≡ nat_le i k = ⊎_elim
      (λ (lt : k < i). lt-leb (i + 1) k (omega (arith, lt)) ∙ sym (lt-leb i k lt))
      (λ (le : i ≤ k). le-leb (i + 1) k (omega (arith, le, ne)) ∙ sym (le-leb i k le)) (cases_lt k i) in
      let due : due_back (nat_le (i + 1) k) ≡ due_back (nat_le i k) = ap due_back same in
      let known : known_back (nat_le (i + 1) k) (tale.collects k) ≡ known_back (nat_le i k) (tale.collects k) = ap (λ (b : Bool). known_back b (tale.collects k)) same in
      subst (IsBack tale n (i + 1) k m) (sym is) (record {
        of = was.of;
        gives = ap (λ (w : View). (joined_view a.view w).gives) part.view ∙ was.gives;
        next = ap (λ (w : View). (joined_view a.view w).next) part.view ∙ was.next;
        takes = λ below. ap (λ (w : View). (joined_view a.view w).takes) part.view ∙ was.takes (omega (arith, below, ne));
        taken = λ below. ap (λ (w : View). (joined_view a.view w).taken) part.view ∙ was.taken (omega (arith, below, ne));
        senders = senders_next;
        parts = omega (arith, was.parts, part.parts, due);
        mine = omega (arith, was.mine, part.mine, sum_next tale i k);
        full = full_next (joined_count a.count b.count).seen (omega arith) (omega arith);
        often = omega (arith, was.often, part.back, often_next tale i k);
        collects = omega (arith, was.collects, part.none, known);
        finds = λ later. same_finds ∙ was.finds (omega (arith, later));
        each = λ below. ap length same_finds ∙ was.each (omega (arith, below, ne));
        took = λ below. subst (λ (fs : List Finding). TookAllDue m.room fs (length (tale.taken k))) (sym same_finds) (was.took (omega (arith, below, ne)));
      })

  -- the member's own, with its receiver's port
  back_own : (inbox c : PortView) → k ≡ i → inbox.view ≡ receiver_view (tale.taken i) → HasCollectedAlone (tale.collects i) inbox.count → TookAllDue m.room inbox.count.findings (length (tale.taken i)) → c ≡ joined (joined a b) inbox → IsBack tale n (i + 1) k m c
  back_own inbox c same view count took is =
      let was_due : due_back (nat_le i k) ≡ 1 = ap due_back (le-leb i k (omega (arith, same))) in
      let now_due : due_back (nat_le (i + 1) k) ≡ 0 = ap due_back (lt-leb (i + 1) k (omega (arith, same))) in
      let v : View = joined_view a.view b.view in
      let own_finds : (joined_count (joined_count a.count b.count) inbox.count).findings ≡ inbox.count.findings =
      ap (λ (fs : List Finding). fs ++ inbox.count.findings) (same_finds ∙ was.finds (omega (arith, same))) in
      let box_collects : inbox.count.collects ≡ tale.collects k = count.collects ∙ ap tale.collects (sym same) in
      let unknown : known_back (nat_le i k) (tale.collects k) ≡ 0 = ap (λ (z : Bool). known_back z (tale.collects k)) (le-leb i k (omega (arith, same))) in
      let known : known_back (nat_le (i + 1) k) (tale.collects k) ≡ tale.collects k = ap (λ (z : Bool). known_back z (tale.collects k)) (lt-leb (i + 1) k (omega (arith, same))) in
      subst (IsBack tale n (i + 1) k m) (sym is) (record {
        of = was.of;
        gives = ap (λ (w : View). (joined_view v w).gives) view ∙ (ap (λ (w : View). (joined_view a.view w).gives) part.view ∙ was.gives);
        next = ap (λ (w : View). (joined_view v w).next) view ∙ (ap (λ (w : View). (joined_view a.view w).next) part.view ∙ was.next);
        takes = λ _. ap (λ (w : View). (joined_view v w).takes) view;
        taken = λ _. ap (λ (w : View). (joined_view v w).taken) view ∙ ap tale.taken (sym same);
        senders = λ j below. subst (λ (w : View). HasSender (sender j (tale.put j k)) (v.senders ++ w.senders)) (sym view) (has_left (sender j (tale.put j k)) v.senders [] (senders_next j below));
        parts = omega (arith, was.parts, part.parts, count.parts, was_due, now_due);
        mine = omega (arith, was.mine, part.mine, count.mine, sum_next tale i k);
        full = full_next (joined_count (joined_count a.count b.count) inbox.count).seen (omega arith) (omega arith);
        often = omega (arith, was.often, part.back, count.full, often_next tale i k);
        collects = omega (arith, was.collects, part.none, box_collects, unknown, known);
        finds = λ later. absurd (omega (arith, later, same));
        each = λ below. ap length own_finds ∙ (count.each ∙ ap tale.collects (sym same));
        took = λ below. subst (λ (fs : List Finding). TookAllDue m.room fs (length (tale.taken k))) (sym own_finds)
            (subst (λ (z : ℕ). TookAllDue m.room inbox.count.findings (length (tale.taken z))) (sym same) took);
      })

-- the ports of one member more are back
back_one : (tale : Tale) (n i : ℕ) (mails : List MailboxView) (olds ports : List PortView) (inbox : PortView) (news : List PortView) → AreBack tale n i mails olds → AreGathered i mails olds ports inbox news →
    ((k : ℕ) (m : MailboxView) (q : PortView) → k < length mails → Brings i (tale.put i k) (tale.full i k) (get_or mails k m) (get_or ports k q)) →
    inbox.view ≡ receiver_view (tale.taken i) → HasCollectedAlone (tale.collects i) inbox.count → ((m : MailboxView) → TookAllDue (get_or mails i m).room inbox.count.findings (length (tale.taken i))) →
    AreBack tale n (i + 1) mails news
back_one tale n i mails olds ports inbox news back g brings view count took = record {
  count = g.of.count;
  each = λ k m q inside.
      let was = back.each k m q inside in
      let part = brings k m q inside in
      dite (ℕ_discrete k i)
      (λ e. back_own tale n i k (get_or mails k m) (get_or olds k q) (get_or ports k q) was part inbox (get_or news k q) e view count (subst (λ (z : ℕ). TookAllDue (get_or mails z m).room inbox.count.findings (length (tale.taken i))) (sym e) (took m))
      (subst (λ (z : ℕ). get_or news z q ≡ joined (joined (get_or olds z q) (get_or ports z q)) inbox) (sym e) (g.own q q q)))
      (λ ne. back_other tale n i k (get_or mails k m) (get_or olds k q) (get_or ports k q) was part (get_or news k q) ne (g.others k q q q inside ne));
}

-- before the first member's
pub back_none : (tale : Tale) (mails : List MailboxView) (masters : List PortView) → AreOpened (length mails) mails masters → AreBack tale (length mails) 0 mails masters
back_none tale mails masters opened = record {
  count = opened.count;
  each = λ k m q inside.
      let x = opened.each k m q inside in
      let one : away (nat_le (length mails) k) ≡ 1 = ap away (lt-leb (length mails) k inside) in
      let two : due_back (nat_le 0 k) ≡ 1 = ap due_back (le-leb 0 k (omega arith)) in
      let unknown : known_back (nat_le 0 k) (tale.collects k) ≡ 0 = ap (λ (z : Bool). known_back z (tale.collects k)) (le-leb 0 k (omega arith)) in record {
        of = x.of;
        gives = ap (λ (w : View). w.gives) x.view;
        next = ap (λ (w : View). w.next) x.view;
        takes = λ none. absurd (omega arith);
        taken = λ none. absurd (omega arith);
        senders = λ j none. absurd (omega arith);
        parts = omega (arith, x.parts, one, two);
        mine = x.mine;
        full = λ j none. absurd (omega arith);
        often = x.back;
        collects = x.collects ∙ sym unknown;
        finds = λ _. x.finds;
        each = λ none. absurd (omega arith);
        took = λ none. absurd (omega arith);
      };
}

-- ---- what members bring back after their turns

pub length-messages : (from place : ℕ) (rows : List (List ℕ)) → length (messages_from from place rows) ≡ length rows
length-messages from place [] = refl
length-messages from place (row ∷ rows) = ap suc (length-messages from (place + 1) rows)

served_brings : (plan : Plan) (own me place turns k : ℕ) (rows : List (List ℕ)) (m : MailboxView) (d : Dispatch) (q : PortView) → own ≡ me → HasServed plan own place turns rows k m d q → Brings me (messages_from me 0 (take d.sent rows)) d.full m q
served_brings plan own me place turns k rows m d q same s = record {
  view = s.sent.put ∙ ap (λ (z : ℕ). sender_view z (messages_from z 0 (take d.sent rows))) same;
  parts = s.sent.part;
  mine = s.sent.mine ∙ sym (length-messages me 0 (take d.sent rows) ∙ length-take-le d.sent rows s.sent.within);
  full = s.full;
  back = s.back;
  none = s.sent.none;
  finds = s.sent.finds;
}

module _ (plan : Plan) (mails : List MailboxView) (p : SharedNode Secrets) (i : ℕ) (j : Job) (turned : HasTurned plan mails p i j) where
  turned_brings : (k : ℕ) (m : MailboxView) (q : PortView) → k < length mails → Brings i (put_by i (bytes_seen p j.desk.seat) j.desk.log k) (dispatch_to j.desk.log k).full (get_or mails k m) (get_or j.desk.ports.items k q)
  turned_brings k m q inside =
      served_brings plan j.desk.me i turned.place turned.turns k (bytes_seen p j.desk.seat) (get_or mails k m) (dispatch_to j.desk.log k) (get_or j.desk.ports.items k q) turned.me (turned.stands.served.each k m no_dispatch q inside)

  pub turned_ports : ArePortsOf mails j.desk.ports.items
  turned_ports = record { count = turned.stands.served.ports; each = λ k m q inside. (turned.stands.served.each k m no_dispatch q inside).sent.of }

  pub turned_inbox : (m : MailboxView) → IsPortOf (get_or mails i m) j.desk.inbox
  turned_inbox m = subst (λ (z : ℕ). IsPortOf (get_or mails z m) j.desk.inbox) turned.me (turned.stands.inbox m).of

  turned_view : (m : MailboxView) → j.desk.inbox.view ≡ receiver_view j.desk.log.intake.taken.items
  turned_view m = (turned.stands.inbox m).view

  turned_count : HasCollectedAlone j.desk.inbox.count.collects j.desk.inbox.count
  turned_count = let alone = turned.stands.alone in record { parts = alone.parts; mine = alone.mine; full = alone.full; collects = refl; each = alone.each ∙ sym alone.collects }

  turned_took : (m : MailboxView) → TookAllDue (get_or mails i m).room j.desk.inbox.count.findings (length j.desk.log.intake.taken.items)
  turned_took m = subst (λ (z : ℕ). TookAllDue (get_or mails z m).room j.desk.inbox.count.findings (length j.desk.log.intake.taken.items)) turned.me (turned.stands.inbox m).took

pub back_next : (mails : List MailboxView) (places : List (SharedNode Secrets)) (jobs : List Job) (i : ℕ) (j : Job) (olds news : List PortView) → HaveTurned mails places jobs → i < length jobs → j ≡ get_or jobs i j →
    AreGathered i mails olds j.desk.ports.items j.desk.inbox news → ((p : SharedNode Secrets) (d : Job) → AreBack (tale_of places jobs p d) (length mails) i mails olds) →
    (p : SharedNode Secrets) (d : Job) → AreBack (tale_of places jobs p d) (length mails) (i + 1) mails news
back_next mails places jobs i j olds news h inside j_is g back p d =
    let t = h.each i p d inside in
    let there : Job = get_or jobs i d in
    let is : j ≡ there = j_is ∙ get_or_default jobs i j d inside in
    let gathered : AreGathered i mails olds there.desk.ports.items there.desk.inbox news = subst (λ (x : Job). AreGathered i mails olds x.desk.ports.items x.desk.inbox news) is g in
    first_of _ mails (omega (arith, inside, h.jobs_count)) (λ m.
    back_one (tale_of places jobs p d) (length mails) i mails olds there.desk.ports.items there.desk.inbox news (back p d) gathered
    (turned_brings h.plan mails (get_or places i p) i there t) (turned_view h.plan mails (get_or places i p) i there t m) (turned_count h.plan mails (get_or places i p) i there t) (turned_took h.plan mails (get_or places i p) i there t))
