-- Each step of a mailbox's queue keeps its rule, and tells what it tells
use Rattle.std.proofs.Common.{◌≡◌, ◌≢◌, ℕ, zero, suc, ◌+◌, ◌<◌, ◌≤◌, Bool, true, false, true≢false, ◌||◌, cond, eqb, eq-eqb, ne_eqb, List, [], ◌∷◌, ◌++◌, length, map, set, inl, inr, refl, sym, ap, ◌∙◌, subst, ⊎_elim, append_assoc, append-nil, length-append, arith}
use Rattle.std.specs.List.{AllByRecursion}
use mathlib.Core.Option.{some}
use lib.ListN.{get_elem?}
use Rattle.std.proofs.lemmas.Bool.{cases_lt}
use Rattle.std.proofs.lemmas.List.Elements.{filter-append}
use Rattle.atomic_table.proofs.Lists.{at_set}
use Rattle.crossbeam_queue.specs.Fifo.{Pushes, Pops, Forks, Merges, Learns}
use Rattle.hg_mail.specs.declared.message.Message.{Message}
use Rattle.hg_mail.specs.declared.view.Sender.{Sender}
use Rattle.hg_mail.specs.declared.view.View.{View}
use Rattle.hg_mail.specs.Messages.{AreFrom, HasPort, IsAmong, IsEmptied, IsWhole, Puts, Takes, after_hand, after_issue, after_post, after_put, after_taking, first_view, handed, issued, joined_view, messages_of, spent_view}
use Rattle.hg_mail.specs.Rule.{Delivers, HasSender, HeldAt, IsAt, Knows, Ledger}
use Rattle.hg_mail.proofs.ListLaws.{Each, all_append, all_map, each_one, each_push, each_set, of_another}

pub begins : Delivers [] (first_view ∷ [])
begins =
    let ledger : Ledger = record { receiver = 0; giver = 0; next = 0; port_of = λ _. 0; taken = []; put = [] } in record {
      ledger = ledger;
      all = refl;
      fresh = λ from later. refl;
      each = each_one (Knows ledger) first_view (record { takes = λ _. (refl, refl); gives = λ _. (refl, refl); senders = tt });
    }

-- what is known of a sender that has put in nothing more, and stays where it is
same_sender : (l k : Ledger) (port : ℕ) → k.next ≡ l.next → k.port_of ≡ l.port_of → k.put ≡ l.put → (s : Sender) → HasSender l port s → HasSender k port s
same_sender l k port next ports put s has = record {
  known = omega (arith, has.known, next);
  here = ap (λ f. f s.from) ports ∙ has.here;
  all = has.all ∙ ap (messages_of s.from) (sym put);
}

-- of a port's senders each has put in what is its own of one message more
sender_puts : (l : Ledger) (m : Message) (port : ℕ) (ss : List Sender) → AllByRecursion (HasSender l port) ss → AllByRecursion (HasSender (record l { put = l.put ++ m ∷ [] }) port) (map (after_put m) ss)
sender_puts l m port [] all = tt
sender_puts l m port (s ∷ ss) all = (
  record {
    known = all.0.known;
    here = all.0.here;
    all = ap (λ (put : List Message). put ++ messages_of s.from (m ∷ [])) all.0.all ∙ sym (filter-append (λ n. eqb n.from s.from) l.put (m ∷ []));
  },
  sender_puts l m port ss all.1,
)

-- another port's senders have put in nothing
sender_later : (l : Ledger) (m : Message) (port j : ℕ) → l.port_of m.from ≡ port → j ≢ port → (s : Sender) → HasSender l j s → HasSender (record l { put = l.put ++ m ∷ [] }) j s
sender_later l m port j own apart s has = record {
  known = has.known;
  here = has.here;
  all = has.all ∙ sym (of_another s.from l.put m (λ (is : m.from ≡ s.from). apart (sym has.here ∙ (ap l.port_of (sym is) ∙ own))));
}

-- a sender that is among those of a port is known, and has that port
sender_here : (l : Ledger) (port from : ℕ) (ss : List Sender) → IsAmong from ss → AllByRecursion (HasSender l port) ss → (from < l.next) × (l.port_of from ≡ port)
sender_here l port from [] none all = absurd none
sender_here l port from (s ∷ ss) (inl is) all = (omega (arith, all.0.known, is), ap l.port_of (sym is) ∙ all.0.here)
sender_here l port from (s ∷ ss) (inr later) all = sender_here l port from ss later all.1

pub puts : (room port : ℕ) (v : View) (m : Message) → HasPort m.from v → Pushes Delivers room port v m (Puts v m)
puts room port v m has held views short rule at =
    let old : Ledger = rule.ledger in
    let new : Ledger = record old { put = old.put ++ m ∷ [] } in
    let mine : Knows old port v = rule.each port v at in
    let own : (m.from < old.next) × (old.port_of m.from ≡ port) = sender_here old port m.from v.senders has mine.senders in (
      after_post v m,
      record {
        ledger = new;
        all = ap (λ (l : List Message). l ++ m ∷ []) rule.all ∙ append_assoc old.taken held (m ∷ []);
        fresh = λ from later. of_another from old.put m (λ (is : m.from ≡ from). absurd (omega (arith, own.0, is, later))) ∙ rule.fresh from later;
        each = each_set (Knows new) views port (after_post v m)
            (record { takes = mine.takes; gives = mine.gives; senders = sender_puts old m port v.senders mine.senders })
            (λ j u apart there. let o = rule.each j u there in record { takes = o.takes; gives = o.gives; senders = all_map (HasSender old j) (HasSender new j) (sender_later old m port j own.1 apart) u.senders o.senders });
      },
      refl,
    )

pub takes : (port : ℕ) (v : View) → v.takes ≡ true → Pops Delivers port v (Takes v)
takes port v may m held views rule at =
    let old : Ledger = rule.ledger in
    let new : Ledger = record old { taken = old.taken ++ m ∷ [] } in
    let mine : Knows old port v = rule.each port v at in (
      after_taking v (m ∷ []),
      record {
        ledger = new;
        all = rule.all ∙ sym (append_assoc old.taken (m ∷ []) held);
        fresh = rule.fresh;
        each = each_set (Knows new) views port (after_taking v (m ∷ []))
            (record {
              takes = λ _. ((mine.takes may).0, ap (λ (l : List Message). l ++ m ∷ []) (mine.takes may).1);
              gives = mine.gives;
              senders = all_map (HasSender old port) (HasSender new port) (same_sender old new port refl refl refl) v.senders mine.senders;
            })
            (λ j u apart there. let o = rule.each j u there in record {
              takes = λ e. absurd (apart ((o.takes e).0 ∙ sym (mine.takes may).0));
              gives = o.gives;
              senders = all_map (HasSender old j) (HasSender new j) (same_sender old new j refl refl refl) u.senders o.senders;
            });
      },
      refl,
    )

pub learns : (port : ℕ) (v : View) → Learns Delivers port v (IsAt v)
learns port v held views rule at = record { views = views; port = port; rule = rule; here = at }

-- a sender's port is given out
pub issues : (port : ℕ) (v : View) → v.gives ≡ true → Forks Delivers port v (after_issue v) (issued v)
issues port v may held views rule at =
    let old : Ledger = rule.ledger in
    let mine : Knows old port v = rule.each port v at in
    let kept : List View = set views port (after_issue v) in
    let there : ℕ = length kept in
    let new : Ledger = record old { next = old.next + 1; port_of = λ from. cond (eqb from old.next) there (old.port_of from) } in
    let same : v.next ≡ old.next = (mine.gives may).1 in
    let stays : (j : ℕ) (s : Sender) → HasSender old j s → HasSender new j s = λ j s has. record {
      known = omega (arith, has.known);
      here = ap (λ (b : Bool). cond b there (old.port_of s.from)) (ne_eqb s.from old.next (λ (is : s.from ≡ old.next). absurd (omega (arith, has.known, is)))) ∙ has.here;
      all = has.all;
    } in
    record {
      ledger = new;
      all = rule.all;
      fresh = λ from later. rule.fresh from (omega (arith, later));
      each = each_push (Knows new) kept (issued v)
          (each_set (Knows new) views port (after_issue v)
          (record {
            takes = mine.takes;
            gives = λ _. ((mine.gives may).0, ap (λ n. n + 1) same);
            senders = all_map (HasSender old port) (HasSender new port) (stays port) v.senders mine.senders;
          })
          (λ j u apart is. let o = rule.each j u is in record {
            takes = o.takes;
            gives = λ e. absurd (apart ((o.gives e).0 ∙ sym (mine.gives may).0));
            senders = all_map (HasSender old j) (HasSender new j) (stays j) u.senders o.senders;
          }))
          (record {
            takes = λ e. absurd (true≢false (sym e));
            gives = λ e. absurd (true≢false (sym e));
            senders = (
              record {
                known = omega (arith, same);
                here = ap (λ (b : Bool). cond b there (old.port_of v.next)) (eq-eqb v.next old.next same);
                all = sym (rule.fresh v.next (omega (arith, same)));
              },
              tt,
            );
          });
    }

-- the receiver's port is given out
pub hands : (port : ℕ) (v : View) → v.takes ≡ true → Forks Delivers port v (after_hand v) (handed v)
hands port v may held views rule at =
    let old : Ledger = rule.ledger in
    let mine : Knows old port v = rule.each port v at in
    let kept : List View = set views port (after_hand v) in
    let new : Ledger = record old { receiver = length kept } in record {
      ledger = new;
      all = rule.all;
      fresh = rule.fresh;
      each = each_push (Knows new) kept (handed v)
          (each_set (Knows new) views port (after_hand v)
          (record {
            takes = λ e. absurd (true≢false (sym e));
            gives = mine.gives;
            senders = all_map (HasSender old port) (HasSender new port) (same_sender old new port refl refl refl) v.senders mine.senders;
          })
          (λ j u apart is. let o = rule.each j u is in record {
            takes = λ e. absurd (apart ((o.takes e).0 ∙ sym (mine.takes may).0));
            gives = o.gives;
            senders = all_map (HasSender old j) (HasSender new j) (same_sender old new j refl refl refl) u.senders o.senders;
          }))
          (record { takes = λ _. (refl, (mine.takes may).1); gives = λ e. absurd (true≢false (sym e)); senders = tt });
    }

-- who has a right that another port does not give up keeps it
right_stays : (port j new holder : ℕ) → j ≡ holder → j ≢ port → (b : Bool) → (b ≡ true → port ≡ holder) → holder ≡ cond b new holder
right_stays port j new holder is apart true gone = absurd (apart (is ∙ sym (gone refl)))
right_stays port j new holder is apart false gone = refl

-- the rights of two ports at one of them
right_joined : {A : Type 0} (port holder : ℕ) (known mine theirs : A) (v w : Bool) → (v ≡ true → (port ≡ holder) × (mine ≡ known)) → (w ≡ true → theirs ≡ known) → (w || v) ≡ true →
    (port ≡ cond w port holder) × (cond w theirs mine ≡ known)
right_joined port holder known mine theirs v true knows its e = (refl, its refl)
right_joined port holder known mine theirs v false knows its e = knows e

-- every right goes to a new port
pub moves : (port : ℕ) (v : View) → Forks Delivers port v spent_view v
moves port v held views rule at =
    let old : Ledger = rule.ledger in
    let mine : Knows old port v = rule.each port v at in
    let kept : List View = set views port spent_view in
    let there : ℕ = length kept in
    let new : Ledger = record old {
      receiver = cond v.takes there old.receiver;
      giver = cond v.gives there old.giver;
      port_of = λ from. cond (eqb (old.port_of from) port) there (old.port_of from);
    } in
    let stays : (j : ℕ) → j ≢ port → (s : Sender) → HasSender old j s → HasSender new j s = λ j apart s has. record {
      known = has.known;
      here = ap (λ (b : Bool). cond b there (old.port_of s.from)) (ne_eqb (old.port_of s.from) port (λ is. apart (sym has.here ∙ is))) ∙ has.here;
      all = has.all;
    } in
    let comes : (s : Sender) → HasSender old port s → HasSender new there s = λ s has. record {
      known = has.known;
      here = ap (λ (b : Bool). cond b there (old.port_of s.from)) (eq-eqb (old.port_of s.from) port has.here);
      all = has.all;
    } in
    record {
      ledger = new;
      all = rule.all;
      fresh = rule.fresh;
      each = each_push (Knows new) kept v
          (each_set (Knows new) views port spent_view (record { takes = λ e. absurd (true≢false (sym e)); gives = λ e. absurd (true≢false (sym e)); senders = tt })
          (λ j u apart is. let o = rule.each j u is in record {
            takes = λ e. ((o.takes e).0 ∙ right_stays port j there old.receiver (o.takes e).0 apart v.takes (λ f. (mine.takes f).0), (o.takes e).1);
            gives = λ e. ((o.gives e).0 ∙ right_stays port j there old.giver (o.gives e).0 apart v.gives (λ f. (mine.gives f).0), (o.gives e).1);
            senders = all_map (HasSender old j) (HasSender new j) (stays j apart) u.senders o.senders;
          }))
          (record {
            takes = λ e. (sym (ap (λ (b : Bool). cond b there old.receiver) e), (mine.takes e).1);
            gives = λ e. (sym (ap (λ (b : Bool). cond b there old.giver) e), (mine.gives e).1);
            senders = all_map (HasSender old port) (HasSender new there) comes v.senders mine.senders;
          });
    }

-- a port is absorbed
pub merges : (port : ℕ) (v : View) (other : ℕ) (w : View) → Merges Delivers port v other w (joined_view v w) spent_view
merges port v other w held views rule at two there =
    let old : Ledger = rule.ledger in
    let both : View = joined_view v w in
    let was : get_elem? views other ≡ some w = ⊎_elim (λ t. absurd (two t.0)) (λ t. t.1) (at_set views port other both w there) in
    let mine : Knows old port v = rule.each port v at in
    let theirs : Knows old other w = rule.each other w was in
    let new : Ledger = record old {
      receiver = cond w.takes port old.receiver;
      giver = cond w.gives port old.giver;
      port_of = λ from. cond (eqb (old.port_of from) other) port (old.port_of from);
    } in
    let stays : (j : ℕ) → j ≢ other → (s : Sender) → HasSender old j s → HasSender new j s = λ j apart s has. record {
      known = has.known;
      here = ap (λ (b : Bool). cond b port (old.port_of s.from)) (ne_eqb (old.port_of s.from) other (λ is. apart (sym has.here ∙ is))) ∙ has.here;
      all = has.all;
    } in
    let comes : (s : Sender) → HasSender old other s → HasSender new port s = λ s has. record {
      known = has.known;
      here = ap (λ (b : Bool). cond b port (old.port_of s.from)) (eq-eqb (old.port_of s.from) other has.here);
      all = has.all;
    } in
    let P : ℕ → View → Type 0 = λ j u. j ≢ other → Knows new j u in
    let joined : Each P (set views port both) = each_set P views port both
    (λ _. record {
      takes = right_joined port old.receiver old.taken v.taken w.taken v.takes w.takes mine.takes (λ e. (theirs.takes e).1);
      gives = right_joined port old.giver old.next v.next w.next v.gives w.gives mine.gives (λ e. (theirs.gives e).1);
      senders = all_append (HasSender new port) v.senders w.senders
          (all_map (HasSender old port) (HasSender new port) (stays port (λ is. two (sym is))) v.senders mine.senders)
          (all_map (HasSender old other) (HasSender new port) comes w.senders theirs.senders);
    })
    (λ j u away is apart. let o = rule.each j u is in record {
      takes = λ e. ((o.takes e).0 ∙ right_stays other j port old.receiver (o.takes e).0 apart w.takes (λ f. (theirs.takes f).0), (o.takes e).1);
      gives = λ e. ((o.gives e).0 ∙ right_stays other j port old.giver (o.gives e).0 apart w.gives (λ f. (theirs.gives f).0), (o.gives e).1);
      senders = all_map (HasSender old j) (HasSender new j) (stays j apart) u.senders o.senders;
    }) in
    record {
      ledger = new;
      all = rule.all;
      fresh = rule.fresh;
      each = each_set (Knows new) (set views port both) other spent_view
          (record { takes = λ e. absurd (true≢false (sym e)); gives = λ e. absurd (true≢false (sym e)); senders = tt })
          (λ j u apart is. joined j u is apart);
    }

none_held : (held : List Message) → length held ≡ 0 → held ≡ []
none_held [] e = refl
none_held (m ∷ held) e = absurd (omega (arith, e))

-- of nobody from this number on there is a message
none_later : (next : ℕ) (ms : List Message) → ((from : ℕ) → next ≤ from → messages_of from ms ≡ []) → AreFrom next ms
none_later next [] none = tt
none_later next (m ∷ ms) none = (
  ⊎_elim (λ (low : m.from < next). low) (λ (past : next ≤ m.from). absurd (some_first m ms (none m.from past))) (cases_lt m.from next),
  none_later next ms (λ from past. none_behind (eqb m.from from) m (messages_of from ms) (none from past)),
)
  where
    none_behind : (b : Bool) (x : Message) (rest : List Message) → cond b (x ∷ rest) rest ≡ [] → rest ≡ []
    none_behind true x rest none = absurd (cc none)
    none_behind false x rest none = none

    some_first : (x : Message) (rest : List Message) → messages_of x.from (x ∷ rest) ≡ [] → ⊥
    some_first x rest none = not_nil x (messages_of x.from rest) (sym (ap (λ (b : Bool). cond b (x ∷ messages_of x.from rest) (messages_of x.from rest)) (eq-eqb x.from x.from refl)) ∙ none)
      where
        not_nil : (y : Message) (ys : List Message) → y ∷ ys ≡ [] → ⊥
        not_nil y ys is = cc is

-- a mailbox that held none: all that was put in was taken out
module _ (v : View) (may : v.takes ≡ true) (held : HeldAt v 0) where
  abbrev old_ledger : Ledger
  old_ledger = held.2.rule.ledger

  old_known : Knows old_ledger held.2.port v
  old_known = held.2.rule.each held.2.port v held.2.here

  all_taken : old_ledger.put ≡ v.taken
  all_taken =
      held.2.rule.all ∙ (ap (λ (l : List Message). old_ledger.taken ++ l) (none_held held.0 held.1) ∙ (append-nil old_ledger.taken ∙ sym (old_known.takes may).1))

  pub emptied : IsEmptied v
  emptied = all_map (HasSender old_ledger held.2.port) (λ (x : Sender). x.put ≡ messages_of x.from v.taken) (λ x has. has.all ∙ ap (messages_of x.from) all_taken) v.senders old_known.senders

  -- .. and each of it is of a sender whose port was given out
  pub from_senders : v.gives ≡ true → AreFrom v.next v.taken
  from_senders gives = none_later v.next v.taken (λ from later. ap (messages_of from) (sym all_taken) ∙ held.2.rule.fresh from (omega (arith, later, (old_known.gives gives).1)))

-- ---- a port with all rights knows how many messages the mailbox holds

-- how many messages the first senders have among these
abbrev pub count_from : ℕ → List Message → ℕ
count_from zero ms = 0
count_from (suc n) ms = count_from n ms + length (messages_of n ms)

count_none : (n : ℕ) → count_from n [] ≡ 0
count_none zero = refl
count_none (suc n) = omega (arith, count_none n)

head_own : (k : ℕ) (m : Message) (ms : List Message) → m.from ≡ k → length (messages_of k (m ∷ ms)) ≡ length (messages_of k ms) + 1
head_own k m ms is = ap (λ (b : Bool). length (cond b (m ∷ messages_of k ms) (messages_of k ms))) (eq-eqb m.from k is) ∙ omega arith

head_other : (k : ℕ) (m : Message) (ms : List Message) → m.from ≢ k → length (messages_of k (m ∷ ms)) ≡ length (messages_of k ms)
head_other k m ms apart = ap (λ (b : Bool). length (cond b (m ∷ messages_of k ms) (messages_of k ms))) (ne_eqb m.from k apart)

count_past : (n : ℕ) (m : Message) (ms : List Message) → n ≤ m.from → count_from n (m ∷ ms) ≡ count_from n ms
count_past zero m ms past = refl
count_past (suc n) m ms past =
    omega (arith, count_past n m ms (omega (arith, past)), head_other n m ms (λ (is : m.from ≡ n). absurd (omega (arith, past, is))))

count_more : (n : ℕ) (m : Message) (ms : List Message) → m.from < n → count_from n (m ∷ ms) ≡ count_from n ms + 1
count_more zero m ms low = absurd (omega (arith, low))
count_more (suc n) m ms low = ⊎_elim
    (λ (lower : m.from < n). omega (arith, count_more n m ms lower, head_other n m ms (λ (is : m.from ≡ n). absurd (omega (arith, lower, is)))))
    (λ (past : n ≤ m.from). omega (arith, count_past n m ms past, head_own n m ms (omega (arith, past, low)))) (cases_lt m.from n)

pub count_all : (n : ℕ) (ms : List Message) → AreFrom n ms → count_from n ms ≡ length ms
count_all n [] all = count_none n
count_all n (m ∷ ms) all = omega (arith, count_more n m ms all.0, count_all n ms all.1)

same_count : (n : ℕ) (ms ns : List Message) → ((from : ℕ) → from < n → messages_of from ms ≡ messages_of from ns) → count_from n ms ≡ count_from n ns
same_count zero ms ns same = refl
same_count (suc n) ms ns same = omega (arith, same_count n ms ns (λ from low. same from (omega (arith, low))), ap length (same n (omega arith)))

-- what a sender of a port has put in is the same at each step at which the port knows the same of it
same_put : (l k : Ledger) (port other from : ℕ) (ss : List Sender) → IsAmong from ss → AllByRecursion (HasSender l port) ss → AllByRecursion (HasSender k other) ss →
    messages_of from l.put ≡ messages_of from k.put
same_put l k port other from [] none all more = absurd none
same_put l k port other from (s ∷ ss) (inl is) all more =
    subst (λ (n : ℕ). messages_of n l.put ≡ messages_of n k.put) is (sym all.0.all ∙ more.0.all)
same_put l k port other from (s ∷ ss) (inr later) all more = same_put l k port other from ss later all.1 more.1

module _ (v : View) (left : List Message) (held : ℕ) (whole : IsWhole v) (first : HeldAt v held) (last : HeldAt (after_taking v left) 0) where
  abbrev before : Ledger
  before = first.2.rule.ledger

  abbrev then : Ledger
  then = last.2.rule.ledger

  known_before : Knows before first.2.port v
  known_before = first.2.rule.each first.2.port v first.2.here

  known_then : Knows then last.2.port (after_taking v left)
  known_then = last.2.rule.each last.2.port (after_taking v left) last.2.here

  all_before : count_from v.next before.put ≡ length before.put
  all_before = count_all v.next before.put (none_later v.next before.put (λ from later. first.2.rule.fresh from (omega (arith, later, (known_before.gives whole.gives).1))))

  all_then : count_from v.next then.put ≡ length then.put
  all_then = count_all v.next then.put (none_later v.next then.put (λ from later. last.2.rule.fresh from (omega (arith, later, (known_then.gives whole.gives).1))))

  same_all : count_from v.next before.put ≡ count_from v.next then.put
  same_all = same_count v.next before.put then.put (λ from low.
      same_put before then first.2.port last.2.port from v.senders (whole.senders from low) known_before.senders known_then.senders)

  -- so many are then taken out, until it holds none
  pub all_held : length left ≡ held
  all_held =
      let put_before = ap length first.2.rule.all in
      let put_then = ap length last.2.rule.all in
      let taken_before = ap length (known_before.takes whole.takes).1 in
      let taken_then = ap length (known_then.takes whole.takes).1 in
      omega (
        arith,
        all_before,
        all_then,
        same_all,
        put_before,
        put_then,
        taken_before,
        taken_then,
        first.1,
        last.1,
        length-append before.taken first.0,
        length-append then.taken last.0,
        length-append v.taken left,
      )
