-- Messages that were taken out, of which only the first were taken
use Rattle.std.specs.Prelude.{OnErr, sum}
use Rattle.std.proofs.Common.{◌≡◌, inr, ℕ, ◌+◌, Result, Ok, Err, List, [], ◌∷◌, ◌++◌, append_assoc, length, sym, ap, ◌∙◌, subst, arith}
use Rattle.std.proofs.lemmas.List.Sums.{sum_by-cons}
use Rattle.hg_mail.specs.declared.message.Message.{Message}
use Rattle.hg_mail.specs.declared.view.Finding.{Finding}
use Rattle.hg_mail.specs.Mailboxes.{Collects, MailboxView, PortView}
use Rattle.hg_storm.specs.Receiving.{EachTookDue, LosesRest, LosesSome, TakesNotAll, TookAllDue, TookDue}

-- what holds anyway holds at an error
pub on_err : {T E : Type 0} (result : Result T E) (P : Type 0) → P → OnErr result P
on_err (Ok x) P holds = tt
on_err (Err e) P holds = holds

sum_cons : (n : ℕ) (ns : List ℕ) → sum (n ∷ ns) ≡ n + sum ns
sum_cons n ns = sum_by-cons (λ (x : ℕ). x) n ns

-- one collect more took what was due
due_next : (room out : ℕ) (fs : List Finding) (ns : List ℕ) (f : Finding) (n : ℕ) → EachTookDue room out fs ns → TookDue room (out + sum ns) f n →
    EachTookDue room out (fs ++ f ∷ []) (ns ++ n ∷ [])
due_next room out [] [] f n all last = (subst (λ (o : ℕ). TookDue room o f n) (omega arith) last, tt)
due_next room out [] (k ∷ ns) f n all last = absurd all
due_next room out (g ∷ fs) [] f n all last = absurd all
due_next room out (g ∷ fs) (k ∷ ns) f n all last =
    (all.0, due_next room (out + k) fs ns f n all.1 (subst (λ (o : ℕ). TookDue room o f n) (omega (arith, sum_cons k ns)) last))

sum_next : (ns : List ℕ) (n : ℕ) → sum (ns ++ n ∷ []) ≡ sum ns + n
sum_next [] n = omega (arith, sum_cons n [])
sum_next (k ∷ ns) n = omega (arith, sum_next ns n, sum_cons k ns, sum_cons k (ns ++ n ∷ []))

pub took_next : (room out : ℕ) (fs : List Finding) (f : Finding) (n : ℕ) → TookAllDue room fs out → TookDue room out f n → TookAllDue room (fs ++ f ∷ []) (out + n)
took_next room out fs f n was last = record {
  parts = was.parts ++ n ∷ [];
  all = omega (arith, sum_next was.parts n, was.all);
  each = due_next room 0 fs was.parts f n was.each (subst (λ (o : ℕ). TookDue room o f n) (omega (arith, was.all)) last);
}

module _ (m : MailboxView) (p q : PortView) (old new messages : List Message) (collects : Collects m.room p messages q) where
  loses_some : TakesNotAll old messages new → LosesSome m p q old new
  loses_some all = record {
    lost = all.lost;
    some = all.some;
    grows = (all.first.more, all.first.grown);
    out = record {
      more = messages;
      grown = ap (λ (ms : List Message). ms ++ all.lost) all.first.grown
          ∙ (append_assoc old all.first.more all.lost ∙ ap (λ (ms : List Message). old ++ ms) (sym all.first.whole));
      collects = collects;
    };
  }

  pub loses_rest : {T E : Type 0} (result : Result T E) → OnErr result (TakesNotAll old messages new) → OnErr result (LosesRest m p q old new)
  loses_rest (Ok x) all = tt
  loses_rest (Err e) all = inr (loses_some all)
