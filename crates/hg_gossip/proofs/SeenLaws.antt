-- What a holder has seen, before and after changes
use Rattle.std.proofs.Common.{◌≡◌, ℕ, suc, ◌+◌, List, [], ◌∷◌, ◌++◌, length, Result, Ok, Err, sym, refl, ap, ◌∙◌, subst, arith}
use Rattle.std.specs.Prelude.{IfOk, OnErr, OnOk}
use Rattle.std.proofs.lemmas.List.{append-nil}
use Rattle.hg_life.specs.declared.answers.PutAnswer.{PutAnswer}
use Rattle.hg_life.specs.declared.answers.MakeAnswer.{MakeAnswer}
use Rattle.hg_life.specs.Signing.{Accepts}
use Rattle.hg_life.specs.History.{Change}
use Rattle.hg_life.specs.NodeView.{IsNode, NodeView, with_changes}
use Rattle.hg_life.specs.Calls.{IsMaking, make_changes, put_answer, put_changes}
use Rattle.hg_gossip.specs.Holding.{Makes, PutsBytes, Rules, Seen, Waits, positions_from, rules_alone, seen_whole, with_others, with_own}

module _ {K : Type 0} where
  pub others_none : (s : Seen K) → with_others s [] ≡ s
  others_none s = ap at (append-nil s.node.history)
    where
      at : List Change → Seen K
      at h = record { node = record { start = s.node.start; history = h }; positions = s.positions }

  -- nothing came between
  pub waits_same : (rules : Rules K) (old new : Seen K) → new ≡ old → Waits rules old new
  waits_same rules old new same = record {
    others = [];
    alone = λ _. refl;
    later = same ∙ sym (others_none old);
    lawful = subst (λ (s : Seen K). IsNode rules.accepts s.node) (sym same);
  }

  pub waits_none : (rules : Rules K) (s : Seen K) → Waits rules s s
  waits_none rules s = waits_same rules s s refl

-- what a call that failed left as it was, of which this is so
pub still_so : {K A E : Type 0} (IsSo : NodeView K → Type 0) (old new : NodeView K) (result : Result A E) → OnErr result (new ≡ old) → OnErr result (IsSo old) → OnErr result (IsSo new)
still_so IsSo old new (Ok a) same so = tt
still_so IsSo old new (Err e) same so = subst IsSo (sym same) so

positions_past : (p : ℕ) (h es : List Change) → positions_from p (h ++ es) ≡ positions_from p h ++ positions_from (p + length h) es
positions_past p [] es = ap (λ (q : ℕ). positions_from q es) (omega arith)
positions_past p (e ∷ h) es =
    ap (λ (ps : List ℕ). p ∷ ps) (positions_past (suc p) h es ∙ ap (λ (q : ℕ). positions_from (suc p) h ++ positions_from q es) (omega arith))

module _ {K : Type 0} (accepts : K → Accepts) where
  positions_grown : (v : NodeView K) (es : List Change) → positions_from 0 (v.history ++ es) ≡ positions_from 0 v.history ++ positions_from (length v.history) es
  positions_grown v es = positions_past 0 v.history es ∙ ap (λ (q : ℕ). positions_from 0 v.history ++ positions_from q es) (omega arith)

  -- a node that has one holder adds what its calls add
  pub whole_grown : (v w : NodeView K) (es : List Change) → w ≡ with_changes v es → seen_whole w ≡ with_own (seen_whole v) es
  whole_grown v w es grown = ap seen_whole grown ∙ ap at (positions_grown v es)
    where
      at : List ℕ → Seen K
      at ps = record { node = with_changes v es; positions = ps }

  -- bytes were put to it
  pub whole_put : {E : Type 0} (v w : NodeView K) (bytes : List ℕ) (result : Result PutAnswer E) → IfOk result (λ a. a ≡ put_answer accepts v bytes) →
      OnOk result (w ≡ with_changes v (put_changes accepts v bytes)) → IfOk result (PutsBytes (rules_alone accepts) (seen_whole v) bytes (seen_whole w))
  whole_put v w bytes (Ok a) answer grown = record {
    reached = seen_whole v;
    waits = waits_none (rules_alone accepts) (seen_whole v);
    answers = answer;
    grown = whole_grown v w (put_changes accepts v bytes) grown;
  }
  whole_put v w bytes (Err e) answer grown = tt

  -- it made an event, or refused to
  pub whole_made : {E : Type 0} (v w : NodeView K) (others : List (List ℕ)) (time : ℕ) (payload : List ℕ) (result : Result MakeAnswer E) →
      IfOk result (λ a. IsMaking accepts v others time payload a w) → IfOk result (Makes (rules_alone accepts) (seen_whole v) others time payload (seen_whole w))
  whole_made v w others time payload (Ok a) is = record {
    reached = seen_whole v;
    waits = waits_none (rules_alone accepts) (seen_whole v);
    making = is;
    positions = ap (λ (u : NodeView K). positions_from 0 u.history) is.grown ∙ positions_grown v (make_changes v others time payload is.sig);
  }
  whole_made v w others time payload (Err e) is = tt

  -- memory ran out
  pub whole_kept : {A E : Type 0} (v w : NodeView K) (result : Result A E) → OnErr result (w ≡ v) → OnErr result (Waits (rules_alone accepts) (seen_whole v) (seen_whole w))
  whole_kept v w (Ok a) same = tt
  whole_kept v w (Err e) same = waits_same (rules_alone accepts) (seen_whole v) (seen_whole w) (ap seen_whole same)
