-- Two orders, compared entry by entry
use Rattle.std.proofs.Common.{◌≡◌, ℕ, ◌+◌, ◌<◌, ◌≤◌, cond, List, [], ◌∷◌, length, drop, get_or, Some, None, sym, ap, ◌∙◌, add-one}
use Rattle.std.proofs.lemmas.List.{at_drop_all, at_drop_more}
use Rattle.hg_model.specs.declared.row.Placed.{Placed}
use Rattle.hg_proof.specs.Judging.{difference_from, is_same}

-- the place itself, where the entries there differ, else that of what is left behind them
pub difference_next : (ps qs : List Placed) (i : ℕ) (d e : Placed) → i < length ps → i < length qs →
    difference_from i (drop i ps) (drop i qs) ≡ cond (is_same (get_or ps i d) (get_or qs i e)) (difference_from (i + 1) (drop (i + 1) ps) (drop (i + 1) qs)) (Some i)
unfolding difference_from
difference_next ps qs i d e low high =
    at_drop_more (λ (left : List Placed). difference_from i left (drop i qs)) ps i d low
    ∙ (at_drop_more (λ (left : List Placed). difference_from i (get_or ps i d ∷ drop (i + 1) ps) left) qs i e high
    ∙ ap (λ (k : ℕ). cond (is_same (get_or ps i d) (get_or qs i e)) (difference_from k (drop (i + 1) ps) (drop (i + 1) qs)) (Some i)) (sym (add-one i)))

entry : Placed
entry = record { place = 0; received = 0; time = 0 }

-- the place, where one of them has ended there and the other has not
pub first_ended : (ps qs : List Placed) (i : ℕ) → length ps ≤ i → i < length qs → difference_from i (drop i ps) (drop i qs) ≡ Some i
unfolding difference_from
first_ended ps qs i past low =
    at_drop_all (λ (left : List Placed). difference_from i left (drop i qs)) ps i past ∙ at_drop_more (λ (left : List Placed). difference_from i [] left) qs i entry low

pub second_ended : (ps qs : List Placed) (i : ℕ) → i < length ps → length qs ≤ i → difference_from i (drop i ps) (drop i qs) ≡ Some i
unfolding difference_from
second_ended ps qs i low past =
    at_drop_all (λ (left : List Placed). difference_from i (drop i ps) left) qs i past ∙ at_drop_more (λ (left : List Placed). difference_from i left []) ps i entry low

pub both_ended : (ps qs : List Placed) (i : ℕ) → length ps ≤ i → length qs ≤ i → difference_from i (drop i ps) (drop i qs) ≡ None
unfolding difference_from
both_ended ps qs i past gone =
    at_drop_all (λ (left : List Placed). difference_from i left (drop i qs)) ps i past ∙ at_drop_all (λ (left : List Placed). difference_from i [] left) qs i gone
