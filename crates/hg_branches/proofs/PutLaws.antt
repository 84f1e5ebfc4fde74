-- What a list reads after `put_at`, and the makers after `with_branch`
use Rattle.std.proofs.Common.{◌≡◌, ◌≢◌, ℕ, ◌+◌, ◌<◌, ◌≤◌, cond, List, [], ◌∷◌, ◌++◌, length, get_or, slice_set, sym, ap, ◌∙◌, inl, inr, arith}
use Rattle.std.proofs.lemmas.Bool.{cases_eq, cases_lt, eq-eqb, ne_eqb}
use Rattle.std.proofs.lemmas.List.{length_push, length-set, get_or_append_left, get_or_push, get_or_past, get_or-set_same, get_or-set_other}
use Rattle.hg_branches.specs.Columns.{put_at, with_branch}
use Rattle.hg_branches.proofs.ChainLaws.{zero_behind}

module _ (xs : List ℕ) (b v : ℕ) (le : b ≤ length xs) where
  at_end : b ≡ length xs → put_at xs b v ≡ xs ++ v ∷ []
  at_end is = ap (λ c. cond c (xs ++ v ∷ []) (slice_set xs b v)) (eq-eqb b (length xs) is)

  inside : b ≢ length xs → put_at xs b v ≡ slice_set xs b v
  inside is_not = ap (λ c. cond c (xs ++ v ∷ []) (slice_set xs b v)) (ne_eqb b (length xs) is_not)

  pub put_here : get_or (put_at xs b v) b 0 ≡ v
  put_here = elim (cases_eq b (length xs)) [
    | inl is ↦ ap (λ ys. get_or ys b 0) (at_end is) ∙ get_or_push xs v 0 b (sym is)
    | inr is_not ↦ ap (λ ys. get_or ys b 0) (inside is_not) ∙ get_or-set_same xs b v 0 (omega arith)
  ]

  pub put_other : (i : ℕ) → i ≢ b → get_or (put_at xs b v) i 0 ≡ get_or xs i 0
  put_other i other = elim (cases_eq b (length xs)) [
    | inl is ↦ ap (λ ys. get_or ys i 0) (at_end is) ∙ elim (cases_lt i (length xs)) [
      | inl before ↦ get_or_append_left xs (v ∷ []) 0 i before
      | inr past ↦ get_or_past (xs ++ v ∷ []) i 0 (omega (arith, length_push xs v)) ∙ sym (get_or_past xs i 0 past)
    ]
    | inr is_not ↦ ap (λ ys. get_or ys i 0) (inside is_not) ∙ get_or-set_other xs b i v 0 other
  ]

-- the makers
module _ (makers : List ℕ) (b by : ℕ) (le : b ≤ length makers) where
  pub made_new : b ≡ length makers → with_branch makers b by ≡ makers ++ by ∷ []
  made_new is = ap (λ c. cond c (makers ++ by ∷ []) makers) (eq-eqb b (length makers) is)

  pub made_none : b ≢ length makers → with_branch makers b by ≡ makers
  made_none is_not = ap (λ c. cond c (makers ++ by ∷ []) makers) (ne_eqb b (length makers) is_not)

  pub maker_before : (i : ℕ) → i < length makers → get_or (with_branch makers b by) i 0 ≡ get_or makers i 0
  maker_before i h = elim (cases_eq b (length makers)) [
    | inl is ↦ ap (λ ys. get_or ys i 0) (made_new is) ∙ get_or_append_left makers (by ∷ []) 0 i h
    | inr is_not ↦ ap (λ ys. get_or ys i 0) (made_none is_not)
  ]

  pub maker_last : b ≡ length makers → get_or (with_branch makers b by) b 0 ≡ by
  maker_last is = ap (λ ys. get_or ys b 0) (made_new is) ∙ get_or_push makers by 0 b (sym is)

  pub makers_long : (ends : List ℕ) (v : ℕ) → length ends ≡ length makers → length (put_at ends b v) ≡ length (with_branch makers b by)
  makers_long ends v same = elim (cases_eq b (length makers)) [
    | inl is ↦ ap length (ap (λ c. cond c (ends ++ v ∷ []) (slice_set ends b v)) (eq-eqb b (length ends) (is ∙ sym same))) ∙ (length_push ends v
        ∙ (ap (λ (k : ℕ). k + 1) same ∙ sym (ap length (made_new is) ∙ length_push makers by)))
    | inr is_not ↦ ap length (ap (λ c. cond c (ends ++ v ∷ []) (slice_set ends b v)) (ne_eqb b (length ends) (λ e. is_not (e ∙ same)))) ∙ (length-set ends b v
        ∙ (same ∙ sym (ap length (made_none is_not))))
  ]

  pub makers_more : length makers ≤ length (with_branch makers b by)
  makers_more = elim (cases_eq b (length makers)) [
    | inl is ↦ (let long = ap length (made_new is) ∙ length_push makers by in omega (arith, long))
    | inr is_not ↦ (let long = ap length (made_none is_not) in omega (arith, long))
  ]

  pub makers_over : b < length (with_branch makers b by)
  makers_over = elim (cases_eq b (length makers)) [
    | inl is ↦ (let long = ap length (made_new is) ∙ length_push makers by in omega (arith, long))
    | inr is_not ↦ (let long = ap length (made_none is_not) in omega (arith, long))
  ]

-- zeros of new branches read as no entries
pub opened_reads : (xs : List ℕ) (b i : ℕ) → get_or (with_branch xs b 0) i 0 ≡ get_or xs i 0
opened_reads xs b i = elim (cases_eq b (length xs)) [
  | inl is ↦ ap (λ c. get_or (cond c (xs ++ 0 ∷ []) xs) i 0) (eq-eqb b (length xs) is) ∙ zero_behind xs i
  | inr is_not ↦ ap (λ c. get_or (cond c (xs ++ 0 ∷ []) xs) i 0) (ne_eqb b (length xs) is_not)
]

pub opened_long : (makers xs : List ℕ) (b by : ℕ) → b ≤ length makers → length xs ≡ length makers → length (with_branch xs b 0) ≡ length (with_branch makers b by)
opened_long makers xs b by le same = elim (cases_eq b (length makers)) [
  | inl is ↦ ap length (made_new xs b 0 (omega arith) (is ∙ sym same)) ∙ (length_push xs 0 ∙ (ap (λ (k : ℕ). k + 1) same ∙ sym (ap length (made_new makers b by le is) ∙ length_push makers by)))
  | inr is_not ↦ ap length (made_none xs b 0 (omega arith) (λ e. is_not (e ∙ same))) ∙ (same ∙ sym (ap length (made_none makers b by le is_not)))
]
