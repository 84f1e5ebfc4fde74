-- How many self-ancestors a row has, other than itself: one more than its self-parent, whatever rows come later
use Rattle.std.proofs.Common.{◌≡◌, ℕ, zero, suc, ◌+◌, ◌<◌, ◌≤◌, Bool, true, List, [], ◌∷◌, length, None, Some, sym, ap, ◌∙◌, subst, inl, inr, zero-add, slice_index_or, arith, ◌++◌}
use Rattle.std.proofs.lemmas.Bool.{cases_Bool, cases_lt, true≢false}
use Rattle.std.proofs.lemmas.List.FromFn.{get_or-map-range_with_len, length-map-range_with_len}
use Rattle.hg_model.specs.Places.{count_below, has_place, IsEarlier, table}
use Rattle.hg_model.specs.Stakes.{Stakes}
use Rattle.hg_model.specs.Links.{Link, self_parent}
use Rattle.hg_model.specs.Ancestry.{is_self_ancestor}
use Rattle.hg_model.specs.Graph.{IsShaped}
use Rattle.hg_model.specs.Shape.{place_list}
use Rattle.hg_model.specs.Order.{sequence_of}
use Rattle.hg_model.proofs.PlacesLaws.{weight_below-same, weight_below_none, count_below_passes, count_below_fails, count_below-le}
use Rattle.hg_model.proofs.ReachLaws.{has_place_first, bool_iff, one_there}
use Rattle.hg_model.specs.declared.row.Row.{Row}
use Rattle.hg_model.specs.Links.{links}
use Rattle.hg_model.proofs.LinkLaws.{length-links}
use Rattle.hg_model.proofs.LongerLaws.{is_self_ancestor-longer, links-longer}
use Rattle.hg_model.proofs.AncestryLaws.{self_parent_earlier, is_self_ancestor_self, is_self_ancestor_by, is_self_ancestor_cases, is_self_ancestor-le}

-- no place from p + 1 on counts
none_above : (p x : ℕ) (test : ℕ → Bool) → p < x → ((k : ℕ) → p < k → k < x → test k ≡ true → ⊥) → count_below x test ≡ count_below (p + 1) test
none_above p zero test low none = absurd (omega arith)
none_above p (suc x) test low none = elim (cases_lt p x) [
  | inl lower ↦ elim (cases_Bool (test x)) [
    | inl passes ↦ absurd (none x lower (omega arith) passes)
    | inr fails ↦ (let is : x + 1 ≡ suc x = omega arith in
        let step : count_below (suc x) test ≡ count_below x test = subst (λ (n : ℕ). count_below n test ≡ count_below x test) is (count_below_fails x test fails) in
        step ∙ none_above p x test lower (λ k above inside. none k above (omega arith)))
  ]
  | inr same ↦ (let is : suc x ≡ p + 1 = omega arith in ap (λ (n : ℕ). count_below n test) is)
]

-- a row on a self-parent at place p
pub record IsOn (L : List Link) (x p : ℕ) : Type 0 where
  pub below : p < x
  pub next : sequence_of L x ≡ sequence_of L p + 1
  pub small : sequence_of L p ≤ p

module _ (n : Stakes) (L : List Link) (shaped : IsShaped n L) where
  self_earlier : IsEarlier (self_parent L)
  self_earlier = self_parent_earlier L shaped.earlier

  first : (x : ℕ) → self_parent L x ≡ [] → sequence_of L x ≡ 0
  unfolding sequence_of
  first x none = weight_below_none (λ _. 1) x (is_self_ancestor L x) (λ k inside is. elim (is_self_ancestor_cases L shaped.earlier x k is) [
    | inl same ↦ absurd (omega (arith, same))
    | inr (p, here, above) ↦ absurd (true≢false (sym here ∙ ap (λ (ps : List ℕ). has_place ps p) none))
  ])

  alike : (x p k : ℕ) → self_parent L x ≡ p ∷ [] → k < x → is_self_ancestor L x k ≡ is_self_ancestor L p k
  alike x p k on inside =
      let here : has_place (self_parent L x) p ≡ true = subst (λ (ps : List ℕ). has_place ps p ≡ true) (sym on) (has_place_first p []) in
      bool_iff (is_self_ancestor L x k) (is_self_ancestor L p k)
      (λ is. elim (is_self_ancestor_cases L shaped.earlier x k is) [
        | inl same ↦ absurd (omega (arith, same))
        | inr (q, there, above) ↦ (let same : p ≡ q = one p q (sym (ap (λ (ps : List ℕ). has_place ps q) on) ∙ there) in subst (λ (r : ℕ). is_self_ancestor L r k ≡ true) (sym same) above)
      ])
      (λ is. is_self_ancestor_by L shaped.earlier x p k here is)
    where
      one : (a q : ℕ) → has_place (a ∷ []) q ≡ true → a ≡ q
      one a q h = Rattle.hg_model.proofs.ReachLaws.one_there a q h

  on_parent : (x p : ℕ) → self_parent L x ≡ p ∷ [] → IsOn L x p
  unfolding sequence_of
  on_parent x p on =
      let below : p < x = self_earlier.earlier x p (subst (λ (ps : List ℕ). has_place ps p ≡ true) (sym on) (has_place_first p [])) in
      record {
        below = below;
        next = weight_below-same (λ _. 1) x (is_self_ancestor L x) (is_self_ancestor L p) (λ k inside. alike x p k on inside)
            ∙ (none_above p x (is_self_ancestor L p) below (λ k above inside is. (let le = is_self_ancestor-le L shaped.earlier p k is in omega (arith, le)))
            ∙ count_below_passes p (is_self_ancestor L p) (is_self_ancestor_self L shaped.earlier p));
        small = count_below-le p (is_self_ancestor L p);
      }

  -- the next row's number, where those of the rows before it are listed
  pub record IsListed (sequences : List ℕ) (x own : ℕ) : Type 0 where
    pub below : own < x
    pub inside : own < length sequences
    pub next : slice_index_or sequences own 0 + 1 ≡ sequence_of L x
    pub small : slice_index_or sequences own 0 < x

  pub next_from : (sequences : List ℕ) (x own : ℕ) → sequences ≡ table (sequence_of L) x → place_list (Some own) ≡ self_parent L x → IsListed sequences x own
  next_from sequences x own listed on =
      let is = on_parent x own (sym on) in
      let below = is.below in
      let small = is.small in
      let at : slice_index_or sequences own 0 ≡ sequence_of L own = ap (λ (xs : List ℕ). slice_index_or xs own 0) listed ∙ get_or-map-range_with_len (sequence_of L) 0 x own own 0 is.below (zero-add own) in
      let long : length sequences ≡ x = ap (λ (xs : List ℕ). length xs) listed ∙ length-map-range_with_len (sequence_of L) 0 x in
      record { below = is.below; inside = omega (arith, below, long); next = ap (λ (k : ℕ). k + 1) at ∙ sym is.next; small = omega (arith, at, small, below) }

  pub next_first : (x : ℕ) → place_list None ≡ self_parent L x → 0 ≡ sequence_of L x
  next_first x none = sym (first x (sym none))

-- rows that come later leave the number of a row as it is
pub sequence_later : (n : Stakes) (G more : List Row) → IsShaped n (links G) → (x : ℕ) → x < length G → sequence_of (links (G ++ more)) x ≡ sequence_of (links G) x
unfolding sequence_of
sequence_later n G more shaped x inside =
    weight_below-same (λ _. 1) x (is_self_ancestor (links (G ++ more)) x) (is_self_ancestor (links G) x)
    (λ k below. is_self_ancestor-longer (links G) (links (G ++ more)) (links-longer n G more shaped) x k (omega (arith, inside, length-links G)))
