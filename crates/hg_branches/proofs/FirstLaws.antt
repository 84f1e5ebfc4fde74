-- The first descendants of the last row, and of earlier rows once one more has come
use Rattle.std.proofs.Common.{◌≡◌, ◌≢◌, ℕ, ◌+◌, ◌<◌, ◌≤◌, true, false, cond, min, List, [], ◌∷◌, ◌++◌, length, sym, ap, ◌∙◌, subst, inl, inr, ◌⊎◌, arith, nat_le}
use Rattle.std.proofs.lemmas.Bool.{cases_Bool, cases_lt, cases_eq, leb-true, le-leb, false_from_ne_true, both_ways}
use Rattle.hg_model.specs.Places.{IsEarlier}
use Rattle.hg_model.specs.Stakes.{Stakes}
use Rattle.hg_model.specs.Links.{Link, parents}
use Rattle.hg_model.specs.Ancestry.{is_ancestor}
use Rattle.hg_model.specs.Graph.{IsShaped}
use Rattle.hg_model.specs.Shape.{FitsLink}
use Rattle.hg_model.proofs.ReachLaws.{bool_iff}
use Rattle.hg_model.proofs.AncestryLaws.{is_ancestor-le, is_ancestor-trans}
use Rattle.hg_model.proofs.SightLaws.{is_ancestor-from_self}
use Rattle.hg_model.proofs.LongerLaws.{is_ancestor-longer}
use Rattle.hg_branches.specs.Branches.{Branching, IsBranched, FirstDescendants, TakesRow}
use Rattle.hg_branches.proofs.BranchLaws as Grow

-- the last row has itself alone as descendant
pub firsts_begin : (k none : ℕ) (L : List Link) (B : Branching) (y : ℕ) (first : ℕ → ℕ) → IsEarlier (parents L) → IsBranched L B → length L ≡ y + 1 →
    length L < none → (B.branch y < k → first (B.branch y) ≡ y + 1) → ((b : ℕ) → b < k → b ≢ B.branch y → first b ≡ none) → FirstDescendants k none L B y first
firsts_begin k none L B y first e lines last low here others = record {
  told = λ z hz hk. elim (cases_eq (B.branch z) (B.branch y)) [
    | inl on ↦
        (let is : first (B.branch z) ≡ y + 1 = ap first on ∙ here (subst (λ b. b < k) on hk) in
        bool_iff (nat_le (first (B.branch z)) (z + 1)) (is_ancestor L z y)
        (λ h. (let le : first (B.branch z) ≤ z + 1 = leb-true (first (B.branch z)) (z + 1) h in
        is_ancestor-from_self L e z y (lines.line z y hz (omega arith) on)))
        (λ up. (let le : y ≤ z = is_ancestor-le L e z y up in
        le-leb (first (B.branch z)) (z + 1) (omega arith))))
    | inr off ↦
        (let is : first (B.branch z) ≡ none = others (B.branch z) hk off in
        false_from_ne_true (nat_le (first (B.branch z)) (z + 1)) (λ h. (let le : first (B.branch z) ≤ z + 1 = leb-true (first (B.branch z)) (z + 1) h in absurd (omega arith)))
        ∙ sym (false_from_ne_true (is_ancestor L z y) (λ up.
        let le : y ≤ z = is_ancestor-le L e z y up in
        let same : z ≡ y = omega arith in
        off (ap B.branch same))))
  ];
  there = λ b hk. elim (cases_eq b (B.branch y)) [
    | inl on ↦ inr (y, omega arith, sym on, sym (ap first on ∙ here (subst (λ b. b < k) on hk)))
    | inr off ↦ inl (others b hk off)
  ];
}

module _ (n : Stakes) (L : List Link) (link : Link) (s : IsShaped n L) (fits : FitsLink n L link) (B C : Branching) (lines : IsBranched L B) (more : TakesRow L B link C) where
  abbrev grown : List Link
  grown = L ++ link ∷ []

  abbrev new : ℕ
  new = length L

  after : IsEarlier (parents grown)
  after = Grow.after n L link s fits B C lines more

  -- only on the new row's branch is there a new first descendant, and only where no row there had the row as ancestor
  pub firsts_next : (k none : ℕ) (y : ℕ) (first next : ℕ → ℕ) → y < new → new + 1 < none → FirstDescendants k none L B y first →
      ((b : ℕ) → b < k → b ≢ C.branch new → next b ≡ first b) →
      (C.branch new < k → next (C.branch new) ≡ cond (is_ancestor grown new y) (min (first (C.branch new)) (new + 1)) (first (C.branch new))) →
      FirstDescendants k none grown C y next
  firsts_next k none y first next hy low held others here = elim (cases_Bool (is_ancestor grown new y)) [
    | inl up ↦
        (let is : C.branch new < k → next (C.branch new) ≡ min (first (C.branch new)) (new + 1) = λ hn. here hn ∙ ap (λ b. cond b (min (first (C.branch new)) (new + 1)) (first (C.branch new))) up in
        record {
          told = λ z hz hk. elim (Grow.last_or_before n L link s fits B C lines more z hz) [
            | inl last ↦
                (let is_z : next (C.branch z) ≡ min (first (C.branch new)) (new + 1) = ap (λ k. next (C.branch k)) last ∙ is (subst (λ j. C.branch j < k) last hk) in
                le-leb (next (C.branch z)) (z + 1) (omega arith) ∙ sym (subst (λ k. is_ancestor grown k y ≡ true) (sym last) up))
            | inr before ↦ elim (cases_eq (B.branch z) (C.branch new)) [
              | inl on ↦
                  (let is_z : next (C.branch z) ≡ min (first (C.branch new)) (new + 1) = ap next (more.branch z before ∙ on) ∙ is (subst (λ b. b < k) (more.branch z before ∙ on) hk) in
                  let was : first (B.branch z) ≡ first (C.branch new) = ap first on in
                  bool_iff (nat_le (next (C.branch z)) (z + 1)) (nat_le (first (B.branch z)) (z + 1))
                  (λ h. (let le : next (C.branch z) ≤ z + 1 = leb-true (next (C.branch z)) (z + 1) h in le-leb (first (B.branch z)) (z + 1) (omega arith)))
                  (λ h. (let le : first (B.branch z) ≤ z + 1 = leb-true (first (B.branch z)) (z + 1) h in le-leb (next (C.branch z)) (z + 1) (omega arith)))
                  ∙ (held.told z before (subst (λ b. b < k) (more.branch z before) hk) ∙ sym (is_ancestor-longer L grown (Grow.longer n L link s fits B C lines more) z y before)))
              | inr off ↦ unchanged z before hk off
            ]
          ];
          there = λ b hk. elim (cases_eq b (C.branch new)) [
            | inl on ↦ elim (cases_lt (first (C.branch new)) (new + 1)) [
              | inl earlier ↦ (let is_b : next b ≡ first b = ap next on ∙ (is (subst (λ b. b < k) on hk) ∙ (lesser earlier ∙ ap first (sym on))) in stays b hk is_b)
              | inr later ↦ (let is_b : next b ≡ min (first (C.branch new)) (new + 1) = ap next on ∙ is (subst (λ b. b < k) on hk) in
                  inr (new, omega (arith, Grow.long n L link s fits B C lines more), sym on, omega arith))
            ]
            | inr off ↦ stays b hk (others b hk off)
          ];
        })
    | inr none_up ↦
        (let is : C.branch new < k → next (C.branch new) ≡ first (C.branch new) = λ hn. here hn ∙ ap (λ b. cond b (min (first (C.branch new)) (new + 1)) (first (C.branch new))) none_up in
        let same : (b : ℕ) → b < k → next b ≡ first b = λ b hk. elim (cases_eq b (C.branch new)) [ inl on ↦ ap next on ∙ (is (subst (λ b. b < k) on hk) ∙ ap first (sym on)) | inr off ↦ others b hk off ] in
        record {
          told = λ z hz hk. elim (Grow.last_or_before n L link s fits B C lines more z hz) [
            | inl last ↦ false_from_ne_true (nat_le (next (C.branch z)) (z + 1)) (λ h.
                let le : next (C.branch z) ≤ z + 1 = leb-true (next (C.branch z)) (z + 1) h in
                let is_z : next (C.branch z) ≡ first (C.branch new) = ap (λ k. next (C.branch k)) last ∙ is (subst (λ j. C.branch j < k) last hk) in
                elim (held.there (C.branch new) (subst (λ j. C.branch j < k) last hk)) [
                  | inl never ↦ absurd (omega arith)
                  | inr w ↦
                      (let first_is : w.0 + 1 ≡ first (C.branch new) = w.3 in
                      let first_w : first (B.branch w.0) ≡ first (C.branch new) = ap first w.2 in
                      let seen : is_ancestor L w.0 y ≡ true = sym (held.told w.0 w.1 (subst (λ b. b < k) (sym w.2) (subst (λ j. C.branch j < k) last hk))) ∙ le-leb (first (B.branch w.0)) (w.0 + 1) (omega arith) in
                      let above : is_ancestor grown new w.0 ≡ true = is_ancestor-from_self grown after new w.0 (Grow.self_above n L link s fits B C lines more w.0 w.1 w.2) in
                      both_ways (is_ancestor grown new y) none_up
                      (is_ancestor-trans grown after new w.0 y above (is_ancestor-longer L grown (Grow.longer n L link s fits B C lines more) w.0 y w.1 ∙ seen)))
                ]) ∙ sym (subst (λ k. is_ancestor grown k y ≡ false) (sym last) none_up)
            | inr before ↦ same_at z before hk (same (C.branch z) hk)
          ];
          there = λ b hk. stays b hk (same b hk);
        })
  ]
    where
      lesser : {a b : ℕ} → a < b → min a b ≡ a
      lesser h = omega arith

      stays : (b : ℕ) → b < k → next b ≡ first b → (next b ≡ none) ⊎ ((w : ℕ) × (w < length grown) × (C.branch w ≡ b) × (w + 1 ≡ next b))
      stays b hk is = elim (held.there b hk) [
        | inl never ↦ inl (is ∙ never)
        | inr w ↦ (let low : w.0 < new = w.1 in
            let was : w.0 + 1 ≡ first b = w.3 in
            inr (w.0, omega (arith, Grow.long n L link s fits B C lines more), more.branch w.0 w.1 ∙ w.2, omega arith))
      ]

      same_at : (z : ℕ) → z < new → C.branch z < k → next (C.branch z) ≡ first (C.branch z) → nat_le (next (C.branch z)) (z + 1) ≡ is_ancestor grown z y
      same_at z before hk is =
          ap (λ f. nat_le f (z + 1)) (is ∙ ap first (more.branch z before))
          ∙ (held.told z before (subst (λ b. b < k) (more.branch z before) hk) ∙ sym (is_ancestor-longer L grown (Grow.longer n L link s fits B C lines more) z y before))

      unchanged : (z : ℕ) → z < new → C.branch z < k → B.branch z ≢ C.branch new → nat_le (next (C.branch z)) (z + 1) ≡ is_ancestor grown z y
      unchanged z before hk off = same_at z before hk (others (C.branch z) hk (λ e. off (sym (more.branch z before) ∙ e)))
