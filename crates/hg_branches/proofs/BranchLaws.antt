-- How the counts of branches tell ancestors, and what one row more changes
use Rattle.std.proofs.Common.{◌≡◌, ◌≢◌, ℕ, ◌+◌, ◌<◌, lt-ltb, ◌||◌, true, max, List, [], ◌∷◌, ◌++◌, length, sym, ap, ◌∙◌, subst, inl, inr, ◌⊎◌, arith, nat_lt}
use Rattle.std.specs.List.{list_any}
use Rattle.std.proofs.lemmas.Bool.{cases_lt, cases_eq, or_cases, or_left, or_right, ltb-true, false_from_ne_true, ne_eqb}
use Rattle.std.proofs.lemmas.List.{length_push}
use Rattle.hg_model.specs.Places.{has_place, IsEarlier}
use Rattle.hg_model.specs.Stakes.{Stakes}
use Rattle.hg_model.specs.Links.{Link, parents, self_parent, first_place}
use Rattle.hg_model.specs.Ancestry.{is_ancestor, is_self_ancestor}
use Rattle.hg_model.specs.Graph.{IsShaped}
use Rattle.hg_model.specs.Shape.{FitsLink}
use Rattle.hg_model.proofs.ReachLaws.{bool_iff, list_any-same, has_place_first, has_place_later}
use Rattle.hg_model.proofs.AncestryLaws.{is_ancestor_self, is_ancestor-le, is_self_ancestor_self, is_self_ancestor_by}
use Rattle.hg_model.proofs.SightLaws.{is_ancestor-from_self}
use Rattle.hg_model.proofs.LongerLaws.{IsLonger, longer-append, is_ancestor-longer, is_self_ancestor-longer}
use Rattle.hg_model.proofs.PushLaws.{creator_before, creator_last, shape-push, first_of_places}
use Rattle.hg_ancestry.proofs.GrowLaws.{parents_last, above_last}
use Rattle.hg_branches.specs.Branches.{Branching, IsBranched, CountsAncestors, TakesRow, greatest_count}

-- the greatest count is over a number where some parent's is

pub greatest_over : (count : ℕ → ℕ → ℕ) (ps : List ℕ) (b k : ℕ) → nat_lt k (greatest_count count ps b) ≡ list_any (λ p. nat_lt k (count p b)) ps
greatest_over count [] b k = false_from_ne_true (nat_lt k 0) (λ h. absurd (omega (arith, ltb-true k 0 h)))
greatest_over count (p ∷ ps) b k = over_one (count p b) (greatest_count count ps b) ∙ ap (λ c. nat_lt k (count p b) || c) (greatest_over count ps b k)
  where
    over_one : (a c : ℕ) → nat_lt k (max a c) ≡ (nat_lt k a || nat_lt k c)
    over_one a c = bool_iff (nat_lt k (max a c)) (nat_lt k a || nat_lt k c)
        (λ h. (let over : k < max a c = ltb-true k (max a c) h in
        elim (cases_lt k a) [
          | inl left ↦ or_left (nat_lt k a) (nat_lt k c) (lt-ltb k a left)
          | inr right ↦ or_right (nat_lt k a) (nat_lt k c) (lt-ltb k c (omega arith))
        ]))
        (λ h. elim (or_cases (nat_lt k a) (nat_lt k c) h) [
          | inl left ↦ (let below : k < a = ltb-true k a left in lt-ltb k (max a c) (omega arith))
          | inr right ↦ (let below : k < c = ltb-true k c right in lt-ltb k (max a c) (omega arith))
        ])

-- and it is some parent's, unless it is 0
pub greatest_found : (count : ℕ → ℕ → ℕ) (ps : List ℕ) (b : ℕ) → 0 < greatest_count count ps b → (p : ℕ) × (has_place ps p ≡ true) × (count p b ≡ greatest_count count ps b)
greatest_found count [] b h = absurd (omega arith)
greatest_found count (p ∷ ps) b h = elim (cases_lt (greatest_count count ps b) (count p b)) [
  | inl first ↦ (p, has_place_first p ps, omega arith)
  | inr later ↦ (let some : 0 < greatest_count count ps b = omega arith in
      let rest = greatest_found count ps b some in
      let same : count rest.0 b ≡ greatest_count count ps b = rest.2 in
      (rest.0, has_place_later p rest.0 ps rest.1, omega arith))
]

module _ (n : Stakes) (L : List Link) (link : Link) (s : IsShaped n L) (fits : FitsLink n L link) (B C : Branching) (lines : IsBranched L B) (more : TakesRow L B link C) where
  abbrev pub grown : List Link
  grown = L ++ link ∷ []

  abbrev pub new : ℕ
  new = length L

  pub longer : IsLonger L grown
  longer = longer-append L (link ∷ [])

  pub after : IsEarlier (parents grown)
  after = (shape-push n L link s fits).earlier

  pub long : length grown ≡ new + 1
  long = length_push L link

  pub last_or_before : (x : ℕ) → x < length grown → (x ≡ new) ⊎ (x < new)
  last_or_before x h = elim (cases_lt x new) [ inl before ↦ inr before | inr past ↦ inl (omega (arith, long)) ]

  is_its_self_parent : (p : ℕ) → has_place (first_place link.parents) p ≡ true → has_place (self_parent grown new) p ≡ true
  unfolding self_parent
  is_its_self_parent p h = subst (λ ps. has_place (first_place ps) p ≡ true) (sym (parents_last n L link s fits)) h

  -- the rows on the new row's branch are its self-ancestors
  pub self_above : (z : ℕ) → z < new → B.branch z ≡ C.branch new → is_self_ancestor grown new z ≡ true
  self_above z h on =
      let by = more.on_line z h on in
      let low : by.0 < new = fits.earlier by.0 (first_of_places link.parents by.0 by.1) in
      is_self_ancestor_by grown after new by.0 z (is_its_self_parent by.0 by.1) (is_self_ancestor-longer L grown longer by.0 z low ∙ by.2)

  pub lines_grown : IsBranched grown C
  lines_grown = record {
    made = λ x h. elim (last_or_before x h) [
      | inl last ↦ creator_last n L link x last ∙ (sym more.made ∙ ap (λ k. C.maker (C.branch k)) (sym last))
      | inr before ↦ creator_before n L link x before ∙ (lines.made x before ∙ (sym (more.maker x before) ∙ ap C.maker (sym (more.branch x before))))
    ];
    line = λ x y hx le same. elim (last_or_before x hx) [
      | inl x_last ↦ elim (cases_lt y new) [
        | inl y_before ↦ subst (λ k. is_self_ancestor grown k y ≡ true) (sym x_last)
            (self_above y y_before (sym (more.branch y y_before) ∙ (sym same ∙ ap C.branch x_last)))
        | inr y_past ↦ (let y_is : x ≡ y = omega arith in subst (λ k. is_self_ancestor grown x k ≡ true) y_is (is_self_ancestor_self grown after x))
      ]
      | inr x_before ↦
          (let y_before : y < new = omega arith in
          is_self_ancestor-longer L grown longer x y x_before
          ∙ lines.line x y x_before le (sym (more.branch x x_before) ∙ (same ∙ more.branch y y_before)))
    ];
  }

  last_stays : (count : ℕ → ℕ) (x : ℕ) → CountsAncestors L B x count → (b : ℕ) → 0 < count b → (z : ℕ) × (z < length grown) × (C.branch z ≡ b) × (z + 1 ≡ count b)
  last_stays count x held b h =
      let z = held.last b h in
      let low : z.0 < new = z.1 in
      (z.0, omega (arith, long), more.branch z.0 low ∙ z.2, z.3)

  -- the counts of an earlier row stay right
  pub counts_kept : (x : ℕ) (count : ℕ → ℕ) → x < new → CountsAncestors L B x count → CountsAncestors grown C x count
  counts_kept x count hx held = record {
    told = λ y hy. elim (last_or_before y hy) [
      | inl last ↦
          false_from_ne_true (nat_lt y (count (C.branch y))) (λ over.
          let below : y < count (C.branch y) = ltb-true y (count (C.branch y)) over in
          let z = held.last (C.branch y) (omega arith) in
          let low : z.0 < new = z.1 in
          let is : z.0 + 1 ≡ count (C.branch y) = z.3 in
          absurd (omega arith))
          ∙ sym (false_from_ne_true (is_ancestor grown x y) (λ up. absurd (omega (arith, is_ancestor-le grown after x y up))))
      | inr before ↦ ap (λ b. nat_lt y (count b)) (more.branch y before) ∙ (held.told y before ∙ sym (is_ancestor-longer L grown longer x y hx))
    ];
    last = last_stays count x held;
  }

  -- the counts of the new row: the greatest of its parents', and on its own branch its end
  pub counts_new : (count : ℕ → ℕ → ℕ) (row : ℕ → ℕ) → ((p : ℕ) → p < new → CountsAncestors L B p (count p)) → row (C.branch new) ≡ new + 1 →
      ((b : ℕ) → b ≢ C.branch new → row b ≡ greatest_count count link.parents b) → CountsAncestors grown C new row
  counts_new count row held end others = record {
    told = λ y hy. elim (last_or_before y hy) [
      | inl last ↦
          (let row_is : row (C.branch y) ≡ new + 1 = ap (λ k. row (C.branch k)) last ∙ end in
          lt-ltb y (row (C.branch y)) (omega arith)
          ∙ sym (subst (λ k. is_ancestor grown new k ≡ true) (sym last) (is_ancestor_self grown after new)))
      | inr before ↦ elim (cases_eq (B.branch y) (C.branch new)) [
        | inl on ↦
            (let row_is : row (C.branch y) ≡ new + 1 = ap row (more.branch y before ∙ on) ∙ end in
            lt-ltb y (row (C.branch y)) (omega arith)
            ∙ sym (is_ancestor-from_self grown after new y (self_above y before on)))
        | inr off ↦
            ap (λ b. nat_lt y (row b)) (more.branch y before)
            ∙ (ap (λ k. nat_lt y k) (others (B.branch y) off)
            ∙ (greatest_over count link.parents (B.branch y) y
            ∙ (list_any-same (λ p. nat_lt y (count p (B.branch y))) (λ p. is_ancestor L p y) link.parents
            (λ p h. (held p (fits.earlier p h)).told y before)
            ∙ sym (above_last n L link s fits y ∙ ap (λ b. b || list_any (λ p. is_ancestor L p y) link.parents) (ne_eqb y new (λ e. absurd (omega arith)))))))
      ]
    ];
    last = λ b h. elim (cases_eq b (C.branch new)) [
      | inl on ↦ (let row_is : row b ≡ new + 1 = ap row on ∙ end in (new, omega (arith, long), sym on, omega arith))
      | inr off ↦
          (let row_is : row b ≡ greatest_count count link.parents b = others b off in
          let p = greatest_found count link.parents b (omega arith) in
          let same : count p.0 b ≡ greatest_count count link.parents b = p.2 in
          let z = last_stays (count p.0) p.0 (held p.0 (fits.earlier p.0 p.1)) b (omega arith) in
          let last_is : z.0 + 1 ≡ count p.0 b = z.3 in
          (z.0, z.1, z.2, omega arith))
    ];
  }
