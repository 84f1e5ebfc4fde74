-- Rows that a number for each member tells: by the least of two such numbers
use Rattle.std.proofs.Common.{◌≡◌, ℕ, zero, suc, ◌+◌, ◌-◌, ◌<◌, ◌≤◌, Bool, ◌&&◌, ltb, min, List, length, get_or, take, replicate, refl, sym, ap, ap₂, ◌∙◌, inl, inr, ◌⊎◌, arith}
use Rattle.std.proofs.lemmas.Bool.{cases_lt}
use Rattle.std.proofs.lemmas.List.{get_or-replicate, get_or_past, length-replicate}
use Rattle.std.proofs.lemmas.List.Folds.{list_all_more}
use Rattle.hg_model.specs.Stakes.{Stakes, member_count}
use Rattle.hg_model.specs.Links.{Link, creator}
use Rattle.hg_model.specs.Ancestry.{is_ancestor}
use Rattle.hg_model.specs.Graph.{IsShaped}
use Rattle.hg_model.specs.Counts.{CountsMembers}
use Rattle.hg_order.specs.Famous.{all_have}
use Rattle.hg_order.specs.Counted.{AreBounds}

pub ltb_min : (y a b : ℕ) → ltb y (min a b) ≡ (ltb y a && ltb y b)
ltb_min y a b = grind arith

pub min_cases : (a b : ℕ) → (min a b ≡ a) ⊎ (min a b ≡ b)
min_cases a b = grind arith

min_right : (a b : ℕ) → b ≤ a → min a b ≡ b
min_right a b h = grind arith

pub no_number : (wide m : ℕ) → get_or {A = ℕ} (replicate wide 0) m 0 ≡ 0
no_number wide m = elim (cases_lt m wide) [
  | inl inside ↦ get_or-replicate {A = ℕ} wide m 0 0 inside
  | inr past ↦ get_or_past {X = ℕ} (replicate wide 0) m 0 (rw (length-replicate {A = ℕ} wide 0) past)
]

module _ (n : Stakes) (L : List Link) (s : IsShaped n L) where
  pub counts_end : (x : ℕ) (counts : List ℕ) → CountsMembers n L x counts → (m : ℕ) → 0 < get_or counts m 0 → (get_or counts m 0 ≤ length L) × (creator L (get_or counts m 0 - 1) ≡ m)
  counts_end x counts c m some =
      let row = c.last m some in
      let low = row.1 in
      let next = row.3 in
      let at : get_or counts m 0 - 1 ≡ row.0 = omega arith in
      (omega arith, ap (creator L) at ∙ row.2)

  -- the counts of the first row lower numbers as great as any count to themselves
  pub bounds_first : (places numbers counts lower : List ℕ) (d top : ℕ) → 0 < length places → numbers ≡ replicate 128 top → member_count n ≤ 128 →
      CountsMembers n L (get_or places 0 d) counts → ((m : ℕ) → m < length counts → get_or counts m 0 ≤ top) →
      ((m : ℕ) → m < length counts → get_or lower m 0 ≡ min (get_or numbers m 0) (get_or counts m 0)) → AreBounds n L lower (all_have L (take 1 places))
  bounds_first places numbers counts lower d top some none few c short each = record {
    just = λ y h.
        ap (ltb y) (is (creator L y) (s.members y h)) ∙ (c.told y h ∙ sym (list_all_more (λ w. is_ancestor L w y) places 0 d some));
    last = λ m h some. (let same = is m h in rw same (counts_end (get_or places 0 d) counts c m (omega arith)));
  }
    where
      is : (m : ℕ) → m < member_count n → get_or lower m 0 ≡ get_or counts m 0
      is m h =
          let inside : m < length counts = rw c.wide h in
          let low = short m inside in
          let all : get_or numbers m 0 ≡ top = rw none (get_or-replicate 128 m top 0 (omega arith)) in
          each m inside ∙ rw all (min_right top (get_or counts m 0) low)

  bounds_both : (one two least : List ℕ) (test other : ℕ → Bool) → AreBounds n L one test → AreBounds n L two other →
      ((m : ℕ) → m < member_count n → get_or least m 0 ≡ min (get_or one m 0) (get_or two m 0)) → AreBounds n L least (λ y. test y && other y)
  bounds_both one two least test other a b each = record {
    just = λ y h.
        ap (ltb y) (each (creator L y) (s.members y h)) ∙ (ltb_min y _ _ ∙ ap₂ (λ p q. p && q) (a.just y h) (b.just y h));
    last = λ m h some. elim (min_cases (get_or one m 0) (get_or two m 0)) [
      | inl first ↦ (let is = each m h ∙ first in rw is (a.last m h (omega arith)))
      | inr second ↦ (let is = each m h ∙ second in rw is (b.last m h (omega arith)))
    ];
  }

  -- the least of the counts of one row more
  pub bounds_lowered : (places least counts lower : List ℕ) (i d : ℕ) → i < length places → AreBounds n L least (all_have L (take i places)) →
      CountsMembers n L (get_or places i d) counts → ((m : ℕ) → m < length counts → get_or lower m 0 ≡ min (get_or least m 0) (get_or counts m 0)) →
      AreBounds n L lower (all_have L (take (i + 1) places))
  bounds_lowered places least counts lower i d h bounds c each =
      let both = bounds_both least counts lower (all_have L (take i places)) (is_ancestor L (get_or places i d)) bounds
      (record { just = c.told; last = λ m few some. counts_end (get_or places i d) counts c m some })
      (λ m few. each m (rw c.wide few)) in record {
        just = λ y low. both.just y low ∙ sym (list_all_more (λ w. is_ancestor L w y) places i d h);
        last = both.last;
      }

  -- the same where there may be none before
  pub bounds_next : (places least counts lower : List ℕ) (i d top : ℕ) → i < length places → (i ≡ 0 → least ≡ replicate 128 top) → member_count n ≤ 128 →
      (0 < i → AreBounds n L least (all_have L (take i places))) → CountsMembers n L (get_or places i d) counts → ((m : ℕ) → m < length counts → get_or counts m 0 ≤ top) →
      ((m : ℕ) → m < length counts → get_or lower m 0 ≡ min (get_or least m 0) (get_or counts m 0)) → AreBounds n L lower (all_have L (take (i + 1) places))
  bounds_next places least counts lower zero d top h none few bounds c short each = bounds_first places least counts lower d top h (none refl) few c short each
  bounds_next places least counts lower (suc i) d top h none few bounds c short each = bounds_lowered places least counts lower (suc i) d h (bounds (omega arith)) c each
