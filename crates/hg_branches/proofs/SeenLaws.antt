-- Who is apart, and through whom a row is seen, by the counts and the first descendants
use Rattle.std.proofs.Common.{◌≡◌, ℕ, ◌+◌, ◌<◌, ◌≤◌, lt-ltb, ◌&&◌, eqb, not, true, false, Bool, List, length, sym, ap, ◌∙◌, subst, inl, inr, arith, nat_lt, nat_le}
use Rattle.std.proofs.lemmas.Bool.{cases_lt, and_parts, and_from, ltb-true, leb-true, le-leb, eqb-true, eq-eqb, not_from_false, false_from_ne_true, both_ways}
use Rattle.hg_model.specs.Places.{has_place, some_below, IsEarlier}
use Rattle.hg_model.specs.Links.{Link, parents, creator}
use Rattle.hg_model.specs.Ancestry.{is_ancestor, is_self_ancestor}
use Rattle.hg_model.specs.Forks.{has_fork_below}
use Rattle.hg_model.specs.Seeing.{sees, sees_through}
use Rattle.hg_model.proofs.ReachLaws.{bool_iff, list_any-same}
use Rattle.hg_model.proofs.PlacesLaws.{some_below_from, some_below_found}
use Rattle.hg_model.proofs.AncestryLaws.{is_ancestor-le}
use Rattle.hg_model.proofs.SightLaws.{some_ancestor_with, has_fork_below_grows, sees-is_ancestor, sees_through_found}
use Rattle.hg_ancestry.specs.Held.{is_above, is_apart}
use Rattle.hg_ancestry.proofs.UnionLaws.{apart_found, apart_from}
use Rattle.hg_ancestry.proofs.NewForkLaws.{has_fork_below_found}
use Rattle.hg_branches.specs.Branches.{Branching, IsBranched, CountsAncestors, FirstDescendants, greatest_count}
use Rattle.hg_branches.proofs.BranchLaws.{greatest_over, greatest_found}

-- some branch by m passes the test
abbrev pub by_branches : ℕ → Branching → (ℕ → Bool) → ℕ → Bool
by_branches k B pass m = some_below k (λ b. pass b && eqb (B.maker b) m)

-- for each branch one more than the place of the last of its rows in this set, or 0 where none is
pub record CountsRows (L : List Link) (B : Branching) (S : ℕ → Bool) (count : ℕ → ℕ) : Type 0 where
  pub told : (y : ℕ) → y < length L → nat_lt y (count (B.branch y)) ≡ S y
  pub last : (b : ℕ) → 0 < count b → (z : ℕ) × (z < length L) × (B.branch z ≡ b) × (z + 1 ≡ count b)

-- so count a row of its ancestors, and several rows together
pub counts_of_one : (L : List Link) (B : Branching) (x : ℕ) (count : ℕ → ℕ) → CountsAncestors L B x count → CountsRows L B (is_ancestor L x) count
counts_of_one L B x count held = record { told = held.told; last = held.last }

pub counts_of_all : (L : List Link) (B : Branching) (count : ℕ → ℕ → ℕ) (ps : List ℕ) → ((p : ℕ) → has_place ps p ≡ true → CountsAncestors L B p (count p)) →
    CountsRows L B (is_above L ps) (greatest_count count ps)
counts_of_all L B count ps held = record {
  told = λ y h. greatest_over count ps (B.branch y) y
      ∙ list_any-same (λ p. nat_lt y (count p (B.branch y))) (λ p. is_ancestor L p y) ps (λ p has. (held p has).told y h);
  last = λ b some.
      let p = greatest_found count ps b some in
      let same : count p.0 b ≡ greatest_count count ps b = p.2 in
      let z = (held p.0 p.1).last b (omega arith) in
      (z.0, z.1, z.2, z.3 ∙ same);
}

module _ (L : List Link) (e : IsEarlier (parents L)) (B : Branching) (lines : IsBranched L B) (k : ℕ) (known : (x : ℕ) → x < length L → B.branch x < k) where
  -- members with rows of the one set alone are those with a branch of which it counts more
  pub apart_told : (A C : ℕ → Bool) (count other : ℕ → ℕ) → CountsRows L B A count → CountsRows L B C other → (m : ℕ) →
      by_branches k B (λ b. nat_lt (other b) (count b)) m ≡ is_apart L A C m
  apart_told A C count other held held_other m = bool_iff (by_branches k B (λ b. nat_lt (other b) (count b)) m) (is_apart L A C m)
      (λ h.
      let b = some_below_found k (λ b. nat_lt (other b) (count b) && eqb (B.maker b) m) h in
      let parts = and_parts (nat_lt (other b.0) (count b.0)) (eqb (B.maker b.0) m) b.2 in
      let over : other b.0 < count b.0 = ltb-true (other b.0) (count b.0) parts.0 in
      let w = held.last b.0 (omega arith) in
      let end : w.0 + 1 ≡ count b.0 = w.3 in
      let here : count (B.branch w.0) ≡ count b.0 = ap count w.2 in
      let there : other (B.branch w.0) ≡ other b.0 = ap other w.2 in
      apart_from L m A C w.0 w.1
      (sym (held.told w.0 w.1) ∙ lt-ltb w.0 (count (B.branch w.0)) (omega arith))
      (sym (held_other.told w.0 w.1) ∙ false_from_ne_true (nat_lt w.0 (other (B.branch w.0))) (λ l. absurd (omega (arith, ltb-true w.0 (other (B.branch w.0)) l))))
      (lines.made w.0 w.1 ∙ (ap B.maker w.2 ∙ eqb-true (B.maker b.0) m parts.1)))
      (λ h.
      let a = apart_found L m A C h in
      let inside : a.0 < length L = a.1 in
      let b = B.branch a.0 in
      let up : a.0 < count b = ltb-true a.0 (count b) (held.told a.0 inside ∙ a.2) in
      let over : other b < count b = elim (cases_lt a.0 (other b)) [
        | inl less ↦ absurd (both_ways (C a.0) a.3 (sym (held_other.told a.0 inside) ∙ lt-ltb a.0 (other b) less))
        | inr more ↦ omega arith
      ] in
      some_below_from k (λ b. nat_lt (other b) (count b) && eqb (B.maker b) m) b (known a.0 inside)
      (and_from (nat_lt (other b) (count b)) (eqb (B.maker b) m) (lt-ltb (other b) (count b) over)
      (eq-eqb (B.maker b) m (sym (lines.made a.0 inside) ∙ a.4))))

  -- a member whose rows among the ancestors of x are all on one branch has no fork there
  pub no_fork_on_one : (x m b : ℕ) → x < length L → ((a : ℕ) → a < length L → is_ancestor L x a ≡ true → creator L a ≡ m → B.branch a ≡ b) → has_fork_below L x m ≡ false
  no_fork_on_one x m b hx one = false_from_ne_true (has_fork_below L x m) (λ h.
      let f = has_fork_below_found L e x m h in
      let low_a : f.0 ≤ x = is_ancestor-le L e x f.0 f.2 in
      let low_b : f.1 ≤ x = is_ancestor-le L e x f.1 f.3 in
      let ha : f.0 < length L = omega arith in
      let hb : f.1 < length L = omega arith in
      let on_a = one f.0 ha f.2 f.4.first in
      let on_b = one f.1 hb f.3 f.4.second in
      elim (cases_lt f.0 f.1) [
        | inl less ↦ absurd (both_ways (is_self_ancestor L f.1 f.0) f.4.not_below (lines.line f.1 f.0 hb (omega arith) (on_b ∙ sym on_a)))
        | inr more ↦ absurd (both_ways (is_self_ancestor L f.0 f.1) f.4.not_above (lines.line f.0 f.1 ha (omega arith) (on_a ∙ sym on_b)))
      ])

  -- a test of branches that passes just where x has an ancestor on them that sees y tells through whom x sees y
  pub seen_by_branches : (x y : ℕ) → x < length L → (pass : ℕ → Bool) →
      ((b : ℕ) → b < k → pass b ≡ true → (z : ℕ) × (is_ancestor L x z ≡ true) × (creator L z ≡ B.maker b) × (sees L z y ≡ true)) →
      ((z : ℕ) → z < length L → is_ancestor L x z ≡ true → sees L z y ≡ true → pass (B.branch z) ≡ true) →
      (m : ℕ) → by_branches k B pass m ≡ sees_through L x y m
  unfolding sees_through
  seen_by_branches x y hx pass sound complete m = bool_iff (by_branches k B pass m) (sees_through L x y m)
      (λ h.
      let b = some_below_found k (λ b. pass b && eqb (B.maker b) m) h in
      let parts = and_parts (pass b.0) (eqb (B.maker b.0) m) b.2 in
      let z = sound b.0 b.1 parts.0 in
      some_ancestor_with L e x z.0 (λ z. eqb (creator L z) m && sees L z y) z.1
      (and_from (eqb (creator L z.0) m) (sees L z.0 y) (eq-eqb (creator L z.0) m (z.2 ∙ eqb-true (B.maker b.0) m parts.1)) z.3))
      (λ h.
      let z = sees_through_found L e x y m h in
      let le : z.0 ≤ x = z.1 in
      let hz : z.0 < length L = omega arith in
      some_below_from k (λ b. pass b && eqb (B.maker b) m) (B.branch z.0) (known z.0 hz)
      (and_from (pass (B.branch z.0)) (eqb (B.maker (B.branch z.0)) m) (complete z.0 hz z.2 z.4)
      (eq-eqb (B.maker (B.branch z.0)) m (sym (lines.made z.0 hz) ∙ z.3))))

  -- where the ancestors of x hold no fork by the creator of y, each of them that has y as ancestor sees it
  pub sees_lower : (x z y : ℕ) → is_ancestor L x z ≡ true → is_ancestor L z y ≡ true → has_fork_below L x (creator L y) ≡ false → sees L z y ≡ true
  unfolding sees
  sees_lower x z y up seen free =
      let free_z : has_fork_below L z (creator L y) ≡ false = false_from_ne_true (has_fork_below L z (creator L y)) (λ f.
      both_ways (has_fork_below L x (creator L y)) free (has_fork_below_grows L e x z (creator L y) up f)) in
      and_from (is_ancestor L z y) (not (has_fork_below L z (creator L y))) seen (not_from_false (has_fork_below L z (creator L y)) free_z)

  module _ (few none x y : ℕ) (count first : ℕ → ℕ) (hx : x < length L) (held : CountsAncestors L B x count) (firsts : FirstDescendants few none L B y first) (low : length L < none) where
    -- the first descendant of y on a branch where x counts it
    pub first_there : (b : ℕ) → b < few → first b ≤ count b → (w : ℕ) × (w < length L) × (B.branch w ≡ b) × (is_ancestor L x w ≡ true) × (is_ancestor L w y ≡ true)
    first_there b hk le = elim (firsts.there b hk) [
      | inl never ↦ elim (cases_lt 0 (count b)) [
        | inl some ↦ (let z = held.last b some in
            let end : z.0 + 1 ≡ count b = z.3 in
            let inside : z.0 < length L = z.1 in
            absurd (omega arith))
        | inr zero ↦ absurd (omega arith)
      ]
      | inr w ↦
          (let end : w.0 + 1 ≡ first b = w.3 in
          let count_w : count (B.branch w.0) ≡ count b = ap count w.2 in
          let first_w : first (B.branch w.0) ≡ first b = ap first w.2 in (
            w.0,
            w.1,
            w.2,
            sym (held.told w.0 w.1) ∙ lt-ltb w.0 (count (B.branch w.0)) (omega arith),
            sym (firsts.told w.0 w.1 (subst (λ b. b < few) (sym w.2) hk)) ∙ le-leb (first (B.branch w.0)) (w.0 + 1) (omega arith),
          ))
    ]

    -- without a fork by its creator y is seen on a branch just where its first descendant is counted
    pub counted_sound : has_fork_below L x (creator L y) ≡ false → (b : ℕ) → b < few → nat_le (first b) (count b) ≡ true →
        (z : ℕ) × (is_ancestor L x z ≡ true) × (creator L z ≡ B.maker b) × (sees L z y ≡ true)
    counted_sound free b hk passes =
        let w = first_there b hk (leb-true (first b) (count b) passes) in
        (w.0, w.3, lines.made w.0 w.1 ∙ ap B.maker w.2, sees_lower x w.0 y w.3 w.4 free)

    pub counted_complete : (z : ℕ) → B.branch z < few → is_ancestor L x z ≡ true → sees L z y ≡ true → nat_le (first (B.branch z)) (count (B.branch z)) ≡ true
    counted_complete z hk up seen =
        let le : z ≤ x = is_ancestor-le L e x z up in
        let hz : z < length L = omega arith in
        let past : first (B.branch z) ≤ z + 1 = leb-true (first (B.branch z)) (z + 1) (firsts.told z hz hk ∙ sees-is_ancestor L e z y seen) in
        let counted : z < count (B.branch z) = ltb-true z (count (B.branch z)) (held.told z hz ∙ up) in
        le-leb (first (B.branch z)) (count (B.branch z)) (omega arith)
