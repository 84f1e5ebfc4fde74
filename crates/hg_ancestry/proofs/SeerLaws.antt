-- The members through whom a row sees another
use Rattle.std.proofs.Common.{◌≡◌, ℕ, ◌+◌, ◌*◌, lt-ltb, ◌≤◌, ◌&&◌, eqb, true, false, Bool, List, sym, ap, ◌∙◌, refl, inl, inr, arith, add-one}
use Rattle.std.proofs.lemmas.Bool.{cases_eq, and_parts, false_from_ne_true, eq-eqb, ne_eqb, ltb-true, true≢false}
use Rattle.hg_bits.specs.Masks.{mask_has}
use Rattle.hg_bits.proofs.MaskLaws.{mask_none}
use Rattle.hg_model.specs.Places.{some_below, IsEarlier}
use Rattle.hg_model.specs.Stakes.{Stakes, member_count, stake_of, stake_where, total}
use Rattle.hg_model.specs.Links.{Link, parents, creator}
use Rattle.hg_model.specs.Ancestry.{is_ancestor}
use Rattle.hg_model.specs.Seeing.{sees, sees_through, strongly_sees, is_supermajority}
use Rattle.hg_model.proofs.PlacesLaws.{some_below_none, some_below_found, some_below_from, weight_below-same, weight_below-le, weight_below_none}
use Rattle.hg_model.proofs.AncestryLaws.{is_ancestor-le}
use Rattle.hg_model.proofs.SightLaws.{sees-is_ancestor, strongly_sees-is_ancestor}

-- z is an ancestor of x by m that sees y
abbrev pub is_seer_by : List Link → ℕ → ℕ → ℕ → ℕ → Bool
is_seer_by L x y m z = is_ancestor L x z && (eqb (creator L z) m && sees L z y)

-- no row before y sees it
pub no_seer_before : (L : List Link) → IsEarlier (parents L) → (x y m : ℕ) → some_below y (is_seer_by L x y m) ≡ false
no_seer_before L e x y m = some_below_none y (is_seer_by L x y m) (λ z h passes.
    let sees_y = (and_parts (eqb (creator L z) m) (sees L z y) (and_parts (is_ancestor L x z) (eqb (creator L z) m && sees L z y) passes).1).1 in
    absurd (omega (arith, is_ancestor-le L e z y (sees-is_ancestor L e z y sees_y))))

pub seers_all : (L : List Link) (x y m : ℕ) → some_below (x + 1) (is_seer_by L x y m) ≡ sees_through L x y m
unfolding sees_through
seers_all L x y m = ap (λ k. some_below k (is_seer_by L x y m)) (add-one x)

-- who has such a row makes that x strongly sees y
pub strong_by_members : (n : Stakes) (L : List Link) (x y : ℕ) (has : ℕ → Bool) → ((m : ℕ) → has m ≡ sees_through L x y m) →
    is_supermajority (total n) (stake_where n has) ≡ strongly_sees n L x y
unfolding strongly_sees
strong_by_members n L x y has matches =
    ap (is_supermajority (total n)) (weight_below-same (stake_of n) (member_count n) has (sees_through L x y) (λ m member. matches m))

-- no members are not more than two thirds
pub none_are_few : (n : Stakes) → is_supermajority (total n) (stake_where n (mask_has 0)) ≡ false
none_are_few n =
    let none : stake_where n (mask_has 0) ≡ 0 = weight_below_none (stake_of n) (member_count n) (mask_has 0) (λ m member has. true≢false (sym has ∙ mask_none m)) in
    false_from_ne_true (is_supermajority (total n) (stake_where n (mask_has 0))) (λ over.
    absurd (omega (arith, ltb-true (2 * total n) (3 * stake_where n (mask_has 0)) over, none)))

-- more than two thirds already among the first rows
pub strong_by_first : (n : Stakes) (L : List Link) (x y z : ℕ) (has : ℕ → Bool) → z ≤ x + 1 → ((m : ℕ) → has m ≡ some_below z (is_seer_by L x y m)) →
    is_supermajority (total n) (stake_where n has) ≡ true → strongly_sees n L x y ≡ true
strong_by_first n L x y z has le matches strong =
    let all : ℕ → Bool = sees_through L x y in
    let more : stake_where n has ≤ stake_where n all = weight_below-le (stake_of n) (member_count n) has all (λ m member passes.
    let found = some_below_found z (is_seer_by L x y m) (sym (matches m) ∙ passes) in
    sym (seers_all L x y m) ∙ some_below_from (x + 1) (is_seer_by L x y m) found.0 (omega (arith, found.1)) found.2) in
    sym (strong_by_members n L x y all (λ m. refl))
    ∙ lt-ltb (2 * total n) (3 * stake_where n all) (omega (arith, more, ltb-true (2 * total n) (3 * stake_where n has) strong))

-- what is strongly seen is an ancestor
pub strong_above : (n : Stakes) (L : List Link) (x y : ℕ) → IsEarlier (parents L) → is_ancestor L x y ≡ false → strongly_sees n L x y ≡ false
strong_above n L x y e none = false_from_ne_true (strongly_sees n L x y) (λ strong. true≢false (sym (strongly_sees-is_ancestor L e n x y strong) ∙ none))

pub eqb_turned : (a b : ℕ) → eqb a b ≡ eqb b a
eqb_turned a b = elim (cases_eq a b) [
  | inl same ↦ eq-eqb a b same ∙ sym (eq-eqb b a (sym same))
  | inr apart ↦ ne_eqb a b apart ∙ sym (ne_eqb b a (λ same. apart (sym same)))
]
