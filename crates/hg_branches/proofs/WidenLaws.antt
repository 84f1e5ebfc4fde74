-- A landmark whose first descendants are kept in 32 bits tells the same
use Rattle.std.proofs.Common.{◌≡◌, ℕ, ◌+◌, ◌-◌, ◌<◌, ◌≤◌, ◌⊎◌, nat_lt, nat_le, Bool, true, false, cond, List, length, slice_index, sym, ap, ◌∙◌, subst, inl, inr, arith}
use Rattle.std.proofs.lemmas.Bool.{ltb-true, lt-ltb, leb-true, eq-eqb, ne_eqb, false_from_ne_true}
use Rattle.hg_model.specs.Stakes.{Stakes, member_count, stake_of, stake_where}
use Rattle.hg_model.specs.Links.{Link}
use Rattle.hg_model.specs.Ancestry.{is_ancestor}
use Rattle.hg_model.proofs.PlacesLaws.{weight_below-same}
use Rattle.hg_branches.specs.Firsts.{none_by, wide_first}
use Rattle.hg_branches.specs.Landmarks.{LandmarkView, landmark_at, is_reached, HoldsFirsts, HoldsLandmarks, HoldsTops, IsWidened, Widens}
use Rattle.hg_branches.proofs.ChainLaws.{StandsAs, chains_noted, newest_noted, numbers_noted}

late : (a b : ℕ) → b < a → nat_le a b ≡ false
late a b h = false_from_ne_true (nat_le a b) (λ t. (let le : a ≤ b = leb-true a b t in absurd (omega arith)))

past : (a b : ℕ) → b ≤ a → nat_lt a b ≡ false
past a b h = false_from_ne_true (nat_lt a b) (λ t. (let less : a < b = ltb-true a b t in absurd (omega arith)))

-- what stands for none is at most that of 32 bits
pub none_within : (wide : Bool) → none_by wide ≤ none_by true
none_within true = omega arith
none_within false = omega arith

module _ (n : Stakes) (L : List Link) (branches makers : List ℕ) (old new : LandmarkView) (widens : Widens old new) (holds : HoldsFirsts n L branches makers old) where
  abbrev first : ℕ → ℕ
  first = slice_index old.firsts

  abbrev next : ℕ → ℕ
  next = slice_index new.firsts

  read : (b : ℕ) → b < member_count n → next b ≡ wide_first old.none (first b)
  read b h = (let long = holds.long in widens.each b (omega arith))

  -- either there is none, or it is the same
  either : (b : ℕ) → b < member_count n → ((first b ≡ old.none) × (next b ≡ none_by true)) ⊎ ((next b ≡ first b) × (first b ≤ length L))
  either b h = elim (holds.told.there b h) [
    | inl never ↦ inl (never, read b h ∙ ap (λ t. cond t (none_by true) (first b)) (eq-eqb (first b) old.none never))
    | inr w ↦
        (let short = holds.short in
        let is : w.0 + 1 ≡ first b = w.3 in
        let inside : w.0 < length L = w.1 in
        inr (read b h ∙ ap (λ t. cond t (none_by true) (first b)) (ne_eqb (first b) old.none (λ e. absurd (omega arith))), omega arith))
  ]

  same_le : (b z : ℕ) → b < member_count n → z < length L → nat_le (next b) (z + 1) ≡ nat_le (first b) (z + 1)
  same_le b z h hz = elim (either b h) [
    | inl none ↦
        (let short = holds.short in
        let low = widens.low in
        let was : first b ≡ old.none = none.0 in
        let is : next b ≡ none_by true = none.1 in
        late (next b) (z + 1) (omega arith) ∙ sym (late (first b) (z + 1) (omega arith)))
    | inr some ↦ ap (λ f. nat_le f (z + 1)) some.0
  ]

  same_reached : (b : ℕ) → b < member_count n → is_reached new.none new.firsts b ≡ is_reached old.none old.firsts b
  same_reached b h = elim (either b h) [
    | inl none ↦
        (let was : first b ≡ old.none = none.0 in
        let is : next b ≡ none_by true = none.1 in
        let wide = widens.none in
        past (next b) new.none (omega arith) ∙ sym (past (first b) old.none (omega arith)))
    | inr some ↦
        (let short = holds.short in
        let low = widens.low in
        let wide = widens.none in
        let is : next b ≡ first b = some.0 in
        let small : first b ≤ length L = some.1 in
        lt-ltb (next b) new.none (omega arith) ∙ sym (lt-ltb (first b) old.none (omega arith)))
  ]

  pub holds_widened : HoldsFirsts n L branches makers new
  holds_widened =
      let end = widens.end in
      let wide = widens.none in
      let low = widens.low in
      let some_was = holds.some in
      let inside_was = holds.inside in
      let short_was = holds.short in
      let weighed_was = holds.weighed in
      let reached = widens.reached in
      let same : stake_where n (is_reached new.none new.firsts) ≡ stake_where n (is_reached old.none old.firsts) =
      weight_below-same (stake_of n) (member_count n) (is_reached new.none new.firsts) (is_reached old.none old.firsts) same_reached in
      record {
        some = omega arith;
        inside = omega arith;
        short = omega arith;
        long = widens.long ∙ holds.long;
        on = ap (λ e. slice_index branches (e - 1)) end ∙ (holds.on ∙ sym widens.branch);
        told = record {
          told = λ z hz hk. same_le (slice_index branches z) z hk hz ∙ (holds.told.told z hz hk ∙ ap (λ e. is_ancestor L z (e - 1)) (sym end));
          there = λ b h. elim (either b h) [
            | inl none ↦ inl (none.1 ∙ sym wide)
            | inr some ↦ elim (holds.told.there b h) [
              | inl never ↦ (let small : first b ≤ length L = some.1 in absurd (omega arith))
              | inr w ↦ inr (w.0, w.1, w.2, w.3 ∙ sym some.0)
            ]
          ];
        };
        weighed = omega arith;
      }

stands_widened : (old new : LandmarkView) → IsWidened old new → StandsAs new old
stands_widened old new widens = elim widens [
  | inl same ↦ (ap (λ (k : LandmarkView). k.end) same, ap (λ (k : LandmarkView). k.branch) same, ap (λ (k : LandmarkView). k.before) same)
  | inr wide ↦ (wide.end, wide.branch, wide.before)
]

-- so does a list of them, some of which are kept so
module _ (old new : List LandmarkView) (long : length new ≡ length old) (each : (i : ℕ) → i < length old → IsWidened (landmark_at old i) (landmark_at new i)) where
  stands : (i : ℕ) → i < length old → StandsAs (landmark_at new i) (landmark_at old i)
  stands i h = stands_widened (landmark_at old i) (landmark_at new i) (each i h)

  pub landmarks_widened : (n : Stakes) (L : List Link) (branches makers newest numbers : List ℕ) → HoldsLandmarks n L branches makers old newest numbers → HoldsLandmarks n L branches makers new newest numbers
  landmarks_widened n L branches makers newest numbers holds = record {
    each = λ i h. (let low : i < length old = omega arith in
        elim (each i low) [
          | inl same ↦ subst (HoldsFirsts n L branches makers) (sym same) (holds.each i low)
          | inr wide ↦ holds_widened n L branches makers (landmark_at old i) (landmark_at new i) wide (holds.each i low)
        ]);
    chains = chains_noted old new stands long holds.chains;
    by_branch = newest_noted old new stands long newest holds.by_branch;
    newest_all = holds.newest_all;
    by_place = numbers_noted old new stands (omega arith) numbers holds.by_place;
    numbers_all = holds.numbers_all;
  }

  pub tops_widened : (tops : List ℕ) → HoldsTops old tops → HoldsTops new tops
  tops_widened tops holds i h =
      let low : i < length old = omega arith in
      let is = (stands i low).0 in
      let was = holds i low in
      let branch_is : slice_index tops (landmark_at new i).branch ≡ slice_index tops (landmark_at old i).branch = ap (slice_index tops) (stands i low).1 in
      omega arith

  -- what stands for none is no less than before
  pub none_widened : (none : ℕ) → none ≤ none_by true → ((i : ℕ) → i < length old → none ≤ (landmark_at old i).none) → (i : ℕ) → i < length new → none ≤ (landmark_at new i).none
  none_widened none low all i h =
      let inside : i < length old = omega arith in
      let was = all i inside in
      elim (each i inside) [
        | inl same ↦ (let is : (landmark_at new i).none ≡ (landmark_at old i).none = ap (λ (k : LandmarkView). k.none) same in omega arith)
        | inr wide ↦ (let is = wide.none in omega arith)
      ]
