-- Who may see a row: the members with several branches, and those whose first descendants see it
use Rattle.std.proofs.Common.{◌≡◌, ℕ, ◌+◌, ◌-◌, ◌*◌, ◌<◌, ◌≤◌, ◌||◌, ◌&&◌, eqb, nat_le, not, true, false, List, [], length, get_or, slice_index, take, sym, ap, ◌∙◌, subst, inl, inr, refl, arith}
use Rattle.std.proofs.lemmas.Bool.{cases_eq, cases_lt, and_parts, and_from, or_left, or_right, ltb-true, lt-ltb, leb-true, le-leb, eqb-true, eq-eqb, not-true, false_from_ne_true, both_ways}
use Rattle.std.proofs.lemmas.List.{length_push, get_or-take, length-take-le}
use Rattle.hg_model.specs.Places.{some_below}
use Rattle.hg_model.specs.Stakes.{Stakes, member_count, stake_of, stake_where, total}
use Rattle.hg_model.specs.Links.{Link, creator}
use Rattle.hg_model.specs.Ancestry.{is_ancestor}
use Rattle.hg_model.specs.Forks.{has_fork_below}
use Rattle.hg_model.specs.Seeing.{sees, sees_through, strongly_sees, is_supermajority}
use Rattle.hg_model.proofs.PlacesLaws.{some_below_from, some_below_found, weight_below-le}
use Rattle.hg_model.proofs.SightLaws.{is_ancestor-from_self, sees_through_found}
use Rattle.hg_bits.specs.Masks.{mask_has}
use Rattle.hg_ancestry.proofs.SeerLaws.{strong_by_members}
use Rattle.hg_branches.specs.Branches.{Branching, FirstDescendants}
use Rattle.hg_branches.specs.Columns.{branching_of, with_branch, HoldsBranches, HoldsCounts}
use Rattle.hg_branches.specs.Landmarks.{LandmarkView, HoldsFirsts}
use Rattle.hg_branches.specs.Lines.{own_sees, other_sees, others_see, sees_on, first_sees, may_see, AreSeveral}
use Rattle.hg_branches.proofs.PutLaws.{maker_before, maker_last, made_new, made_none}
use Rattle.hg_branches.proofs.SeenLaws.{counted_complete, sees_lower}

-- with no more than a stake that is too little there is too little
pub not_more : (all less more : ℕ) → less ≤ more → is_supermajority all more ≡ false → is_supermajority all less ≡ false
not_more all less more le little = false_from_ne_true (is_supermajority all less) (λ h.
    let over : 2 * all < 3 * less = ltb-true (2 * all) (3 * less) h in
    both_ways (is_supermajority all more) little (lt-ltb (2 * all) (3 * more) (omega arith)))

-- who sees by another branch has several
pub others_within : (L : List Link) (makers firsts counts : List ℕ) (y several : ℕ) → AreSeveral (length firsts) makers several →
    (m : ℕ) → others_see L makers firsts counts y m ≡ true → mask_has several m ≡ true
others_within L makers firsts counts y several are m h =
    let b = some_below_found (length makers) (λ b. other_sees L makers firsts counts y b && eqb (slice_index makers b) m) h in
    let one = and_parts (other_sees L makers firsts counts y b.0) (eqb (slice_index makers b.0) m) b.2 in
    let two = and_parts (nat_le (length firsts) b.0 && not (own_sees firsts counts (slice_index makers b.0))) (sees_on L counts y b.0) one.0 in
    let three = and_parts (nat_le (length firsts) b.0) (not (own_sees firsts counts (slice_index makers b.0))) two.0 in
    subst (λ j. mask_has several j ≡ true) (eqb-true (slice_index makers b.0) m one.1) (are b.0 (leb-true (length firsts) b.0 three.0) b.1)

-- a new branch is its maker's
pub several_more : (members by : ℕ) (makers : List ℕ) (b several more : ℕ) → b ≤ length makers → AreSeveral members makers several →
    ((m : ℕ) → mask_has more m ≡ (mask_has several m || (nat_le members b && eqb m by))) → AreSeveral members (with_branch makers b by) more
several_more members by makers b several more le are told c past inside = elim (cases_lt c (length makers)) [
  | inl before ↦ subst (λ j. mask_has more j ≡ true) (sym (maker_before makers b by le c before))
      (told (get_or makers c 0) ∙ or_left (mask_has several (get_or makers c 0)) (nat_le members b && eqb (get_or makers c 0) by) (are c past before))
  | inr behind ↦ elim (cases_eq b (length makers)) [
    | inl new ↦
        (let long = ap length (made_new makers b by le new) ∙ length_push makers by in
        let last : b ≡ c = omega (arith, long, inside) in
        subst (λ j. mask_has more j ≡ true) (sym (maker_last makers b by le new) ∙ ap (λ i. get_or (with_branch makers b by) i 0) last)
        (told by ∙ or_right (mask_has several by) (nat_le members b && eqb by by) (and_from (nat_le members b) (eqb by by) (le-leb members b (omega arith)) (eq-eqb by by refl))))
    | inr old ↦ (let long = ap length (made_none makers b by le old) in absurd (omega (arith, long, inside)))
  ]
]

-- the first branches alone have no more makers
pub several_take : (members many : ℕ) (makers : List ℕ) (several : ℕ) → many ≤ length makers → AreSeveral members makers several → AreSeveral members (take many makers) several
several_take members many makers several le are b past inside =
    let low : b < many = omega (arith, length-take-le many makers le) in
    subst (λ j. mask_has several j ≡ true) (sym (get_or-take many makers b 0 low)) (are b past (omega arith))

module _ (n : Stakes) (L : List Link) (branches makers ends : List ℕ) (held : HoldsBranches n L branches makers ends) (counts : List (List ℕ)) (rows : HoldsCounts n L branches makers counts) (x y : ℕ) (hx : x < length L) (k : LandmarkView) (holds : HoldsFirsts n L branches makers k) (is_y : k.end ≡ y + 1) (several : ℕ) (are : AreSeveral (member_count n) makers several) where
  abbrev B : Branching
  B = branching_of branches makers

  told : FirstDescendants (member_count n) k.none L B y (slice_index k.firsts)
  told =
      let same : k.end - 1 ≡ y = omega arith in
      subst (λ j. FirstDescendants (member_count n) k.none L B j (slice_index k.firsts)) same holds.told

  -- first descendants are rows
  pub first_some : (m : ℕ) → m < member_count n → 0 < slice_index k.firsts m
  first_some m hm = elim (told.there m hm) [
    | inl never ↦ (let low = holds.short in omega arith)
    | inr w ↦ (let end : w.0 + 1 ≡ slice_index k.firsts m = w.3 in omega arith)
  ]

  -- where a row on a member's own branch sees y, so does the first there that has it as ancestor
  pub first_sees_too : (z m : ℕ) → z < length L → m < member_count n → get_or branches z 0 ≡ m → sees L z y ≡ true → sees L (slice_index k.firsts m - 1) y ≡ true
  unfolding sees
  first_sees_too z m hz hm on seen =
      let e = held.shaped.earlier in
      let parts = and_parts (is_ancestor L z y) (not (has_fork_below L z (creator L y))) seen in
      let free : has_fork_below L z (creator L y) ≡ false = not-true (has_fork_below L z (creator L y)) parts.1 in
      let up : nat_le (slice_index k.firsts (B.branch z)) (z + 1) ≡ true = told.told z hz (subst (λ b. b < member_count n) (sym on) hm) ∙ parts.0 in
      let le : slice_index k.firsts (B.branch z) ≤ z + 1 = leb-true (slice_index k.firsts (B.branch z)) (z + 1) up in
      let first : slice_index k.firsts (B.branch z) ≡ slice_index k.firsts m = ap (slice_index k.firsts) on in
      elim (told.there m hm) [
        | inl never ↦ (let low = holds.short in absurd (omega arith))
        | inr w ↦
            (let end : w.0 + 1 ≡ slice_index k.firsts m = w.3 in
            let on_w : slice_index k.firsts (B.branch w.0) ≡ slice_index k.firsts m = ap (slice_index k.firsts) w.2 in
            let seen_w : is_ancestor L w.0 y ≡ true = sym (told.told w.0 w.1 (subst (λ b. b < member_count n) (sym w.2) hm)) ∙ le-leb (slice_index k.firsts (B.branch w.0)) (w.0 + 1) (omega arith) in
            let above : is_ancestor L z w.0 ≡ true = is_ancestor-from_self L e z w.0 (held.lines.line z w.0 hz (omega arith) (on ∙ sym w.2)) in
            let is_w : w.0 ≡ slice_index k.firsts m - 1 = omega arith in
            subst (λ j. sees L j y ≡ true) is_w (sees_lower L e B held.lines (length makers) held.known z w.0 y above seen_w free))
      ]

  pub through_within : (m : ℕ) → sees_through L x y m ≡ true → may_see L several k.firsts (get_or counts x []) y m ≡ true
  through_within m h =
      let e = held.shaped.earlier in
      let row = get_or counts x [] in
      let z = sees_through_found L e x y m h in
      let le : z.0 ≤ x = z.1 in
      let hz : z.0 < length L = omega arith in
      let made : creator L z.0 ≡ get_or makers (get_or branches z.0 0) 0 = held.lines.made z.0 hz in
      elim (cases_lt (get_or branches z.0 0) (member_count n)) [
        | inl own ↦
            (let on : get_or branches z.0 0 ≡ m = sym (held.own (get_or branches z.0 0) own) ∙ (sym made ∙ z.3) in
            let hm : m < member_count n = subst (λ b. b < member_count n) on own in
            let counted : own_sees k.firsts row m ≡ true = subst (λ b. own_sees k.firsts row b ≡ true) on
            (counted_complete L e B held.lines (length makers) held.known (member_count n) k.none x y (slice_index row) (slice_index k.firsts) hx (rows.row x hx) told holds.short z.0 own z.2 z.4) in
            or_right (mask_has several m) (some_below (length k.firsts) (λ b. first_sees L k.firsts row y b && eqb b m))
            (some_below_from (length k.firsts) (λ b. first_sees L k.firsts row y b && eqb b m) m (let long = holds.long in omega arith)
            (and_from (first_sees L k.firsts row y m) (eqb m m)
            (and_from (own_sees k.firsts row m) (sees L (slice_index k.firsts m - 1) y) counted (first_sees_too z.0 m hz hm on z.4)) (eq-eqb m m refl))))
        | inr other ↦
            or_left (mask_has several m) (some_below (length k.firsts) (λ b. first_sees L k.firsts row y b && eqb b m))
            (subst (λ j. mask_has several j ≡ true) (sym made ∙ z.3) (are (get_or branches z.0 0) other (held.known z.0 hz)))
      ]

  -- where those who may see y weigh too little, x does not strongly see it
  pub not_strong : (may : ℕ) → ((m : ℕ) → mask_has may m ≡ may_see L several k.firsts (get_or counts x []) y m) →
      is_supermajority (total n) (stake_where n (mask_has may)) ≡ false → strongly_sees n L x y ≡ false
  not_strong may is little =
      sym (strong_by_members n L x y (sees_through L x y) (λ m. refl))
      ∙ not_more (total n) (stake_where n (sees_through L x y)) (stake_where n (mask_has may))
      (weight_below-le (stake_of n) (member_count n) (sees_through L x y) (mask_has may) (λ m hm h. is m ∙ through_within m h)) little
