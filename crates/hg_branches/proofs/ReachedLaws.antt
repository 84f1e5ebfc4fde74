-- What the members weigh who have a descendant on their own branches
use Rattle.std.proofs.Common.{◌≡◌, ◌≢◌, ℕ, ◌+◌, ◌*◌, ◌<◌, ◌≤◌, nat_lt, nat_le, true, false, Bool, List, take, slice_index, refl, sym, ap, subst, ◌∙◌, inl, inr, arith}
use Rattle.std.proofs.lemmas.Bool.{cases_Bool, cases_eq, cases_lt, ltb-true, lt-ltb, leb-true, false_from_ne_true, both_ways}
use Rattle.std.proofs.lemmas.List.{get_or-take}
use Rattle.hg_model.specs.Stakes.{Stakes, member_count, stake_of, stake_where, total}
use Rattle.hg_model.specs.Seeing.{is_supermajority}
use Rattle.hg_model.proofs.PlacesLaws.{weight_below-le, weight_below-same, weight_below_none}
use Rattle.hg_model.proofs.WeightLaws.{passes_beside, beside_itself, beside_other, weight_below_beside}
use Rattle.hg_branches.specs.Landmarks.{LandmarkView, is_reached, IsNeverStrong, IsWeighed}
use Rattle.hg_branches.specs.Lines.{own_sees, is_strong_by_own}

-- of two tests that differ at one member at most, the second passes no more stake than the first and that member's
module _ (n : Stakes) (b : ℕ) (one two : ℕ → Bool) (same : (m : ℕ) → m < member_count n → m ≢ b → two m ≡ one m) where
  no_more : ((m : ℕ) → m < member_count n → two m ≡ true → m ≢ b) → stake_where n two ≤ stake_where n one
  no_more other = weight_below-le (stake_of n) (member_count n) two one (λ m member passes. sym (same m member (other m member passes)) ∙ passes)

  beside_passes : (m : ℕ) → m < member_count n → passes_beside two b m ≡ true → one m ≡ true
  beside_passes m member passes = elim (cases_eq m b) [
    | inl here ↦ absurd (both_ways (passes_beside two b b) (beside_itself two b) (subst (λ k. passes_beside two b k ≡ true) here passes))
    | inr other ↦ sym (same m member other) ∙ (sym (beside_other two b m other) ∙ passes)
  ]

  one_more : stake_where n two ≤ stake_where n one + stake_of n b
  one_more = elim (cases_lt b (member_count n)) [
    | inl member ↦ elim (cases_Bool (two b)) [
      | inl passes ↦ omega (
        arith,
        weight_below_beside (stake_of n) (member_count n) two b member passes,
        weight_below-le (stake_of n) (member_count n) (passes_beside two b) one beside_passes,
      )
      | inr fails ↦ omega (arith, no_more (λ m _ passes here. both_ways (two b) fails (subst (λ k. two k ≡ true) here passes)))
    ]
    | inr past ↦ omega (arith, no_more (λ m member _ here. absurd (omega arith)))
  ]

-- where one branch alone has another first descendant, no more than its member comes in
pub one_more_reached : (n : Stakes) (none b : ℕ) (firsts next : List ℕ) → ((i : ℕ) → i ≢ b → slice_index next i ≡ slice_index firsts i) →
    stake_where n (is_reached none next) ≤ stake_where n (is_reached none firsts) + stake_of n b
one_more_reached n none b firsts next others = one_more n b (is_reached none firsts) (is_reached none next) (λ m _ other. ap (λ f. nat_lt f none) (others m other))

itself_low : (n : ℕ) → nat_lt n n ≡ false
itself_low n = false_from_ne_true (nat_lt n n) (λ h. (let less : n < n = ltb-true n n h in absurd (omega arith)))

-- where one branch alone has a first descendant, its member alone is reached
pub alone_reached : (n : Stakes) (none b : ℕ) (firsts : List ℕ) → ((m : ℕ) → m < member_count n → m ≢ b → slice_index firsts m ≡ none) → stake_where n (is_reached none firsts) ≤ stake_of n b
alone_reached n none b firsts others =
    omega (
      arith,
      one_more n b (λ _. false) (is_reached none firsts) (λ m member other. ap (λ f. nat_lt f none) (others m member other) ∙ itself_low none),
      weight_below_none (stake_of n) (member_count n) (λ _. false) (λ m _ passes. both_ways false refl passes),
    )

-- where those who are reached weigh too little, so do those who are seen, whatever is counted
pub never_strong : (n : Stakes) (k : LandmarkView) → IsWeighed n k → is_supermajority (total n) k.reached ≡ false → IsNeverStrong n k
never_strong n k weighed little counts low =
    let seen : stake_where n (own_sees k.firsts counts) ≤ stake_where n (is_reached k.none k.firsts) =
    weight_below-le (stake_of n) (member_count n) (own_sees k.firsts counts) (is_reached k.none k.firsts) (λ b member sees.
    let le : slice_index k.firsts b ≤ slice_index counts b = leb-true (slice_index k.firsts b) (slice_index counts b) sees in
    let less = low b member in
    lt-ltb (slice_index k.firsts b) k.none (omega arith)) in
    false_from_ne_true (is_strong_by_own n k.firsts counts) (λ h.
    let over : 2 * total n < 3 * stake_where n (own_sees k.firsts counts) = ltb-true (2 * total n) (3 * stake_where n (own_sees k.firsts counts)) h in
    both_ways (is_supermajority (total n) k.reached) little (lt-ltb (2 * total n) (3 * k.reached) (omega (arith, over, seen, weighed))))

-- of the counts of all branches the first ones tell who sees
pub own_taken : (n : Stakes) (firsts row : List ℕ) → stake_where n (own_sees firsts (take (member_count n) row)) ≡ stake_where n (own_sees firsts row)
own_taken n firsts row = weight_below-same (stake_of n) (member_count n) (own_sees firsts (take (member_count n) row)) (own_sees firsts row)
    (λ m member. ap (nat_le (slice_index firsts m)) (get_or-take (member_count n) row m 0 member))

-- and whether they are enough
pub strong_by_taken : (n : Stakes) (firsts row : List ℕ) → is_strong_by_own n firsts (take (member_count n) row) ≡ is_supermajority (total n) (stake_where n (own_sees firsts row))
strong_by_taken n firsts row = ap (is_supermajority (total n)) (own_taken n firsts row)
