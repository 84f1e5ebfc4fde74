-- Sets of slots: what the slots weigh that they share
use Rattle.std.proofs.Common.{◌≡◌, ℕ, zero, suc, ◌+◌, ◌*◌, ◌^◌, ◌<◌, ◌≤◌, Bool, true, false, not, ◌&&◌, ◌||◌, eqb, ltb, max, List, [], ◌∷◌, cond, sum_by, length, take, get_or, replicate, refl, sym, ap, ap₂, ◌∙◌, inl, inr, arith, add-zero, add-suc, add-one, w64}
use Rattle.std.specs.Prelude.{bit_and, count_ones}
use Rattle.std.specs.Int.{bit_not}
use Rattle.std.proofs.lemmas.Bool.{cases_order, and_left, and_parts, eq-eqb, false_from_ne_true, ne_eqb, lt-ltb, ltb-true, le-ltb}
use Rattle.std.proofs.lemmas.List.{take_more}
use Rattle.std.proofs.lemmas.List.Sums.{sum_by-append, sum_by-cons}
use Rattle.std.proofs.lemmas.Nat.{and_le_l}
use Rattle.std.proofs.Math.Seq.{take-length}
use Rattle.hg_model.specs.Places.{count_below, weight_below}
use Rattle.hg_model.specs.Among.{weight_among}
use Rattle.hg_model.proofs.PlacesLaws.{count_below-le, weight_below-same, weight_below-longer, weight_below_grows}
use Rattle.hg_bits.specs.Words.{has_bit, is_set}
use Rattle.hg_bits.specs.Masks.{mask_has}
use Rattle.hg_bits.proofs.WordLaws.{has_bit-in_word, has_bit-past, has_bit-zeros, is_set-and, is_set-over}
use Rattle.hg_bits.proofs.MaskLaws.{ones_counted}
use Rattle.hg_votes.specs.Slots.{HoldsSlots, slot_weight}

-- an empty set
pub none_marked : (words : List ℕ) (n : ℕ) (test : ℕ → Bool) → words ≡ replicate n 0 → (i : ℕ) → has_bit words i ≡ (ltb i 0 && test i)
none_marked words n test none i = ap (λ ws. has_bit ws i) none ∙ (has_bit-zeros n i ∙ sym (and_left (ltb i 0) (test i) (le-ltb i 0 (omega arith))))

-- one slot more
pub marked_more : (old new : List ℕ) (slot : ℕ) (is_in : Bool) (test : ℕ → Bool) → ((i : ℕ) → has_bit old i ≡ (ltb i slot && test i)) → is_in ≡ test slot →
    ((i : ℕ) → has_bit new i ≡ (is_in && eqb i slot || has_bit old i)) → (i : ℕ) → has_bit new i ≡ (ltb i (slot + 1) && test i)
marked_more old new slot is_in test before is made i =
    made i
    ∙ (ap (λ b. is_in && eqb i slot || b) (before i)
    ∙ elim (cases_order i slot) [
      | inl same ↦ rw (same, eq-eqb slot slot refl, le-ltb slot slot (omega arith), lt-ltb slot (slot + 1) (omega arith), is) (both_same (test slot))
      | inr (inl less) ↦ rw (ne_eqb i slot (λ e. absurd (omega arith)), lt-ltb i slot less, lt-ltb i (slot + 1) (omega arith)) (none_before is_in (test i))
      | inr (inr more) ↦ rw (ne_eqb i slot (λ e. absurd (omega arith)), le-ltb i slot (omega arith), le-ltb i (slot + 1) (omega arith)) (none_before is_in false)
    ])
  where
    both_same : (b : Bool) → (b && true || false) ≡ b
    both_same true = refl
    both_same false = refl

    none_before : (a b : Bool) → (a && false || b) ≡ b
    none_before true b = refl
    none_before false b = refl

-- so many places, weighed from the first
weight_below-take : (weight : ℕ → ℕ) (test : ℕ → Bool) (xs : List ℕ) (k : ℕ) → k ≤ length xs →
    weight_below (slot_weight weight xs) k (λ i. test (get_or xs i 0)) ≡ weight_among weight test (take k xs)
unfolding weight_below
weight_below-take weight test xs zero le = refl
weight_below-take weight test xs (suc k) le =
    let one : ℕ → ℕ = λ w. cond (test w) (weight w) 0 in
    let inside : k < length xs = omega arith in
    let last : weight_among weight test (take (suc k) xs) ≡ weight_among weight test (take k xs) + sum_by one (get_or xs k 0 ∷ []) =
    ap (λ j. weight_among weight test (take j xs)) (sym (add-one k)) ∙ (ap (weight_among weight test) (take_more xs k 0 inside) ∙ sum_by-append one (take k xs) (get_or xs k 0 ∷ [])) in
    omega (arith, weight_below-take weight test xs k (omega arith), last, sum_by-cons one (get_or xs k 0) [])

-- the places that pass weigh what their slots do
pub weight_by_slots : (weight : ℕ → ℕ) (test : ℕ → Bool) (xs : List ℕ) → weight_below (slot_weight weight xs) (length xs) (λ i. test (get_or xs i 0)) ≡ weight_among weight test xs
weight_by_slots weight test xs = weight_below-take weight test xs (length xs) (omega arith) ∙ ap (weight_among weight test) (take-length xs)

-- where no slot is behind so many, what bits of the set weigh is what slots do
pub weighed_slots : (weight : ℕ → ℕ) (words : List ℕ) (len : ℕ) (passes : ℕ → Bool) → ((i : ℕ) → has_bit words i ≡ true → i < len) → ((i : ℕ) → has_bit words i ≡ false → passes i ≡ false) →
    weight_below weight (64 * length words) passes ≡ weight_below weight len passes
weighed_slots weight words len passes within none =
    let top : ℕ = max (64 * length words) len in
    let out : (k : ℕ) → len ≤ k → has_bit words k ≡ false = λ k past. false_from_ne_true (has_bit words k) (λ has. absurd (let low = within k has in omega arith)) in
    sym (weight_below-longer weight (64 * length words) top passes (omega arith) (λ k past h. none k (has_bit-past words k (omega arith))))
    ∙ weight_below-longer weight len top passes (omega arith) (λ k past h. none k (out k past))

module _ (words places : List ℕ) (test : ℕ → Bool) (holds : HoldsSlots words places test) where
  in_slot : (i : ℕ) → i < length places → has_bit words i ≡ test (get_or places i 0)
  in_slot i h = holds.bits i ∙ ap (λ b. b && test (get_or places i 0)) (lt-ltb i (length places) h)

  -- each slot is that of a place
  pub within_slots : (i : ℕ) → has_bit words i ≡ true → i < length places
  within_slots i h = ltb-true i (length places) (and_parts (ltb i (length places)) (test (get_or places i 0)) (sym (holds.bits i) ∙ h)).0

  -- what the slots weigh that are in another set of them too, by a function of that
  pub shared_slots : (weight : ℕ → ℕ) (others : List ℕ) (other : ℕ → Bool) → HoldsSlots others places other → (f : Bool → Bool) →
      weight_below (slot_weight weight places) (64 * length words) (λ i. has_bit words i && f (has_bit others i)) ≡ weight_among weight (λ p. test p && f (other p)) places
  shared_slots weight others other held f =
      weighed_slots (slot_weight weight places) words (length places) (λ i. has_bit words i && f (has_bit others i)) within_slots (λ i h. and_left (has_bit words i) (f (has_bit others i)) h)
      ∙ (weight_below-same (slot_weight weight places) (length places) (λ i. has_bit words i && f (has_bit others i)) (λ i. test (get_or places i 0) && f (other (get_or places i 0)))
      (λ i h. ap₂ (λ a b. a && f b) (in_slot i h) (held.bits i ∙ ap (λ b. b && other (get_or places i 0)) (lt-ltb i (length places) h)))
      ∙ weight_by_slots weight (λ p. test p && f (other p)) places)

-- there are no more slots than places
pub few_slots : (words : List ℕ) (len : ℕ) → ((i : ℕ) → has_bit words i ≡ true → i < len) → count_below (64 * length words) (has_bit words) ≤ len
few_slots words len within = omega (arith, weighed_slots (λ _. 1) words len (has_bit words) within (λ i h. h), count_below-le len (has_bit words))

-- one word more

count_below-add : (a b : ℕ) (test : ℕ → Bool) → count_below (a + b) test ≡ count_below a test + count_below b (λ i. test (a + i))
unfolding weight_below
count_below-add a zero test = rw (add-zero a) (omega arith)
count_below-add a (suc b) test = rw add-suc (omega (arith, count_below-add a b test))

word_counted : (counts : ℕ → Bool) (k word : ℕ) → word < 2 ^ 64 → ((i : ℕ) → i < 64 → is_set word i ≡ counts (64 * k + i)) → count_below (64 * (k + 1)) counts ≡ count_below (64 * k) counts + count_ones word
unfolding mask_has
word_counted counts k word fits same =
    let next : 64 * (k + 1) ≡ 64 * k + 64 = omega arith in
    ap (λ n. count_below n counts) next
    ∙ (count_below-add (64 * k) 64 counts
    ∙ ap (λ n. count_below (64 * k) counts + n) (sym (ones_counted 64 word fits ∙ weight_below-same (λ _. 1) 64 (is_set word) (λ i. counts (64 * k + i)) same)))

module _ (voters voted : List ℕ) (k : ℕ) (fits : get_or voters k 0 < 2 ^ 64) where
  pub yes_more : count_below (64 * (k + 1)) (λ i. has_bit voters i && has_bit voted i) ≡ count_below (64 * k) (λ i. has_bit voters i && has_bit voted i) + count_ones (bit_and (get_or voters k 0) (get_or voted k 0))
  yes_more =
      word_counted (λ i. has_bit voters i && has_bit voted i) k (bit_and (get_or voters k 0) (get_or voted k 0)) (omega (arith, and_le_l (get_or voters k 0) (get_or voted k 0)))
      (λ i h. is_set-and (get_or voters k 0) (get_or voted k 0) i ∙ ap₂ (λ a b. a && b) (sym (has_bit-in_word voters k i h)) (sym (has_bit-in_word voted k i h)))

  pub no_more : get_or voted k 0 < 2 ^ 64 →
      count_below (64 * (k + 1)) (λ i. has_bit voters i && not (has_bit voted i)) ≡ count_below (64 * k) (λ i. has_bit voters i && not (has_bit voted i)) + count_ones (bit_and (get_or voters k 0) (bit_not w64 (get_or voted k 0)))
  no_more small =
      word_counted (λ i. has_bit voters i && not (has_bit voted i)) k (bit_and (get_or voters k 0) (bit_not w64 (get_or voted k 0))) (omega (arith, and_le_l (get_or voters k 0) (bit_not w64 (get_or voted k 0))))
      (λ i h. is_set-over (get_or voters k 0) (get_or voted k 0) i small h ∙ ap₂ (λ a b. a && not b) (sym (has_bit-in_word voters k i h)) (sym (has_bit-in_word voted k i h)))

-- no more slots are shared than the set has
pub few_shared : (voters : List ℕ) (f : ℕ → Bool) (n : ℕ) → n ≤ 64 * length voters → count_below n (λ i. has_bit voters i && f i) ≤ count_below (64 * length voters) (has_bit voters)
few_shared voters f n le = weight_below_grows (λ _. 1) n (64 * length voters) (λ i. has_bit voters i && f i) (has_bit voters) le (λ i h both. (and_parts (has_bit voters i) (f i) both).0)
