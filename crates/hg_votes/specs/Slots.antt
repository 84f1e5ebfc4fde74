-- Sets of slots. A slot is an index in a list of places, as in that of the witnesses of a round
use Rattle.std.specs.Prelude.{ℕ, ◌≡◌, ◌+◌, ◌*◌, ◌<◌, ◌≤◌, Bool, ◌&&◌, not, nat_lt, List, [], ◌∷◌, ◌++◌, length, slice_index, slice_range, get_or}
use Rattle.hg_model.specs.Places.{weight_below}
use Rattle.hg_bits.specs.Words.{has_bit}
use Rattle.hg_votes.specs.declared.sets.Span.{Span}
use Rattle.hg_votes.specs.declared.tally.Tally.{Tally}

-- the words have the bits of the slots whose places pass the test, and no others
pub record HoldsSlots (words places : List ℕ) (test : ℕ → Bool) : Type 0 where
  pub bits : (i : ℕ) → has_bit words i ≡ (nat_lt i (length places) && test (slice_index places i))

-- what a slot weighs by the weight of its place
abbrev pub slot_weight : (ℕ → ℕ) → List ℕ → ℕ → ℕ
slot_weight weight places i = weight (slice_index places i)

-- what the first slots, so many, weigh that are in both sets, and what those weigh that are in the first alone
abbrev pub slot_tally : ℕ → (ℕ → ℕ) → List ℕ → List ℕ → Tally
slot_tally len weight voters voted = record {
  yes = weight_below weight len (λ i. has_bit voters i && has_bit voted i);
  no = weight_below weight len (λ i. has_bit voters i && not (has_bit voted i));
}

-- the words of this stretch
abbrev pub words_in : List ℕ → Span → List ℕ
words_in words span = slice_range words span.start span.end

-- the stretch where none is kept
abbrev pub no_span : Span
no_span = record { start = 0; end = 0 }

-- each stretch lies within so many words
pub record AreWithin (len : ℕ) (spans : List Span) : Type 0 where
  pub ordered : (k : ℕ) → k < length spans → (get_or spans k no_span).start ≤ (get_or spans k no_span).end
  pub inside : (k : ℕ) → k < length spans → (get_or spans k no_span).end ≤ len

-- the set is that of the places that pass the test, in no more words than slots need
pub record IsSetOf (set places : List ℕ) (test : ℕ → Bool) : Type 0 where
  pub slots : HoldsSlots set places test
  pub few : 64 * length set < length places + 64

-- the sets with that one more
pub record AddsSet (old new : List (List ℕ)) (places : List ℕ) (test : ℕ → Bool) : Type 0 where
  pub set : List ℕ
  pub grown : new ≡ old ++ set ∷ []
  pub is_set : IsSetOf set places test
