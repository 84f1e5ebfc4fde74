-- Bits in words of 64
use Rattle.std.specs.Prelude.{◌≡◌, ℕ, ◌+◌, ◌/◌, ◌%◌, ◌^◌, ◌<◌, ◌≤◌, Bool, true, false, ◌&&◌, ◌==◌, not, List, length, slice_index, Option, Some, None}
use Rattle.std.specs.Int.{bit_at}
use Rattle.hg_model.specs.Places.{table}

-- bit i of the word is 1
abbrev pub is_set : ℕ → ℕ → Bool
is_set word i = bit_at word i == 1

-- bit i of the words is 1
unfoldable pub has_bit : List ℕ → ℕ → Bool
has_bit words i = is_set (slice_index words (i / 64)) (i % 64)

-- the first bits of the words
unfoldable pub bits_of : List ℕ → ℕ → List Bool
bits_of words len = table (has_bit words) len

-- words for so many bits, with no bit past them
pub record HoldsBits (words : List ℕ) (len : ℕ) : Type 0 where
  pub fits : len < 2 ^ 64
  pub long : length words ≡ len / 64 + 1
  pub clear : (i : ℕ) → len ≤ i → has_bit words i ≡ false

-- k is the first place from `from` on that passes
pub record IsFirst (test : ℕ → Bool) (from k : ℕ) : Type 0 where
  pub low : from ≤ k
  pub passes : test k ≡ true
  pub none_before : (i : ℕ) → from ≤ i → i < k → test i ≡ false

-- from `from` on no place below n passes
abbrev pub NoneFrom : (ℕ → Bool) → ℕ → ℕ → Type 0
NoneFrom test from n = (i : ℕ) → from ≤ i → i < n → test i ≡ false

-- what a search below n from `from` on answers
abbrev pub Finds : (ℕ → Bool) → ℕ → ℕ → Option ℕ → Type 0
Finds test from n None = NoneFrom test from n
Finds test from n (Some k) = (k < n) × IsFirst test from k

-- bit i is in the first words and not in the others
abbrev pub is_bit_over : List ℕ → List ℕ → ℕ → Bool
is_bit_over words others i = has_bit words i && not (has_bit others i)
