-- Sets of members as masks: bit m is 1 where member m is in the set
use Rattle.std.specs.Prelude.{ℕ, Bool}
use Rattle.hg_bits.specs.Words.{is_set}

-- member m is in the set
unfoldable pub mask_has : ℕ → ℕ → Bool
mask_has mask m = is_set mask m
