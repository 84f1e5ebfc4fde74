-- The ends of the last landmarks by branch, in 16 bits too
use Rattle.std.specs.Prelude.{◌≡◌, ℕ, min, List, length, slice_index}

-- for each branch the end of its last landmark, or 0, and for how many more branches there is memory at least
pub record TopsWithRoom : Type 0 where
  pub ends : List ℕ
  pub room : ℕ

-- in 16 bits the greatest number stands for an end that does not fit
pub record HoldsLow (narrow wide : List ℕ) : Type 0 where
  pub long : length narrow ≡ length wide
  pub each : (b : ℕ) → slice_index narrow b ≡ min (slice_index wide b) 65535
