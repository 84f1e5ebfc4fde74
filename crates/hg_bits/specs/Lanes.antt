-- Rows of numbers of one length, lane by lane
use Rattle.std.specs.Prelude.{◌≡◌, ℕ, ◌<◌, max, nat_le, Bool, List, length, slice_index}

-- in lane i the first row is at least the other
abbrev pub is_at_least : List ℕ → List ℕ → ℕ → Bool
is_at_least row other i = nat_le (slice_index other i) (slice_index row i)

-- each lane has the greater number of the two rows
pub record IsMaximum (row other greatest : List ℕ) : Type 0 where
  pub long : length greatest ≡ length row
  pub lane : (i : ℕ) → i < length row → slice_index greatest i ≡ max (slice_index row i) (slice_index other i)
