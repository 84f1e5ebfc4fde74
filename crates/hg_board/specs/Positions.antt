-- Positions in a history, and how often each of them stands in a list
use Rattle.std.specs.Prelude.{ℕ, ◌<◌, ◌==◌, ◌&&◌, cond, nat_le, nat_lt, List, count_by}
use Rattle.std.specs.List.{AllByRecursion}

-- how often the position stands in the list
unfoldable pub times : ℕ → List ℕ → ℕ
times p positions = count_by (λ q. q == p) positions

-- 1 for a position from the first on and below the end, 0 for each other
abbrev pub once_from : ℕ → ℕ → ℕ → ℕ
once_from first end p = cond (nat_le first p && nat_lt p end) 1 0

abbrev pub AreBelow : ℕ → List ℕ → Type 0
AreBelow end positions = AllByRecursion (λ p. p < end) positions
