-- A pair of rows that shows a member's fork
use Rattle.std.specs.Prelude.{ℕ, ◌≡◌, ◌<◌, true, false, List, length, Option, Some, None}
use Rattle.hg_model.specs.Links.{Link}
use Rattle.hg_model.specs.Forks.{is_fork, has_fork}

-- a and b are rows that are a fork by m, b the later one
pub record IsForkOf (L : List Link) (m a b : ℕ) : Type 0 where
  pub fork : is_fork L m a b ≡ true
  pub order : a < b
  pub there : b < length L

-- a fork by m, and none exactly where m has none
abbrev pub IsForkPair : List Link → ℕ → Option (ℕ × ℕ) → Type 0
IsForkPair L m None = has_fork L m ≡ false
IsForkPair L m (Some pair) = IsForkOf L m pair.0 pair.1
