-- Two graphs of which each member but a few has made one chain of rows
use Rattle.std.specs.Prelude.{ℕ, ◌≡◌, ◌<◌, List, ◌++◌, length, slice_get}
use Rattle.hg_model.specs.declared.row.Row.{Row}
use Rattle.hg_model.specs.Held.{lacking}
use Rattle.hg_model.specs.Graph.{name_at, creator_at}
use Rattle.hg_model.specs.Chains.{IsChain}
use Rattle.hg_prefix.specs.Standing.{IsRowOf}

-- rows of equal names are equal
pub record HaveEqualRows (G H : List Row) : Type 0 where
  pub equal : (x y : ℕ) → x < length G → y < length H → name_at G x ≡ name_at H y → slice_get G x ≡ slice_get H y

-- the rows of G, and then those of H whose names G lacks, in their order
abbrev pub union : List Row → List Row → List Row
union G H = G ++ lacking G H

-- one chain has all rows by m of both graphs
pub record HasOneChain (m : ℕ) (G H : List Row) : Type 0 where
  pub line : List Row
  pub chain : IsChain m line
  pub has_first : (x : ℕ) → x < length G → creator_at G x ≡ m → IsRowOf G x line
  pub has_second : (y : ℕ) → y < length H → creator_at H y ≡ m → IsRowOf H y line
