-- The rows of two nodes
use Rattle.std.specs.Prelude.{ℕ, ◌≡◌, ◌<◌, length, option_map, slice_get}
use Rattle.hg_life.specs.Spelling.{spelling}
use Rattle.hg_life.specs.NodeView.{NodeView, kept_of, node_rows}

-- the row at this place has the same bytes in both
abbrev pub IsSpelledAlike : {K : Type 0} → NodeView K → NodeView K → ℕ → Type 0
IsSpelledAlike v w x = option_map spelling (slice_get (node_rows v) x) ≡ option_map spelling (slice_get (node_rows w) x)

-- both have as many rows, and the same bytes of each
pub record HaveSameRows {K : Type 0} (v w : NodeView K) : Type 0 where
  pub count : length (node_rows v) ≡ length (node_rows w)
  pub each : (x : ℕ) → x < length (node_rows v) → IsSpelledAlike v w x
