-- One chain of rows: what a member that does not fork makes. SWIRLDS-TR-2016-01, section 5
use Rattle.std.specs.Prelude.{ℕ, ◌≡◌, ◌<◌, ◌≤◌, List, length, Option, Some, None, option_map, slice_get}
use Rattle.hg_model.specs.declared.row.Row.{Row}
use Rattle.hg_model.specs.Graph.{name_at, creator_at, HasDistinctNames}

abbrev pub self_parent_name_in : Option Row → Option (List ℕ)
self_parent_name_in None = None
self_parent_name_in (Some row) = option_map (λ names. names.0) row.parents

-- the name of the self-parent of row x, if it has one
abbrev pub self_parent_name : List Row → ℕ → Option (List ℕ)
self_parent_name G x = self_parent_name_in (slice_get G x)

-- the rows by m in this list are one chain: of two of them the later has as self-parent the earlier, or a row between
pub record IsChain (m : ℕ) (line : List Row) : Type 0 where
  pub distinct : HasDistinctNames line
  pub joined : (x y : ℕ) → x < y → y < length line → creator_at line x ≡ m → creator_at line y ≡ m →
      (p : ℕ) × (x ≤ p) × (p < y) × (self_parent_name line y ≡ Some (name_at line p))
