-- Lines of self-ancestors as lists of line rows, one behind the other
use Rattle.std.specs.Prelude.{ℕ, ◌≡◌, ◌<◌, ◌≤◌, ◌+◌, ◌-◌, Bool, true, List, [], ◌∷◌, length, take, slice_index, slice_index_or, Option, Some, None}
use Rattle.hg_model.specs.declared.row.Row.{Row}
use Rattle.hg_model.specs.Links.{Link, self_parent}
use Rattle.hg_model.specs.Ancestry.{is_self_ancestor}
use Rattle.hg_model.specs.Shape.{Shape}
use Rattle.hg_model.specs.Prefix.{Graph}
use Rattle.hg_model.specs.Order.{time_at}
use Rattle.hg_order.specs.declared.timer.LineRow.{LineRow}

abbrev pub no_line_row : LineRow
no_line_row = record { time = 0; place = 0 }

-- the place and the time of line row k
abbrev pub place_at : List LineRow → ℕ → ℕ
place_at lines k = (slice_index_or lines k no_line_row).place

abbrev pub time_in : List LineRow → ℕ → ℕ
time_in lines k = (slice_index_or lines k no_line_row).time

-- the self-parent of z, unless it stands below `low`
abbrev pub IsNextFrom : List Link → ℕ → ℕ → Option ℕ → Type 0
IsNextFrom L low z (Some p) = (p ∷ [] ≡ self_parent L z) × (low ≤ p)
IsNextFrom L low z None = (p : ℕ) → p ∷ [] ≡ self_parent L z → p < low

-- from `start` up to below `end` stands the line of the row at `start`, down to the last of it that does not stand below `low`
pub record HasLine (L : List Link) (low : ℕ) (lines : List LineRow) (start «end» : ℕ) : Type 0 where
  pub some : start < «end»
  pub within : «end» ≤ length lines
  pub on : (k : ℕ) → start ≤ k → k < «end» → is_self_ancestor L (place_at lines start) (place_at lines k) ≡ true
  pub next : (k : ℕ) → start ≤ k → k + 1 < «end» → place_at lines (k + 1) ∷ [] ≡ self_parent L (place_at lines k)
  pub last : (p : ℕ) → p ∷ [] ≡ self_parent L (place_at lines («end» - 1)) → p < low

-- the times are those of the rows
abbrev pub HaveTimes : List Row → List LineRow → Type 0
HaveTimes G lines = (k : ℕ) → k < length lines → time_in lines k ≡ time_at G (place_at lines k)

-- behind the old ones stands the line of row w
pub record AddsLine (G : List Row) (L : List Link) (w low : ℕ) (old new : List LineRow) : Type 0 where
  pub line : HasLine L low new (length old) (length new)
  pub top : place_at new (length old) ≡ w
  pub before : take (length old) new ≡ old
  pub times : HaveTimes G old → HaveTimes G new

-- the lines of these rows stand one behind the other, each from its start to the next one
pub record AreLinesOf (G : List Row) (L : List Link) (places : List ℕ) (low : ℕ) (lines : List LineRow) (starts : List ℕ) : Type 0 where
  pub line : (i : ℕ) → i < length places → HasLine L low lines (slice_index starts i) (slice_index starts (i + 1))
  pub top : (i : ℕ) → i < length places → place_at lines (slice_index starts i) ≡ slice_index places i
  pub times : HaveTimes G lines

-- if there was room, the line of w is added, and the lines of these rows are there
abbrev pub ListsLine : Bool → Graph → Shape → ℕ → ℕ → List LineRow → List LineRow → Type 0
ListsLine listed g s w low old new = listed ≡ true → AddsLine g.rows s.links w low old new

abbrev pub ListsLines : Bool → Graph → Shape → List ℕ → ℕ → List LineRow → List ℕ → Type 0
ListsLines listed g s places low lines starts = listed ≡ true → AreLinesOf g.rows s.links places low lines starts

-- the line of w so far, down to z
pub record WalksLine (G : List Row) (L : List Link) (w : ℕ) (old now : List LineRow) (z : ℕ) : Type 0 where
  pub some : length old < length now
  pub top : place_at now (length old) ≡ w
  pub at : place_at now (length now - 1) ≡ z
  pub on : (k : ℕ) → length old ≤ k → k < length now → is_self_ancestor L w (place_at now k) ≡ true
  pub next : (k : ℕ) → length old ≤ k → k + 1 < length now → place_at now (k + 1) ∷ [] ≡ self_parent L (place_at now k)
  pub before : take (length old) now ≡ old
  pub times : HaveTimes G old → HaveTimes G now
