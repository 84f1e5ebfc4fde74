-- Ancestry told by a number for each member. SWIRLDS-TR-2016-01, section 5, where no member has a fork: the ancestors of
-- an event by one member are then the first of that member's events
use Rattle.std.specs.Prelude.{ℕ, ◌≡◌, ◌<◌, ◌≤◌, ◌+◌, true, nat_lt, List, length, slice_index}
use Rattle.hg_model.specs.Stakes.{Stakes, member_count}
use Rattle.hg_model.specs.Links.{Link, creator}
use Rattle.hg_model.specs.Ancestry.{is_ancestor, is_self_ancestor}
use Rattle.hg_model.specs.Shape.{Shape}
use Rattle.hg_model.specs.declared.counts.Counts.{Counts}
use Rattle.hg_model.specs.declared.counts.Counts.TheVariants.{Narrow, Wide}

-- the numbers, of either width
abbrev pub numbers_of : Counts → List ℕ
numbers_of (Narrow numbers) = numbers.now
numbers_of (Wide numbers) = numbers.now

-- for each member one more than the place of the last of its rows that is an ancestor of x, or 0 where none is; and each
-- member's rows are in one line
pub record CountsMembers (n : Stakes) (L : List Link) (x : ℕ) (counts : List ℕ) : Type 0 where
  pub wide : length counts ≡ member_count n
  pub told : (y : ℕ) → y < length L → nat_lt y (slice_index counts (creator L y)) ≡ is_ancestor L x y
  pub last : (m : ℕ) → 0 < slice_index counts m → (z : ℕ) × (z < length L) × (creator L z ≡ m) × (z + 1 ≡ slice_index counts m)
  pub line : (y z : ℕ) → y < length L → z ≤ y → creator L y ≡ creator L z → is_self_ancestor L y z ≡ true

-- the same of a shape
abbrev pub CountsMembersIn : Shape → ℕ → List ℕ → Type 0
CountsMembersIn shape x counts = CountsMembers shape.members shape.links x counts
