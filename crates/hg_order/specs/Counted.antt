-- Rows that a number for each member tells. SWIRLDS-TR-2016-01, section 5, where no member has a fork: the ancestors of an
-- event by one member are then the first of that member's events, and so are those that several events share
use Rattle.std.specs.Prelude.{ℕ, ◌≡◌, ◌<◌, ◌≤◌, ◌-◌, Bool, true, min, nat_lt, List, length, slice_index, Option, IfSome}
use Rattle.hg_model.specs.Stakes.{Stakes, member_count}
use Rattle.hg_model.specs.Links.{Link, creator}
use Rattle.hg_model.specs.Ancestry.{is_self_ancestor}
use Rattle.hg_model.specs.Prefix.{Graph, links_of}
use Rattle.hg_order.specs.Famous.{all_have}

-- each of the first numbers is lowered to the other in its place
abbrev pub AreLowered : List ℕ → List ℕ → List ℕ → Type 0
AreLowered old others new = (m : ℕ) → m < length others → slice_index new m ≡ min (slice_index old m) (slice_index others m)

-- row x stands below the number of its creator
abbrev pub IsBelow : List Link → List ℕ → ℕ → Type 0
IsBelow L bounds x = x < slice_index bounds (creator L x)

-- just the rows below the number of their creator pass the test
abbrev pub JustBelow : List Link → List ℕ → (ℕ → Bool) → Type 0
JustBelow L bounds test = (x : ℕ) → x < length L → nat_lt x (slice_index bounds (creator L x)) ≡ test x

-- a member's number is 0, or one more than the place of a row by that member
abbrev pub EndAtRows : Stakes → List Link → List ℕ → Type 0
EndAtRows n L bounds =
    (m : ℕ) → m < member_count n → 0 < slice_index bounds m → (slice_index bounds m ≤ length L) × (creator L (slice_index bounds m - 1) ≡ m)

pub record AreBounds (n : Stakes) (L : List Link) (bounds : List ℕ) (test : ℕ → Bool) : Type 0 where
  pub just : JustBelow L bounds test
  pub last : EndAtRows n L bounds

-- of two rows by one member the later has the earlier on its line
pub record AreLines (L : List Link) : Type 0 where
  pub line : (y z : ℕ) → y < length L → z ≤ y → creator L y ≡ creator L z → is_self_ancestor L y z ≡ true

-- `last` is one more than the place of the last row before x by the creator of x, or 0
pub record EndsBefore (L : List Link) (x last : ℕ) : Type 0 where
  pub low : last ≤ x
  pub same : 0 < last → creator L (last - 1) ≡ creator L x
  pub all : (z : ℕ) → z < x → creator L z ≡ creator L x → z < last

-- the numbers tell the rows that all of these have as ancestor; if there are some, each member's rows are in one line
pub record AreShared (g : Graph) (places least : List ℕ) : Type 0 where
  pub bounds : AreBounds g.members (links_of g) least (all_have (links_of g) places)
  pub lines : 0 < length places → AreLines (links_of g)

abbrev pub IfShared : Graph → List ℕ → Option (List ℕ) → Type 0
IfShared g places least = IfSome least (AreShared g places)
