-- First descendants in 16 or in 32 bits
use Rattle.std.specs.Prelude.{◌≡◌, ◌<◌, ℕ, ◌==◌, Bool, true, false, cond, List, length, slice_index}
use Rattle.hg_branches.specs.declared.firsts.Firsts.{Firsts}
use Rattle.hg_branches.specs.declared.firsts.Firsts.TheVariants.{Narrow, Wide}

-- the numbers, of either width
abbrev pub firsts_of : Firsts → List ℕ
firsts_of (Narrow firsts) = firsts.items
firsts_of (Wide firsts) = firsts.items

-- what stands where a branch has no descendant
abbrev pub none_by : Bool → ℕ
none_by wide = cond wide 4294967295 65535

abbrev pub none_of : Firsts → ℕ
none_of (Narrow firsts) = none_by false
none_of (Wide firsts) = none_by true

-- a first descendant in 32 bits
abbrev pub wide_first : ℕ → ℕ → ℕ
wide_first none first = cond (first == none) (none_by true) first

-- these first descendants in 32 bits
abbrev pub AreWideFirsts : ℕ → List ℕ → List ℕ → Type 0
AreWideFirsts none firsts wide =
    (b : ℕ) → b < length firsts → slice_index wide b ≡ wide_first none (slice_index firsts b)
