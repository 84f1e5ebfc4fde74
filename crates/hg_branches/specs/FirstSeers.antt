-- Who sees a row by the first descendants on the members' own branches
use Rattle.std.specs.Prelude.{◌≡◌, ℕ, ◌&&◌, ◌||◌, ◌==◌, List}
use Rattle.hg_model.specs.Links.{Link}
use Rattle.hg_bits.specs.Masks.{mask_has}
use Rattle.hg_branches.specs.Lines.{first_sees}

-- the set has these members, and b if its first descendant is counted and sees y
abbrev pub AddsFirst : List Link → List ℕ → List ℕ → ℕ → ℕ → ℕ → ℕ → Type 0
AddsFirst L firsts counts y b before after =
    (m : ℕ) → mask_has after m ≡ (mask_has before m || (first_sees L firsts counts y b && b == m))
