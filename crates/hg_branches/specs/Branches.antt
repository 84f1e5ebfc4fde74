-- Branches: the rows of a graph in lines, in each of which the later rows are descendants of the earlier by self-parents
use Rattle.std.specs.Prelude.{◌≡◌, ℕ, ◌+◌, ◌<◌, ◌≤◌, ◌⊎◌, true, nat_lt, nat_le, max, List, [], ◌∷◌, length}
use Rattle.hg_model.specs.Places.{has_place}
use Rattle.hg_model.specs.Links.{Link, creator, first_place}
use Rattle.hg_model.specs.Ancestry.{is_ancestor, is_self_ancestor}

-- the number of each row's branch, and the member whose rows each branch has
pub record Branching : Type 0 where
  pub branch : ℕ → ℕ
  pub maker : ℕ → ℕ

-- a branch has rows by its maker alone, and of two of its rows the earlier is a self-ancestor of the later
pub record IsBranched (L : List Link) (B : Branching) : Type 0 where
  pub made : (x : ℕ) → x < length L → creator L x ≡ B.maker (B.branch x)
  pub line : (x y : ℕ) → x < length L → y ≤ x → B.branch x ≡ B.branch y → is_self_ancestor L x y ≡ true

-- for each branch one more than the place of the last of its rows that is an ancestor of x, or 0 where none is
pub record CountsAncestors (L : List Link) (B : Branching) (x : ℕ) (count : ℕ → ℕ) : Type 0 where
  pub told : (y : ℕ) → y < length L → nat_lt y (count (B.branch y)) ≡ is_ancestor L x y
  pub last : (b : ℕ) → 0 < count b → (z : ℕ) × (z < length L) × (B.branch z ≡ b) × (z + 1 ≡ count b)

-- for each of the first k branches one more than the place of the first of its rows that has y as ancestor; `none` where
-- no row has
pub record FirstDescendants (k none : ℕ) (L : List Link) (B : Branching) (y : ℕ) (first : ℕ → ℕ) : Type 0 where
  pub told : (z : ℕ) → z < length L → B.branch z < k → nat_le (first (B.branch z)) (z + 1) ≡ is_ancestor L z y
  pub there : (b : ℕ) → b < k → (first b ≡ none) ⊎ ((w : ℕ) × (w < length L) × (B.branch w ≡ b) × (w + 1 ≡ first b))

-- what the parents count of branch b at most, or 0 without parents
abbrev pub greatest_count : (ℕ → ℕ → ℕ) → List ℕ → ℕ → ℕ
greatest_count count [] b = 0
greatest_count count (p ∷ ps) b = max (count p b) (greatest_count count ps b)

-- the branches with one row more: the earlier rows stay, and those on its branch are self-ancestors of its self-parent
pub record TakesRow (L : List Link) (B : Branching) (link : Link) (C : Branching) : Type 0 where
  pub branch : (x : ℕ) → x < length L → C.branch x ≡ B.branch x
  pub maker : (x : ℕ) → x < length L → C.maker (B.branch x) ≡ B.maker (B.branch x)
  pub made : C.maker (C.branch (length L)) ≡ link.creator
  pub on_line : (z : ℕ) → z < length L → B.branch z ≡ C.branch (length L) →
      (p : ℕ) × (has_place (first_place link.parents) p ≡ true) × (is_self_ancestor L p z ≡ true)
