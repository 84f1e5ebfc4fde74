-- A table of counts in flat memory: what it shows, and what its memory tells
use Rattle.std.specs.Prelude.{◌≡◌, ◌≢◌, ℕ, ◌+◌, ◌-◌, ◌*◌, ◌<◌, ◌≤◌, ◌^◌, ◌==◌, ◌&&◌, nat_lt, nat_le, Bool, cond, List, [], ◌∷◌, ◌++◌, length, slice_index, slice_index_or, take}
use Rattle.std.specs.List.{AllByRecursion}
use Rattle.hg_model.specs.Places.{table}
use Rattle.hg_branches.specs.Branches.{greatest_count}
use Rattle.hg_branches.specs.Columns.{count_in}
use Rattle.hg_branches.specs.Tails.{Tail, tail_count, tail_width}

-- for each row a number for each branch, where the first branches are the members' own and those past the row's end have
-- 0; and for how many more rows there is memory at least
pub record CountsWithRoom : Type 0 where
  pub members : ℕ
  pub rows : List (List ℕ)
  pub room : ℕ

-- what row x counts of the members' own branches
abbrev pub own_counts : CountsWithRoom → ℕ → List ℕ
own_counts t x = take t.members (slice_index_or t.rows x [])

-- row x tells of the members' own branches alone
abbrev pub is_own_row : CountsWithRoom → ℕ → Bool
is_own_row t x = length (slice_index_or t.rows x []) == t.members

-- what a row counts on these parents, if it stands on this branch and its end is one more than the rows before it
pub record IsNextCounts (members : ℕ) (rows : List (List ℕ)) (on : List ℕ) (branch : ℕ) (row : List ℕ) : Type 0 where
  pub end : slice_index row branch ≡ length rows + 1
  pub others : (b : ℕ) → b ≢ branch → slice_index row b ≡ greatest_count (count_in rows) on b
  pub wide : members ≤ length row
  pub narrow : (k : ℕ) → members ≤ k → branch < k → AllByRecursion (λ p. length (slice_index_or rows p []) ≤ k) on → length row ≤ k

-- the table with one row more, which counts so
abbrev pub AddsCounts : CountsWithRoom → CountsWithRoom → List ℕ → ℕ → Type 0
AddsCounts old new on branch =
    (row : List ℕ) × (new.rows ≡ old.rows ++ row ∷ []) × (new.members ≡ old.members) × IsNextCounts old.members old.rows on branch row

-- what row x counts of branch b: of the members' own branches the numbers stand row after row
abbrev pub number_of : ℕ → List ℕ → List Tail → ℕ → ℕ → ℕ
number_of members own tails x b = cond (nat_lt b members) (slice_index own (x * members + b)) (tail_count tails x (b - members))

abbrev pub row_of : ℕ → List ℕ → List Tail → ℕ → List ℕ
row_of members own tails x = table (number_of members own tails x) (members + tail_width tails x)

abbrev pub rows_of : ℕ → List ℕ → List Tail → List (List ℕ)
rows_of members own tails = table (row_of members own tails) (length tails)

-- there are as many numbers as that takes, and no tail has more than `widest`
pub record KeepsNumbers (members widest : ℕ) (own : List ℕ) (tails : List Tail) : Type 0 where
  pub long : length own ≡ length tails * members
  pub short : length tails < 2 ^ 32
  pub narrow : (x : ℕ) → x < length tails → tail_width tails x ≤ widest

-- there is memory for a row of the members' own branches, and for so many numbers of the others and in the making
abbrev pub has_room : ℕ → ℕ → ℕ → ℕ → Bool
has_room widest own tails row = nat_le 1 own && (nat_lt widest tails && nat_le widest row)

-- the greatest numbers of the parents' tails, and none of the row's own branch
abbrev pub tail_next : List Tail → List ℕ → ℕ → ℕ → ℕ
tail_next tails on own k = cond (k + 1 == own) 0 (greatest_count (tail_count tails) on k)
