-- What a graph keeps of its branches: for each row its branch, its counts and who has a fork below it; for each branch its
-- maker and its end, which is greater than the place of each of its rows, and 0 where it has none
use Rattle.std.specs.Prelude.{◌≡◌, ℕ, suc, zero, ◌+◌, ◌-◌, ◌<◌, ◌≤◌, ◌^◌, ◌==◌, ◌&&◌, ◌||◌, nat_lt, Bool, false, cond, List, [], ◌∷◌, ◌++◌, length, get_or, slice_set, take}
use Rattle.hg_model.specs.Stakes.{Stakes, member_count}
use Rattle.hg_model.specs.Links.{Link}
use Rattle.hg_model.specs.Graph.{IsShaped}
use Rattle.hg_model.specs.Places.{some_below}
use Rattle.hg_bits.specs.Masks.{mask_has}
use Rattle.hg_branches.specs.Branches.{Branching, IsBranched, CountsAncestors, greatest_count}

-- the branches that these columns tell
abbrev pub branching_of : List ℕ → List ℕ → Branching
branching_of branches makers = record { branch = λ x. get_or branches x 0; maker = λ b. get_or makers b 0 }

-- what row x counts of branch b
abbrev pub count_in : List (List ℕ) → ℕ → ℕ → ℕ
count_in counts x b = get_or (get_or counts x []) b 0

-- the branch of a row by this member on these parents, which comes next: that of its self-parent, or without parents the
-- member's own, if no row has gone further there, and else a new one
abbrev pub next_branch : List ℕ → List ℕ → List ℕ → ℕ → ℕ
next_branch branches ends [] by = cond (get_or ends by 0 == 0) by (length ends)
next_branch branches ends (p ∷ ps) by = cond (get_or ends (get_or branches p 0) 0 == p + 1) (get_or branches p 0) (length ends)

-- the list with this value at a place, which may be the one behind its end
abbrev pub put_at : List ℕ → ℕ → ℕ → List ℕ
put_at xs b v = cond (b == length xs) (xs ++ v ∷ []) (slice_set xs b v)

-- the values by branch, with this one for branch b if it is a new one
abbrev pub with_branch : List ℕ → ℕ → ℕ → List ℕ
with_branch xs b v = cond (b == length xs) (xs ++ v ∷ []) xs

-- the rows stand on branches, of which the first are the members' own
pub record HoldsBranches (n : Stakes) (L : List Link) (branches makers ends : List ℕ) : Type 0 where
  pub shaped : IsShaped n L
  pub few : member_count n ≤ 128
  pub short : length L < 2 ^ 32 - 1
  pub rows : length branches ≡ length L
  pub own : (m : ℕ) → m < member_count n → get_or makers m 0 ≡ m
  pub all : member_count n ≤ length makers
  pub ends_all : length ends ≡ length makers
  pub members : (b : ℕ) → b < length makers → get_or makers b 0 < member_count n
  pub known : (x : ℕ) → x < length L → get_or branches x 0 < length makers
  pub lines : IsBranched L (branching_of branches makers)
  pub end : (x : ℕ) → x < length L → x < get_or ends (get_or branches x 0) 0
  pub sparse : length makers ≤ member_count n + length L
  pub early : (x : ℕ) → x < length L → get_or branches x 0 ≤ member_count n + x

-- each row has its counts, of the members' own branches at least
pub record HoldsCounts (n : Stakes) (L : List Link) (branches makers : List ℕ) (counts : List (List ℕ)) : Type 0 where
  pub len : length counts ≡ length L
  pub row : (x : ℕ) → x < length L → CountsAncestors L (branching_of branches makers) x (count_in counts x)
  pub wide : (x : ℕ) → x < length L → member_count n ≤ length (get_or counts x [])

-- the mask has the members of whom this holds
abbrev pub HasThose : ℕ → (ℕ → Bool) → Type 0
HasThose mask holds = (m : ℕ) → mask_has mask m ≡ holds m

-- of some branch by member m the first counts more than the second
abbrev pub counts_more : List ℕ → (ℕ → ℕ) → (ℕ → ℕ) → ℕ → Bool
counts_more makers count other m = some_below (length makers) (λ b. nat_lt (other b) (count b) && get_or makers b 0 == m)

-- what these rows count at most of branch b
abbrev pub joined_counts : List (List ℕ) → ℕ → List ℕ → ℕ → ℕ
joined_counts counts p ps b = greatest_count (count_in counts) (p ∷ ps) b

-- member m has rows that only the parents before count, or is the creator, and has rows that the next parent alone counts
abbrev pub forks_anew : List ℕ → (ℕ → ℕ) → (ℕ → ℕ) → ℕ → ℕ → Bool
forks_anew makers count other by m = (m == by || counts_more makers count other m) && counts_more makers other count m

-- member m is the creator, and has rows on its own branch that the next parent alone counts
abbrev pub forks_on_own : (ℕ → ℕ) → (ℕ → ℕ) → ℕ → ℕ → Bool
forks_on_own count other by m = nat_lt (count by) (other by) && m == by

-- whether member m has a fork among the ancestors of a row by this member on parent p and the first i of these others;
-- `many` tells whether some member has a second branch
abbrev pub forks_up_to : List ℕ → List (List ℕ) → List ℕ → Bool → ℕ → List ℕ → ℕ → ℕ → ℕ → Bool
forks_up_to makers counts masks many p others by m zero = mask_has (get_or masks p 0) m
forks_up_to makers counts masks many p others by m (suc i) =
    (forks_up_to makers counts masks many p others by m i || mask_has (get_or masks (get_or others i 0) 0) m)
    || (many && forks_anew makers (joined_counts counts p (take i others)) (count_in counts (get_or others i 0)) by m)

-- the same on all of these parents
abbrev pub forks_next : List ℕ → List (List ℕ) → List ℕ → Bool → List ℕ → ℕ → ℕ → Bool
forks_next makers counts masks many [] by m = false
forks_next makers counts masks many (p ∷ others) by m = forks_up_to makers counts masks many p others by m (length others)

-- for how many rows there is memory, where it was taken
abbrev pub room_of : Bool → ℕ
room_of ready = cond ready 1 0
