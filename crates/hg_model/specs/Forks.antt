-- Forks. SWIRLDS-TR-2016-01, section 5, the definition of a fork
use Rattle.std.specs.Prelude.{ℕ, Bool, not, ◌&&◌, ◌==◌, List, length}
use Rattle.hg_model.specs.Places.{count_below, some_below}
use Rattle.hg_model.specs.Stakes.{Stakes, member_count, stake_where}
use Rattle.hg_model.specs.Links.{Link, creator}
use Rattle.hg_model.specs.Ancestry.{is_self_ancestor, some_ancestor}

-- a and b are events by m, and neither is a self-ancestor of the other
unfoldable pub is_fork : List Link → ℕ → ℕ → ℕ → Bool
is_fork L m a b = creator L a == m && creator L b == m && not (is_self_ancestor L a b) && not (is_self_ancestor L b a)

-- the ancestors of x hold a fork by m
unfoldable pub has_fork_below : List Link → ℕ → ℕ → Bool
has_fork_below L x m = some_ancestor L x (λ a. some_ancestor L x (λ b. is_fork L m a b))

-- the graph holds a fork by m
unfoldable pub has_fork : List Link → ℕ → Bool
has_fork L m = some_below (length L) (λ a. some_below (length L) (λ b. is_fork L m a b))

-- how many members have a fork
unfoldable pub forkers : Stakes → List Link → ℕ
forkers n L = count_below (member_count n) (has_fork L)

-- the stake of the members that have a fork
unfoldable pub forking : Stakes → List Link → ℕ
forking n L = stake_where n (has_fork L)
