-- Seeing and strongly seeing. SWIRLDS-TR-2016-01, section 5, the definitions of these words.
-- A departure: x strongly sees y where members of more than two thirds of the stake have an event among the ancestors of
-- x that sees y. The report counts members, which here weigh, and asks besides that x sees y and these events. Weighed by
-- stake the report's wording always implies this one, and without forks the two are equal.
use Rattle.std.specs.Prelude.{ℕ, suc, ◌*◌, Bool, not, ◌&&◌, ◌==◌, nat_lt, List}
use Rattle.hg_model.specs.Places.{some_below}
use Rattle.hg_model.specs.Stakes.{Stakes, stake_where, total}
use Rattle.hg_model.specs.Links.{Link, creator}
use Rattle.hg_model.specs.Ancestry.{is_ancestor, some_ancestor}
use Rattle.hg_model.specs.Forks.{has_fork_below}

-- the weight is more than two thirds of the total
abbrev pub is_supermajority : ℕ → ℕ → Bool
is_supermajority total weight = nat_lt (2 * total) (3 * weight)

-- y is an ancestor of x, and the ancestors of x hold no fork by the creator of y
unfoldable pub sees : List Link → ℕ → ℕ → Bool
sees L x y = is_ancestor L x y && not (has_fork_below L x (creator L y))

-- member m has an event among the ancestors of x that sees y
unfoldable pub sees_through : List Link → ℕ → ℕ → ℕ → Bool
sees_through L x y m = some_ancestor L x (λ z. creator L z == m && sees L z y)

-- members of more than two thirds of the stake have such an event
unfoldable pub strongly_sees : Stakes → List Link → ℕ → ℕ → Bool
strongly_sees n L x y = is_supermajority (total n) (stake_where n (sees_through L x y))

-- member m has an event that x sees and that sees y
unfoldable pub sees_by : List Link → ℕ → ℕ → ℕ → Bool
sees_by L x y m = some_below (suc x) (λ z. sees L x z && (creator L z == m && sees L z y))

-- the report's own wording, over stake: x sees y, and members of more than two thirds of the stake have such an event
unfoldable pub strongly_sees_in_report : Stakes → List Link → ℕ → ℕ → Bool
strongly_sees_in_report n L x y = sees L x y && is_supermajority (total n) (stake_where n (sees_by L x y))
