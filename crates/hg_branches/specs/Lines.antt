-- Which branches have a row that sees another
use Rattle.std.specs.Prelude.{◌≡◌, ℕ, suc, ◌+◌, ◌-◌, ◌<◌, ◌≤◌, Bool, true, not, ◌&&◌, ◌||◌, ◌==◌, nat_lt, nat_le, List, length, slice_index}
use Rattle.hg_model.specs.Places.{some_below}
use Rattle.hg_model.specs.Stakes.{Stakes, stake_where, total}
use Rattle.hg_model.specs.Links.{Link}
use Rattle.hg_model.specs.Ancestry.{is_self_ancestor}
use Rattle.hg_model.specs.Seeing.{sees, is_supermajority}
use Rattle.hg_model.specs.Shape.{Shape}
use Rattle.hg_bits.specs.Masks.{mask_has}

-- z or a self-ancestor of it sees y
abbrev pub line_sees : List Link → ℕ → ℕ → Bool
line_sees L z y = some_below (suc z) (λ w. is_self_ancestor L z w && sees L w y)

-- so it is of the last row that is counted of branch b, if one is
abbrev pub sees_on : List Link → List ℕ → ℕ → ℕ → Bool
sees_on L counts y b = nat_lt 0 (slice_index counts b) && line_sees L (slice_index counts b - 1) y

-- the first descendant on the own branch of member m is counted
abbrev pub own_sees : List ℕ → List ℕ → ℕ → Bool
own_sees firsts counts m = nat_le (slice_index firsts m) (slice_index counts m)

-- the members of whom it is have more than two thirds of the stake
abbrev pub is_strong_by_own : Stakes → List ℕ → List ℕ → Bool
is_strong_by_own n firsts counts = is_supermajority (total n) (stake_where n (own_sees firsts counts))

-- the first descendant on the own branch of member m is counted and sees y
abbrev pub first_sees : List Link → List ℕ → List ℕ → ℕ → ℕ → Bool
first_sees L firsts counts y m = own_sees firsts counts m && sees L (slice_index firsts m - 1) y

-- so it is of member m, or the set has it
abbrev pub may_see : List Link → ℕ → List ℕ → List ℕ → ℕ → ℕ → Bool
may_see L several firsts counts y m = mask_has several m || some_below (length firsts) (λ b. first_sees L firsts counts y b && b == m)

-- the set has the makers of the branches beside the first so many, the members' own
abbrev pub AreSeveral : ℕ → List ℕ → ℕ → Type 0
AreSeveral members makers several = (b : ℕ) → members ≤ b → b < length makers → mask_has several (slice_index makers b) ≡ true

-- a row counted of branch b, which is no member's own, sees y, and the first descendant on its maker's own is not counted
abbrev pub other_sees : List Link → List ℕ → List ℕ → List ℕ → ℕ → ℕ → Bool
other_sees L makers firsts counts y b = nat_le (length firsts) b && not (own_sees firsts counts (slice_index makers b)) && sees_on L counts y b

-- member m has a branch that sees y
abbrev pub seen_on : List Link → List ℕ → List ℕ → ℕ → ℕ → Bool
seen_on L makers counts y m = some_below (length makers) (λ b. sees_on L counts y b && slice_index makers b == m)

-- member m has a branch besides its own that sees y, while its own does not
abbrev pub others_see : List Link → List ℕ → List ℕ → List ℕ → ℕ → ℕ → Bool
others_see L makers firsts counts y m = some_below (length makers) (λ b. other_sees L makers firsts counts y b && slice_index makers b == m)

-- the mask has these members
abbrev pub HasOthers : List Link → List ℕ → List ℕ → List ℕ → ℕ → ℕ → Type 0
HasOthers L makers firsts counts y mask = (m : ℕ) → mask_has mask m ≡ others_see L makers firsts counts y m

-- the mask has these members, and the maker of branch b if that sees y and its own does not
abbrev pub AddsSeer : List Link → List ℕ → List ℕ → List ℕ → ℕ → ℕ → ℕ → ℕ → Type 0
AddsSeer L makers firsts counts y b before after =
    (m : ℕ) → mask_has after m ≡ (mask_has before m || (other_sees L makers firsts counts y b && slice_index makers b == m))

-- the members that see y, by their own branches or by others, have more than two thirds of the stake
abbrev pub is_strong_by_firsts : Shape → List ℕ → List ℕ → List ℕ → ℕ → Bool
is_strong_by_firsts shape makers firsts counts y =
    is_supermajority (total shape.members) (stake_where shape.members (own_sees firsts counts) + stake_where shape.members (others_see shape.links makers firsts counts y))
