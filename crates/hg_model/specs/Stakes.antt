-- The members' stakes: what each member weighs
use Rattle.std.specs.Prelude.{ℕ, ◌≡◌, ◌<◌, Bool, true, List, length, get_or}
use Rattle.hg_model.specs.Places.{weight_below}

-- each member's stake, in the members' order
abbrev pub Stakes : Type 0
Stakes = List ℕ

-- how many members there are
abbrev pub member_count : Stakes → ℕ
member_count n = length n

-- the stake of member m, 0 for a number that is no member's
abbrev pub stake_of : Stakes → ℕ → ℕ
stake_of n m = get_or n m 0

-- the stake of the members that pass the test
abbrev pub stake_where : Stakes → (ℕ → Bool) → ℕ
stake_where n test = weight_below (stake_of n) (member_count n) test

-- the stake of all members
unfoldable pub total : Stakes → ℕ
total n = stake_where n (λ _. true)

-- every member has this stake
abbrev pub AllWeigh : Stakes → ℕ → Type 0
AllWeigh n stake = (m : ℕ) → m < member_count n → stake_of n m ≡ stake
