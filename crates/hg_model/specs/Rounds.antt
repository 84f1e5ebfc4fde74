-- Rounds and witnesses. SWIRLDS-TR-2016-01, section 4, procedure divideRounds
use Rattle.std.specs.Prelude.{ℕ, ◌+◌, Bool, cond, ◌&&◌, ◌==◌, nat_lt, List, [], ◌∷◌, max, length}
use Rattle.std.specs.List.{list_all}
use Rattle.hg_model.specs.Places.{maximum_below, by_place, weight_below}
use Rattle.hg_model.specs.Stakes.{Stakes, stake_of, total}
use Rattle.hg_model.specs.Links.{Link, parents, self_parent, creator}
use Rattle.hg_model.specs.Seeing.{strongly_sees, is_supermajority}

-- the greatest of the parents' rounds, or 1
abbrev pub parent_round : (ℕ → ℕ) → List ℕ → ℕ
parent_round round [] = 1
parent_round round (p ∷ ps) = max (round p) (parent_round round ps)

-- with these rounds x is a witness: it has no self-parent, or a round above its self-parent's
abbrev pub is_witness_by : (ℕ → ℕ) → List Link → ℕ → Bool
is_witness_by round L x = list_all (λ p. nat_lt (round p) (round x)) (self_parent L x)

-- the stake of the creator of x
abbrev pub stake_at : Stakes → List Link → ℕ → ℕ
stake_at n L x = stake_of n (creator L x)

-- the weight of the events before x that pass the test: of each the stake of its creator
abbrev pub weight_of : Stakes → List Link → ℕ → (ℕ → Bool) → ℕ
weight_of n L x test = weight_below (stake_at n L) x test

-- with these rounds y is a witness of round r that x strongly sees
abbrev pub is_seen_witness : (ℕ → ℕ) → Stakes → List Link → ℕ → ℕ → ℕ → Bool
is_seen_witness round n L r x y = is_witness_by round L y && round y == r && strongly_sees n L x y

-- the round of x, from the rounds of the events before it: r, the greatest of its parents' rounds or 1,
-- and one more where the witnesses of round r that x strongly sees weigh more than two thirds of the stake
abbrev pub round_from : Stakes → List Link → (ℕ → ℕ) → ℕ → ℕ
round_from n L round x =
    let r = parent_round round (parents L x) in
    cond (is_supermajority (total n) (weight_of n L x (is_seen_witness round n L r x))) (r + 1) r

-- the round of x
unfoldable pub round_of : Stakes → List Link → ℕ → ℕ
round_of n L x = by_place 0 (round_from n L) x

-- x has no self-parent, or a round above its self-parent's
unfoldable pub is_witness : Stakes → List Link → ℕ → Bool
is_witness n L x = is_witness_by (round_of n L) L x

-- the greatest round of the graph, 0 without events
unfoldable pub last_round : Stakes → List Link → ℕ
last_round n L = maximum_below (round_of n L) (length L)
