-- Fame, closed rounds, unique famous witnesses. SWIRLDS-TR-2016-01, section 4, procedures decideFame and findOrder.
-- A departure: a round without a witness is not closed.
use Rattle.std.specs.Prelude.{ℕ, Bool, false, not, ◌&&◌, ◌==◌, nat_lt, nat_le, List, length, get_or, Option, Some, None, option_map, is_none}
use Rattle.hg_model.specs.Places.{some_below, least_below, table}
use Rattle.hg_model.specs.Stakes.{Stakes}
use Rattle.hg_model.specs.Links.{Link, creator}
use Rattle.hg_model.specs.Rounds.{round_of, is_witness}
use Rattle.hg_model.specs.Votes.{vote_of, decides}

-- x is a witness of the graph, and y decides its fame
abbrev pub is_decider : Stakes → ℕ → List Link → (ℕ → Bool) → ℕ → ℕ → Bool
is_decider n c L coin x y = nat_lt x (length L) && is_witness n L x && decides n c L coin x y

-- the fame of x: the vote of its first decider, by round and then by place; none without one
unfoldable pub fame_of : Stakes → ℕ → List Link → (ℕ → Bool) → ℕ → Option Bool
fame_of n c L coin x =
    option_map (vote_of n c L coin x) (least_below (round_of n L) (length L) (is_decider n c L coin x))

-- marks of fame by place; none past the end of the list
abbrev pub Marks : Type 0
Marks = List (Option Bool)

abbrev pub mark_at : Marks → ℕ → Option Bool
mark_at marks x = get_or marks x None

-- the fame of the graph, as marks
unfoldable pub fame_marks : Stakes → ℕ → List Link → (ℕ → Bool) → Marks
fame_marks n c L coin = table (fame_of n c L coin) (length L)

-- y is a witness of round r
abbrev pub is_witness_of_round : Stakes → List Link → ℕ → ℕ → Bool
is_witness_of_round n L r y = is_witness n L y && round_of n L y == r

-- y is a witness of a round at most r, and has no mark
abbrev pub is_unmarked : Stakes → List Link → Marks → ℕ → ℕ → Bool
is_unmarked n L marks r y = is_witness n L y && nat_le (round_of n L y) r && is_none (mark_at marks y)

-- round r has a witness, and every witness of a round at most r has a mark
unfoldable pub is_closed : Stakes → List Link → Marks → ℕ → Bool
is_closed n L marks r =
    some_below (length L) (is_witness_of_round n L r) && not (some_below (length L) (is_unmarked n L marks r))

-- the mark is there, and is TRUE
abbrev pub is_yes : Option Bool → Bool
is_yes None = false
is_yes (Some v) = v

-- y is a famous witness of round r
abbrev pub is_famous_in : Stakes → List Link → Marks → ℕ → ℕ → Bool
is_famous_in n L marks r y = is_witness_of_round n L r y && is_yes (mark_at marks y)

-- z is a famous witness of round r by the creator of y, and is not y
abbrev pub is_rival : Stakes → List Link → Marks → ℕ → ℕ → ℕ → Bool
is_rival n L marks r y z = is_famous_in n L marks r z && creator L z == creator L y && not (z == y)

-- y is a famous witness of round r whose creator has no other famous witness in that round
unfoldable pub is_unique_famous : Stakes → List Link → Marks → ℕ → ℕ → Bool
is_unique_famous n L marks r y = is_famous_in n L marks r y && not (some_below (length L) (is_rival n L marks r y))
