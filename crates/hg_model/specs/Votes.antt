-- Votes and decisions. SWIRLDS-TR-2016-01, section 4, procedure decideFame
use Rattle.std.specs.Prelude.{ℕ, ◌-◌, ◌%◌, Bool, false, cond, not, ◌&&◌, ◌==◌, nat_lt, nat_le, max, List}
use Rattle.hg_model.specs.Places.{by_place}
use Rattle.hg_model.specs.Stakes.{Stakes, total}
use Rattle.hg_model.specs.Links.{Link}
use Rattle.hg_model.specs.Seeing.{sees, is_supermajority}
use Rattle.hg_model.specs.Rounds.{is_seen_witness, round_of, is_witness, weight_of}

-- the majority of the votes, TRUE for a tie
abbrev pub majority : ℕ → ℕ → Bool
majority yes_votes no_votes = nat_le no_votes yes_votes

-- the voters of the majority weigh more than two thirds of all
abbrev pub is_strong : ℕ → ℕ → ℕ → Bool
is_strong all yes_votes no_votes = is_supermajority all (max yes_votes no_votes)

-- d rounds above the candidate is a normal round, in which no coin is thrown
abbrev pub is_normal : ℕ → ℕ → Bool
is_normal c d = nat_lt 0 (d % c)

-- a vote d rounds above the candidate, d > 1: the majority, but in a coin round without a supermajority the coin
abbrev pub weighed_vote : ℕ → ℕ → ℕ → ℕ → ℕ → Bool → Bool
weighed_vote all c d yes_votes no_votes coin =
    let v = majority yes_votes no_votes in
    cond (is_normal c d) v (cond (is_strong all yes_votes no_votes) v coin)

-- whether it decides
abbrev pub weighed_decides : ℕ → ℕ → ℕ → ℕ → ℕ → Bool
weighed_decides all c d yes_votes no_votes = nat_lt 1 d && is_normal c d && is_strong all yes_votes no_votes

-- w is a witness of the round before y's that y strongly sees
abbrev pub is_voter : Stakes → List Link → ℕ → ℕ → Bool
is_voter n L y w = is_seen_witness (round_of n L) n L (round_of n L y - 1) y w

-- the weight of the voters of y that vote yes, and no
abbrev pub yes_votes : Stakes → List Link → (ℕ → Bool) → ℕ → ℕ
yes_votes n L vote y = weight_of n L y (λ w. is_voter n L y w && vote w)

abbrev pub no_votes : Stakes → List Link → (ℕ → Bool) → ℕ → ℕ
no_votes n L vote y = weight_of n L y (λ w. is_voter n L y w && not (vote w))

-- how many rounds y is above x
abbrev pub rounds_above : Stakes → List Link → ℕ → ℕ → ℕ
rounds_above n L x y = round_of n L y - round_of n L x

-- the vote of y on x, from the votes of the events before y
abbrev pub vote_from : Stakes → ℕ → List Link → (ℕ → Bool) → ℕ → (ℕ → Bool) → ℕ → Bool
vote_from n c L coin x vote y =
    cond (rounds_above n L x y == 1) (sees L y x)
    (weighed_vote (total n) c (rounds_above n L x y) (yes_votes n L vote y) (no_votes n L vote y) (coin y))

-- the vote of y on x; `coin y` is the middle bit of the signature of y
unfoldable pub vote_of : Stakes → ℕ → List Link → (ℕ → Bool) → ℕ → ℕ → Bool
vote_of n c L coin x y = by_place false (vote_from n c L coin x) y

-- y decides the fame of x, which is then the vote of y
unfoldable pub decides : Stakes → ℕ → List Link → (ℕ → Bool) → ℕ → ℕ → Bool
decides n c L coin x y =
    is_witness n L y
    && weighed_decides (total n) c (rounds_above n L x y) (yes_votes n L (vote_of n c L coin x) y) (no_votes n L (vote_of n c L coin x) y)
