-- What the tables of an election hold
use Rattle.std.specs.Prelude.{ℕ, Bool, cond, List, [], length, Option, Some, None, option_map, nat_le, get_or}
use Rattle.hg_model.specs.declared.ballot.Ballot.{Ballot}
use Rattle.hg_model.specs.Places.{least_below}
use Rattle.hg_model.specs.Stakes.{Stakes}
use Rattle.hg_model.specs.Links.{Link}
use Rattle.hg_model.specs.Rounds.{round_of}
use Rattle.hg_model.specs.Shape.{Shape}
use Rattle.hg_model.specs.Prefix.{Graph, ballot_of, links_of}
use Rattle.hg_votes.specs.Tallies.{no_ballot, vote_at, voters_of}
use Rattle.hg_plain_graph.specs.Tables.{IsTableOf}
use Rattle.hg_plain.specs.declared.fame.Decision.{Decision}

-- the voters of each row
abbrev pub IsVoterTable : Graph → List (List ℕ) → Type 0
IsVoterTable g voters = IsTableOf [] (voters_of g) (length (links_of g)) voters

-- the ballots of the rows before y on row x
abbrev pub IsBallotTable : Graph → ℕ → ℕ → List Ballot → Type 0
IsBallotTable g x y ballots = IsTableOf no_ballot (ballot_of g x) y ballots

-- whether the ballot at a place decides
abbrev pub decides_at : List Ballot → ℕ → Bool
decides_at ballots y = (get_or ballots y no_ballot).decides

-- the decision of row y
abbrev pub decision_at : Stakes → List Link → List Ballot → ℕ → Decision
decision_at n L ballots y = record { round = round_of n L y; vote = vote_at ballots y }

-- the decision of the first decider, by round and then by place
abbrev pub first_decision : Shape → List Ballot → Option Decision
first_decision s ballots =
    option_map (decision_at s.members s.links ballots) (least_below (round_of s.members s.links) (length s.links) (decides_at ballots))

-- of two decisions the one of the lesser round; the earlier where the rounds are equal
abbrev pub earlier_of : Option Decision → Decision → Decision
earlier_of None later = later
earlier_of (Some earlier) later = cond (nat_le earlier.round later.round) earlier later

-- the vote of a decision, if there is one
abbrev pub decided_vote : Option Decision → Option Bool
decided_vote decision = option_map (λ (d : Decision). d.vote) decision
