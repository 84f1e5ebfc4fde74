-- Counting the votes of a witness's voters
use Rattle.std.specs.Prelude.{ℕ, Bool, false, cond, not, ◌&&◌, nat_lt, List, length, get_or}
use Rattle.hg_model.specs.declared.ballot.Ballot.{Ballot}
use Rattle.hg_model.specs.Places.{list_below}
use Rattle.hg_model.specs.Among.{weight_among}
use Rattle.hg_model.specs.Rounds.{stake_at}
use Rattle.hg_model.specs.Shape.{Shape}
use Rattle.hg_model.specs.Prefix.{Graph}
use Rattle.hg_model.specs.Votes.{majority, is_strong, weighed_vote, weighed_decides}
use Rattle.hg_model.specs.GraphWords.{is_voter_in}
use Rattle.hg_votes.specs.declared.tally.Tally.{Tally}
use Rattle.hg_votes.specs.Slots.{slot_tally, slot_weight}

-- the voters of witness y, by place
unfoldable pub voters_of : Graph → ℕ → List ℕ
voters_of g y = list_below (λ w. w) (length g.rows) (is_voter_in g y)

-- the ballot where none is kept
abbrev pub no_ballot : Ballot
no_ballot = record { vote = false; decides = false }

-- the vote that is kept for w
abbrev pub vote_at : List Ballot → ℕ → Bool
vote_at ballots w = (get_or ballots w no_ballot).vote

-- the stake of the creator of row x
abbrev pub stake_in : Shape → ℕ → ℕ
stake_in shape x = stake_at shape.members shape.links x

-- what those of these voters weigh who vote yes, and who vote no
abbrev pub tally_of : (ℕ → ℕ) → List Ballot → List ℕ → Tally
tally_of weight ballots voters = record {
  yes = weight_among weight (vote_at ballots) voters;
  no = weight_among weight (λ w. not (vote_at ballots w)) voters;
}

-- what the voters weigh who vote yes, and who vote no, up to so many slots of the witnesses of a round
abbrev pub tally_in : Shape → ℕ → List ℕ → List ℕ → List ℕ → Tally
tally_in shape len rows voters voted = slot_tally len (slot_weight (stake_in shape) rows) voters voted

-- the ballot of a witness d rounds above the candidate, with a coin period of c rounds
abbrev pub weighed_ballot : ℕ → ℕ → ℕ → ℕ → ℕ → Bool → Ballot
weighed_ballot all c d yes_votes no_votes coin = record { vote = weighed_vote all c d yes_votes no_votes coin; decides = weighed_decides all c d yes_votes no_votes }

-- the same, where it is told whether that is a normal round
abbrev pub weighed_where : Bool → ℕ → ℕ → ℕ → ℕ → Bool → Ballot
weighed_where normal all d yes_votes no_votes coin =
    let v = majority yes_votes no_votes in
    record { vote = cond normal v (cond (is_strong all yes_votes no_votes) v coin); decides = nat_lt 1 d && normal && is_strong all yes_votes no_votes }
