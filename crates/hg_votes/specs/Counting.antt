-- How far a table of votes has counted, and when that is a graph's
use Rattle.std.specs.Prelude.{ℕ, ◌≡◌, ◌-◌, ◌*◌, ◌<◌, ◌≤◌, ◌^◌, IsTrue, List, [], length, get_or}
use Rattle.hg_model.specs.declared.ballot.Ballot.{Ballot}
use Rattle.hg_model.specs.Places.{count_below}
use Rattle.hg_model.specs.Orders.{IsPrefix}
use Rattle.hg_model.specs.Standings.{witnesses_in}
use Rattle.hg_model.specs.Prefix.{Graph, IsCounted, ballot_of}
use Rattle.hg_model.specs.GraphWords.{round_in, is_witness_in, shape_in, standings_in, strongly_sees_in, vote_in, IsShapedIn}
use Rattle.hg_votes.specs.Slots.{HoldsSlots, IsSetOf}
use Rattle.hg_votes.specs.Tallies.{no_ballot}

-- how many witnesses come before row y
abbrev pub number_of : Graph → ℕ → ℕ
number_of g y = count_below y (is_witness_in g)

-- the witnesses of round r, by slot
abbrev pub witnesses_of : Graph → ℕ → List ℕ
witnesses_of g r = witnesses_in (standings_in (shape_in g)) r

-- by row its number among the witnesses, and by number the voters of a witness, as a set of slots
pub record Entered : Type 0 where
  pub numbers : List ℕ
  pub sets : List (List ℕ)

-- the witnesses of the round before y's that y strongly sees
abbrev pub IsVotersOf : Graph → ℕ → List ℕ → Type 0
IsVotersOf g y set = IsSetOf set (witnesses_of g (round_in g y - 1)) (strongly_sees_in (shape_in g) y)

-- the first k rows of the graph are entered
pub record HoldsVoters (g : Graph) (k : ℕ) (entered : Entered) : Type 0 where
  pub long : length entered.numbers ≡ k
  pub number : (y : ℕ) → y < k → get_or entered.numbers y 0 ≡ number_of g y
  pub many : length entered.sets ≡ number_of g k
  pub voters : (y : ℕ) → y < k → IsTrue (is_witness_in g y) → IsVotersOf g y (get_or entered.sets (number_of g y) [])

-- the voters by witness, the ballots by witness, those of the last counted round who voted yes, the candidate, and the
-- round up to which votes are counted
pub record Counting : Type 0 where
  pub voters : Entered
  pub ballots : List Ballot
  pub voted : List ℕ
  pub candidate : ℕ
  pub counted : ℕ

-- so many words hold the slots of each round
pub record HasRoom (g : Graph) (words : ℕ) : Type 0 where
  pub room : (r : ℕ) → length (witnesses_of g r) ≤ 64 * words

-- none of the rounds of the rows from this one on, up to before the other, has more witnesses
abbrev pub HasMost : Graph → ℕ → ℕ → ℕ → Type 0
HasMost g from to most = (y : ℕ) → from ≤ y → y < to → length (witnesses_of g (round_in g y)) ≤ most

-- the ballots on x are those of the graph, up to this round
pub record HoldsBallots (g : Graph) (x last : ℕ) (ballots : List Ballot) : Type 0 where
  pub len : length ballots ≡ number_of g (length g.rows)
  pub at : (y : ℕ) → IsCounted g x last y → get_or ballots (number_of g y) no_ballot ≡ ballot_of g x y

-- the set is that of the witnesses of this round who vote yes on x, if it is above x's
pub record HoldsVoted (g : Graph) (x last : ℕ) (voted : List ℕ) : Type 0 where
  pub slots : round_in g x < last → HoldsSlots voted (witnesses_of g last) (vote_in g x)

-- x is a witness of the graph, of a round up to this one
pub record IsOpened (g : Graph) (x last : ℕ) : Type 0 where
  pub place : x < length g.rows
  pub witness : IsTrue (is_witness_in g x)
  pub round : round_in g x ≤ last

-- the second graph goes on from the first: of the same members and coin period, and with the first one's rows before others
pub record Begins (first later : Graph) : Type 0 where
  pub members : first.members ≡ later.members
  pub coin : first.coin ≡ later.coin
  pub rows : IsPrefix first.rows later.rows

-- all of it is the graph's, which is shaped and has few enough rows to count them
pub record IsMadeFor (counting : Counting) (g : Graph) : Type 0 where
  pub shaped : IsShapedIn (shape_in g)
  pub short : length g.rows < 2 ^ 32 - 1
  pub voters : HoldsVoters g (length g.rows) counting.voters
  pub room : HasRoom g (length counting.voted)
  pub ballots : HoldsBallots g counting.candidate counting.counted counting.ballots
  pub voted : HoldsVoted g counting.candidate counting.counted counting.voted
  pub opened : 0 < counting.counted → IsOpened g counting.candidate counting.counted

-- it is made for a graph from which this one goes on
abbrev pub CarriesTo : Counting → Graph → Type 0
CarriesTo counting g = (first : Graph) × IsMadeFor counting first × Begins first g
