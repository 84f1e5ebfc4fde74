-- What the tables of a graph hold
use Rattle.std.specs.Prelude.{ℕ, suc, ◌≡◌, ◌≤◌, ◌^◌, Bool, false, List, length, slice_index}
use Rattle.std.specs.Global.{Vec}
use Rattle.hg_model.specs.Stakes.{Stakes, member_count, total}
use Rattle.hg_model.specs.Links.{Link}
use Rattle.hg_model.specs.Shape.{Shape, shape_of}
use Rattle.hg_model.specs.Fame.{Marks, is_closed}
use Rattle.hg_model.specs.Graph.{IsShaped}
use Rattle.hg_model.specs.Forks.{has_fork_below, forkers}
use Rattle.hg_model.specs.Seeing.{sees_through}
use Rattle.hg_model.specs.Rounds.{is_seen_witness, round_of, last_round, weight_of}
use Rattle.hg_model.specs.GraphWords.{strongly_sees_in}
use Rattle.hg_plain_graph.specs.By.{IsAncestorTable}
use Rattle.hg_plain_graph.specs.declared.ancestry.By.TheVariants.{Parents, SelfParent}
use Rattle.hg_plain_graph.specs.Tables.{IsTableOf, IsTableOfPairs}

-- for each member the rows with a fork of that member below them
abbrev pub IsForkTable : Stakes → List Link → List (Vec Bool) → Type 0
IsForkTable n L columns = IsTableOfPairs (has_fork_below L) (length L) (member_count n) columns

-- which of the rows before x see row y through member m
abbrev pub IsThroughColumn : Shape → ℕ → ℕ → ℕ → List Bool → Type 0
IsThroughColumn s y m x column = IsTableOf false (λ k. sees_through s.links k y m) x column

-- for each member the rows that see row y through it
abbrev pub IsThroughTable : Shape → ℕ → List (Vec Bool) → Type 0
IsThroughTable s y columns = IsTableOfPairs (λ x m. sees_through s.links x y m) (length s.links) (member_count s.members) columns

-- which rows strongly see row y
abbrev pub IsStrongColumn : Shape → ℕ → List Bool → Type 0
IsStrongColumn s y column = IsTableOf false (λ x. strongly_sees_in s x y) (length s.links) column

-- for each row the rows that strongly see it
abbrev pub IsStrongTable : Shape → List (Vec Bool) → Type 0
IsStrongTable s columns = IsTableOfPairs (strongly_sees_in s) (length s.links) (length s.links) columns

-- the rounds of the rows before x
abbrev pub IsRoundTable : Shape → ℕ → List ℕ → Type 0
IsRoundTable s x rounds = IsTableOf 0 (round_of s.members s.links) x rounds

-- what the witnesses of round r weigh that row x strongly sees, by these rounds
abbrev pub seen_weight : Shape → List ℕ → ℕ → ℕ → ℕ
seen_weight s rounds r x = weight_of s.members s.links x (is_seen_witness (λ k. slice_index rounds k) s.members s.links r x)

-- for each round, from 0 to the number of rows, whether the marks close it
abbrev pub IsClosedTable : Shape → Marks → List Bool → Type 0
IsClosedTable s marks closed = IsTableOf false (is_closed s.members s.links marks) (suc (length s.links)) closed

pub record HoldsAncestry (L : List Link) (above self_above : List (Vec Bool)) : Type 0 where
  pub ancestors : IsAncestorTable Parents L above
  pub self_ancestors : IsAncestorTable SelfParent L self_above

-- a shaped graph of few members, the sum of their stakes, and for each of them the rows with a fork of that member below them
pub record HoldsForkTable (n : Stakes) (sum : ℕ) (L : List Link) (below : List (Vec Bool)) : Type 0 where
  pub few : member_count n ≤ 128
  pub all : sum ≡ total n
  pub low : sum ≤ 2 ^ 39
  pub shaped : IsShaped n L
  pub forked : IsForkTable n L below

-- of a shaped graph what strongly sees what, the rounds, how many members have a fork, and the greatest round
pub record HoldsRounds (n : Stakes) (L : List Link) (strong : List (Vec Bool)) (rounds : List ℕ) (many greatest : ℕ) : Type 0 where
  pub shaped : IsShaped n L
  pub strongly_sees : IsStrongTable (shape_of n L) strong
  pub round_of : IsRoundTable (shape_of n L) (length L) rounds
  pub forkers : many ≡ forkers n L
  pub last_round : greatest ≡ last_round n L
