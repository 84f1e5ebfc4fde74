-- What a table of rounds tells, and what it keeps
use Rattle.std.specs.Prelude.{ℕ, ◌≡◌, ◌<◌, ◌≤◌, ◌+◌, ◌-◌, ◌*◌, ◌^◌, ◌&&◌, ◌==◌, Bool, true, cond, List, [], length, take, min, get_or, count_by, Option, IfSome}
use Rattle.hg_model.specs.Links.{parents}
use Rattle.hg_model.specs.Shape.{Shape, first_links}
use Rattle.hg_model.specs.Standings.{Standing, round_at, witnesses_in, greatest_in}
use Rattle.hg_model.specs.Seeing.{strongly_sees}
use Rattle.hg_model.specs.Rounds.{round_of, is_witness, stake_at}
use Rattle.hg_model.specs.Among.{weight_among}

-- the standings of the rows, of each round what is told of its witnesses' weight, and for how many more rows there is
-- memory at least
pub record Tabled : Type 0 where
  pub standings : List Standing
  pub weights : List ℕ
  pub room : ℕ

-- what is told of round r
abbrev pub weight_at : List ℕ → ℕ → ℕ
weight_at weights r = get_or weights r 0

-- no round's witnesses weigh anything
abbrev pub WeighNothing : List ℕ → Type 0
WeighNothing weights = (r : ℕ) → weight_at weights r ≡ 0

-- a row of this round has come: where it is a witness, its stake is added to what the round's witnesses weigh
abbrev pub AddsWeight : ℕ → Bool → ℕ → List ℕ → List ℕ → Type 0
AddsWeight round witness stake old new = (r : ℕ) → weight_at new r ≡ weight_at old r + cond (witness && round == r) stake 0

abbrev pub standing : ℕ → Bool → Standing
standing round witness = record { round = round; witness = witness }

-- the place of the graph's last row
abbrev pub last_place : Shape → ℕ
last_place shape = length shape.links - 1

-- the places of the parents of the graph's last row
abbrev pub last_parents : Shape → List ℕ
last_parents shape = parents shape.links (last_place shape)

-- the weight of those of these rows that x strongly sees
abbrev pub seen_weight : Shape → ℕ → List ℕ → ℕ
seen_weight shape x rows = weight_among (stake_at shape.members shape.links) (strongly_sees shape.members shape.links x) rows

-- what these rows weigh together
abbrev pub rows_weight : Shape → List ℕ → ℕ
rows_weight shape rows = weight_among (stake_at shape.members shape.links) (λ y. true) rows

-- what is told of each round is what its witnesses weigh in the graph, and at most 2^32 for each row of the graph
pub record TellsWeights (shape : Shape) (standings : List Standing) (weights : List ℕ) : Type 0 where
  pub each : (r : ℕ) → weight_at weights r ≡ rows_weight shape (witnesses_in standings r)
  pub low : (r : ℕ) → weight_at weights r ≤ 2 ^ 32 * length standings

-- how many of these rows x strongly sees
abbrev pub seen_count : Shape → ℕ → List ℕ → ℕ
seen_count shape x rows = count_by (strongly_sees shape.members shape.links x) rows

-- the graph without its last row
abbrev pub before_last : Shape → Shape
before_last shape = first_links shape (last_place shape)

-- the list of round r
abbrev pub list_at : List (List ℕ) → ℕ → List ℕ
list_at lists r = get_or lists r []

-- each row's round is from 1 to one above the greatest before it
pub record IsByRow (S : List Standing) : Type 0 where
  pub first : (x : ℕ) → x < length S → 1 ≤ round_at S x
  pub next : (x : ℕ) → x < length S → round_at S x ≤ greatest_in (take x S) + 1

-- a list for each round from 0 to the next one, which has the round's witnesses, and none longer than `longest`
pub record KeepsLists (S : List Standing) (lists : List (List ℕ)) (top longest : ℕ) : Type 0 where
  pub by_row : IsByRow S
  pub greatest : top ≡ greatest_in S
  pub long : length lists ≡ top + 2
  pub matches : (r : ℕ) → r < length lists → list_at lists r ≡ witnesses_in S r
  pub within : (r : ℕ) → r < length lists → length (list_at lists r) ≤ longest

-- of each row the greatest round up to it
pub record HasTops (S : List Standing) (tops : List ℕ) : Type 0 where
  pub long : length tops ≡ length S
  pub each : (x : ℕ) → x < length S → get_or tops x 0 ≡ greatest_in (take (x + 1) S)

-- all that a table keeps: a weight for each list; the open list, if there is one, is that of a round; and nothing is in the
-- spare memory
pub record KeepsTable (S : List Standing) (tops : List ℕ) (lists : List (List ℕ)) (weights : List ℕ) (top longest : ℕ) (one : Option ℕ) (spare : List ℕ) : Type 0 where
  pub lists_kept : KeepsLists S lists top longest
  pub tops_kept : HasTops S tops
  pub weighed : length weights ≡ length lists
  pub there : IfSome one (λ r. r < length lists)
  pub empty : spare ≡ []

-- for how many more rows there is memory at least, by the room of the rows and of the lists, and by the spare memory, which a
-- copy of the longest list must leave room in
abbrev pub room_by : ℕ → ℕ → ℕ → ℕ
room_by rows lists spare = min (min rows lists) spare

-- the round of the graph's last row, and whether it is a witness
abbrev pub last_row_round : Shape → ℕ
last_row_round shape = round_of shape.members shape.links (last_place shape)

abbrev pub is_last_row_witness : Shape → Bool
is_last_row_witness shape = is_witness shape.members shape.links (last_place shape)
