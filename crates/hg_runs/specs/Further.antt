-- A graph that is shown beside a run, as by a certificate, and counts as one more graph of it: who is honest when its rows
-- count too, and that its names do not collide with those of the nodes. SWIRLDS-TR-2016-01, sections 3 and 5.
-- Whose graph it is does not matter, nor whether any node has its rows, nor who checked their signatures
use Rattle.std.specs.Prelude.{ℕ, ◌≡◌, ◌<◌, Bool, ◌||◌, List, Some, slice_get}
use Rattle.std.specs.List.{list_any}
use Rattle.hg_model.specs.declared.row.Row.{Row}
use Rattle.hg_model.specs.Stakes.{Stakes, member_count, stake_where}
use Rattle.hg_model.specs.Graph.{IsGraph}
use Rattle.hg_life.specs.Spelling.{spelling, Spells}
use Rattle.hg_prefix.specs.Chains.{HaveEqualRows}
use Rattle.hg_runs.specs.Run.{Run, graph_at}
use Rattle.hg_runs.specs.Honest.{is_stray, is_dishonest, HasMade, IsHonest}

-- the rows have the sizes of events, and the names
abbrev pub AreEvents : List Row → Type 0
AreEvents G = (x : ℕ) (row : Row) → slice_get G x ≡ Some row → Spells (spelling row) row

-- what is asked of such a graph by itself
pub record IsFurtherGraph (n : Stakes) (G : List Row) : Type 0 where
  pub graph : IsGraph n G
  pub events : AreEvents G

-- it has a row by m that the changes of m's own node did not make
abbrev pub has_stray : Run → List Row → ℕ → Bool
has_stray run G m = list_any (is_stray m (run m)) G

-- it has one, or some node of the run
unfoldable pub is_dishonest_beside : Stakes → ℕ → Run → List Row → ℕ → Bool
is_dishonest_beside n c run G m = has_stray run G m || is_dishonest n c run m

-- the stake of the members of whom that holds
unfoldable pub dishonest_beside : Stakes → ℕ → Run → List Row → ℕ
dishonest_beside n c run G = stake_where n (is_dishonest_beside n c run G)

-- the same as a relation: m's own node made each row by m that the graph has
pub record IsHonestIn (run : Run) (G : List Row) (m : ℕ) : Type 0 where
  pub made : (x : ℕ) (row : Row) → slice_get G x ≡ Some row → row.creator ≡ m → HasMade (run m) row

-- and each that a node has
pub record IsHonestBeside (n : Stakes) (c : ℕ) (run : Run) (G : List Row) (m : ℕ) : Type 0 where
  pub shown : IsHonestIn run G m
  pub nodes : IsHonest n c run m

-- a row of the graph is equal to each row of a node that has its name
pub record IsApart (n : Stakes) (c : ℕ) (run : Run) (G : List Row) : Type 0 where
  pub equal : (k : ℕ) → k < member_count n → HaveEqualRows G (graph_at n c run k)
