-- Who is honest in a run, and that names do not collide in it. SWIRLDS-TR-2016-01, sections 3 and 5.
-- Honesty is told by events alone: a member is honest where its own node made each event by it that any node has. So no
-- node has an event that another signed for it, and, since a node makes its events in one chain, it has no fork
use Rattle.std.specs.Prelude.{ℕ, ◌≡◌, ◌<◌, Bool, false, not, ◌&&◌, ◌==◌, List, Some, slice_get}
use Rattle.std.specs.List.{list_any}
use Rattle.std.specs.Str.{bytes_eq}
use Rattle.hg_model.specs.declared.row.Row.{Row}
use Rattle.hg_model.specs.Places.{some_below}
use Rattle.hg_model.specs.Stakes.{Stakes, member_count, stake_where}
use Rattle.hg_life.specs.Spelling.{spelling}
use Rattle.hg_life.specs.History.{Change}
use Rattle.hg_life.specs.History.Change.{Took, Made, Marked}
use Rattle.hg_prefix.specs.Chains.{HaveEqualRows}
use Rattle.hg_runs.specs.Run.{Run, graph_at}

-- the change made the event of this row; an event is its bytes
abbrev pub is_making_of : Row → Change → Bool
is_making_of row (Took other) = false
is_making_of row (Made other) = bytes_eq (spelling other) (spelling row)
is_making_of row (Marked len share) = false

-- the row is by m, and the changes of m's own node did not make it
abbrev pub is_stray : ℕ → List Change → Row → Bool
is_stray m h row = row.creator == m && not (list_any (is_making_of row) h)

-- some node of the run has such a row by m
unfoldable pub is_dishonest : Stakes → ℕ → Run → ℕ → Bool
is_dishonest n c run m = some_below (member_count n) (λ k. list_any (is_stray m (run m)) (graph_at n c run k))

-- the stake of the dishonest members
unfoldable pub dishonest : Stakes → ℕ → Run → ℕ
dishonest n c run = stake_where n (is_dishonest n c run)

-- the history made the row
abbrev pub HasMade : List Change → Row → Type 0
HasMade h row = (i : ℕ) × (slice_get h i ≡ Some (Made row))

-- the same as a relation: each row by m, of any node of the run, was made by m's own node
pub record IsHonest (n : Stakes) (c : ℕ) (run : Run) (m : ℕ) : Type 0 where
  pub made : (k x : ℕ) (row : Row) → k < member_count n → slice_get (graph_at n c run k) x ≡ Some row → row.creator ≡ m → HasMade (run m) row

-- names do not collide: rows of equal names, of any two nodes of the run, are equal
pub record AreApart (n : Stakes) (c : ℕ) (run : Run) : Type 0 where
  pub equal : (j k : ℕ) → j < member_count n → k < member_count n → HaveEqualRows (graph_at n c run j) (graph_at n c run k)
