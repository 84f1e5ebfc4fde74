-- Runs of several nodes: one history for each member. SWIRLDS-TR-2016-01, section 5
use Rattle.std.specs.Prelude.{ℕ, ◌≡◌, ◌<◌, List, ◌++◌}
use Rattle.hg_model.specs.declared.row.Row.{Row}
use Rattle.hg_model.specs.Stakes.{Stakes, member_count}
use Rattle.hg_life.specs.Terms.{Terms}
use Rattle.hg_life.specs.History.{Change, replay, IsHistory}

-- the history of each member's node, by the member's number; that of a member without a node is empty
abbrev pub Run : Type 0
Run = ℕ → List Change

-- each is a history of its member's node, which accepts signatures by keys of its own. Nothing is said of the order in
-- which changes of different nodes come
pub record IsRun (terms : ℕ → Terms) (n : Stakes) (c : ℕ) (run : Run) : Type 0 where
  pub coin : 2 < c
  pub histories : (m : ℕ) → m < member_count n → IsHistory (terms m) n c m (run m)

-- the rows of the node of member m at the end of the run
abbrev pub graph_at : Stakes → ℕ → Run → ℕ → List Row
graph_at n c run m = (replay n c (run m)).rows

-- the node of member m had this history at some moment of the run
pub record IsMoment (n : Stakes) (run : Run) (m : ℕ) (h : List Change) : Type 0 where
  pub member : m < member_count n
  pub later : List Change
  pub whole : run m ≡ h ++ later
