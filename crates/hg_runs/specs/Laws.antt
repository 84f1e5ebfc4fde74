-- What holds of every run, as public functions state it
use Rattle.std.specs.Prelude.{ℕ, ◌*◌, ◌≡◌, ◌<◌, Bool, false, List}
use Rattle.hg_model.specs.declared.row.Row.{Row}
use Rattle.hg_model.specs.Stakes.{Stakes, member_count, stake_where, total}
use Rattle.hg_model.specs.Links.{links}
use Rattle.hg_model.specs.Forks.{has_fork}
use Rattle.hg_model.specs.Graph.{IsGraph}
use Rattle.hg_model.specs.Order.{order_by_names}
use Rattle.hg_life.specs.Terms.{Terms}
use Rattle.hg_life.specs.History.{Change, replay}
use Rattle.hg_prefix.specs.Standing.{StandsIn}
use Rattle.hg_prefix.specs.Chains.{HaveEqualRows, union}
use Rattle.hg_runs.specs.Run.{Run, IsRun, IsMoment}
use Rattle.hg_runs.specs.Honest.{is_dishonest, dishonest, IsHonest, AreApart}
use Rattle.hg_runs.specs.Safety.{order_after, IsOnePrefix, OrdersAgree, IsSafe}
use Rattle.hg_runs.specs.Further.{AreEvents, IsFurtherGraph, is_dishonest_beside, dishonest_beside, IsHonestIn, IsHonestBeside, IsApart}

-- every run is safe
abbrev pub RunsAreSafe : Type 0
RunsAreSafe = (terms : ℕ → Terms) (n : Stakes) (c : ℕ) (run : Run) → IsRun terms n c run → IsSafe n c run

-- the same where one names some members of less than a third of the stake, and each other is honest
abbrev pub HonestRunsAgree : Type 0
HonestRunsAgree = (terms : ℕ → Terms) (n : Stakes) (c : ℕ) (run : Run) (faulty : ℕ → Bool) → IsRun terms n c run → AreApart n c run →
    3 * stake_where n faulty < total n → ((m : ℕ) → m < member_count n → faulty m ≡ false → IsHonest n c run m) → OrdersAgree n c run

-- the rows that two nodes have at two moments
abbrev pub union_after : Stakes → ℕ → List Change → List Change → List Row
union_after n c a b = union (replay n c a).rows (replay n c b).rows

-- an honest member has no fork among them
abbrev pub HonestHaveNoFork : Type 0
HonestHaveNoFork = (terms : ℕ → Terms) (n : Stakes) (c : ℕ) (run : Run) (j k : ℕ) (a b : List Change) → IsRun terms n c run → AreApart n c run →
    IsMoment n run j a → IsMoment n run k b → (m : ℕ) → m < member_count n → IsHonest n c run m → has_fork (links (union_after n c a b)) m ≡ false

-- so they are a graph, in which both nodes' graphs stand
abbrev pub UnionsAreGraphs : Type 0
UnionsAreGraphs = (terms : ℕ → Terms) (n : Stakes) (c : ℕ) (run : Run) (j k : ℕ) (a b : List Change) → IsRun terms n c run → AreApart n c run →
    3 * dishonest n c run < total n → IsMoment n run j a → IsMoment n run k b →
    IsGraph n (union_after n c a b) × StandsIn (replay n c a).rows (union_after n c a b) × StandsIn (replay n c b).rows (union_after n c a b)

-- the test of honesty is the relation
abbrev pub HonestyIsTested : Type 0
HonestyIsTested = (terms : ℕ → Terms) (n : Stakes) (c : ℕ) (run : Run) (m : ℕ) → IsRun terms n c run → m < member_count n →
    (is_dishonest n c run m ≡ false → IsHonest n c run m) × (IsHonest n c run m → is_dishonest n c run m ≡ false)

-- Laws of a further graph, beside a run

-- its order and one that a node ever kept do not part, one being a prefix of the other, where less than a third of the stake
-- is dishonest in the run or in the graph, and its names do not collide with those of the nodes
abbrev pub FurtherGraphIsSafe : Type 0
FurtherGraphIsSafe = (terms : ℕ → Terms) (n : Stakes) (c : ℕ) (run : Run) (G : List Row) → IsRun terms n c run → IsFurtherGraph n G →
    3 * dishonest_beside n c run G < total n → IsApart n c run G →
    (k : ℕ) (h : List Change) → IsMoment n run k h → IsOnePrefix (order_by_names n c G) (order_after n c h)

-- nor do they where one names those who may be dishonest, of less than a third of the stake
abbrev pub HonestFurtherGraphAgrees : Type 0
HonestFurtherGraphAgrees = (terms : ℕ → Terms) (n : Stakes) (c : ℕ) (run : Run) (G : List Row) (faulty : ℕ → Bool) → IsRun terms n c run → IsFurtherGraph n G →
    IsApart n c run G → 3 * stake_where n faulty < total n → ((m : ℕ) → m < member_count n → faulty m ≡ false → IsHonestBeside n c run G m) →
    (k : ℕ) (h : List Change) → IsMoment n run k h → IsOnePrefix (order_by_names n c G) (order_after n c h)

-- then it stands with the rows of a node at any moment in one graph, that of the rows of both
abbrev pub FurtherUnionIsAGraph : Type 0
FurtherUnionIsAGraph = (terms : ℕ → Terms) (n : Stakes) (c : ℕ) (run : Run) (G : List Row) → IsRun terms n c run → IsFurtherGraph n G →
    3 * dishonest_beside n c run G < total n → IsApart n c run G → (k : ℕ) (h : List Change) → IsMoment n run k h →
    let H = (replay n c h).rows in IsGraph n (union G H) × StandsIn G (union G H) × StandsIn H (union G H)

-- so two graphs beside one run agree, where each member but a few is honest in both; what the nodes have does not matter
abbrev pub TwoFurtherGraphsAgree : Type 0
TwoFurtherGraphsAgree = (terms : ℕ → Terms) (n : Stakes) (c : ℕ) (run : Run) (G H : List Row) (faulty : ℕ → Bool) → IsRun terms n c run →
    IsFurtherGraph n G → IsFurtherGraph n H → HaveEqualRows G H → 3 * stake_where n faulty < total n →
    ((m : ℕ) → m < member_count n → faulty m ≡ false → IsHonestIn run G m × IsHonestIn run H m) → IsOnePrefix (order_by_names n c G) (order_by_names n c H)

-- the test of honesty beside a run is the relation
abbrev pub FurtherHonestyIsTested : Type 0
FurtherHonestyIsTested = (terms : ℕ → Terms) (n : Stakes) (c : ℕ) (run : Run) (G : List Row) (m : ℕ) → IsRun terms n c run → AreEvents G → m < member_count n →
    (is_dishonest_beside n c run G m ≡ false → IsHonestBeside n c run G m) × (IsHonestBeside n c run G m → is_dishonest_beside n c run G m ≡ false)

-- the rows of a node at any moment are such a graph, beside which nobody more is dishonest
abbrev pub MomentIsAFurtherGraph : Type 0
MomentIsAFurtherGraph = (terms : ℕ → Terms) (n : Stakes) (c : ℕ) (run : Run) (k : ℕ) (h : List Change) → IsRun terms n c run → AreApart n c run → IsMoment n run k h →
    let G = (replay n c h).rows in IsFurtherGraph n G × IsApart n c run G × ((m : ℕ) → is_dishonest_beside n c run G m ≡ is_dishonest n c run m)
