-- What a node has published of its graph: the marks of fame, the closed rounds, and the order that it keeps.
-- SWIRLDS-TR-2016-01, section 4, procedures decideFame and findOrder
use Rattle.std.specs.Prelude.{ℕ, ◌≡◌, ◌-◌, ◌⊎◌, Bool, true, false, cond, not, ◌&&◌, nat_le, List, [], ◌∷◌, ◌++◌, length, replicate, Option, Some, None}
use Rattle.hg_model.specs.declared.row.Row.{Row}
use Rattle.hg_model.specs.declared.row.Placed.{Placed}
use Rattle.hg_model.specs.declared.share.Found.{Found}
use Rattle.hg_model.specs.Fame.{Marks}
use Rattle.hg_model.specs.Prefix.{Graph, graph_of, links_of}
use Rattle.hg_life.specs.History.{with_row}
use Rattle.hg_life.specs.Kept.{kept_up_to}
use Rattle.hg_model.specs.Orders.{AreFame}
use Rattle.hg_model.specs.GraphWords.{round_in, is_witness_in, is_closed_in, last_closed_in, is_received_by, ordered_by, IsLawfulGraph}
use Rattle.hg_life.specs.StateWords.{state_by}
use Rattle.hg_history.specs.News.{FindsNews}
use Rattle.hg_kept.specs.Waiting.{Waiting, AreWaiting, none_received}

pub record Published : Type 0 where
  pub marks : Marks
  -- the greatest closed round, or 0
  pub closed : ℕ
  -- what the closed rounds have received, in order
  pub order : List Placed
  -- which rows they have not received
  pub waiting : Waiting

-- what is published, and for how many more rows there is memory at least
pub record PublishedWithRoom : Type 0 where
  pub published : Published
  pub room : ℕ

-- nothing, of no rows
abbrev pub unpublished : Published
unpublished = record { marks = []; closed = 0; order = []; waiting = none_received }

-- nothing, of all rows of a graph
abbrev pub unpublished_of : Graph → Published
unpublished_of g = record { marks = replicate (length g.rows) None; closed = 0; order = []; waiting = none_received }

-- no round up to r has received row x
abbrev pub is_pending : Graph → Marks → ℕ → ℕ → Bool
is_pending g marks r x = not (is_received_by g marks (λ k. nat_le k r) x)

-- the round is closed, or 0
abbrev pub IsReached : Graph → Marks → ℕ → Type 0
IsReached g marks r = (r ≡ 0) ⊎ (is_closed_in g marks r ≡ true)

-- the rows that no closed round has received wait
abbrev pub ArePending : Graph → Published → Type 0
ArePending g v = AreWaiting (links_of g) v.waiting (is_pending g v.marks v.closed)

-- the marks are fame of the graph, and the order is that of the rounds up to `closed`; the marks may have closed more
pub record KeepsUpTo (g : Graph) (v : Published) : Type 0 where
  pub graph : IsLawfulGraph g
  pub even : length v.marks ≡ length g.rows
  pub fame : AreFame g.members g.coin g.rows v.marks
  pub reached : IsReached g v.marks v.closed
  pub order : v.order ≡ kept_up_to g.members (state_by g v.marks) v.closed
  pub pending : ArePending g v

-- the marks are fame of the graph, and the order is that of all rounds that they have closed
pub record Keeps (g : Graph) (v : Published) : Type 0 where
  pub graph : IsLawfulGraph g
  pub even : length v.marks ≡ length g.rows
  pub fame : AreFame g.members g.coin g.rows v.marks
  pub closed : v.closed ≡ last_closed_in g v.marks
  pub order : v.order ≡ ordered_by g v.marks
  pub pending : ArePending g v

-- the last row of the graph has just come, and this is published of the rows before it
pub record HasCome (g : Graph) (v : Published) : Type 0 where
  pub before : List Row
  pub row : Row
  pub rows : g.rows ≡ before ++ row ∷ []
  pub graph : IsLawfulGraph g
  pub keeps : Keeps (graph_of g.members g.coin before) v

-- the marks once the row has come after these
abbrev pub marks_with : Graph → List Row → Row → Marks → Marks
marks_with g before row marks = (with_row g.members (state_by (graph_of g.members g.coin before) marks) row).marks

-- the last row is a witness of a round up to `closed`
abbrev pub is_last_late : Graph → ℕ → Bool
is_last_late g closed =
    let x = length g.rows - 1 in
    is_witness_in g x && nat_le (round_in g x) closed

-- the first mark of the last row, where the rounds up to `closed` are
abbrev pub mark_by : Graph → ℕ → Option Bool
mark_by g closed = cond (is_last_late g closed) (Some false) None

-- the last row of the graph got its first mark, and all else stayed
pub record TookRow (g : Graph) (old new : Published) : Type 0 where
  pub marks : (before : List Row) (row : Row) → g.rows ≡ before ++ row ∷ [] → new.marks ≡ marks_with g before row old.marks
  pub rest : new ≡ record old { marks = new.marks }

-- this may be published where these are the marks
abbrev pub FindsNewsOf : Graph → Marks → Found → Type 0
FindsNewsOf g marks found = FindsNews g.members g.coin (state_by g marks) found.len found.share found.marks
