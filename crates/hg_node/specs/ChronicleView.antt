-- What a node keeps of its history: rows, the log of how they came, and the published marks
use Rattle.std.specs.Prelude.{ℕ, ◌≡◌, ◌≤◌, ◌+◌, ◌*◌, ◌==◌, cond, List, [], ◌∷◌, ◌++◌, length, slice_get, Option, option_and_then, option_map, is_some}
use Rattle.hg_model.specs.declared.row.Row.{Row}
use Rattle.hg_model.specs.declared.row.Placed.{Placed}
use Rattle.hg_life.specs.declared.entry.Entry.{Entry}
use Rattle.hg_life.specs.declared.entry.Entry.TheVariants as entry
use Rattle.hg_model.specs.Places.{count_below}
use Rattle.hg_model.specs.Links.{place_of}
use Rattle.hg_model.specs.Fame.{Marks, mark_at}
use Rattle.hg_model.specs.declared.share.Found.{Found}
use Rattle.hg_model.specs.Shares.{Share}
use Rattle.hg_life.specs.Verdict.{last_name}
use Rattle.hg_life.specs.Members.{MemberList, balances_of, stakes_of}
use Rattle.hg_model.specs.Prefix.{Graph, graph_of}
use Rattle.hg_life.specs.Pay.{Book, book_of}
use Rattle.hg_life.specs.Kept.{kept}
use Rattle.hg_graph.specs.Held.{graph_with}
use Rattle.hg_life.specs.History.{State, news, with_row, with_marks}
use Rattle.hg_life.specs.NodeView.{NodeView, node_rows, node_marks, node_state, log, history_of, IsNode}
use Rattle.hg_life.specs.Signing.{Accepts}
use Rattle.hg_life.specs.Terms.{row_limit}
use Rattle.hg_life.specs.StateWords.{state_by}
use Rattle.hg_history.specs.News.{FindsNews}
use Rattle.hg_kept.specs.Published.{Published, Keeps}
use Rattle.hg_pay.specs.Account.{Account}
use Rattle.hg_votes.specs.Counting.{CarriesTo, Counting}

-- whose node it is, the balances that it began with, how many rows it holds at most, its rows as a graph, the log, and the
-- published marks
pub record ChronicleView : Type 0 where
  pub own : ℕ
  pub balances : List ℕ
  pub limit : ℕ
  pub graph : Graph
  pub log : List Entry
  pub marks : Marks

abbrev pub chronicle_view : ℕ → List ℕ → ℕ → Graph → List Entry → Marks → ChronicleView
chronicle_view own balances limit graph log marks = record {
  own = own;
  balances = balances;
  limit = limit;
  graph = graph;
  log = log;
  marks = marks;
}

-- of the node of a member among these, without rows, with this limit
abbrev pub no_chronicle : MemberList → ℕ → ℕ → ChronicleView
no_chronicle members own limit =
    chronicle_view own (balances_of members) limit (graph_of (stakes_of members) members.coin []) [] []

-- the state of the node
abbrev pub chronicle_state : ChronicleView → State
chronicle_state r = state_by r.graph r.marks

-- the book of the order that it keeps
abbrev pub book_in : ChronicleView → Book
book_in r = book_of r.balances r.graph.rows (kept r.graph.members (chronicle_state r))

-- with one row more, which came as the entry says
abbrev pub chronicle_with : ChronicleView → Row → Entry → ChronicleView
chronicle_with r row entry =
    chronicle_view r.own r.balances r.limit (graph_with r.graph row) (r.log ++ entry ∷ [])
    (with_row r.graph.members (chronicle_state r) row).marks

-- with one row more that was taken
abbrev pub chronicle_took : ChronicleView → Row → ChronicleView
chronicle_took r row = chronicle_with r row (entry.Took (length r.graph.rows))

-- with one row more that the member made
abbrev pub chronicle_made : ChronicleView → Row → ChronicleView
chronicle_made r row = chronicle_with r row (entry.Made (length r.graph.rows))

-- how many witnesses are marked when what the share finds in the first `len` rows is published
abbrev pub news_in : ChronicleView → ℕ → Share → ℕ
news_in r len share = news r.graph.members r.graph.coin (chronicle_state r) len share

-- the entry that tells it, where some are
abbrev pub news_entries : ℕ → ℕ → Share → List Entry
news_entries count len share = cond (count == 0) [] (entry.Marked len share ∷ [])

-- with these marks more
abbrev pub chronicle_news : ChronicleView → ℕ → Share → ChronicleView
chronicle_news r len share =
    chronicle_view r.own r.balances r.limit r.graph (r.log ++ news_entries (news_in r len share) len share)
    (with_marks r.graph.members r.graph.coin (chronicle_state r) len share).marks

-- the place of the last row that the member made
abbrev pub last_own_place : ℕ → List Row → Option ℕ
last_own_place own G = option_map (place_of G) (last_name own G)

-- the last row that the member made
abbrev pub last_own_row : ℕ → List Row → Option Row
last_own_row own G = option_and_then (slice_get G) (last_own_place own G)

-- how many rows have a mark
unfoldable pub marked : Marks → ℕ
marked marks = count_below (length marks) (λ x. is_some (mark_at marks x))

-- what is published is kept, and the place of the member's last row; of the log no more entries than rows and marks, and at
-- least the memory of two for each row
pub record KeepsRecord (own : ℕ) (graph : Graph) (log : List Entry) (v : Published) (last_own : Option ℕ) (capacity : ℕ) : Type 0 where
  pub keeps : Keeps graph v
  pub last : last_own ≡ last_own_place own graph.rows
  pub few_entries : length log ≤ length graph.rows + marked v.marks
  pub memory : 2 * length graph.rows ≤ capacity

-- the ledger's book is that of the order of these rows, and there is memory for an effect of each row
pub record KeepsBook (G : List Row) (order : List Placed) (a : Account) : Type 0 where
  pub book : a.book ≡ book_of a.opening G order
  pub memory : length G ≤ a.room

-- both, the table of votes is that of first rows of the graph, and the limit is no greater than the greatest
abbrev pub KeepsAll : ℕ → Graph → List Entry → Published → Option ℕ → ℕ → Account → Counting → ℕ → Type 0
KeepsAll own graph log v last_own capacity a votes limit =
    KeepsRecord own graph log v last_own capacity × KeepsBook graph.rows v.order a × CarriesTo votes graph × (limit ≤ row_limit)

-- the node with these keys of which this is the record
abbrev pub node_view : {K : Type 0} → K → ChronicleView → NodeView K
node_view keys r = record {
  start = record {
    own = r.own;
    members = r.graph.members;
    coin = r.graph.coin;
    balances = r.balances;
    limit = r.limit;
    keys = keys;
  };
  history = history_of r.graph.rows r.log;
}

-- the node's rows as a graph
abbrev pub graph_in : {K : Type 0} → NodeView K → Graph
graph_in v = graph_of v.start.members v.start.coin (node_rows v)

-- what was found is what a share decides in the node's first rows, and may leave out what has its mark
abbrev pub IsFoundBy : {K : Type 0} → NodeView K → Found → Type 0
IsFoundBy v found = FindsNews v.start.members v.start.coin (node_state v) found.len found.share found.marks

-- the node's history has these rows, this log and these marks
pub record IsRecorded {K : Type 0} (accepts : K → Accepts) (v : NodeView K) (r : ChronicleView) : Type 0 where
  pub node : IsNode accepts v
  pub rows : node_rows v ≡ r.graph.rows
  pub log : log v ≡ r.log
  pub marks : node_marks v ≡ r.marks
