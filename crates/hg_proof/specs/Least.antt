-- How much of a graph a certificate of its order needs: the fewest first rows that have the whole order
use Rattle.std.specs.Prelude.{ℕ, ◌≡◌, ◌<◌, ◌≤◌, List, length, take, Contains}
use Rattle.hg_model.specs.declared.row.Placed.{Placed}
use Rattle.hg_model.specs.Prefix.{Graph}
use Rattle.hg_life.specs.NodeView.{NodeView}
use Rattle.hg_life.specs.Signing.{Accepts}
use Rattle.hg_graph.specs.Held.{first_graph}
use Rattle.hg_node.specs.ChronicleView.{graph_in}
use Rattle.hg_proof.specs.Answers.{order_in}
use Rattle.hg_proof.specs.Certificate.{Certificate, certificate}
use Rattle.hg_proof.specs.Shows.{Shows}

-- the first `len` rows of the graph have its whole order
abbrev pub HasWhole : Graph → ℕ → Type 0
HasWhole g len = order_in (first_graph g len) ≡ order_in g

-- they do, and no fewer rows do
pub record IsLeast (g : Graph) (len : ℕ) : Type 0 where
  pub within : len ≤ length g.rows
  pub whole : HasWhole g len
  pub least : (k : ℕ) → k < len → HasWhole g k → ⊥

-- these rows, with this order
abbrev pub first_rows : Graph → ℕ → List Placed → Certificate
first_rows g len order = certificate (take len g.rows) order

-- .. with the order of all
abbrev pub first_certificate : Graph → ℕ → Certificate
first_certificate g len = first_rows g len (order_in g)

-- the bytes show the whole order of a node's graph, with the fewest first rows that have it, to whoever accepts the
-- signatures that the node accepts
pub record Proves {K : Type 0} (accepts : K → Accepts) (v : NodeView K) (bytes : List ℕ) : Type 0 where
  pub len : ℕ
  pub least : IsLeast (graph_in v) len
  pub shows : Shows (accepts v.start.keys) v.start.members v.start.coin bytes (first_certificate (graph_in v) len)

-- an entry of the order stands at place k or behind it: fewer rows than k + 1 do not have it
abbrev pub HasFrom : List Placed → ℕ → Type 0
HasFrom order k = (p : Placed) × Contains order p × (k ≤ p.place)

-- the least number of first rows that have the whole order lies between these: as many as the greater have it, and fewer
-- than the lesser do not
pub record IsBetween (g : Graph) (low high : ℕ) : Type 0 where
  pub ordered : low ≤ high
  pub within : high ≤ length g.rows
  pub whole : HasWhole g high
  pub lacks : (k : ℕ) → k < low → HasWhole g k → ⊥
