-- The text of a summary: of each node the first line of its block, a digest of its order, and the sum of its balances
use Rattle.std.specs.Prelude.{ℕ, List, [], ◌∷◌, ◌++◌, codes}
use Rattle.std.specs.Fmt.{decimal}
use Rattle.hex.specs.Hex.{encode_lower}
use Rattle.hg_outcome.specs.declared.outcome.NodeSummary.{NodeSummary}
use Rattle.hg_outcome.specs.declared.outcome.Summary.{Summary}
use Rattle.hg_outcome.specs.declared.outcome.Outcome.{Outcome}
use Rattle.hg_outcome.specs.Report.{head_line}
use Rattle.hg_outcome.specs.Summary.{head_told, summary_of}

abbrev pub digest_line : List ℕ → List ℕ
digest_line digest = codes "order " ++ (encode_lower digest ++ codes "\n")

abbrev pub total_line : ℕ → List ℕ
total_line total = codes "total " ++ (decimal total ++ codes "\n")

-- what is told of a node
abbrev pub node_text : List (List ℕ) → NodeSummary → List ℕ
node_text names n = head_line names (head_told n) ++ digest_line n.digest ++ total_line n.total

-- one node after the other
abbrev pub nodes_text : List (List ℕ) → List NodeSummary → List ℕ
nodes_text names [] = []
nodes_text names (node ∷ nodes) = node_text names node ++ nodes_text names nodes

-- the text of a summary
abbrev pub told_text : Summary → List ℕ
told_text s = nodes_text s.names s.nodes

-- the text of the summary of all that a run prints
abbrev pub summary_text : Outcome → List ℕ
summary_text o = told_text (summary_of o)
