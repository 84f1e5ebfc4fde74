-- A table of votes for first rows carries to one row more
use Rattle.std.proofs.Common.{ℕ, ◌+◌, List, arith, subst, sym}
use Rattle.std.proofs.lemmas.List.{take-take}
use Rattle.hg_model.specs.declared.row.Row.{Row}
use Rattle.hg_model.specs.Prefix.{Graph, graph_of}
use Rattle.hg_graph.specs.Held.{first_graph}
use Rattle.hg_node.specs.Laws.{FirstTablesCarry}
use Rattle.hg_votes.specs.Counting.{CarriesTo, Counting, IsMadeFor}

pub carries_next : FirstTablesCarry → (votes : Counting) (g : Graph) (len : ℕ) → IsMadeFor votes (first_graph g len) → CarriesTo votes (first_graph g (len + 1))
carries_next law votes g len made =
    law votes (first_graph g (len + 1)) len
    (subst (λ (rows : List Row). IsMadeFor votes (graph_of g.members g.coin rows)) (sym (take-take len (len + 1) g.rows (omega arith))) made)
