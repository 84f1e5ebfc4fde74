-- Earlier moments of a node
use Rattle.std.specs.Prelude.{ℕ, ◌≡◌, Bool, List, Some, IfSome, slice_get}
use Rattle.hg_model.specs.Fame.{mark_at}
use Rattle.hg_model.specs.Prefix.{Graph, links_of}
use Rattle.hg_frozen.specs.View.{FrozenView}
use Rattle.hg_model.specs.Shares.{Share, Speaks}
use Rattle.hg_life.specs.NodeView as node
use Rattle.hg_life.specs.NodeView.{NodeView, node_rows, node_marks}

-- what any share finds in the first rows of the graph speaks of the node's rows, so that it may be published
abbrev pub IsMomentOf : {K : Type 0} → NodeView K → Graph → Type 0
IsMomentOf v g = (len : ℕ) (share : Share) (found : List (ℕ × Bool)) → Speaks g.members g.coin g.rows (links_of g) len share found →
    Speaks v.start.members v.start.coin (node_rows v) (node.node_links v) len share found

-- the same of what is frozen
abbrev pub IsFrozenOf : {K : Type 0} → NodeView K → FrozenView → Type 0
IsFrozenOf v frozen = IsMomentOf v frozen.graph

-- the witness that was found at this index of a list has its fame as the node's mark
abbrev pub IsMarkedSo : {K : Type 0} → NodeView K → List (ℕ × Bool) → ℕ → Type 0
IsMarkedSo v marks x = IfSome (slice_get marks x) (λ (found : ℕ × Bool). mark_at (node_marks v) found.0 ≡ Some found.1)
