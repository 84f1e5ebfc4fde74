-- The words in which clauses speak of what a check answers, and of a graph that is filled with the rows of a certificate
use Rattle.std.specs.Prelude.{◌≡◌, ℕ, List, ◌++◌, take, Option, Some, None, Result, Ok, Err, IfOk, ⊤}
use Rattle.hg_model.specs.declared.row.Row.{Row}
use Rattle.hg_model.specs.declared.stop.Stop.{Stop}
use Rattle.hg_model.specs.declared.stop.Stop.TheVariants.{Memory, Fault}
use Rattle.hg_model.specs.declared.row.Placed.{Placed}
use Rattle.hg_model.specs.Order.{order_of}
use Rattle.hg_model.specs.Prefix.{Graph, graph_of}
use Rattle.hg_proof.specs.declared.shown.Checked.{Checked}
use Rattle.hg_proof.specs.declared.shown.Checked.TheVariants.{Yes, No}
use Rattle.hg_proof.specs.declared.why.Why.{Why}
use Rattle.hg_graph.specs.Held.{graph_with}
use Rattle.hg_life.specs.Signing.{Accepts}
use Rattle.hg_proof.specs.Certificate.{Certificate}
use Rattle.hg_proof.specs.Judging.{judged, next_why, ordered_rows, rows_passed, rows_why}
use Rattle.hg_proof.specs.Shows.{Shows}

-- what is shown, or the reason why nothing is
abbrev pub told : Checked → Result Certificate Why
told (Yes shown) = Ok shown
told (No why) = Err why

-- what is shown is so
abbrev pub IfYes : Checked → (Certificate → Type 0) → Type 0
IfYes (Yes shown) IsSo = IsSo shown
IfYes (No why) IsSo = ⊤

-- the whole order of a graph, by its own fame
abbrev pub order_in : Graph → List Placed
order_in g = order_of g.members g.coin g.rows

-- the graph with more rows
abbrev pub graph_and : Graph → List Row → Graph
graph_and g rows = graph_of g.members g.coin (g.rows ++ rows)

-- the graph with those of these rows that come before the first that something speaks against; with a front of those
abbrev pub graph_passed : Accepts → Graph → List Row → Graph
graph_passed accepts g rows = graph_and g (rows_passed accepts g rows)

abbrev pub HasFront : Accepts → Graph → List Row → Graph → Type 0
HasFront accepts old rows new = (n : ℕ) × (new ≡ graph_and old (take n (rows_passed accepts old rows)))

-- such an answer is told
abbrev pub Tells : {E : Type 0} → Result Certificate Why → Result Checked E → Type 0
Tells answer result = IfOk result (λ checked. told checked ≡ answer)

-- what bytes show to keys that accept so, among the members of a graph, and with its coin period: the first reason, or this
abbrev pub judged_in : Accepts → Graph → List ℕ → Result Certificate Why
judged_in accepts g bytes = judged accepts g.members g.coin bytes

abbrev pub ShowsIn : Accepts → Graph → List ℕ → Certificate → Type 0
ShowsIn accepts g bytes shown = Shows accepts g.members g.coin bytes shown

-- what they show is told
abbrev pub TellsShown : {E : Type 0} → Accepts → Graph → List ℕ → Result Checked E → Type 0
TellsShown accepts g bytes result = (shown : Certificate) → ShowsIn accepts g bytes shown → Tells (Ok shown) result

-- the same of rows and their order
abbrev pub ordered_among : Accepts → Graph → List Row → Result (List Placed) Why
ordered_among accepts g rows = ordered_rows accepts g.members g.coin rows

-- nothing speaks against what was to come, and the graph has become this one; or the first reason against it was told
abbrev pub Comes : {A : Type 0} → Option Why → Graph → Result A (Stop Why) → Graph → Type 0
Comes why with_it (Ok done) new = (why ≡ None) × (new ≡ with_it)
Comes why with_it (Err Memory) new = ⊤
Comes why with_it (Err (Fault told)) new = why ≡ Some told

-- so it is of the row that comes next, and of these rows, one after the other
abbrev pub ComesNext : {A : Type 0} → Accepts → Graph → Row → Result A (Stop Why) → Graph → Type 0
ComesNext accepts old row result new = Comes (next_why accepts old row) (graph_with old row) result new

abbrev pub ComeAll : {A : Type 0} → Accepts → Graph → List Row → Result A (Stop Why) → Graph → Type 0
ComeAll accepts old rows result new = Comes (rows_why accepts old rows) (graph_and old rows) result new

-- what is left of the graph to which these rows were to come: it has all before the first that something speaks against,
-- or, where memory ran out, a front of those
abbrev pub Leaves : {A : Type 0} → Accepts → Graph → List Row → Result A (Stop Why) → Graph → Type 0
Leaves accepts old rows (Ok done) new = new ≡ graph_passed accepts old rows
Leaves accepts old rows (Err Memory) new = HasFront accepts old rows new
Leaves accepts old rows (Err (Fault told)) new = new ≡ graph_passed accepts old rows
