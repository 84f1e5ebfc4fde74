use Rattle.std.proofs.Common.{◌∙◌, sym}
use Rattle.hg_node.proofs.LastLaws.{last_read}
use Rattle.hg_node.proofs.chronicle.Chronicle.last_name.Goals as goal

pub row-requires : goal.row-requires
row-requires c = (last_read c.self.inside.own c.self.inside.graph.graph.rows c.in-Some.place c.self.invariant.0.keeps.graph.distinct (sym c.in-Some.is ∙ c.self.invariant.0.last)).0

pub returns-in-Some : goal.returns-in-Some
returns-in-Some c =
    rw (← c.self.view_is) ((last_read c.self.inside.own c.self.inside.graph.graph.rows c.in-Some.place c.self.invariant.0.keeps.graph.distinct (sym c.in-Some.is ∙ c.self.invariant.0.last)).1 c.row.result.now c.row.ensures)
