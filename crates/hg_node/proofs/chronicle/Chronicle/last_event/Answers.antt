use Rattle.std.proofs.Common.{◌∙◌, sym}
use Rattle.hg_node.proofs.LastLaws.{last_read}
use Rattle.hg_node.proofs.chronicle.Chronicle.last_event.Goals as goal

pub event-requires : goal.event-requires
event-requires c = (last_read c.self.inside.own c.self.inside.graph.graph.rows c.in-Some.place c.self.invariant.0.keeps.graph.distinct (sym c.in-Some.is ∙ c.self.invariant.0.last)).0
