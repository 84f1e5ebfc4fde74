use Rattle.std.proofs.Common.{◌∙◌, refl, arith}
use Rattle.std.proofs.lemmas.List.Elements.{recursion_from_All}
use Rattle.hg_order.proofs.FamousLaws.{famous_at_most}
use Rattle.hg_order.proofs.CountLaws.{placed_alike}
use Rattle.hg_order.proofs.placing.place_by_counts.Goals as goal

pub overflow_cast-need : goal.overflow_cast-need
overflow_cast-need g c = omega (arith, c.is_of_graph.ensures.few, famous_at_most _ _ c.requires.famous c.is_of_graph.ensures.shaped)

pub overflow_add-need : goal.overflow_add-need
overflow_add-need g c = omega (arith, c.is_of_graph.ensures.few, famous_at_most _ _ c.requires.famous c.is_of_graph.ensures.shaped)

pub returns-clause-placed : goal.returns-clause-placed
returns-clause-placed g c = λ _.
    rw c.deref.ensures.value at c.place_timed.ensures.placed
    ∙ placed_alike (g.P.Prefix.graph c.args.p.now) c.args.famous.now c.lowest-low.result c.args.round _ c.args.fresh.now (c.if-not-count_times.ensures.medians refl) c.requires.received
    (recursion_from_All _ c.args.fresh.now c.lowest-low.ensures.all)
