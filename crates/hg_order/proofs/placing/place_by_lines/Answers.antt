use Rattle.std.proofs.Common.{arith}
use Rattle.std.proofs.lemmas.Grind.{get_or_default_zero}
use Rattle.hg_order.proofs.FamousLaws.{famous_within, famous_at_most}
use Rattle.hg_order.proofs.placing.place_by_lines.Goals as goal

pub list_lines-requires-clause-places : goal.list_lines-requires-clause-places
list_lines-requires-clause-places g c = rw c.is_of_graph.ensures.matches.shaped (famous_within _ _ c.requires.famous)

pub list_lines-requires-clause-wide : goal.list_lines-requires-clause-wide
list_lines-requires-clause-wide g c =
    let few = c.is_of_graph.ensures.few in
    omega (arith, famous_at_most _ _ c.requires.famous c.is_of_graph.ensures.shaped)

pub median_of_lines-requires-clause-wide : goal.median_of_lines-requires-clause-wide
median_of_lines-requires-clause-wide g c =
    let few = c.is_of_graph.ensures.few in
    omega (arith, famous_at_most _ _ c.requires.famous c.is_of_graph.ensures.shaped, c.list_lines.auto.starts)

pub returns-clause-wide : goal.returns-clause-wide
returns-clause-wide g c = λ _ k d lt. rw (get_or_default_zero c.args.fresh.now k d lt) (c.loop-i.invariant.wide k (omega arith))
