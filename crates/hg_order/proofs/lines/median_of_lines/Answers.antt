use Rattle.std.proofs.Common.{arith}
use Rattle.hg_order.proofs.FamousLaws.{famous_within, famous_at_most}
use Rattle.hg_order.proofs.lines.median_of_lines.Goals as goal

pub median_in-requires-clause-places : goal.median_in-requires-clause-places
median_in-requires-clause-places g c = rw c.is_of_graph.ensures.matches.shaped (famous_within _ _ c.requires.famous)

pub median_in-requires-clause-room : goal.median_in-requires-clause-room
median_in-requires-clause-room g c =
    let few = c.is_of_graph.ensures.few in
    omega (arith, famous_at_most _ _ c.requires.famous c.is_of_graph.ensures.shaped)
