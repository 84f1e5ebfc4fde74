use Rattle.std.proofs.Common.{◌∙◌}
use Rattle.hg_order.proofs.FirstHolderLaws.{median_is_consensus}
use Rattle.hg_order.proofs.time.time_of.Goals as goal

pub returns : goal.returns
returns g c marks r are =
    c.median_time.ensures ∙ rw are (median_is_consensus _ _ c.is_of_graph.ensures.shaped marks r c.args.x _ (rw are at c.requires.received.1))
