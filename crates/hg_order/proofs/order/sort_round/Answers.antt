use Rattle.hg_order.proofs.FamousLaws.{famous_within}
use Rattle.hg_order.proofs.order.sort_round.Goals as goal

pub whitening-requires : goal.whitening-requires
whitening-requires g c = rw (← c.is_of_graph.ensures.long) (famous_within _ _ c.requires)
