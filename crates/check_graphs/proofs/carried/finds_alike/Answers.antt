use Rattle.std.proofs.Common.{subst, sym}
use Rattle.hg_node.specs.ChronicleView.{graph_in}
use Rattle.hg_votes.specs.Counting.{CarriesTo}
use Rattle.check_graphs.proofs.CarryLaws.{carries_next}
use Rattle.check_graphs.proofs.carried.finds_alike.Goals as goal

pub finds_in-requires : goal.finds_in-requires
finds_in-requires c =
    subst (CarriesTo c.args.votes.now) (sym c.in_ok-frozen.ensures)
    (carries_next c.tables_last.ensures.first c.args.votes.now (graph_in c.args.node.now) c.args.len c.requires.votes)
