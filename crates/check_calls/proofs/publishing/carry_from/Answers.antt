use Rattle.std.proofs.Common.{subst, sym}
use Rattle.hg_node.specs.ChronicleView.{graph_in}
use Rattle.hg_votes.specs.Counting.{CarriesTo, IsMadeFor}
use Rattle.check_calls.proofs.publishing.carry_from.Goals as goal

pub carry_to-requires : goal.carry_to-requires
carry_to-requires g c = λ table made.
    subst (CarriesTo table) (sym c.in_ok-all.ensures.graph)
    (c.tables_last.ensures.first table (graph_in c.args.node.now) 6 (subst (IsMadeFor table) c.requires made))
