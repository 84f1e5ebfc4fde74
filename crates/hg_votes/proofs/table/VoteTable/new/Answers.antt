use Rattle.std.proofs.Common.{[]}
use Rattle.hg_model.specs.Prefix.{graph_of}
use Rattle.hg_votes.proofs.CarryLaws.{begins_empty}
use Rattle.hg_votes.proofs.table.VoteTable.new.Goals as goal

pub carry-requires : goal.carry-requires
carry-requires g c =
    let graph = g.P.Prefix.graph c.args.p.now in
    (graph_of graph.members graph.coin [], c.empty-table.ensures graph.members graph.coin, begins_empty graph)
