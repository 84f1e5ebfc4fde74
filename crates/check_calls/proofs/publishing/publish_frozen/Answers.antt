use Rattle.std.proofs.Common.{sym, subst}
use Rattle.hg_model.specs.Prefix.{Graph}
use Rattle.hg_model.specs.GraphWords.{IsLawfulGraph}
use Rattle.hg_history.proofs.SoundLaws.{node_graph}
use Rattle.check_calls.proofs.publishing.publish_frozen.Goals as goal

pub publish_behind-requires : goal.publish_behind-requires
publish_behind-requires g c =
    let node = c.args.node.now in
    let is = c.is_node.ensures in
    subst IsLawfulGraph (sym c.in_ok-frozen.ensures.graph) (node_graph _ node.start.members node.start.coin node.start.own node.history is.coin is.history).graph
