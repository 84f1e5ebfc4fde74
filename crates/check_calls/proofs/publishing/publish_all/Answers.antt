use Rattle.std.proofs.Common.{List, sym, subst}
use Rattle.hg_model.specs.Links.{Link}
use Rattle.hg_model.specs.Prefix.{Graph, links_of}
use Rattle.hg_model.specs.Shares.{Share, Speaks}
use Rattle.hg_life.specs.NodeView.{node_rows, node_state}
use Rattle.hg_history.proofs.FoundLaws.{found_is_news}
use Rattle.hg_history.proofs.SoundLaws.{sound}
use Rattle.check_calls.proofs.publishing.publish_all.Goals as goal

-- what speaks of the frozen rows speaks of the node's
pub publish-requires : goal.publish-requires
publish-requires c =
    let node = c.args.node.now in
    let found = c.in_ok-found.found in
    let is = c.is_node.ensures in
    let of_share = subst (λ (s : Share). Speaks c.in_ok-frozen.frozen.graph.members c.in_ok-frozen.frozen.graph.coin c.in_ok-frozen.frozen.graph.rows (links_of c.in_ok-frozen.frozen.graph) found.len s found.marks)
    (sym c.in_ok-found.ensures.share) c.in_ok-found.ensures.speaks in
    let of_rows = subst (λ (g : Graph). Speaks g.members g.coin g.rows (links_of g) found.len found.share found.marks) c.in_ok-frozen.ensures.graph of_share in
    found_is_news node.start.members node.start.coin (node_state node) found.len found.share found.marks
    (subst (λ (L : List Link). Speaks node.start.members node.start.coin (node_rows node) L found.len found.share found.marks)
    (sym (sound _ node.start.members node.start.coin node.start.own node.history is.coin is.history).linked) of_rows)
