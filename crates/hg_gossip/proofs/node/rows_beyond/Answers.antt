use Rattle.hg_life.specs.NodeView.{node_rows}
use Rattle.hg_gossip.proofs.RowLaws.{outside_is_beyond}
use Rattle.hg_gossip.proofs.node.rows_beyond.Goals as goal

pub returns : goal.returns
returns g c = outside_is_beyond c.in_ok-named.named.keys c.args.names.now (node_rows c.args.node.now) c.rows_outside.result c.in_ok-named.ensures c.rows_outside.ensures
