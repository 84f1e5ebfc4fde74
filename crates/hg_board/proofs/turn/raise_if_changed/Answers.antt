use Rattle.std.proofs.Common.{◌<◌, length, arith}
use Rattle.hg_board.specs.Table.{node_at}
use Rattle.hg_board.proofs.TurnLaws.{grown_one}
use Rattle.hg_board.proofs.turn.raise_if_changed.Goals as goal

pub raise-requires-clause-node : goal.raise-requires-clause-node
raise-requires-clause-node g c =
    let more : length c.args.raw.now.me.0.seen < length c.args.node.now.history = omega (arith, c.changes.ensures, c.if-changes-count.true, c.requires.count) in
    grown_one (node_at c.args.board.now.key.value c.args.raw.now.me.0.seen) c.args.node.now c.requires.node more
