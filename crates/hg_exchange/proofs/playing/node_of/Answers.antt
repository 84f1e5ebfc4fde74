use Rattle.std.proofs.Common.{arith}
use Rattle.hg_exchange.proofs.TakingLaws.{made_at}
use Rattle.hg_exchange.proofs.playing.node_of.Goals as goal

pub returns-clause-made : goal.returns-clause-made
returns-clause-made c =
    made_at c.args.members.now c.in_ok-world.world c.into_nodes-nodes.result.items c.args.own c.remove.result c.into_nodes-nodes.ensures.nodes
    (omega (arith, c.requires.own, c.in_ok-world.ensures.count)) c.remove.ensures.value c.in_ok-world.ensures.made
