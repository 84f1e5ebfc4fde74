use Rattle.hg_world.proofs.NewLaws.{new_is, new_list}
use Rattle.hg_world.proofs.world.World.new.Goals as goal

pub from_nodes-requires : goal.from_nodes-requires
from_nodes-requires c = new_list c.args.members.now c.in_ok-nodes.nodes.items c.is_lawful.ensures c.in_ok-nodes.ensures

pub returns-in-Ok : goal.returns-in-Ok
returns-in-Ok c = new_is c.args.members.now c.in_ok-nodes.nodes.items c.is_lawful.ensures c.in_ok-nodes.ensures c.in-Ok.world c.in-Ok.ensures.ok c.in-Ok.ensures.members c.in-Ok.ensures.coin
