use Rattle.std.proofs.Common.{◌∙◌, ap}
use Rattle.hg_world.specs.World.{node_at}
use Rattle.hg_world.specs.Steps.{settle_steps}
use Rattle.hg_play.specs.Sites.{starts_of}
use Rattle.hg_play.proofs.WorldLaws.{start_read, starts-steps}
use Rattle.hg_play.proofs.BlockLaws.{settled_is}
use Rattle.hg_play.proofs.blocks.settled_at.Goals as goal

pub returns-clause-block : goal.returns-clause-block
returns-clause-block c = λ begun.
    c.in_ok-block.ensures (ap starts_of c.in_ok-settle.ensures.ok ∙ (starts-steps c.args.world.now (settle_steps c.args.member) ∙ begun))
    ∙ settled_is c.args.game.now.members.now c.args.member (node_at c.args.world.now c.args.member) (node_at c.settle.new.self c.args.member)
    (start_read c.args.game.now.members.now c.args.world.now c.args.member begun c.requires) c.in_ok-settle.ensures.settled
