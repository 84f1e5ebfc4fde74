use Rattle.std.proofs.Common.{◌<◌, length}
use Rattle.std.specs.Prelude.{vec_capacity}
use Rattle.hg_life.specs.Calls.{put_changes}
use Rattle.hg_life.specs.Signing.{accepts_by}
use Rattle.hg_world.specs.World.{WorldView}
use Rattle.hg_world.specs.Parts.{world_like}
use Rattle.hg_world.proofs.PartLaws.{changed, low_in}
use Rattle.hg_world.proofs.world.World.put.Goals as goal

pub invariant_of-self-2 : goal.invariant_of-self-2
invariant_of-self-2 c =
    let w : WorldView = world_like c.self.inside.first.value c.self.inside.sites.items in
    let low : c.args.member < length w.sites = low_in w c.args.self.now c.args.member c.self.view_is c.requires in (
      changed w c.self.inside.known (vec_capacity c.self.inside.spare) c.self.invariant.0 c.args.member low c.index_mut.result.now c.index_mut.ensures.value
          c.put.new.self (put_changes accepts_by c.index_mut.result.now.node c.args.bytes.now) c.in_ok-answer.ensures.ok c.is_node.ensures,
      c.self.invariant.1,
    )
