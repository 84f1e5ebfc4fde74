use Rattle.std.proofs.Common.{◌<◌, length}
use Rattle.std.specs.Prelude.{vec_capacity}
use Rattle.hg_world.specs.World.{WorldView}
use Rattle.hg_world.specs.Parts.{world_like}
use Rattle.hg_world.proofs.PartLaws.{froze, low_in}
use Rattle.hg_world.proofs.world.World.freeze.Goals as goal

pub invariant_of-self : goal.invariant_of-self
invariant_of-self c =
    let w : WorldView = world_like c.self.inside.first.value c.self.inside.sites.items in
    let low : c.args.member < length w.sites = low_in w c.args.self.now c.args.member c.self.view_is c.requires.member in
    (froze w c.self.inside.known (vec_capacity c.self.inside.spare) c.self.invariant.0 c.args.member low c.index_mut-site.result.now c.index_mut-site.ensures.value c.args.worker c.rows-len.result c.rows-len.ensures, c.self.invariant.1)
