use Rattle.std.proofs.Common.{◌<◌, length}
use Rattle.hg_world.specs.World.{WorldView}
use Rattle.hg_world.specs.Parts.{world_like}
use Rattle.hg_world.proofs.PartLaws.{knows_read, low_in}
use Rattle.hg_world.proofs.world.World.lacked.Goals as goal

pub lacked-requires : goal.lacked-requires
lacked-requires c =
    let w : WorldView = world_like c.self.inside.first.value c.self.inside.sites.items in
    let low_x : c.args.taker < length w.sites = low_in w c.args.self.now c.args.taker c.self.view_is c.requires.taker in
    let low_y : c.args.peer < length w.sites = low_in w c.args.self.now c.args.peer c.self.view_is c.requires.peer in
    knows_read w c.self.inside.known c.args.taker c.args.peer c.index.result.now c.index-2.result.now c.heard-heard.result.now c.self.invariant.0.heard low_x low_y c.index.ensures c.index-2.ensures c.heard-heard.ensures
