use Rattle.std.proofs.Common.{subst, sym}
use Rattle.hg_world.specs.Parts.{AreOfOneList, world_like}
use Rattle.hg_world.proofs.NewLaws.{of_one_list}
use Rattle.hg_world.proofs.world.World.into_parts.Goals as goal

pub returns-clause-lawful : goal.returns-clause-lawful
returns-clause-lawful c =
    subst AreOfOneList (sym c.into_nodes.ensures) (of_one_list (world_like c.self.inside.first.value c.self.inside.sites.items) c.self.invariant.0.world)
