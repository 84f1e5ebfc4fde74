use Rattle.std.proofs.Common.{◌<◌, ◌∙◌, ap, length}
use Rattle.std.specs.Prelude.{vec_capacity}
use Rattle.hg_life.specs.Calls.{publish_changes}
use Rattle.hg_life.specs.NodeView.{NodeView, with_changes}
use Rattle.hg_world.specs.World.{Secrets, WorldView}
use Rattle.hg_world.specs.Parts.{world_like}
use Rattle.hg_world.proofs.PartLaws.{changed, low_in}
use Rattle.hg_world.proofs.world.World.publish.Goals as goal

pub invariant_of-self-2 : goal.invariant_of-self-2
invariant_of-self-2 c =
    let w : WorldView = world_like c.self.inside.first.value c.self.inside.sites.items in
    let low : c.args.member < length w.sites = low_in w c.args.self.now c.args.member c.self.view_is c.requires.member in (
      changed w c.self.inside.known (vec_capacity c.self.inside.spare) c.self.invariant.0 c.args.member low c.index_mut-site.result.now c.index_mut-site.ensures.value
          c.publish-count.new.self (publish_changes c.index_mut-site.result.now.node c.in_ok-found.found.len c.in_ok-found.found.share)
          (c.publish-count.ensures.grown ∙ ap (λ (v : NodeView Secrets). with_changes v (publish_changes v c.in_ok-found.found.len c.in_ok-found.found.share)) c.found.ensures.same) c.is_node.ensures,
      c.self.invariant.1,
    )
