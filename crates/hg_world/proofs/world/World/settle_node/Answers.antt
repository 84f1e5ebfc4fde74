use Rattle.std.proofs.Common.{◌<◌, ◌∙◌, ℕ, length, slice_set, ap, ap₂}
use Rattle.std.specs.Prelude.{vec_capacity}
use Rattle.hg_life.specs.NodeView.{NodeView}
use Rattle.hg_world.specs.World.{Secrets, WorldView, site_of, with_site}
use Rattle.hg_world.specs.Steps.{after_steps, settle_steps}
use Rattle.hg_world.specs.Parts.{world_like}
use Rattle.hg_world.proofs.PartLaws.{low_in, settled}
use Rattle.hg_world.proofs.WorldLaws.{set_settled}
use Rattle.hg_world.proofs.world.World.settle_node.Goals as goal

pub invariant_of-self-2 : goal.invariant_of-self-2
invariant_of-self-2 c =
    let w : WorldView = world_like c.self.inside.first.value c.self.inside.sites.items in
    let low : c.args.member < length w.sites = low_in w c.args.self.now c.args.member c.self.view_is c.requires in (
      settled w c.self.inside.known (vec_capacity c.self.inside.spare) c.self.invariant.0 c.args.member low c.index_mut-site.result.now c.index_mut-site.ensures.value
          c.settle.new.self c.rows-len.result c.in_ok-settle.ensures.ok c.is_node.ensures c.rows-len.ensures,
      c.self.invariant.1,
    )

pub returns-clause-ok : goal.returns-clause-ok
returns-clause-ok c =
    let w : WorldView = world_like c.self.inside.first.value c.self.inside.sites.items in
    let low : c.args.member < length w.sites = low_in w c.args.self.now c.args.member c.self.view_is c.requires in
    ap₂ (λ (v : NodeView Secrets) (k : ℕ). with_site w c.args.member (site_of v (slice_set c.index_mut-site.result.now.frozen 0 k))) c.in_ok-settle.ensures.ok c.rows-len.ensures
    ∙ (set_settled w c.args.member low c.index_mut-site.result.now c.index_mut-site.ensures.value (c.self.invariant.0.world.sites c.args.member low).is.workers
    ∙ ap (λ (u : WorldView). after_steps u (settle_steps c.args.member)) c.self.view_is)
