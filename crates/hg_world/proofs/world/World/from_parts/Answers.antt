use Rattle.std.proofs.Common.{◌≡◌, ◌∙◌, List, ap, subst, sym, arith}
use Rattle.std.specs.Prelude.{vec_capacity}
use Rattle.hg_life.specs.NodeView.{NodeView}
use Rattle.hg_world.specs.World.{Secrets, Site}
use Rattle.hg_world.specs.Parts.{KeepsParts, nth_node, world_like}
use Rattle.hg_world.proofs.NewLaws.{of_nodes}
use Rattle.hg_world.proofs.NodeLaws.{node_here}
use Rattle.hg_world.proofs.world.World.from_parts.Goals as goal

pub invariant_of-result : goal.invariant_of-result
invariant_of-result c =
    let v : NodeView Secrets = c.of-first.result.value in
    let first : v ≡ nth_node c.args.nodes.items 0 = c.of-first.ensures ∙ (c.index.ensures ∙ node_here c.args.nodes.items 0 _ c.requires.nodes.3.some) in
    let room : vec_capacity c.in-Ok.spare ≡ c.len.result = c.in-Ok.ensures.nodes in (
      subst (λ (sites : List Site). KeepsParts (world_like v sites) c.args.known (vec_capacity c.in-Ok.spare)) (sym c.into_sites.ensures)
          (of_nodes v.start.members v.start.coin c.args.nodes.items c.args.known (vec_capacity c.in-Ok.spare) c.requires.nodes c.see_all.ensures
          (ap (λ (u : NodeView Secrets). u.start.members) first) (ap (λ (u : NodeView Secrets). u.start.coin) first)
          c.requires.known (omega (arith, room, c.len.ensures, c.args.nodes.ok.0))),
      c.in-Ok.ensures.none.0,
    )
