use Rattle.std.proofs.Common.{◌<◌, ◌∙◌, length, subst, sym, ap}
use Rattle.std.specs.Prelude.{vec_capacity}
use Rattle.hg_model.specs.Held.{lacking}
use Rattle.hg_life.specs.NodeView.{node_rows}
use Rattle.hg_graph.specs.RowsWithRoom.{rows_of}
use Rattle.hg_gossip.specs.Handing.{LacksOf}
use Rattle.hg_world.specs.World.{Site, WorldView, nodes_of, rows_at}
use Rattle.hg_world.specs.Parts.{rows_of_each, world_like}
use Rattle.hg_world.proofs.PartLaws.{has_rest, heard_parts, low_in}
use Rattle.hg_world.proofs.WorldLaws.{site_here}
use Rattle.hg_world.proofs.world.World.note_rest.Goals as goal

pub invariant_of-self : goal.invariant_of-self
invariant_of-self c =
    let w : WorldView = world_like c.self.inside.first.value c.self.inside.sites.items in
    let low_x : c.args.taker < length w.sites = low_in w c.args.self.now c.args.taker c.self.view_is c.requires.taker in
    let low_y : c.args.peer < length w.sites = low_in w c.args.self.now c.args.peer c.self.view_is c.requires.peer in (
      heard_parts w c.self.inside.known c.note_rest.new.self (vec_capacity c.self.inside.spare) c.self.invariant.0
          (c.note_rest.ensures.keeps (rows_of_each (nodes_of w)) c.self.invariant.0.heard
          (has_rest w c.args.taker c.args.peer c.rows-len.result (rows_of c.args.events.now) (rows_of c.in-Ok.refused.items) low_x low_y
          (subst (λ (u : WorldView). LacksOf (rows_at u c.args.taker) (rows_at u c.args.peer) (rows_of c.args.events.now)) (sym c.self.view_is) c.requires.rest)
          (c.in-Ok.ensures ∙ ap (λ (s : Site). lacking (node_rows s.node) (rows_of c.args.events.now)) (site_here w c.args.taker low_x c.index-2.result.now c.index-2.ensures))
          (c.rows-len.ensures ∙ ap (λ (s : Site). length (node_rows s.node)) (site_here w c.args.peer low_y c.index.result.now c.index.ensures)))),
      c.self.invariant.1,
    )
