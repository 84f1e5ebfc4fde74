use Rattle.std.proofs.Common.{◌<◌, ◌∙◌, length, subst, sym, ap}
use Rattle.std.specs.Prelude.{vec_capacity}
use Rattle.hg_life.specs.NodeView.{node_rows}
use Rattle.hg_gossip.specs.Handing.{AreKnown}
use Rattle.hg_world.specs.World.{Site, WorldView, nodes_of, rows_at}
use Rattle.hg_world.specs.Parts.{rows_of_each, world_like}
use Rattle.hg_world.proofs.PartLaws.{has_all, heard_parts, low_in}
use Rattle.hg_world.proofs.WorldLaws.{site_here}
use Rattle.hg_world.proofs.world.World.note_all.Goals as goal

pub invariant_of-self : goal.invariant_of-self
invariant_of-self c =
    let w : WorldView = world_like c.self.inside.first.value c.self.inside.sites.items in
    let low_x : c.args.taker < length w.sites = low_in w c.args.self.now c.args.taker c.self.view_is c.requires.taker in
    let low_y : c.args.peer < length w.sites = low_in w c.args.self.now c.args.peer c.self.view_is c.requires.peer in (
      heard_parts w c.self.inside.known c.note_all.new.self (vec_capacity c.self.inside.spare) c.self.invariant.0
          (c.note_all.ensures.keeps (rows_of_each (nodes_of w)) c.self.invariant.0.heard
          (has_all w c.args.taker c.args.peer c.rows-len.result low_x low_y (subst (λ (u : WorldView). AreKnown (rows_at u c.args.taker) (rows_at u c.args.peer)) (sym c.self.view_is) c.requires.all)
          (c.rows-len.ensures ∙ ap (λ (s : Site). length (node_rows s.node)) (site_here w c.args.peer low_y c.index.result.now c.index.ensures)))),
      c.self.invariant.1,
    )
