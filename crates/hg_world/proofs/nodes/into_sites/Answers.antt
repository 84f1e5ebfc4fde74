use Rattle.std.proofs.Common.{◌≡◌, ◌∷◌, [], ap, length, replicate, length-append, arith}
use Rattle.std.specs.Vec.Iter.{into_iter_items}
use Rattle.hg_life.specs.NodeView.{NodeView}
use Rattle.hg_world.specs.World.{Secrets, site_of}
use Rattle.hg_life.specs.Workers.{worker_limit}
use Rattle.hg_world.specs.Parts.{unfrozen}
use Rattle.hg_world.proofs.NewLaws.{moved}
use Rattle.hg_world.proofs.nodes.into_sites.Goals as goal

pub loop-node-preserved : goal.loop-node-preserved
loop-node-preserved c =
    let at = c.loop-node in
    let x = c.in-Some.node in
    let was = at.invariant in
    let steps : into_iter_items at.node-iterator ≡ x ∷ into_iter_items c.next.new.self = c.in-Some.ensures.steps.0 in
    let gone = c.in-Some.ensures.steps.1 in
    let short = ap length steps in
    let pushed = ap length c.push_reserved.ensures.items in
    let longer = length-append at.sites.items (site_of x (replicate worker_limit 0) ∷ []) in
    let same = c.push_reserved.ensures.capacity in
    record {
      moved = moved (λ (v : NodeView Secrets). site_of v (replicate worker_limit 0)) (into_iter_items at.node-iterator) (into_iter_items c.next.new.self) at.sites.items c.push_reserved.new.self.items (unfrozen c.args.nodes.items) x
          steps c.push_reserved.ensures.items was.moved;
      left = omega arith;
      room = omega arith;
    }
