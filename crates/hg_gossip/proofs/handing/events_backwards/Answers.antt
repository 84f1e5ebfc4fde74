use Rattle.std.proofs.Common.{rules, ◌≡◌, ◌+◌, ◌-◌, ◌<◌, ◌∙◌, ap, arith, drop, get_or, length, slice_get, Some}
use Rattle.std.specs.Prelude.{reverse}
use Rattle.hg_life.specs.NodeView.{node_rows}
use Rattle.hg_gossip.specs.Handing.{rows_at}
use Rattle.hg_gossip.proofs.HandLaws.{events_more}
use Rattle.hg_gossip.proofs.handing.events_backwards.Goals as goal

pub events-preserved : goal.events-preserved
events-preserved g c =
    let k = c.events.left - 1 in
    let back : c.events.left ≡ k + 1 = omega (arith, c.events-test.true) in
    let inside : k < length c.args.places.now = omega (arith, c.events.invariant.0, c.events-test.true) in
    let at : slice_get (node_rows c.args.node.now) (get_or c.args.places.now k 0) ≡ Some c.in_ok-event_at.field-0.value = search rules in (
      omega (arith, inside),
      events_more (node_rows c.args.node.now) c.args.places.now k c.events.events.items c.push.new.self.items c.in_ok-event_at.field-0 inside at
          (c.events.invariant.1 ∙ ap (λ n. reverse (rows_at (node_rows c.args.node.now) (drop n c.args.places.now))) back) c.in_ok-push.ensures.items,
    )
