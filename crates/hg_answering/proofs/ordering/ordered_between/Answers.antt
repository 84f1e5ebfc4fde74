use Rattle.std.proofs.Common.{◌+◌, ◌-◌, ◌≡◌, ◌∙◌, ap, ap₂, arith, length, map, sym, List}
use Rattle.std.specs.List.{zip}
use Rattle.std.proofs.lemmas.List.FromFn.{length-map-range_with_len}
use Rattle.hg_model.specs.Links.{links}
use Rattle.hg_model.specs.Order.{sequence_of}
use Rattle.hg_model.specs.declared.row.Placed.{Placed}
use Rattle.hg_life.specs.NodeView.{node_rows}
use Rattle.hg_life.specs.declared.pay.Effect.{Effect}
use Rattle.hg_answering.specs.Telling.{ordered_event, ordered_events, window}
use Rattle.hg_answering.proofs.OrderLaws.{each_ordered, ordered_next}
use Rattle.hg_answering.proofs.ordering.ordered_between.Goals as goal

pub ordered_event-requires-clause-counted : goal.ordered_event-requires-clause-counted
ordered_event-requires-clause-counted g c =
    let G = node_rows c.args.node.now in
    let long = ap length c.requires.sequences ∙ length-map-range_with_len (sequence_of (links G)) 0 (length G) in
    let place = c.kept-order.ensures.places c.loop-i.i (record { place = 0; received = 0; time = 0 })
    (omega (arith, c.requires.within, c.loop-i-test.true, ap length c.kept-order.ensures.order)) in
    omega (arith, long, place)

pub loop-i-preserved : goal.loop-i-preserved
loop-i-preserved g c =
    let G = node_rows c.args.node.now in
    let same : map (ordered_event G (links G)) (zip c.kept-order.result.now c.effects-effects.result.now) ≡ ordered_events c.args.node.now =
    ap₂ (λ (order : List Placed) (effects : List Effect). map (ordered_event G (links G)) (zip order effects)) c.kept-order.ensures.order c.effects-effects.ensures.effects in
    let even = c.effects-effects.ensures.each ∙ sym (ap length c.kept-order.ensures.order) in
    ordered_next G c.kept-order.result.now c.effects-effects.result.now c.args.start c.loop-i.i _ _ c.in_ok-ordered_event.field-0 c.loop-i.events.items c.push.new.self.items
    c.loop-i.auto.i (omega (arith, c.requires.within, c.loop-i-test.true, ap length c.kept-order.ensures.order)) even c.in_ok-ordered_event.ensures
    (c.loop-i.invariant ∙ ap (window c.args.start (c.loop-i.i - c.args.start)) (sym same)) c.in_ok-push.ensures.items
    ∙ ap (window c.args.start (c.loop-i.i + 1 - c.args.start)) same

pub returns-clause-each : goal.returns-clause-each
returns-clause-each g c =
    let G = node_rows c.args.node.now in
    let same : map (ordered_event G (links G)) (zip c.kept-order.result.now c.effects-effects.result.now) ≡ ordered_events c.args.node.now =
    ap₂ (λ (order : List Placed) (effects : List Effect). map (ordered_event G (links G)) (zip order effects)) c.kept-order.ensures.order c.effects-effects.ensures.effects in
    let even = c.effects-effects.ensures.each ∙ sym (ap length c.kept-order.ensures.order) in
    sym (ap length same) ∙ (each_ordered G c.kept-order.result.now c.effects-effects.result.now even ∙ ap length c.kept-order.ensures.order)
