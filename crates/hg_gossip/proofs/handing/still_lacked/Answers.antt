use Rattle.std.proofs.Common.{arith, ap, ◌∙◌}
use Rattle.std.proofs.lemmas.List.{take_all}
use Rattle.hg_model.specs.Held.{lacking}
use Rattle.hg_life.specs.NodeView.{node_rows}
use Rattle.hg_graph.specs.RowsWithRoom.{rows_of}
use Rattle.hg_gossip.proofs.HandLaws.{lacks_more}
use Rattle.hg_gossip.proofs.handing.still_lacked.Goals as goal

pub loop-event-preserved : goal.loop-event-preserved
loop-event-preserved g c =
    lacks_more (node_rows c.args.taker.now) c.args.events.now c.loop-event.event-index c.event-item.result (rows_of c.loop-event.lacked.items) _ (omega arith) c.event-item.is c.loop-event.invariant c.in_ok-push_unless_taken.ensures

pub returns : goal.returns
returns g c = c.loop-event.invariant ∙ ap (λ events. lacking (node_rows c.args.taker.now) (rows_of events)) (take_all c.loop-event.event-index c.args.events.now (omega arith))
