use Rattle.std.proofs.Common.{arith}
use Rattle.hg_graph.specs.Held.{graph_with}
use Rattle.hg_graph.specs.RowsWithRoom.{rows_of}
use Rattle.hg_proof.specs.Judging.{next_why, rows_why}
use Rattle.hg_proof.proofs.FillLaws.{ended, filled_end, filled_left, filled_length, filled_next, filled_passed, filled_start, filled_stop}
use Rattle.hg_proof.proofs.filling.fill.Goals as goal

pub loop-event-init : goal.loop-event-init
loop-event-init g c = filled_start (g.V.Verifier.accepts c.args.keys.now) c.args.graph.now.graph c.args.events.now

pub add_next-requires : goal.add_next-requires
add_next-requires g c =
    let long = filled_length (g.V.Verifier.accepts c.args.keys.now) c.args.graph.now.graph c.args.events.now c.loop-event.event-index c.loop-event.graph.graph (omega arith) c.loop-event.invariant in
    omega (arith, long, c.requires)

pub returns-in_err-add_next-clause-come : goal.returns-in_err-add_next-clause-come
returns-in_err-add_next-clause-come g c =
    let accepts = g.V.Verifier.accepts c.args.keys.now in
    let start = c.args.graph.now.graph in
    let event = c.event-item.result in
    ended (Unit {0}) (next_why accepts c.loop-event.graph.graph event.value) (rows_why accepts start (rows_of c.args.events.now)) (graph_with c.loop-event.graph.graph event.value) _ c.add_next.new.graph.graph _ c.in_err-add_next.field-0.0
    (filled_stop accepts start c.args.events.now c.loop-event.event-index c.loop-event.graph.graph event (omega arith) c.event-item.is c.loop-event.invariant)
    c.in_err-add_next.ensures.comes c.from_residual.result c.from_residual.ensures.1

pub returns-in_err-add_next-clause-left : goal.returns-in_err-add_next-clause-left
returns-in_err-add_next-clause-left g c =
    let accepts = g.V.Verifier.accepts c.args.keys.now in
    let before = c.loop-event.graph.graph in
    let event = c.event-item.result in
    filled_left accepts c.args.graph.now.graph c.args.events.now c.loop-event.event-index before event (omega arith) c.event-item.is c.loop-event.invariant
    (Unit {0}) (Unit {0}) (graph_with before event.value) c.add_next.new.graph.graph c.in_err-add_next.field-0.0 c.in_err-add_next.ensures.comes c.in_err-add_next.ensures.err
    c.from_residual.result c.from_residual.ensures.1

pub loop-event-preserved : goal.loop-event-preserved
loop-event-preserved g c =
    filled_next (g.V.Verifier.accepts c.args.keys.now) c.args.graph.now.graph c.args.events.now c.loop-event.event-index c.loop-event.graph.graph c.event-item.result
    (omega arith) c.event-item.is c.loop-event.invariant c.add_next.new.graph.graph c.in_ok-add_next.ensures.comes.0 c.in_ok-add_next.ensures.comes.1

pub returns-clause-come : goal.returns-clause-come
returns-clause-come g c =
    filled_end (g.V.Verifier.accepts c.args.keys.now) c.args.graph.now.graph c.args.events.now c.loop-event.event-index c.loop-event.graph.graph (omega arith) c.loop-event.invariant

pub returns-clause-left : goal.returns-clause-left
returns-clause-left g c =
    filled_passed (g.V.Verifier.accepts c.args.keys.now) c.args.graph.now.graph c.args.events.now c.loop-event.event-index c.loop-event.graph.graph (omega arith) c.loop-event.invariant
