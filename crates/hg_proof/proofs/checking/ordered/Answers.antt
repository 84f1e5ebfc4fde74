use Rattle.std.proofs.Common.{◌≡◌, [], None, Err, length, ap, subst, arith}
use Rattle.hg_model.specs.Prefix.{Graph, graph_of}
use Rattle.hg_graph.specs.RowsWithRoom.{rows_of}
use Rattle.hg_proof.specs.Answers.{Comes, graph_and}
use Rattle.hg_proof.specs.Judging.{rows_why}
use Rattle.hg_proof.proofs.CheckLaws.{filled_ordered, stopped_rows, stopped_short}
use Rattle.hg_proof.proofs.FillLaws.{leaves_again, leaves_short, passed_front}
use Rattle.hg_proof.proofs.checking.ordered.Goals as goal

pub fill-requires : goal.fill-requires
fill-requires g c = omega (arith, c.requires.few, ap length c.requires.empty)

pub returns-in_err-fill-clause-order : goal.returns-in_err-fill-clause-order
returns-in_err-fill-clause-order g c =
    let accepts = g.V.Verifier.accepts c.args.keys.now in
    let old : Graph = c.args.graph.now.graph in
    let rows = rows_of c.args.events.now in
    let stop = c.in_err-fill.field-0.0 in
    let new = c.fill.new.graph.graph in
    let none : old ≡ graph_of old.members old.coin [] = ap (graph_of old.members old.coin) c.requires.empty in
    let comes = subst (λ (h : Graph). Comes {A = Unit {0}} (rows_why accepts h rows) (graph_and h rows) (Err stop) new) none c.in_err-fill.ensures.come in
    stopped_rows accepts old.members old.coin rows _ stop new new comes c.from_residual.result c.from_residual.ensures.1

pub order_in-requires : goal.order_in-requires
order_in-requires g c = c.len.ensures.lawful.graph

pub returns-in_err-order-clause-order : goal.returns-in_err-order-clause-order
returns-in_err-order-clause-order g c = stopped_short _ _ c.from_residual-in_err-order.result c.from_residual-in_err-order.ensures.1

pub returns-clause-order : goal.returns-clause-order
returns-clause-order g c =
    let accepts = g.V.Verifier.accepts c.args.keys.now in
    let old : Graph = c.args.graph.now.graph in
    let rows = rows_of c.args.events.now in
    let new = c.fill.new.graph.graph in
    let none : old ≡ graph_of old.members old.coin [] = ap (graph_of old.members old.coin) c.requires.empty in
    let came = subst (λ (h : Graph). (rows_why accepts h rows ≡ None) × (new ≡ graph_and h rows)) none c.in_ok-fill.ensures.come in
    filled_ordered accepts old.members old.coin rows new c.in_ok-order.order.items came.0 came.1 c.in_ok-order.ensures

pub returns-in_err-fill-clause-left : goal.returns-in_err-fill-clause-left
returns-in_err-fill-clause-left g c =
    leaves_again (g.V.Verifier.accepts c.args.keys.now) c.args.graph.now.graph (rows_of c.args.events.now) c.fill.new.graph.graph (Unit {0}) _
    c.in_err-fill.field-0.0 c.in_err-fill.ensures.left c.from_residual.result c.from_residual.ensures.1

pub returns-in_err-order-clause-left : goal.returns-in_err-order-clause-left
returns-in_err-order-clause-left g c =
    let accepts = g.V.Verifier.accepts c.args.keys.now in
    let old : Graph = c.args.graph.now.graph in
    let rows = rows_of c.args.events.now in
    let new = c.fill.new.graph.graph in
    leaves_short accepts old rows new (passed_front accepts old rows new c.in_ok-fill.ensures.left) c.from_residual-in_err-order.result c.from_residual-in_err-order.ensures.1
