use Rattle.std.proofs.Common.{◌≡◌, ◌∙◌, List, Err, ap₂, subst, arith}
use Rattle.hg_model.specs.declared.row.Placed.{Placed}
use Rattle.hg_model.specs.declared.row.Row.{Row}
use Rattle.hg_model.specs.Prefix.{Graph}
use Rattle.hg_graph.specs.RowsWithRoom.{rows_of}
use Rattle.hg_proof.specs.Answers.{Leaves, graph_passed}
use Rattle.hg_proof.specs.Judging.{difference_from, rows_in}
use Rattle.hg_proof.specs.Want.{IsBegun}
use Rattle.hg_proof.proofs.CheckLaws.{against_nothing, against_order, few_events, leaves_unread, rows_held, stopped_form, stopped_order}
use Rattle.hg_proof.proofs.FillLaws.{leaves_again}
use Rattle.hg_proof.proofs.WantLaws.{form_begun, so_anyhow, so_handed}
use Rattle.hg_proof.proofs.checking.judge.Goals as goal

pub returns-in_err-shown-clause-shown : goal.returns-in_err-shown-clause-shown
returns-in_err-shown-clause-shown g c =
    let old : Graph = c.args.graph.now.graph in
    stopped_form (g.V.Verifier.accepts c.args.keys.now) old.members old.coin c.args.bytes.now c.in_err-shown.field-0.0 c.in_err-shown.ensures.form c.from_residual.result c.from_residual.ensures.1

pub ordered-requires-clause-few : goal.ordered-requires-clause-few
ordered-requires-clause-few g c =
    few_events c.args.bytes.now c.in_ok-shown.shown c.events.result.now (λ i. omega (arith, c.type_inv.bytes i)) c.in_ok-shown.ensures.form c.events.ensures

pub returns-in_err-whole-clause-shown : goal.returns-in_err-whole-clause-shown
returns-in_err-whole-clause-shown g c =
    let old : Graph = c.args.graph.now.graph in
    stopped_order (g.V.Verifier.accepts c.args.keys.now) old.members old.coin c.args.bytes.now c.in_ok-shown.shown c.in_ok-shown.ensures.form (rows_of c.events.result.now) c.events.ensures
    {X = List Placed} (λ (x : List Placed). x) c.in_err-whole.field-0.0 c.in_err-whole.ensures.order c.from_residual-in_err-whole.result c.from_residual-in_err-whole.ensures.1

pub returns-in-Some-clause-shown : goal.returns-in-Some-clause-shown
returns-in-Some-clause-shown g c =
    let old : Graph = c.args.graph.now.graph in
    against_order (g.V.Verifier.accepts c.args.keys.now) old.members old.coin c.args.bytes.now c.in_ok-shown.shown c.in_ok-shown.ensures.form (rows_of c.events.result.now) c.events.ensures
    c.in_ok-whole.whole.items c.in-Some.place c.in_ok-whole.ensures.order
    (c.in-Some.ensures ∙ ap₂ (λ (ps qs : List Placed). difference_from 0 ps qs) c.order.ensures c.as_slice.ensures.value)

pub returns-in-None-clause-shown : goal.returns-in-None-clause-shown
returns-in-None-clause-shown g c =
    let old : Graph = c.args.graph.now.graph in
    against_nothing (g.V.Verifier.accepts c.args.keys.now) old.members old.coin c.args.bytes.now c.in_ok-shown.shown c.in_ok-shown.ensures.form (rows_of c.events.result.now) c.events.ensures
    c.in_ok-whole.whole.items c.in_ok-whole.ensures.order
    (c.in-None.ensures ∙ ap₂ (λ (ps qs : List Placed). difference_from 0 ps qs) c.order.ensures c.as_slice.ensures.value)

pub returns-in_err-shown-clause-left : goal.returns-in_err-shown-clause-left
returns-in_err-shown-clause-left g c =
    let old : Graph = c.args.graph.now.graph in
    leaves_unread (g.V.Verifier.accepts c.args.keys.now) old c.args.bytes.now c.requires c.in_err-shown.field-0.0 c.in_err-shown.ensures.form c.from_residual.result c.from_residual.ensures.1

pub returns-in_err-whole-clause-left : goal.returns-in_err-whole-clause-left
returns-in_err-whole-clause-left g c =
    let accepts = g.V.Verifier.accepts c.args.keys.now in
    let old : Graph = c.args.graph.now.graph in
    let new : Graph = c.ordered.new.graph.graph in
    let stop = c.in_err-whole.field-0.0 in
    let same = rows_held c.args.bytes.now c.in_ok-shown.shown (rows_of c.events.result.now) c.in_ok-shown.ensures.form c.events.ensures in
    leaves_again accepts old (rows_in c.args.bytes.now) new (Unit {0}) _ stop
    (subst (λ (rows : List Row). Leaves {A = Unit {0}} accepts old rows (Err stop) new) same c.in_err-whole.ensures.left)
    c.from_residual-in_err-whole.result c.from_residual-in_err-whole.ensures.1

pub returns-in-Some-clause-left : goal.returns-in-Some-clause-left
returns-in-Some-clause-left g c =
    let accepts = g.V.Verifier.accepts c.args.keys.now in
    let old : Graph = c.args.graph.now.graph in
    let new : Graph = c.ordered.new.graph.graph in
    let same = rows_held c.args.bytes.now c.in_ok-shown.shown (rows_of c.events.result.now) c.in_ok-shown.ensures.form c.events.ensures in
    subst (λ (rows : List Row). new ≡ graph_passed accepts old rows) same c.in_ok-whole.ensures.left

pub returns-in-None-clause-left : goal.returns-in-None-clause-left
returns-in-None-clause-left g c =
    let accepts = g.V.Verifier.accepts c.args.keys.now in
    let old : Graph = c.args.graph.now.graph in
    let new : Graph = c.ordered.new.graph.graph in
    let same = rows_held c.args.bytes.now c.in_ok-shown.shown (rows_of c.events.result.now) c.in_ok-shown.ensures.form c.events.ensures in
    subst (λ (rows : List Row). new ≡ graph_passed accepts old rows) same c.in_ok-whole.ensures.left

pub returns-in_err-shown-clause-free : goal.returns-in_err-shown-clause-free
returns-in_err-shown-clause-free g c =
    so_handed c.in_err-shown.field-0.0 (IsBegun c.args.bytes.now) (IsBegun c.args.bytes.now) (λ begun. begun)
    c.in_err-shown.ensures.free c.from_residual.result c.from_residual.ensures.1

pub returns-in_err-whole-clause-free : goal.returns-in_err-whole-clause-free
returns-in_err-whole-clause-free g c =
    so_anyhow c.from_residual-in_err-whole.result _ (form_begun c.args.bytes.now c.in_ok-shown.shown c.in_ok-shown.ensures.form)
