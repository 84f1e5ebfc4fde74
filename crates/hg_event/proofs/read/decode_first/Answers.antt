use Rattle.std.proofs.Common.{◌∙◌, sym, ap, arith}
use Rattle.hg_event.specs.First.{first_event, read_first}
use Rattle.hg_event.specs.View.{row_of}
use Rattle.hg_event.proofs.FrontLaws.{first_counted, first_found, is_first}
use Rattle.hg_event.proofs.Fronts.{first_again}
use Rattle.hg_event.proofs.read.decode_first.Goals as goal

pub returns-in_err-view-clause-only : goal.returns-in_err-view-clause-only
returns-in_err-view-clause-only c row event rest spells whole =
    let read = ap read_first whole ∙ first_again event rest row spells in
    let faulty = c.in_err-view.ensures in
    cc

pub returns-clause-found : goal.returns-clause-found
returns-clause-found c =
    (is_first c.args.bytes.now c.in_ok-view.rest.now (row_of c.in_ok-view.view) c.saturating_sub.result (λ i. omega (arith, c.type_inv.bytes i)) c.in_ok-view.ensures
    (omega (arith, c.saturating_sub.ensures))).spells

pub returns-clause-sized : goal.returns-clause-sized
returns-clause-sized c =
    (is_first c.args.bytes.now c.in_ok-view.rest.now (row_of c.in_ok-view.view) c.saturating_sub.result (λ i. omega (arith, c.type_inv.bytes i)) c.in_ok-view.ensures
    (omega (arith, c.saturating_sub.ensures))).sized

pub returns-clause-only : goal.returns-clause-only
returns-clause-only c row event rest spells whole =
    sym (ap first_event whole ∙ first_counted event rest row spells)
    ∙ first_found c.args.bytes.now c.in_ok-view.rest.now (row_of c.in_ok-view.view) c.saturating_sub.result c.in_ok-view.ensures (omega (arith, c.saturating_sub.ensures))
