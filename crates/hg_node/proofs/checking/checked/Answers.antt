use Rattle.std.proofs.Common.{Some, None, sym}
use Rattle.hg_event.specs.View.{row_of}
use Rattle.hg_node.proofs.CheckLaws.{errs, faulty, told}
use Rattle.hg_node.proofs.checking.checked.Goals as goal

pub returns-in-Err-clause-unfit : goal.returns-in-Err-clause-unfit
returns-in-Err-clause-unfit g c = faulty (g.V.Verifier.accepts c.args.keys.now) _ c.args.bytes.now c.in-Err.fault c.in-Err.ensures.exact

pub returns-in_err-event-in-Ok-signed_by_member-clause-free : goal.returns-in_err-event-in-Ok-signed_by_member-clause-free
returns-in_err-event-in-Ok-signed_by_member-clause-free g c =
    errs c.from_residual.result (sym (told (g.V.Verifier.accepts c.args.keys.now) _ c.args.bytes.now (row_of c.in-Ok.view) None c.in-Ok.ensures.exact c.in-Ok-signed_by_member.ensures.answer))

pub returns-in_err-new-in-Ok-signed_by_member-clause-free : goal.returns-in_err-new-in-Ok-signed_by_member-clause-free
returns-in_err-new-in-Ok-signed_by_member-clause-free g c =
    errs c.from_residual-in_err-new-in-Ok-signed_by_member.result
    (sym (told (g.V.Verifier.accepts c.args.keys.now) _ c.args.bytes.now (row_of c.in-Ok.view) None c.in-Ok.ensures.exact c.in-Ok-signed_by_member.ensures.answer))

pub returns-in-Err-signed_by_member-clause-unfit : goal.returns-in-Err-signed_by_member-clause-unfit
returns-in-Err-signed_by_member-clause-unfit g c =
    told (g.V.Verifier.accepts c.args.keys.now) _ c.args.bytes.now (row_of c.in-Ok.view) (Some c.in-Err-signed_by_member.answer) c.in-Ok.ensures.exact c.in-Err-signed_by_member.ensures.answer

pub returns-in_ok-new-in-Ok-signed_by_member-clause-unfit : goal.returns-in_ok-new-in-Ok-signed_by_member-clause-unfit
returns-in_ok-new-in-Ok-signed_by_member-clause-unfit g c =
    told (g.V.Verifier.accepts c.args.keys.now) _ c.args.bytes.now (row_of c.in-Ok.view) None c.in-Ok.ensures.exact c.in-Ok-signed_by_member.ensures.answer
