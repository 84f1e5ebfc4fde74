use Rattle.std.proofs.Common.{length, refl}
use Rattle.hg_proof.specs.Want.{BeginsGraph, IsBegun}
use Rattle.hg_proof.proofs.WantLaws.{begun_at, graph_begun, no_want, so_anyhow, so_handed}
use Rattle.hg_proof.proofs.reading.form_of.Goals as goal

pub returns-in_err-rest-clause-free : goal.returns-in_err-rest-clause-free
returns-in_err-rest-clause-free c = no_want c.in_err-rest.field-0.0 _ c.from_residual.result c.from_residual.ensures.1

pub returns-in_err-events-clause-free : goal.returns-in_err-events-clause-free
returns-in_err-events-clause-free c =
    so_handed c.in_err-events.field-0.0 (BeginsGraph (length c.args.bytes.now) c.in_ok-rest.rest.now) (IsBegun c.args.bytes.now)
    (begun_at (length c.args.bytes.now) c.args.bytes.now c.in_ok-rest.rest.now refl c.in_ok-rest.ensures)
    c.in_err-events.ensures.free c.from_residual-in_err-events.result c.from_residual-in_err-events.ensures.1

pub returns-in_err-order-clause-free : goal.returns-in_err-order-clause-free
returns-in_err-order-clause-free c =
    so_anyhow c.from_residual-in_err-order.result _
    (begun_at (length c.args.bytes.now) c.args.bytes.now c.in_ok-rest.rest.now refl c.in_ok-rest.ensures
    (graph_begun (length c.args.bytes.now) c.in_ok-rest.rest.now _ c.in_ok-events.ensures.part))
