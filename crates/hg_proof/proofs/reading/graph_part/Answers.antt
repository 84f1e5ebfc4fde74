use Rattle.hg_proof.specs.Want.{BeginsGraph, HasFirst}
use Rattle.hg_proof.proofs.WantLaws.{no_want, so_then}
use Rattle.hg_proof.proofs.reading.graph_part.Goals as goal

pub returns-in_err-count-clause-free : goal.returns-in_err-count-clause-free
returns-in_err-count-clause-free c = no_want c.in_err-count.field-0.0 _ c.from_residual.result c.from_residual.ensures.1

pub returns-clause-free : goal.returns-clause-free
returns-clause-free c =
    so_then c.events_part.result (HasFirst c.args.size c.in_ok-count.count c.in_ok-count.rest.now) (BeginsGraph c.args.size c.args.bytes.now)
    (λ first. record { count = (c.in_ok-count.count, c.in_ok-count.rest.now); counted = c.in_ok-count.ensures; first = first })
    c.events_part.ensures.free
