use Rattle.std.proofs.Common.{arith}
use Rattle.hg_proof.proofs.WriteLaws.{rows_more}
use Rattle.hg_proof.proofs.writing.push_rows.Goals as goal

pub loop-place-preserved : goal.loop-place-preserved
loop-place-preserved c =
    rows_more c.args.bytes.now.items c.loop-place.bytes.items _ c.bytes.result.now c.args.graph.now.graph.rows c.loop-place.place (omega arith)
    c.bytes.ensures c.in_ok-extend_from_slice.ensures.items c.loop-place.invariant
