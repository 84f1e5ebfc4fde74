use Rattle.std.proofs.Common.{◌∙◌, ◌+◌, ap, arith, min}
use Rattle.hg_life.specs.NodeView.{node_rows}
use Rattle.hg_board.proofs.CopyLaws.{bytes_more, most_of}
use Rattle.hg_board.proofs.copies.bytes_from.Goals as goal

pub loop-place-init : goal.loop-place-init
loop-place-init g c =
    rw (c.new-rows.ensures.items) (most_of (node_rows c.args.node.now) c.args.from c.args.most c.end_of-end.result
    (c.end_of-end.ensures ∙ ap (λ n. min n (c.args.from + c.args.most)) c.rows.ensures))

pub loop-place-preserved : goal.loop-place-preserved
loop-place-preserved g c =
    bytes_more (node_rows c.args.node.now) c.loop-place.place c.end_of-end.result c.loop-place.rows.items _ _ (omega arith) (omega (arith, c.end_of-end.ensures)) c.in_ok-push_bytes.ensures c.loop-place.invariant
