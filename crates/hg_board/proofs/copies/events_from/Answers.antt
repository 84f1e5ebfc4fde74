use Rattle.std.proofs.Common.{arith}
use Rattle.std.proofs.lemmas.Grind.{common_steps}
use Rattle.hg_life.specs.NodeView.{node_rows}
use Rattle.hg_board.proofs.CopyLaws.{copied_more}
use Rattle.hg_board.proofs.copies.events_from.Goals as goal

pub loop-place-init : goal.loop-place-init
loop-place-init g c = grind (arith, common_steps)

pub loop-place-preserved : goal.loop-place-preserved
loop-place-preserved g c =
    copied_more (node_rows c.args.node.now) c.loop-place.place c.loop-place.events.items _ _ _ c.in_ok-event_at.ensures c.in_ok-push.ensures.items c.loop-place.invariant
