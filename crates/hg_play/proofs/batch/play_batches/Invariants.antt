use Rattle.std.proofs.Common.{◌-◌, length}
use Rattle.hg_play.proofs.BatchLaws.{InBatches}
use Rattle.hg_play.proofs.batch.play_batches.Given as goal

abbrev pub invariant-batches : goal.invariant-batches
invariant-batches g l = InBatches l.fn.game.members.now l.fn.lines l.fn.world l.world l.tape l.next

abbrev pub decreases-batches : goal.decreases-batches
decreases-batches g l = length l.fn.lines - l.next
