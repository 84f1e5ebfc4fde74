use Rattle.hg_play.proofs.BatchLaws.{in_none}
use Rattle.hg_play.proofs.batch.play_batches.Goals as goal

pub batches-init : goal.batches-init
batches-init g c =
    in_none c.args.game.now.members.now c.args.lines.now c.args.world c.new-tape.result c.requires.world c.new-tape.ensures
