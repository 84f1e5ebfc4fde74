use Rattle.std.proofs.Common.{sym, subst}
use Rattle.hg_play.specs.Batch.{IsLineOfRows}
use Rattle.hg_play.proofs.BatchLaws.{plays_batch, plays_line}
use Rattle.hg_play.proofs.batch.play_next.Goals as goal

pub returns-in-Part : goal.returns-in-Part
returns-in-Part g c =
    plays_batch c.args.game.now.members.now c.args.lines.now c.split_at.result.1.now c.index-lines-from.result c.in-Part.field-0 c.args.from c.in_ok-world.count c.args.world c.in_ok-world.world
    c.args.tape c.in_ok-world.tape c.requires.from c.in-Part.is c.split_at.ensures.back c.split_at.ensures.back_len c.in_ok-world.ensures.batch c.in_ok-world.ensures.count c.in_ok-world.ensures.told

pub returns : goal.returns
returns g c =
    let line = c.index-lines-from-2.result in
    let of = subst IsLineOfRows (sym c.index-lines-from-2.is) (c.requires.rows c.args.from line c.requires.from) in
    plays_line c.args.game.now.members.now c.args.lines.now line c.args.from c.args.world c.play_line.new.world c.args.tape c.play_line.new.tape
    c.requires.from c.index-lines-from-2.is of c.play_line.ensures.kept.count c.in_ok-play_line.ensures.told
