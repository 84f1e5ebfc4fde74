use Rattle.hg_play.proofs.BatchLaws.{played_by_one}
use Rattle.hg_play.proofs.playing.play_all.Goals as goal

pub returns-clause-played : goal.returns-clause-played
returns-clause-played g c =
    played_by_one c.args.game.now.members.now c.args.lines.now c.in_ok-world.world c.play_lines.new.world c.in_ok-tape.tape.printed c.in_ok-world.ensures c.in_ok-tape.ensures.told
