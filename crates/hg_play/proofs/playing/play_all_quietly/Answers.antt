use Rattle.std.proofs.Common.{List, subst, sym}
use Rattle.std.specs.Prelude.{All}
use Rattle.hg_script.specs.declared.line.Line.{Line}
use Rattle.hg_script.specs.Lawful.{IsLine}
use Rattle.hg_play.specs.Summaries.{IsWorldOf}
use Rattle.hg_play.proofs.LawfulLaws.{new_count}
use Rattle.hg_play.proofs.PlayLaws.{lines_below}
use Rattle.hg_play.proofs.QuietLaws.{played_quietly}
use Rattle.hg_play.proofs.playing.play_all_quietly.Goals as goal

pub play_all-requires-clause-lines : goal.play_all-requires-clause-lines
play_all-requires-clause-lines g c κs within =
    subst (All (IsLine c.args.game.now.members.now c.args.workers)) (sym c.as_slice.ensures.value) (subst (All (IsLine c.args.game.now.members.now c.args.workers)) (sym c.in_ok-all.ensures) c.requires.lines)

pub play_quietly-requires : goal.play_quietly-requires
play_quietly-requires g c =
    lines_below c.args.game.now.members.now c.args.workers _ (g.L.LineSource.rest c.args.lines.now) (new_count c.args.game.now.members.now c.in_ok-world-2.world c.in_ok-world-2.ensures) c.requires.lines

pub returns-clause-played : goal.returns-clause-played
returns-clause-played g c = played_quietly c.args.game.now.members.now (g.L.LineSource.rest c.args.lines.now) c.in_ok-world-2.world c.play_quietly.new.world c.in_ok-world-2.ensures c.in_ok-play_quietly.ensures
