use Rattle.std.proofs.Common.{List, subst}
use Rattle.std.proofs.lemmas.List.{take_all}
use Rattle.hg_script.specs.declared.line.Line.{Line}
use Rattle.hg_play.specs.Lines.{IsLineBelow}
use Rattle.hg_play.specs.Nodes.{seen_alone}
use Rattle.hg_play.specs.Tape.{no_tape}
use Rattle.hg_play.specs.Through.{MatchesParts}
use Rattle.hg_play.proofs.NodesLaws.{kept_both, kept_same, lines_still, lines_told, parts_more, parts_none}
use Rattle.hg_play.proofs.lines.play_lines.Goals as goal

pub loop-line-init : goal.loop-line-init
loop-line-init c = record {
  kept = kept_same (seen_alone c.args.world.now);
  told = parts_none c.args.game.now.members.now (seen_alone c.args.world.now) no_tape c.new-tape.result c.new-tape.ensures;
}

pub play_line-requires : goal.play_line-requires
play_line-requires c =
    lines_still IsLineBelow (seen_alone c.args.world.now) (seen_alone c.loop-line.world) c.loop-line.invariant.kept c.args.lines.now c.loop-line.line-index c.line-item.result c.loop-line-test.true c.line-item.is c.requires

pub loop-line-preserved : goal.loop-line-preserved
loop-line-preserved c = record {
  kept = kept_both c.loop-line.invariant.kept c.play_line.ensures.kept;
  told = parts_more (seen_alone c.args.world.now) (seen_alone c.loop-line.world) (seen_alone c.play_line.new.world) c.args.game.now.members.now c.args.lines.now c.loop-line.line-index c.line-item.result
      no_tape c.loop-line.tape c.play_line.new.tape c.loop-line-test.true c.line-item.is c.play_line.ensures.kept.back c.loop-line.invariant.told c.in_ok-play_line.ensures.told;
}

pub returns-clause-told : goal.returns-clause-told
returns-clause-told c =
    let at = seen_alone c.args.world.now in
    let now = seen_alone c.loop-line.world in
    lines_told at now c.args.game.now.members.now c.args.lines.now c.loop-line.tape
    (subst (λ (ls : List Line). MatchesParts c.args.game.now.members.now ls at no_tape now c.loop-line.tape)
    (take_all c.loop-line.line-index c.args.lines.now c.loop-line-test.false) c.loop-line.invariant.told)
