use Rattle.std.proofs.Common.{◌≡◌, ◌∙◌, ◌+◌, ◌<◌, List, ℕ, ap, arith, length, refl, subst, sym}
use Rattle.hg_script.specs.declared.line.Line.{Line}
use Rattle.hg_play.specs.Lines.{IsLineBelow}
use Rattle.hg_play.specs.Nodes.{seen_alone}
use Rattle.hg_play.specs.Tape.{TapeView}
use Rattle.hg_play.proofs.NodesLaws.{kept_both, kept_same, lines_still}
use Rattle.hg_play.proofs.QuietLaws.{QuietSoFar, first_is, others_are, quiet_more, quiet_none, some_left}
use Rattle.hg_play.proofs.lines.play_quietly.Goals as goal

pub loop-init : goal.loop-init
loop-init g c =
    let R = g.L.LineSource.rest c.args.lines.now in
    let w = c.args.world.now in
    record {
      kept = kept_same (seen_alone w);
      rest = refl;
      count = c.left-count.ensures;
      silent = ap (λ (t : TapeView). t.printed) c.new-tape.ensures;
      told = subst (λ (labels : List (List ℕ)). QuietSoFar c.args.game.now.members.now R 0 w w labels) (sym (ap (λ (t : TapeView). t.labels) c.new-tape.ensures)) (quiet_none c.args.game.now.members.now R w);
    }

pub next_line-requires : goal.next_line-requires
next_line-requires g c =
    let R = g.L.LineSource.rest c.args.lines.now in
    let i = c.loop.counter in
    let low : i < length R = omega (arith, c.loop.invariant.count, c.loop-test.true) in
    some_left R (g.L.LineSource.rest c.loop.lines) i (record { number = 0; action = Rattle.hg_script.specs.declared.line.Action.TheVariants.Kept 0 }) c.loop.invariant.rest low

pub play_line-requires : goal.play_line-requires
play_line-requires g c =
    let R = g.L.LineSource.rest c.args.lines.now in
    let i = c.loop.counter in
    let line : Line = c.in_ok-line.line in
    let low : i < length R = omega (arith, c.loop.invariant.count, c.loop-test.true) in
    lines_still IsLineBelow (seen_alone c.args.world.now) (seen_alone c.loop.world) c.loop.invariant.kept R i line low
    (first_is R (g.L.LineSource.rest c.loop.lines) (g.L.LineSource.rest c.next_line.new.self) i line c.loop.invariant.rest low c.in_ok-line.ensures) c.requires

pub loop-preserved : goal.loop-preserved
loop-preserved g c =
    let R = g.L.LineSource.rest c.args.lines.now in
    let i = c.loop.counter in
    let line : Line = c.in_ok-line.line in
    let members = c.args.game.now.members.now in
    let w = c.args.world.now in
    let low : i < length R = omega (arith, c.loop.invariant.count, c.loop-test.true) in
    let is = first_is R (g.L.LineSource.rest c.loop.lines) (g.L.LineSource.rest c.next_line.new.self) i line c.loop.invariant.rest low c.in_ok-line.ensures in
    let told = quiet_more members R i line w c.loop.world c.play_line.new.world c.loop.tape c.play_line.new.tape low is c.loop.invariant.silent c.loop.invariant.told c.in_ok-play_line.ensures.told in
    record {
      kept = kept_both c.loop.invariant.kept c.play_line.ensures.kept;
      rest = others_are R (g.L.LineSource.rest c.loop.lines) (g.L.LineSource.rest c.next_line.new.self) i line c.loop.invariant.rest low c.in_ok-line.ensures;
      count = c.loop.invariant.count;
      silent = ap (λ (t : TapeView). t.printed) c.clear.ensures;
      told = subst (λ (labels : List (List ℕ)). QuietSoFar members R (i + 1) w c.play_line.new.world labels) (sym (ap (λ (t : TapeView). t.labels) c.clear.ensures)) told;
    }
