use Rattle.std.proofs.Common.{◌≡◌, ◌∙◌, List, ap, ap₂, sym, subst}
use Rattle.std.specs.Prelude.{All}
use Rattle.hg_life.specs.Members.{MemberList}
use Rattle.hg_script.specs.declared.line.Line.{Line}
use Rattle.hg_script.specs.Lawful.{IsLine}
use Rattle.hg_made.specs.Made.{MadeView, first_lines, generate, lines_to_come, made_members}
use Rattle.hg_made.proofs.MadeLaws.{all_made, lines_lawful}
use Rattle.hg_made.proofs.making.generate.Goals as goal

pub returns-clause-made : goal.returns-clause-made
unfolding generate
returns-clause-made c =
    ap₂ (λ (members : MemberList) (lines : List Line). (members, lines)) c.in_ok-list.ensures
    (ap lines_to_come c.new-lines.ensures ∙ all_made c.args.seed c.args.members c.args.lines)

pub returns-clause-lawful : goal.returns-clause-lawful
returns-clause-lawful c = λ workers.
    let is = ap lines_to_come c.new-lines.ensures ∙ all_made c.args.seed c.args.members c.args.lines in
    subst (λ (members : MemberList). All (IsLine members workers) (lines_to_come c.new-lines.result)) (sym c.in_ok-list.ensures)
    (subst (All (IsLine (made_members c.args.seed c.args.members) workers)) (sym is) (lines_lawful c.args.seed c.args.members workers c.args.lines c.requires.some))
