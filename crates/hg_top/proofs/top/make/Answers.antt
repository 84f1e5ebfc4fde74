use Rattle.std.proofs.Common.{◌≡◌, ◌∙◌, List, ap, ap₂, subst}
use Rattle.hg_life.specs.Members.{MemberList}
use Rattle.hg_made.specs.Made.{lines_to_come}
use Rattle.hg_script.specs.declared.line.Line.{Line}
use Rattle.hg_play.specs.Play.{IsSafePlay, summary}
use Rattle.hg_report.specs.Summary.{summary_text, told_text}
use Rattle.hg_command.specs.Asked.{made_run}
use Rattle.hg_top.specs.Commands.{IsSummaryOf, made_by}
use Rattle.hg_top.proofs.WorkLaws.{wrote}
use Rattle.hg_top.proofs.top.make.Goals as goal

pub summary-requires-clause-lines : goal.summary-requires-clause-lines
summary-requires-clause-lines g c = λ ks bounds. c.in-Ok.ensures.lawful c.args.asked.now.workers

pub returns-in-Ok-summary : goal.returns-in-Ok-summary
returns-in-Ok-summary g c =
    let m = made_run c.args.asked.now in
    let list : c.in-Ok.made.0 ≡ (made_by m).0 = ap (λ (p : MemberList × List Line). p.0) c.in-Ok.ensures.made in
    let lines : lines_to_come c.in-Ok.made.1 ≡ (made_by m).1 = ap (λ (p : MemberList × List Line). p.1) c.in-Ok.ensures.made in
    let text = told_text c.in-Ok-summary.summary in
    let is : IsSummaryOf m text = record {
      is = ap told_text c.in-Ok-summary.ensures.outcome ∙ ap summary_text (ap₂ summary list lines);
      safe = subst (λ (l : MemberList). IsSafePlay l (made_by m).1) list (subst (IsSafePlay c.in-Ok.made.0) lines c.in-Ok-summary.ensures.safe);
    } in
    rw c.status_of-status.ensures (wrote g.K.Sink c.args.out.now c.summary_of.new.sink (IsSummaryOf m) text c.summary_of.result is c.summary_of.ensures)
