use Rattle.std.proofs.Common.{◌≡◌, ◌∙◌, List, ap, refl, subst}
use Rattle.hg_outcome.specs.Report.{report_text}
use Rattle.hg_script.specs.declared.line.Line.{Line}
use Rattle.hg_play.specs.Agree.{IsAgreed}
use Rattle.hg_play.specs.Play.{IsSafePlay, play}
use Rattle.hg_top.specs.declared.status.File.TheVariants as file
use Rattle.hg_top.specs.Course.{no_disk}
use Rattle.hg_top.specs.Commands.{IsReportOf, bad_script, lines_for, report_work}
use Rattle.hg_top.proofs.KeepLaws.{idle_none}
use Rattle.hg_top.proofs.WorkLaws.{takes_none, takes_on, wrote}
use Rattle.hg_top.proofs.top.run_script.Goals as goal

pub returns-in-Err-clause-ends : goal.returns-in-Err-clause-ends
returns-in-Err-clause-ends g c =
    takes_none g.F.Shelf g.K.Sink c.args.shelf.now c.lines_from.new.shelf c.args.out.now no_disk file.Script bad_script (lines_for c.args.members.now c.args.workers) c.args.script.now
    (report_work c.args.members.now) c.in-Err.stop idle_none c.in-Err.ensures.err

pub returns-in-Ok-play-clause-ends : goal.returns-in-Ok-play-clause-ends
returns-in-Ok-play-clause-ends g c =
    let K = g.K.Sink in
    let members = c.args.members.now in
    let lines : List Line = c.in-Ok.lines in
    let same : c.as_slice.result.now ≡ lines = c.as_slice.ensures in
    let text = report_text c.in-Ok-play.outcome in
    let report : IsReportOf members lines text = record {
      is = ap report_text (c.in-Ok-play.ensures.outcome ∙ ap (play members) same);
      safe = subst (IsSafePlay members) same c.in-Ok-play.ensures.safe;
      agreed = subst (IsAgreed members) same c.in-Ok-play.ensures.agree;
    } in
    takes_on g.F.Shelf K c.args.shelf.now c.lines_from.new.shelf c.lines_from.new.shelf c.args.out.now c.text_of.new.sink
    no_disk file.Script bad_script (lines_for members c.args.workers) c.args.script.now (report_work members) lines c.status_of.result
    c.in-Ok.ensures.ok c.lines_from.ensures.starts
    (refl, rw c.status_of.ensures (wrote K c.args.out.now c.text_of.new.sink (IsReportOf members lines) text c.text_of.result report c.text_of.ensures), idle_none)
