use Rattle.std.proofs.Common.{◌-◌, ◌∙◌, ap, length, sym}
use Rattle.hg_made.specs.Made.{MadeView, lines_to_come}
use Rattle.hg_made.proofs.MadeLaws.{length_from}
use Rattle.hg_made.proofs.lines.MadeLinesLineSource.left.Goals as goal

pub returns : goal.returns
returns c =
    let s = c.self.inside in
    sym (length_from s.members s.draws s.made (s.count - s.made)) ∙ ap (λ (v : MadeView). length (lines_to_come v)) c.self.view_is
