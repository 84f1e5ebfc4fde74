use Rattle.hg_play.specs.Play.{first_stage}
use Rattle.hg_play.proofs.WorldLaws.{lines-steps}
use Rattle.hg_play.proofs.laws.lines_are_steps.Goals as goal

pub returns : goal.returns
returns c = λ members lines. lines-steps members (first_stage members) lines
