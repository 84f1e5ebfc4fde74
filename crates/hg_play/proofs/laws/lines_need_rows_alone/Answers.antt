use Rattle.hg_play.proofs.LikeLaws.{stage_alike}
use Rattle.hg_play.proofs.laws.lines_need_rows_alone.Goals as goal

pub returns : goal.returns
returns c = stage_alike
