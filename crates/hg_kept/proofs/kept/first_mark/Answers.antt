use Rattle.std.proofs.Common.{arith}
use Rattle.std.proofs.lemmas.Grind.{common_steps}
use Rattle.hg_kept.proofs.kept.first_mark.Goals as goal

pub returns-then-is_last_late : goal.returns-then-is_last_late
returns-then-is_last_late g c = grind (arith, common_steps)
