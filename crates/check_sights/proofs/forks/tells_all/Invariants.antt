use Rattle.std.proofs.Common.{◌≡◌}
use Rattle.hg_forks.specs.SelfLinks.{self_shape}
use Rattle.check_sights.proofs.forks.tells_all.Given as goal

abbrev pub invariant-loop-x : goal.invariant-loop-x
invariant-loop-x g l = l.watch.shape ≡ self_shape l.sight.shape
