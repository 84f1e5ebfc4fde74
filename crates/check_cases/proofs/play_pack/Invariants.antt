use Rattle.std.proofs.Common.{◌≡◌}
use Rattle.check_cases.proofs.play_pack.Given as goal

abbrev pub invariant-loop-played : goal.invariant-loop-played
invariant-loop-played g l = l.score.differ ≡ 0 → l.fn.score.differ ≡ 0
