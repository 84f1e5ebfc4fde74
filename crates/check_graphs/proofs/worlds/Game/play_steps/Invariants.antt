use Rattle.std.proofs.Common.{◌≡◌}
use Rattle.check_graphs.proofs.worlds.Game.play_steps.Given as goal

abbrev pub invariant-loop-step : goal.invariant-loop-step
invariant-loop-step l = l.compared.score.differ ≡ 0 → l.fn.compared.score.differ ≡ 0
