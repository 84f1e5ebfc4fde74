use Rattle.std.proofs.Common.{◌≡◌}
use Rattle.register.specs.Play.{turned}
use Rattle.register.proofs.sync_each.Given as goal

abbrev pub invariant-loop-step : goal.invariant-loop-step
invariant-loop-step l = l.world ≡ turned l.initial.world l.step
