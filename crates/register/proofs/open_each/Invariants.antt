use Rattle.std.proofs.Common.{◌≡◌}
use Rattle.register.specs.Play.{opened}
use Rattle.register.proofs.open_each.Given as goal

abbrev pub invariant-loop-number : goal.invariant-loop-number
invariant-loop-number l = l.world ≡ opened l.initial.world l.number
