use Rattle.std.proofs.Common.{◌≡◌}
use Rattle.check_graphs.specs.Made.{made_entries}
use Rattle.check_graphs.proofs.plan.members_of.Given as goal

abbrev pub invariant-loop-number : goal.invariant-loop-number
invariant-loop-number l = l.entries.items ≡ made_entries l.weighed l.number
