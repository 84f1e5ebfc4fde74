use Rattle.std.proofs.Common.{◌≡◌, ◌-◌}
use Rattle.hg_answering.specs.Telling.{ordered_events, window}
use Rattle.hg_answering.proofs.ordering.ordered_between.Given as goal

abbrev pub invariant-loop-i : goal.invariant-loop-i
invariant-loop-i g l = l.events.items ≡ window l.start (l.i - l.start) (ordered_events l.node)
