use Rattle.std.proofs.Common.{◌≡◌, ◌++◌, map, Ok}
use Rattle.hg_storm.proofs.joining.all_of.Given as goal

abbrev pub invariant-each : goal.invariant-each
invariant-each l = map Ok l.jobs.items ++ l.one-iterator.rest.items ≡ l.fn.ended.items
