use Rattle.std.proofs.Common.{◌≡◌, replicate, vec_capacity}
use Rattle.hg_order.specs.Timers.{unticked}
use Rattle.hg_order.proofs.memory.set_timers.Given as goal

abbrev pub invariant-loop : goal.invariant-loop
invariant-loop l = record {
  cleared : l.timers.items ≡ replicate l.counter (unticked l.need);
  room : vec_capacity l.timers ≡ vec_capacity l.fn.timers;
}
