use Rattle.std.proofs.Common.{◌≡◌, replicate, vec_capacity}
use Rattle.hg_order.proofs.sweep.Lanes.clear.Given as goal

abbrev pub invariant-loop : goal.invariant-loop
invariant-loop l = record {
  last : l.self.last.items ≡ replicate l.counter (replicate 128 0);
  next : l.self.next ≡ replicate 128 0;
  above : l.self.above ≡ replicate 128 0;
  room : vec_capacity l.self.last ≡ vec_capacity l.fn.self.last;
}
