use Rattle.std.proofs.Common.{◌≡◌, take, length}
use Rattle.hg_order.specs.Famous.{times_of}
use Rattle.hg_order.proofs.lines.list_times.Given as goal

abbrev pub invariant-loop-i : goal.invariant-loop-i
invariant-loop-i g l = record {
  done : take l.i l.times ≡ times_of (g.P.Prefix.graph l.p).rows (g.P.Sight.shape l.p).links l.x (take l.i l.places);
  long : length l.times ≡ length l.places;
}
