use Rattle.std.proofs.Common.{◌≡◌, ◌<◌, ℕ, take, length, map, get_or}
use Rattle.hg_order.specs.Round.{IsWide}
use Rattle.hg_order.specs.Timers.{placed_with}
use Rattle.hg_order.proofs.placing.place_timed.Given as goal

abbrev pub invariant-loop-i : goal.invariant-loop-i
invariant-loop-i g l = record {
  done : take l.i l.out ≡ map (placed_with l.low l.round l.timers) (take l.i l.fresh);
  wide : (k : ℕ) → k < l.i → IsWide (g.P.Prefix.graph l.p).rows (get_or l.fresh k 0);
  long : length l.out ≡ length l.fresh;
}
