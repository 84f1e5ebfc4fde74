use Rattle.std.proofs.Common.{◌≡◌, ◌<◌, ℕ, take, length, map, get_or}
use Rattle.hg_order.specs.Round.{placed_below, IsWide}
use Rattle.hg_order.proofs.placing.place_by_lines.Given as goal

abbrev pub invariant-loop-i : goal.invariant-loop-i
invariant-loop-i g l = let graph = g.P.Prefix.graph l.p in record {
  done : take l.i l.out ≡ map (placed_below graph l.famous l.round) (take l.i l.fresh);
  wide : (k : ℕ) → k < l.i → IsWide graph.rows (get_or l.fresh k 0);
  long : length l.out ≡ length l.fresh;
}
