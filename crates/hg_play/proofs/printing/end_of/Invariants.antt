use Rattle.std.proofs.Common.{◌<◌, ◌≤◌, ℕ, get_or}
use Rattle.hg_model.specs.declared.row.Placed.{Placed}
use Rattle.hg_play.proofs.printing.end_of.Given as goal

abbrev pub invariant-loop-placed : goal.invariant-loop-placed
invariant-loop-placed l = ((k : ℕ) (d : Placed) → k < l.placed-index → (get_or l.order k d).place < l.end) × (l.end ≤ l.len)
