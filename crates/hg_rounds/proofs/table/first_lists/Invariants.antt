use Rattle.std.proofs.Common.{◌≡◌, ◌<◌, ℕ, length}
use Rattle.hg_rounds.specs.Cut.{IsCut}
use Rattle.hg_rounds.specs.Tabled.{list_at}
use Rattle.hg_rounds.proofs.table.first_lists.Given as goal

abbrev pub invariant-loop-list : goal.invariant-loop-list
invariant-loop-list l = (length l.first.items ≡ l.list-index) × ((r : ℕ) → r < l.list-index → IsCut (list_at l.lists r) l.len (list_at l.first.items r))
