use Rattle.std.proofs.Common.{◌≡◌, true, take}
use Rattle.std.specs.List.{list_all}
use Rattle.hg_branches.specs.Table.{is_own_row}
use Rattle.hg_branches.proofs.forks.are_own.Given as goal

abbrev pub invariant-loop-row : goal.invariant-loop-row
invariant-loop-row l = list_all (is_own_row l.counts) (take l.row-index l.rows) ≡ true
