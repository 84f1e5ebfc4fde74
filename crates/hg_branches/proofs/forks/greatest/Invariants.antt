use Rattle.std.proofs.Common.{◌≡◌, max, take}
use Rattle.hg_branches.specs.Branches.{greatest_count}
use Rattle.hg_branches.specs.Columns.{count_in}
use Rattle.hg_branches.proofs.forks.greatest.Given as goal

abbrev pub invariant-loop-row : goal.invariant-loop-row
invariant-loop-row l = l.most ≡ max l.number (greatest_count (count_in l.counts.rows) (take l.row-index l.rows) l.b)
