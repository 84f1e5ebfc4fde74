use Rattle.std.proofs.Common.{[], get_or, ap₂, List, ℕ}
use Rattle.hg_model.specs.Counts.{numbers_of}
use Rattle.hg_branches.proofs.RowLaws.{joined_is}
use Rattle.hg_branches.proofs.counts.row_of.Goals as goal

pub returns : goal.returns
returns c =
    ap₂ (λ (members : ℕ) (row : List ℕ). record { members = members; row = row }) c.own.ensures.len
    (joined_is (numbers_of c.own.result) c.tail.result.numbers.now c.tail.result.own c.tail.result.end c.args.table.now.members (get_or c.args.table.now.rows c.args.x [])
    c.own.ensures.value c.own.ensures.len c.tail.ensures)
