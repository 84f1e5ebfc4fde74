use Rattle.hg_rounds.proofs.ByRowLaws.{by_row}
use Rattle.hg_rounds.proofs.laws.rounds_are_found_row_by_row.Goals as goal

pub returns : goal.returns
returns c = by_row
