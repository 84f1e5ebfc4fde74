use Rattle.std.proofs.Common.{◌+◌, sym}
use Rattle.std.proofs.lemmas.List.{take_rest}
use Rattle.hg_reading.proofs.LineLaws.{lines_at}
use Rattle.hg_reading.proofs.words.first_line.Goals as goal

pub returns-in-Some-clause-lines : goal.returns-in-Some-clause-lines
returns-in-Some-clause-lines c =
    rw (take_rest c.args.rest.now (c.in-Some.end + 1), c.without_return.ensures) (lines_at c.args.rest.now c.in-Some.end (sym c.in-Some.ensures))
