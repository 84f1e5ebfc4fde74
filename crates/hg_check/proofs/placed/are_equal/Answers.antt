use Rattle.std.proofs.lemmas.Slice.Eq.{slice_eq-Decides}
use Rattle.hg_check.proofs.PlacedLaws.{same_decides}
use Rattle.hg_check.proofs.placed.are_equal.Goals as goal

pub returns : goal.returns
returns c = slice_eq-Decides same_decides c.args.one.now c.args.other.now c.eq.result c.eq.ensures
