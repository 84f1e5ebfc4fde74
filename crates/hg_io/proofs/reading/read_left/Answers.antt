use Rattle.std.proofs.Common.{◌++◌, take}
use Rattle.hg_io.proofs.Appended.{takes_both}
use Rattle.hg_io.proofs.reading.read_left.Goals as goal

pub returns-then-count-limit-clause-left : goal.returns-then-count-limit-clause-left
returns-then-count-limit-clause-left g c =
    (c.pieces.bytes.items ++ take c.in-Ok.count c.read.new.buf, takes_both _ _ _ _ _ c.pieces.invariant.read c.in-Ok.ensures.next)

pub returns-in_err-extend_from_slice-clause-left : goal.returns-in_err-extend_from_slice-clause-left
returns-in_err-extend_from_slice-clause-left g c =
    (c.pieces.bytes.items ++ take c.in-Ok.count c.read.new.buf, takes_both _ _ _ _ _ c.pieces.invariant.read c.in-Ok.ensures.next)
