use Rattle.std.proofs.Common.{length}
use Rattle.hex.specs.Hex.{encode_lower}
use Rattle.hg_io.specs.Printing.{IsPutUpTo, desk}
use Rattle.hg_telling.proofs.digits.write_digits.Given as goal

abbrev pub invariant-parts : goal.invariant-parts
invariant-parts g l =
    let sink = g.K.Sink in
    IsPutUpTo (desk sink l.initial.sink l.initial.page) (desk sink l.sink l.page) (encode_lower l.rest) (encode_lower l.bytes)

abbrev pub decreases-parts : goal.decreases-parts
decreases-parts g l = length l.rest
