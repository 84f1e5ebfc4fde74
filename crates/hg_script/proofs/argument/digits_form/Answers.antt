use Rattle.std.proofs.Common.{arith, ap, List, ℕ, length}
use Rattle.hex.proofs.HexLemmas.{decode_of-ok}
use Rattle.hg_script.proofs.argument.digits_form.Goals as goal

pub returns-in-Ok-clause-fits : goal.returns-in-Ok-clause-fits
returns-in-Ok-clause-fits c =
    let decoded = decode_of-ok c.args.word.now c.in-Ok.bytes.items c.in-Ok.ensures.ok in
    omega (arith, decoded.2, ap (λ (bytes : List ℕ). length bytes) c.from_vec.ensures)
