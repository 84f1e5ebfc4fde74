use Rattle.std.proofs.Common.{◌<◌, length, get_or, bit_xor, arith}
use Rattle.std.proofs.lemmas.List.{get_or_default}
use Rattle.std.proofs.lemmas.List.Edits.{map_over_more}
use Rattle.hg_sign.proofs.key.mask_all.Goals as goal

pub loop-byte-preserved : goal.loop-byte-preserved
loop-byte-preserved c =
    let block = c.loop-byte.block in
    let i = c.loop-byte.byte-index in
    let within : i < length c.args.block.now = omega arith in
    let now_within : i < length block = omega arith in
    map_over_more (λ byte. bit_xor byte c.args.mask) c.args.block.now block i (get_or block i 0) within c.loop-byte.invariant
    (get_or_default block i 0 (get_or block i 0) now_within)
