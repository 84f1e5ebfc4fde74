use Rattle.std.proofs.Common.{◌∙◌, sym, arith}
use Rattle.std.proofs.lemmas.Bool.{le-ltb}
use Rattle.hg_bits.proofs.MaskLaws.{mask_none}
use Rattle.hg_bits.proofs.stakes.first_members.Goals as goal

pub loop-m-init : goal.loop-m-init
loop-m-init c = λ k. mask_none k ∙ sym (le-ltb k 0 (omega arith))
