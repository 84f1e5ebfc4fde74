use Rattle.hg_bits.proofs.MaskLaws.{mask_test}
use Rattle.hg_bits.proofs.masks.mask_has.Goals as goal

pub returns : goal.returns
returns c = mask_test c.args.mask c.args.member
