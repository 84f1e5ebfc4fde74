use mir.Syntax.{w128}
use Rattle.hg_bits.proofs.MaskLaws.{mask_made}
use Rattle.hg_bits.proofs.masks.with_member.Goals as goal

pub returns : goal.returns
returns c = λ m. mask_made w128 c.args.mask c.args.member m c.requires
