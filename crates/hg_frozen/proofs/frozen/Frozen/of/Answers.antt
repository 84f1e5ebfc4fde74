use Rattle.std.proofs.Common.{◌∙◌, ap, length}
use Rattle.hg_blocks.specs.Joined.{joined}
use Rattle.hg_model.proofs.LinkLaws.{length-links}
use Rattle.hg_model.specs.Shape.{Shape}
use Rattle.hg_frozen.proofs.frozen.Frozen.of.Goals as goal

pub of-requires : goal.of-requires
of-requires g c = c.rows-len.ensures.value ∙ (ap (λ (s : Shape). length s.links) c.requires.sight ∙ length-links (joined c.args.blocks.items c.args.tail))
