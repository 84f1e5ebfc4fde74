use Rattle.std.proofs.Common.{ap, ◌∙◌, ◌++◌, ◌∷◌, []}
use Rattle.hg_blocks.proofs.rows.seal.Goals as goal

pub returns-in-Ok-clause-sealed : goal.returns-in-Ok-clause-sealed
returns-in-Ok-clause-sealed g c = (c.in-Ok.block, ap (λ v. v.items) (c.in-Ok.ensures.ok ∙ c.replace-full.ensures.value), c.push_reserved.ensures.items ∙ ap (λ blocks. blocks ++ c.in-Ok.block ∷ []) c.reserve.ensures.items)
