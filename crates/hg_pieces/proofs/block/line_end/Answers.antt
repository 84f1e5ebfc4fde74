use Rattle.hg_pieces.proofs.Steps.{four_then}
use Rattle.hg_pieces.proofs.block.line_end.Goals as goal

pub returns-then-named : goal.returns-then-named
returns-then-named c = rw c.if-named.true (four_then _ _ _ _ c.effect_pieces.ensures.four c.effect_pieces.ensures.text)

pub returns-else-named : goal.returns-else-named
returns-else-named c = rw c.if-named.false (four_then _ _ _ _ c.effect_pieces.ensures.four c.effect_pieces.ensures.text)
