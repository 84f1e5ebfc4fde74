use Rattle.std.proofs.Common.{sym, ◌∙◌, ap, arith}
use Rattle.hg_blocks.specs.Rows.{numbers_of}
use Rattle.hg_blocks.proofs.RowLaws.{block_at, tail_at}
use Rattle.hg_blocks.proofs.rows.chunk.Goals as goal

pub returns-then-block-sealed : goal.returns-then-block-sealed
returns-then-block-sealed g c =
    c.as_slice.ensures.value
    ∙ (ap (λ block. block.items) c.deref.ensures
    ∙ (ap numbers_of c.index-sealed-block.is ∙ sym (block_at _ _ c.args.tail.now c.requires.full _ _ c.if-block-sealed.true)))

pub returns-else-block-sealed : goal.returns-else-block-sealed
returns-else-block-sealed g c = tail_at c.args.width c.args.sealed.now c.args.tail.now c.requires.full c.args.block c.requires.few (omega arith) c.requires.place
