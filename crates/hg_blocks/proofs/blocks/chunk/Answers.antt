use Rattle.std.proofs.Common.{sym, ◌∙◌, ap, ◌≡◌, length, arith}
use Rattle.hg_blocks.specs.Joined.{items_of}
use Rattle.hg_blocks.proofs.JoinedLaws.{block_at, tail_at}
use Rattle.hg_blocks.proofs.blocks.chunk.Goals as goal

pub returns-then-block-sealed : goal.returns-then-block-sealed
returns-then-block-sealed g c =
    c.as_slice.ensures.value
    ∙ (ap (λ block. block.items.items) c.deref.ensures
    ∙ (ap items_of c.index-sealed-block.is ∙ sym (block_at _ c.args.tail.now _ _ c.if-block-sealed.true)))

pub returns-else-block-sealed : goal.returns-else-block-sealed
returns-else-block-sealed g c =
    let last : c.args.block ≡ length c.args.sealed.now = omega arith in
    rw last (sym (tail_at c.args.sealed.now c.args.tail.now c.requires.few))
