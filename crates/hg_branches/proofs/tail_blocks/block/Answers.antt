use Rattle.std.proofs.Common.{sym, ◌∙◌, ap, ◌≡◌, length, arith}
use Rattle.hg_branches.specs.Tails.{TailsWithRoom}
use Rattle.hg_branches.specs.TailBlocks.{tails_in}
use Rattle.hg_branches.proofs.TailBlockLaws.{block_at, open_at}
use Rattle.hg_branches.proofs.tail_blocks.block.Goals as goal

pub returns-then-number-sealed : goal.returns-then-number-sealed
returns-then-number-sealed c =
    ap (λ (block : TailsWithRoom). block.rows) c.deref.ensures
    ∙ (ap tails_in c.index-sealed-number.is ∙ sym (block_at c.args.sealed.now c.args.last.now.rows c.requires.full _ _ c.if-number-sealed.true))

pub returns-else-number-sealed : goal.returns-else-number-sealed
returns-else-number-sealed c =
    let last : c.args.number ≡ length c.args.sealed.now = omega arith in
    rw last (sym (open_at c.args.sealed.now c.args.last.now.rows c.requires.full c.requires.few))
