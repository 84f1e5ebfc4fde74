use Rattle.std.proofs.Common.{◌∙◌, ◌<◌, ap, sym, subst, length}
use Rattle.hg_branches.specs.Tails.{Tail, TailsWithRoom, tail_at}
use Rattle.hg_branches.proofs.TailBlockLaws.{block_within, read_below, read_block}
use Rattle.hg_branches.proofs.tail_blocks.TailBlocks.tail.Goals as goal

pub block-part-requires-clause-place : goal.block-part-requires-clause-place
block-part-requires-clause-place c =
    let s = c.self.inside in
    let h = c.self.invariant in
    let inside = subst (λ (t : TailsWithRoom). c.args.x < length t.rows) (sym c.self.view_is) c.requires.place in
    rw c.deref.ensures.value (block_within s.sealed.items s.last.rows h.full h.few c.args.x inside)

pub numbers-requires : goal.numbers-requires
numbers-requires c =
    let inside = subst (λ (t : TailsWithRoom). c.args.x < length t.rows) (sym c.self.view_is) c.requires.place in
    rw (c.block-part.ensures, c.deref.ensures.value) (read_below _ c.args.x inside)

pub own-requires : goal.own-requires
own-requires c =
    let inside = subst (λ (t : TailsWithRoom). c.args.x < length t.rows) (sym c.self.view_is) c.requires.place in
    rw (c.block-part.ensures, c.deref.ensures.value) (read_below _ c.args.x inside)

pub returns-clause-numbers : goal.returns-clause-numbers
returns-clause-numbers c =
    c.numbers.ensures
    ∙ (rw (c.block-part.ensures, c.deref.ensures.value) (ap (λ (t : Tail). t.numbers) (read_block _ c.args.x))
    ∙ ap (λ (t : TailsWithRoom). (tail_at t.rows c.args.x).numbers) c.self.view_is)

pub returns-clause-own : goal.returns-clause-own
returns-clause-own c =
    c.own.ensures
    ∙ (rw (c.block-part.ensures, c.deref.ensures.value) (ap (λ (t : Tail). t.own) (read_block _ c.args.x))
    ∙ ap (λ (t : TailsWithRoom). (tail_at t.rows c.args.x).own) c.self.view_is)
