use Rattle.std.proofs.Common.{sym, ◌∙◌, ap, subst, ◌<◌, length, arith, get_or}
use Rattle.hg_blocks.specs.Joined.{WithRoom}
use Rattle.hg_blocks.proofs.JoinedLaws.{read_within, read_below, read_joined}
use Rattle.hg_blocks.proofs.blocks.BlocksIndexUsize.index.Goals as goal

pub chunk-requires-clause-place : goal.chunk-requires-clause-place
chunk-requires-clause-place g c =
    let below = subst (λ (v : WithRoom _). c.args.x < length v.items) (sym c.self.view_is) c.requires in
    rw c.deref.ensures.value (read_within _ _ c.self.invariant.few _ below)

pub offset_bounds-chunk-x : goal.offset_bounds-chunk-x
offset_bounds-chunk-x g c =
    let below = subst (λ (v : WithRoom _). c.args.x < length v.items) (sym c.self.view_is) c.requires in
    rw (c.chunk.ensures, c.deref.ensures.value, c.deref-2.ensures.value) (omega (arith, read_below c.self.inside.sealed.items c.self.inside.tail.items c.args.x below))

pub bounds-chunk-x : goal.bounds-chunk-x
bounds-chunk-x g c =
    let below = subst (λ (v : WithRoom _). c.args.x < length v.items) (sym c.self.view_is) c.requires in
    rw (c.chunk.ensures, c.deref.ensures.value, c.deref-2.ensures.value) (read_below c.self.inside.sealed.items c.self.inside.tail.items c.args.x below)

pub returns : goal.returns
returns g c =
    c.index-chunk-x.is
    ∙ rw (c.chunk.ensures, c.deref.ensures.value, c.deref-2.ensures.value) (read_joined c.self.inside.sealed.items c.self.inside.tail.items c.args.x c.index-chunk-x.result)
    ∙ ap (λ (v : WithRoom _). get_or v.items c.args.x c.index-chunk-x.result) c.self.view_is
