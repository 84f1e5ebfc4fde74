use Rattle.std.proofs.Common.{sym, subst, ◌≤◌, ◌+◌, ◌*◌, length}
use Rattle.hg_blocks.specs.Rows.{RowsWithRoom}
use Rattle.hg_blocks.proofs.RowLaws.{read_within, read_below, read_row, length_row}
use Rattle.hg_blocks.proofs.rows.RowBlocks.row.Goals as goal

pub chunk-requires-clause-place : goal.chunk-requires-clause-place
chunk-requires-clause-place g c =
    let s = c.self.inside in
    let h = c.self.invariant in
    let within = subst (λ (v : RowsWithRoom _). c.args.x * v.width + v.width ≤ length v.numbers) (sym c.self.view_is) c.requires in
    λ some. rw c.deref.ensures.value (read_within s.width s.sealed.items s.tail.items h.full h.rows h.few h.whole c.args.x within some)

pub row_in-requires : goal.row_in-requires
row_in-requires g c =
    let s = c.self.inside in
    let h = c.self.invariant in
    let within = subst (λ (v : RowsWithRoom _). c.args.x * v.width + v.width ≤ length v.numbers) (sym c.self.view_is) c.requires in
    rw (c.chunk.ensures, c.deref.ensures.value, c.deref-2.ensures.value) (read_below s.width s.sealed.items s.tail.items h.full h.rows h.few h.whole c.args.x within)

pub returns-clause-value : goal.returns-clause-value
returns-clause-value g c =
    let s = c.self.inside in
    let h = c.self.invariant in
    let within = subst (λ (v : RowsWithRoom _). c.args.x * v.width + v.width ≤ length v.numbers) (sym c.self.view_is) c.requires in
    rw (← c.self.view_is) (λ b d lt. rw (c.row_in.ensures, c.chunk.ensures, c.deref.ensures.value, c.deref-2.ensures.value) (read_row s.width s.sealed.items s.tail.items h.full h.rows h.few h.whole c.args.x within b d lt))

pub returns-clause-len : goal.returns-clause-len
returns-clause-len g c =
    let s = c.self.inside in
    let h = c.self.invariant in
    let within = subst (λ (v : RowsWithRoom _). c.args.x * v.width + v.width ≤ length v.numbers) (sym c.self.view_is) c.requires in
    rw (← c.self.view_is) (rw (c.row_in.ensures, c.chunk.ensures, c.deref.ensures.value, c.deref-2.ensures.value) (length_row s.width s.sealed.items s.tail.items h.full h.rows h.few h.whole c.args.x within))
