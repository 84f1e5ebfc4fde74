use Rattle.std.proofs.Common.{sym, subst, ◌≤◌, ◌*◌, ◌≡◌, length, arith}
use Rattle.std.specs.Prelude.{vec_len}
use Rattle.hg_blocks.specs.Rows.{RowsWithRoom}
use Rattle.hg_blocks.proofs.RowLaws.{open_within, first_numbers, first_holds}
use Rattle.hg_blocks.proofs.rows.RowBlocks.prefix.Goals as goal

pub first_rows-open-requires : goal.first_rows-open-requires
first_rows-open-requires g c =
    let s = c.self.inside in
    let h = c.self.invariant in
    let long : vec_len s.sealed ≡ length s.sealed.items = omega arith in
    let within = subst (λ (v : RowsWithRoom _). c.args.len * v.width ≤ length v.numbers) (sym c.self.view_is) c.requires in
    rw (c.chunk-open.ensures, c.deref.ensures.value, c.deref-2.ensures.value, c.min-whole.ensures, c.saturating_sub.ensures, c.len.ensures, long) (open_within s.width s.sealed.items s.tail.items h.full h.rows h.few h.whole c.args.len within)

pub invariant_of-result : goal.invariant_of-result
invariant_of-result g c =
    let s = c.self.inside in
    let h = c.self.invariant in
    let long : vec_len s.sealed ≡ length s.sealed.items = omega arith in
    let within = subst (λ (v : RowsWithRoom _). c.args.len * v.width ≤ length v.numbers) (sym c.self.view_is) c.requires in
    let same = rw (c.deref-3.ensures.value, c.min-whole.ensures, c.saturating_sub.ensures, c.len.ensures, long) at c.in_ok-from_clones.ensures.items in
    rw (c.in_ok-from_slice.ensures.items, c.first_rows-open.ensures, c.chunk-open.ensures, c.deref.ensures.value, c.deref-2.ensures.value, c.min-whole.ensures, c.saturating_sub.ensures, c.len.ensures, long) (first_holds s.width s.sealed.items s.tail.items h.full h.rows h.few h.whole c.args.len within _ same)

pub returns-clause-numbers : goal.returns-clause-numbers
returns-clause-numbers g c =
    let s = c.self.inside in
    let h = c.self.invariant in
    let long : vec_len s.sealed ≡ length s.sealed.items = omega arith in
    let within = subst (λ (v : RowsWithRoom _). c.args.len * v.width ≤ length v.numbers) (sym c.self.view_is) c.requires in
    let same = rw (c.deref-3.ensures.value, c.min-whole.ensures, c.saturating_sub.ensures, c.len.ensures, long) at c.in_ok-from_clones.ensures.items in
    rw (c.in_ok-from_slice.ensures.items, c.first_rows-open.ensures, c.chunk-open.ensures, c.deref.ensures.value, c.deref-2.ensures.value, c.min-whole.ensures, c.saturating_sub.ensures, c.len.ensures, long, ← c.self.view_is) (first_numbers s.width s.sealed.items s.tail.items h.full h.rows h.few h.whole c.args.len within _ same)
