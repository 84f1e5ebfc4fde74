use Rattle.std.proofs.Common.{◌≡◌, ◌<◌, ◌^◌, ◌∙◌, List, min, cond, nat_lt, slice_index, ap, arith}
use Rattle.hg_branches.proofs.tops.Tops.mark_news.Goals as goal

pub returns-in-Narrow-Narrow-clause-each : goal.returns-in-Narrow-Narrow-clause-each
returns-in-Narrow-Narrow-clause-each c = rw (c.in-Narrow-Narrow.is-0, c.in-Narrow-Narrow.is-1, ← c.self.view_is) (λ i h.
    let s = c.self.inside in
    let known = c.in-Narrow-Narrow.known.now in
    let counts = c.in-Narrow-Narrow.counts.now in
    let top : slice_index c.deref.result.now i ≡ min (slice_index s.wide.items i) 65535 = ap (λ (tops : List _). slice_index tops i) c.deref.ensures.value ∙ c.self.invariant.each i in
    let short : slice_index counts i < 2 ^ 16 = c.mark_narrow.ensures.short i in
    let same : min (slice_index c.deref.result.now i) (slice_index counts i) ≡ min (slice_index s.wide.items i) (slice_index counts i) = omega arith in
    c.mark_narrow.ensures.each i h ∙ ap (λ t. cond (nat_lt (slice_index known i) t) 1 0) same)
