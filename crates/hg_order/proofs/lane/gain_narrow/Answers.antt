use Rattle.std.proofs.Common.{◌≡◌, ◌<◌, ◌+◌, ◌-◌, ◌∙◌, ℕ, cond, length, slice_index, ap, rules, refl, inl, inr, arith}
use Rattle.std.proofs.lemmas.Bool.{cases_eq}
use Rattle.std.proofs.lemmas.List.{get_or-set_same, get_or-set_other}
use Rattle.hg_order.specs.Swept.{is_next_gained}
use Rattle.hg_order.proofs.FromLaws.{short_from}
use Rattle.hg_order.proofs.lane.gain_narrow.Goals as goal

pub loop-m-preserved : goal.loop-m-preserved
loop-m-preserved c =
    let i = c.loop-m.invariant in
    let m : ℕ = c.loop-m.m in
    let counts = c.args.counts.now in
    let low : ℕ = c.args.low in
    let count : ℕ = c.saturating_sub-count.result in
    let room : m < length c.loop-m.above = search rules in
    let room_last : m < length c.loop-m.last = search rules in
    let is : count ≡ slice_index counts m - low = c.saturating_sub-count.ensures ∙ (ap (λ (k : ℕ). slice_index counts m - k) c.min-least.ensures ∙ short_from low (slice_index counts m) (omega (arith, c.type_inv.counts m))) in
    let tested : c.from.result ≡ cond (is_next_gained (slice_index c.loop-m.last m) count (slice_index c.args.next.now m)) 1 0 = search rules in
    let gain : c.from.result ≡ cond (is_next_gained (slice_index c.args.last.now m) (slice_index counts m - low) (slice_index c.args.next.now m)) 1 0 = rw (i.old m (omega arith), is) at tested in
    record {
      gained = λ j below. elim (cases_eq j m) [
        | inl here ↦ rw (here, get_or-set_same c.loop-m.above m (slice_index c.loop-m.above m + c.from.result) 0 room, i.rest m (omega arith), gain) refl
        | inr other ↦ rw (get_or-set_other c.loop-m.above m j (slice_index c.loop-m.above m + c.from.result) 0 other) (i.gained j (omega arith))
      ];
      line = λ j below. elim (cases_eq j m) [
        | inl here ↦ rw (here, get_or-set_same c.loop-m.last m count 0 room_last) is
        | inr other ↦ rw (get_or-set_other c.loop-m.last m j count 0 other) (i.line j (omega arith))
      ];
      old = search rules;
      rest = search rules;
      most = search rules;
      lines = search rules;
    }
