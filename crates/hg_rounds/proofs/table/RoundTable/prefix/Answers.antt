use Rattle.std.proofs.Common.{◌≤◌, ◌∙◌, ◌+◌, ap, arith, length, sym}
use Rattle.std.proofs.lemmas.List.{length-take-le}
use Rattle.hg_rounds.specs.Tabled.{Tabled}
use Rattle.hg_rounds.proofs.CutLaws.{greatest_first, table_first}
use Rattle.hg_rounds.proofs.table.RoundTable.prefix.Goals as goal

pub greatest_first-greatest-requires : goal.greatest_first-greatest-requires
greatest_first-greatest-requires c = omega (arith, ap (λ (t : Tabled). length t.standings) c.self.view_is, c.self.invariant.tops_kept.long)

pub first_lists-requires : goal.first_lists-requires
first_lists-requires c =
    let rows = c.self.inside.rows.items in
    let le : c.args.len ≤ length rows = omega (arith, ap (λ (t : Tabled). length t.standings) c.self.view_is) in
    omega (arith, ap length c.deref.ensures.value, c.self.invariant.lists_kept.long, c.self.invariant.lists_kept.greatest, greatest_first rows c.args.len le, c.greatest_first-greatest.ensures rows c.self.invariant.tops_kept)

pub slice_bounds-from_slice-end : goal.slice_bounds-from_slice-end
slice_bounds-from_slice-end c =
    let rows = c.self.inside.rows.items in
    let le : c.args.len ≤ length rows = omega (arith, ap (λ (t : Tabled). length t.standings) c.self.view_is) in
    sym (length-take-le (c.greatest_first-greatest.result + 2) c.deref-2.result.now (omega (arith, ap length c.deref-2.ensures.value, c.self.invariant.weighed, c.self.invariant.lists_kept.long, c.self.invariant.lists_kept.greatest, greatest_first rows c.args.len le, c.greatest_first-greatest.ensures rows c.self.invariant.tops_kept)))

pub invariant_of-result : goal.invariant_of-result
invariant_of-result c =
    let rows = c.self.inside.rows.items in
    let le : c.args.len ≤ length rows = omega (arith, ap (λ (t : Tabled). length t.standings) c.self.view_is) in
    rw (c.in_ok-prefix.ensures.items, c.in_ok-prefix-2.ensures.items)
    (table_first rows c.self.inside.tops.items c.self.inside.lists.items c.in_ok-first_lists.field-0.items c.self.inside.weights.items c.in_ok-from_slice.field-0.items _ _ _ c.args.len _ _ _ c.self.invariant le
    (c.greatest_first-greatest.ensures rows c.self.invariant.tops_kept) c.in_ok-first_lists.ensures.count (ap length c.in_ok-from_slice.ensures.items ∙ length-take-le (c.greatest_first-greatest.result + 2) c.deref-2.result.now (omega (arith, ap length c.deref-2.ensures.value, c.self.invariant.weighed, c.self.invariant.lists_kept.long, c.self.invariant.lists_kept.greatest, greatest_first rows c.args.len le, c.greatest_first-greatest.ensures rows c.self.invariant.tops_kept))) (rw (← c.deref.ensures.value) c.in_ok-first_lists.ensures.each) c.new.ensures.items)
