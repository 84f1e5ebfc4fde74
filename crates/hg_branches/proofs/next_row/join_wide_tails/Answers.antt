use Rattle.std.proofs.Common.{◌≡◌, ◌≤◌, ◌+◌, ◌∙◌, List, ℕ, length, get_or, take, drop, cond, eqb, refl, sym, ap, arith}
use Rattle.std.proofs.lemmas.List.{length-take, take_all, take_at}
use Rattle.hg_branches.specs.Branches.{greatest_count}
use Rattle.hg_branches.specs.Tails.{place_count, place_width, tail_count, tail_width}
use Rattle.hg_branches.proofs.JoinLaws.{all_at, cut_read, greatest_more}
use Rattle.hg_branches.proofs.next_row.join_wide_tails.Goals as goal

pub loop-place-preserved : goal.loop-place-preserved
loop-place-preserved c =
    let rows = c.args.tails.now.rows in
    let on = c.args.on.now in
    let i = c.loop-place.place-index in
    let p = get_or on i 0 in
    record {
      each = λ k.
          let told : place_count c.tail.result.numbers.now c.tail.result.own c.tail.result.end k ≡ tail_count rows p k = rw (c.tail.ensures.numbers, c.tail.ensures.own, c.tail.ensures.end) refl in
          omega (arith, c.raise_tail.ensures.each k, c.loop-place.invariant.each k, told, greatest_more (tail_count rows) on i k c.loop-place-test.true);
      narrow = λ n all.
          let wide : place_width c.tail.result.numbers.now c.tail.result.own ≡ tail_width rows p = rw (c.tail.ensures.numbers, c.tail.ensures.own) refl in
          let fits : tail_width rows p ≤ n = all_at (λ p. tail_width rows p ≤ n) on i all c.loop-place-test.true in
          omega (arith, c.raise_tail.ensures.len, c.loop-place.invariant.narrow n all, wide, fits);
      capacity = omega (arith, c.raise_tail.ensures.capacity, c.loop-place.invariant.capacity);
    }

pub returns-clause-each : goal.returns-clause-each
returns-clause-each c = λ k.
    let rows = c.args.tails.now.rows in
    let on = c.args.on.now in
    let set : List ℕ = c.clear_at.new.row in
    let refilled = take_at set (drop (length set) c.loop-place.row.items) _ (c.clear_at.ensures.len ∙ c.deref_mut.ensures.len) in
    let rest : (i : ℕ) → c.len_of.result ≤ i → get_or set i 0 ≡ 0 = λ i h. sym (ap (λ (l : List ℕ). get_or l i 0) (c.deref.ensures.value ∙ refilled)) ∙ c.len_of.ensures.rest i h in
    let joined : get_or c.deref_mut.result.now k 0 ≡ greatest_count (tail_count rows) on k = ap (λ (l : List ℕ). get_or l k 0) c.deref_mut.ensures.value
    ∙ (c.loop-place.invariant.each k ∙ ap (λ ps. greatest_count (tail_count rows) ps k) (take_all c.loop-place.place-index on (omega (arith, c.loop-place-test.false)))) in
    ap (λ (l : List ℕ). get_or l k 0) (c.truncate.ensures.items ∙ ap (take c.len_of.result) refilled)
    ∙ (cut_read set c.len_of.result rest k ∙ (c.clear_at.ensures.each k ∙ ap (λ n. cond (eqb (k + 1) c.args.own) 0 n) joined))

pub returns-clause-narrow : goal.returns-clause-narrow
returns-clause-narrow c = λ n all.
    let set : List ℕ = c.clear_at.new.row in
    let refilled = take_at set (drop (length set) c.loop-place.row.items) _ (c.clear_at.ensures.len ∙ c.deref_mut.ensures.len) in
    let cut : length c.truncate.new.self.items ≡ length (take c.len_of.result set) = ap length (c.truncate.ensures.items ∙ ap (take c.len_of.result) refilled) in
    omega (arith, cut, length-take c.len_of.result set, c.clear_at.ensures.len, ap length c.deref_mut.ensures.value, c.loop-place.invariant.narrow n all)
