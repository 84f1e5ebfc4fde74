use Rattle.std.proofs.Common.{◌≡◌, ◌-◌, ◌∙◌, ◌++◌, ℕ, List, length, get_or, take, replicate, slice_set, cond, sym, ap, inl, inr, arith}
use Rattle.std.specs.Prelude.{vec_len}
use Rattle.std.proofs.lemmas.Bool.{cases_eq, eq-eqb, ne_eqb}
use Rattle.std.proofs.lemmas.List.{get_or-set_same, get_or-set_other, take_all}
use Rattle.hg_branches.specs.Branches.{greatest_count}
use Rattle.hg_branches.specs.OwnCounts.{number_in}
use Rattle.hg_branches.proofs.JoinLaws.{padded_long, padded_read, greatest_more}
use Rattle.hg_branches.proofs.own_counts.join_wide.Goals as goal

pub loop-place-preserved : goal.loop-place-preserved
loop-place-preserved c =
    let own = c.args.narrow.now in
    let number : ℕ → ℕ → ℕ = λ p i. number_in c.args.narrow.now c.args.wide.now p i in
    record {
      len = omega (arith, c.raise_own.ensures.len, c.row_in.ensures.len, c.loop-place.invariant.len);
      each = λ b h. omega (arith, c.raise_own.ensures.each b, c.loop-place.invariant.each b h, c.row_in.ensures.value b h, greatest_more number c.args.on.now c.loop-place.place-index b c.loop-place-test.true);
      capacity = omega (arith, c.raise_own.ensures.capacity, c.loop-place.invariant.capacity);
    }

pub returns-then-branch-members-clause-each : goal.returns-then-branch-members-clause-each
returns-then-branch-members-clause-each c = λ b h.
    let own = c.args.narrow.now in
    let on = c.args.on.now in
    let number : ℕ → ℕ → ℕ = λ p i. number_in c.args.narrow.now c.args.wide.now p i in
    let filled : c.resize.new.self.items ≡ take c.width-members.result c.loop-place.row.items ++ replicate (c.width-members.result - vec_len c.loop-place.row) 0 = rw c.unwrap.ensures at c.resize.ensures.items in
    let long : length c.resize.new.self.items ≡ c.width-members.result =
    ap length filled ∙ padded_long c.loop-place.row.items c.width-members.result _ (omega (arith, c.loop-place.invariant.len, c.width-members.ensures)) (omega (arith, c.loop-place.row.ok)) in
    let read : get_or c.resize.new.self.items b 0 ≡ greatest_count number on b =
    ap (λ (l : List ℕ). get_or l b 0) filled
    ∙ (padded_read c.loop-place.row.items c.width-members.result _ (omega (arith, c.loop-place.invariant.len, c.width-members.ensures)) b
    ∙ (c.loop-place.invariant.each b h ∙ ap (λ ps. greatest_count number ps b) (take_all c.loop-place.place-index on (omega (arith, c.loop-place-test.false))))) in
    elim (cases_eq b c.args.branch) [
      | inl is ↦
          ap (λ i. get_or (slice_set c.resize.new.self.items c.args.branch c.args.end) i 0) is ∙ (get_or-set_same c.resize.new.self.items c.args.branch c.args.end 0 (omega (arith, long, c.if-branch-members.true))
          ∙ sym (ap (λ t. cond t c.args.end (greatest_count number on b)) (eq-eqb b c.args.branch is)))
      | inr other ↦
          get_or-set_other c.resize.new.self.items c.args.branch b c.args.end 0 other
          ∙ (read ∙ sym (ap (λ t. cond t c.args.end (greatest_count number on b)) (ne_eqb b c.args.branch other)))
    ]
