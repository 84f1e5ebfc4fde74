use Rattle.std.proofs.Common.{◌≡◌, ◌∙◌, inl, inr, ◌+◌, ℕ, Bool, cond, drop, length, Some, ap, sym, arith}
use Rattle.std.proofs.lemmas.Bool.{cases_lt}
use Rattle.hg_proof.specs.Judging.{difference_from}
use Rattle.hg_proof.proofs.DifferenceLaws.{both_ended, difference_next, first_ended, second_ended}
use Rattle.hg_proof.proofs.comparing.difference.Goals as goal

pub returns-then-not-is_same : goal.returns-then-not-is_same
returns-then-not-is_same c =
    let i : ℕ = c.loop-i.i in
    let later = difference_from (i + 1) (drop (i + 1) c.args.order.now) (drop (i + 1) c.args.other.now) in
    sym (c.loop-i.invariant
    ∙ (difference_next c.args.order.now c.args.other.now i _ _ (omega (arith, c.loop-i-test.true, c.min-i-end.ensures)) (omega (arith, c.loop-i-test.true, c.min-i-end.ensures))
    ∙ ap (λ (b : Bool). cond b later (Some i)) (sym c.if-not-is_same.ensures)))

pub loop-i-preserved : goal.loop-i-preserved
loop-i-preserved c =
    let i : ℕ = c.loop-i.i in
    let later = difference_from (i + 1) (drop (i + 1) c.args.order.now) (drop (i + 1) c.args.other.now) in
    c.loop-i.invariant
    ∙ (difference_next c.args.order.now c.args.other.now i _ _ (omega (arith, c.loop-i-test.true, c.min-i-end.ensures)) (omega (arith, c.loop-i-test.true, c.min-i-end.ensures))
    ∙ ap (λ (b : Bool). cond b later (Some i)) (sym c.if-not-is_same.ensures))

pub returns-then-order-other : goal.returns-then-order-other
returns-then-order-other c =
    sym (c.loop-i.invariant
    ∙ both_ended c.args.order.now c.args.other.now c.loop-i.i (omega (arith, c.loop-i-test.false, c.min-i-end.ensures, c.if-order-other.true)) (omega (arith, c.loop-i-test.false, c.min-i-end.ensures, c.if-order-other.true)))

pub returns-else-order-other : goal.returns-else-order-other
returns-else-order-other c =
    let ps = c.args.order.now in
    let qs = c.args.other.now in
    let i : ℕ = c.loop-i.i in
    let is : i ≡ c.min.result = omega (arith, c.loop-i-test.false, c.min-i-end.ensures, c.min.ensures) in
    let here : difference_from i (drop i ps) (drop i qs) ≡ Some i =
    elim (cases_lt (length ps) (length qs)) [
      | inl low ↦ first_ended ps qs i (omega (arith, c.loop-i-test.false, c.min-i-end.ensures)) (omega (arith, c.loop-i-test.false, c.min-i-end.ensures))
      | inr high ↦ second_ended ps qs i (omega (arith, c.loop-i-test.false, c.min-i-end.ensures, c.if-order-other.false)) (omega (arith, c.loop-i-test.false, c.min-i-end.ensures))
    ] in
    sym (c.loop-i.invariant ∙ (here ∙ ap (λ (k : ℕ). Some k) is))
