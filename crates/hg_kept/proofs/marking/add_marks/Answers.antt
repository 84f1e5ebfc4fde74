use Rattle.std.proofs.Common.{◌≡◌, ◌∙◌, ◌+◌, ap, arith, refl, rules, true, false, get_or, is_none}
use Rattle.std.proofs.lemmas.List.{take_all}
use Rattle.hg_model.specs.Fame.{mark_at}
use Rattle.hg_history.specs.Adding.{add_marks}
use Rattle.hg_kept.proofs.StepLaws.{added_none, added_new, added_old, one_more_fits}
use Rattle.hg_kept.proofs.marking.add_marks.Goals as goal
use Rattle.hg_kept.proofs.marking.add_marks.Goals.{then-is_none, else-is_none}

pub loop-place-init : goal.loop-place-init
loop-place-init c = added_none c.args.marks.now c.args.found.now

pub overflow_add-count : goal.overflow_add-count
overflow_add-count c =
    let i = c.loop-place.place-index in
    let f = get_or c.args.found.now i (0, false) in
    let none : is_none (mark_at c.loop-place.marks f.0) ≡ true = search rules in
    let few = one_more_fits _ _ (i + 1) c.requires.within (added_new _ _ i c.loop-place-test.true _ _ c.loop-place.invariant f refl none) in
    omega (arith, c.requires.few)

pub loop-place-preserved : goal.loop-place-preserved
loop-place-preserved c =
    let i = c.loop-place.place-index in
    let f = get_or c.args.found.now i (0, false) in
    elim c.if-is_none.branch [
      | then-is_none w ↦
          (let none : is_none (mark_at c.loop-place.marks f.0) ≡ true = search rules in
          rw (w.marks-is, w.count-is) (added_new _ _ i c.loop-place-test.true _ _ c.loop-place.invariant f refl none))
      | else-is_none w ↦
          (let some : is_none (mark_at c.loop-place.marks f.0) ≡ false = search rules in
          rw (w.marks-is, w.count-is) (added_old _ _ i c.loop-place-test.true _ _ c.loop-place.invariant f refl some))
    ]

pub returns : goal.returns
returns c = c.loop-place.invariant ∙ ap (add_marks c.args.marks.now) (take_all c.loop-place.place-index c.args.found.now (omega (arith, c.loop-place-test.false)))
