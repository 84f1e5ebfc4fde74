use Rattle.std.proofs.Common.{◌∙◌, sym}
use Rattle.hg_order.proofs.KeepLaws.{keeps_more, keeps_same, keeps_room}
use Rattle.hg_order.proofs.famous.keep_lone.Goals as goal
use Rattle.hg_order.proofs.famous.keep_lone.Goals.{then-is_lone, else-is_lone}

pub bounds-out-count : goal.bounds-out-count
bounds-out-count g c = keeps_room _ _ _ _ _ _ _ c.loop-y.invariant c.loop-y-test.true (sym c.is_lone.ensures ∙ c.if-is_lone.true) c.requires.fits

pub loop-y-preserved : goal.loop-y-preserved
loop-y-preserved g c = elim c.if-is_lone.branch [
  | then-is_lone w ↦
      (let passes = sym c.is_lone.ensures ∙ w.if-is_lone.true in
      let room = keeps_room _ _ _ _ _ _ 0 c.loop-y.invariant c.loop-y-test.true passes c.requires.fits in
      rw (w.out-is, w.count-is) (keeps_more _ _ _ _ _ _ 0 c.loop-y.invariant c.loop-y-test.true passes room))
  | else-is_lone w ↦ rw (w.out-is, w.count-is) (keeps_same _ _ _ _ _ _ 0 c.loop-y.invariant c.loop-y-test.true (sym c.is_lone.ensures ∙ w.if-is_lone.false))
]
