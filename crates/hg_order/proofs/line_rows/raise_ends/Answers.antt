use Rattle.std.proofs.Common.{◌≡◌, ℕ, ◌<◌, ◌+◌, max, List, length, get_or, ap, arith}
use Rattle.std.proofs.lemmas.List.{get_or_default}
use Rattle.hg_order.proofs.BoundLaws.{no_number}
use Rattle.hg_order.proofs.EndLaws.{ends_none, ends_next, ends_within, below_next}
use Rattle.hg_order.proofs.line_rows.raise_ends.Goals as goal

pub loop-w-init : goal.loop-w-init
loop-w-init g c = rw c.requires.none (record {
  just = ends_none _ 128;
  below = λ k none. absurd (omega arith);
  within = λ m. rw (no_number 128 m) (omega arith);
  end = omega arith;
})

pub overflow_add-w : goal.overflow_add-w
overflow_add-w g c = (let place = c.requires.places c.loop-w.w-index 0 c.loop-w-test.true in omega (arith, c.is_shaped.ensures.short))

pub loop-w-preserved : goal.loop-w-preserved
loop-w-preserved g c =
    let w = get_or c.args.places.now c.loop-w.w-index 0 in
    let place : w < length (g.S.Sight.shape c.args.sight.now).links = c.requires.places c.loop-w.w-index 0 c.loop-w-test.true in
    let long = ap (λ (xs : List ℕ). length xs) c.requires.none in
    let room : c.creator-member.result < length c.loop-w.ends = omega (arith, c.is_shaped.ensures.few, c.creator-member.ensures.member, c.loop-w.auto.ends) in
    let raised : c.max.result ≡ max (get_or c.loop-w.ends c.creator-member.result 0) (w + 1) = c.max.ensures in
    let top : c.max-last.result ≡ max c.loop-w.last (w + 1) = c.max-last.ensures in
    let by = c.creator-member.ensures.value in
    record {
      just = rw (raised, by) (ends_next _ _ c.is_shaped.ensures.shaped c.requires.lines c.args.places.now c.loop-w.ends c.loop-w.w-index c.loop-w-test.true place (rw by at room) c.loop-w.invariant.just);
      below = λ k h. rw top (below_next c.args.places.now c.loop-w.last c.loop-w.w-index k h c.loop-w.invariant.below);
      within = λ m. rw (top, raised) (ends_within c.loop-w.ends c.creator-member.result (w + 1) c.loop-w.last m room c.loop-w.invariant.within);
      end = (let old = c.loop-w.invariant.end in rw top (omega arith));
    }

pub returns-clause-below : goal.returns-clause-below
returns-clause-below g c k d h = rw (get_or_default c.args.places.now k d 0 h) (c.loop-w.invariant.below k (omega arith))
