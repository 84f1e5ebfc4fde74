use Rattle.std.proofs.Common.{◌≡◌, ◌+◌, ◌||◌, ◌∙◌, false, sym, ap, subst, arith}
use Rattle.hg_model.specs.Places.{some_below}
use Rattle.hg_model.specs.Stakes.{Stakes, stake_where, total}
use Rattle.hg_model.specs.Seeing.{is_supermajority}
use Rattle.hg_model.proofs.AncestryLaws.{is_ancestor-le}
use Rattle.hg_model.proofs.PlacesLaws.{some_below_next}
use Rattle.hg_bits.specs.Masks.{mask_has}
use Rattle.hg_bits.proofs.MaskLaws.{mask_none}
use Rattle.hg_ancestry.proofs.SeerLaws.{is_seer_by, no_seer_before, none_are_few, seers_all, strong_above, strong_by_first, strong_by_members}
use Rattle.hg_ancestry.proofs.seeing.strongly_sees.Goals as goal
use Rattle.hg_ancestry.proofs.seeing.strongly_sees.Goals.{else-seers-mask-via-then-seers-mask+else-over, else-seers-mask-via-else-seers-mask}

pub returns-then-not-ancestor : goal.returns-then-not-ancestor
returns-then-not-ancestor c =
    sym (strong_above c.args.sight.now.shape.members c.args.sight.now.shape.links c.args.x c.args.y c.is_shaped.ensures.shaped.earlier
    (sym c.ancestor.ensures ∙ c.if-not-ancestor.true))

pub loop-z-init : goal.loop-z-init
loop-z-init c = record {
  matches = λ m. mask_none m ∙ sym (no_seer_before c.args.sight.now.shape.links c.is_shaped.ensures.shaped.earlier c.args.x c.args.y m);
  few = none_are_few c.stakes-stakes.result.now;
}

pub loop-z-preserved : goal.loop-z-preserved
loop-z-preserved c = record {
  matches = λ m.
      c.with_seer-seers.ensures m
      ∙ (ap (λ b. b || is_seer_by c.args.sight.now.shape.links c.args.x c.args.y m c.loop-z.z) (c.loop-z.invariant.matches m)
      ∙ sym (some_below_next c.loop-z.z (is_seer_by c.args.sight.now.shape.links c.args.x c.args.y m)));
  few = elim c.else-seers-mask.branch [
    | else-seers-mask-via-then-seers-mask+else-over w ↦ sym w.over.ensures ∙ w.if-over.false
    | else-seers-mask-via-else-seers-mask w ↦
        (let stakes : Stakes = c.stakes-stakes.result.now in
        subst (λ mask. is_supermajority (total stakes) (stake_where stakes (mask_has mask)) ≡ false) (sym w.if-seers-mask.false) c.loop-z.invariant.few)
  ];
}

pub returns-then-over : goal.returns-then-over
returns-then-over c =
    let L = c.args.sight.now.shape.links in
    sym (strong_by_first c.args.sight.now.shape.members L c.args.x c.args.y (c.loop-z.z + 1) (mask_has c.with_seer-seers.result) (omega (arith, c.loop-z-test.true))
    (λ m. c.with_seer-seers.ensures m
    ∙ (ap (λ b. b || is_seer_by L c.args.x c.args.y m c.loop-z.z) (c.loop-z.invariant.matches m)
    ∙ sym (some_below_next c.loop-z.z (is_seer_by L c.args.x c.args.y m))))
    (ap (λ (n : Stakes). is_supermajority (total n) (stake_where n (mask_has c.with_seer-seers.result))) (sym c.stakes-stakes.ensures) ∙ (sym c.over.ensures ∙ c.if-over.true)))

pub returns : goal.returns
returns c =
    let L = c.args.sight.now.shape.links in
    let le = is_ancestor-le L c.is_shaped.ensures.shaped.earlier c.args.x c.args.y (sym c.ancestor.ensures ∙ c.if-not-ancestor.false) in
    let all : c.loop-z.z ≡ c.args.x + 1 = omega arith in
    sym c.loop-z.invariant.few
    ∙ (ap (λ (n : Stakes). is_supermajority (total n) (stake_where n (mask_has c.loop-z.mask))) c.stakes-stakes.ensures
    ∙ strong_by_members c.args.sight.now.shape.members L c.args.x c.args.y (mask_has c.loop-z.mask)
    (λ m. c.loop-z.invariant.matches m ∙ (ap (λ k. some_below k (is_seer_by L c.args.x c.args.y m)) all ∙ seers_all L c.args.x c.args.y m)))
