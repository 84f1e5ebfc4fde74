use Rattle.std.proofs.Common.{◌≡◌, ◌∙◌, sym, ap, ◌||◌, ◌&&◌, ℕ, Bool, slice_index, length, eqb, arith}
use Rattle.hg_bits.proofs.MaskLaws.{mask_none}
use Rattle.hg_model.specs.Places.{some_below}
use Rattle.hg_model.proofs.PlacesLaws.{some_below_zero}
use Rattle.hg_branches.specs.Lines.{sees_on}
use Rattle.hg_branches.proofs.LineSeenLaws.{none_on}
use Rattle.hg_branches.proofs.RowLaws.{some_below-next}
use Rattle.hg_branches.proofs.seeing.seers.Goals as goal

pub loop-b-init : goal.loop-b-init
loop-b-init c =
    let L = c.args.sight.now.shape.links in
    let makers = c.args.makers.now in
    let row = c.args.counts.now.row in
    record {
      told = λ m. mask_none m ∙ sym (some_below_zero (λ b. sees_on L row c.args.y b && eqb (slice_index makers b) m));
      inside = omega arith;
    }

pub loop-b-preserved : goal.loop-b-preserved
loop-b-preserved c =
    let L = c.args.sight.now.shape.links in
    let makers = c.args.makers.now in
    let row = c.args.counts.now.row in
    record {
      told = λ m.
          c.with_seer-mask.ensures m ∙ (ap (λ (t : Bool). t || (sees_on L row c.args.y c.loop-b.b && eqb (slice_index makers c.loop-b.b) m)) (c.loop-b.invariant.told m)
          ∙ some_below-next c.loop-b.b c.next_after-b.result (λ b. sees_on L row c.args.y b && eqb (slice_index makers b) m) c.next_after-b.ensures.later
          (λ b past before. let none : slice_index row b ≡ 0 = c.next_after-b.ensures.between b past before in ap (λ (seen : Bool). seen && eqb (slice_index makers b) m) (none_on L row c.args.y b none)));
      inside = c.next_after-b.ensures.within;
    }

pub returns : goal.returns
returns c = λ m.
    let L = c.args.sight.now.shape.links in
    let makers = c.args.makers.now in
    let row = c.args.counts.now.row in
    let all : c.loop-b.b ≡ length makers = omega (arith, c.loop-b.invariant.inside, c.loop-b-test.false) in
    c.loop-b.invariant.told m ∙ ap (λ (k : ℕ). some_below k (λ b. sees_on L row c.args.y b && eqb (slice_index makers b) m)) all
