use Rattle.std.proofs.Common.{◌≡◌, ◌∙◌, sym, ap, ◌||◌, ◌&&◌, not, nat_le, ℕ, Bool, slice_index, length, eqb, arith}
use Rattle.hg_bits.proofs.MaskLaws.{mask_none}
use Rattle.hg_model.specs.Places.{some_below}
use Rattle.std.proofs.lemmas.Bool.{and_parts, leb-true}
use Rattle.hg_model.specs.Counts.{numbers_of}
use Rattle.hg_model.proofs.PlacesLaws.{some_below_none}
use Rattle.hg_branches.specs.Lines.{other_sees, own_sees, sees_on}
use Rattle.hg_branches.proofs.LineSeenLaws.{none_on, other_unseen}
use Rattle.hg_branches.proofs.RowLaws.{some_below-next}
use Rattle.hg_branches.proofs.seeing.others.Goals as goal

pub loop-b-init : goal.loop-b-init
loop-b-init c =
    let L = c.args.sight.now.shape.links in
    let makers = c.args.makers.now in
    let firsts = numbers_of c.args.target.firsts in
    let row = c.args.counts.now.row in
    record {
      told = λ m. mask_none m ∙ sym (some_below_none c.len-b.result (λ b. other_sees L makers firsts row c.args.target.row b && eqb (slice_index makers b) m) (λ b h passes.
          let one = and_parts (other_sees L makers firsts row c.args.target.row b) (eqb (slice_index makers b) m) passes in
          let two = and_parts (nat_le (length firsts) b && not (own_sees firsts row (slice_index makers b))) (sees_on L row c.args.target.row b) one.0 in
          let three = and_parts (nat_le (length firsts) b) (not (own_sees firsts row (slice_index makers b))) two.0 in
          let le = leb-true (length firsts) b three.0 in
          absurd (omega (arith, le, h, c.len-b.ensures, c.own.ensures.len, c.requires.wide))));
      inside = omega (arith, c.requires.few, c.requires.wide, c.own.ensures.len, c.len-b.ensures);
      past = omega (arith, c.requires.wide, c.own.ensures.len, c.len-b.ensures);
    }

pub loop-b-preserved : goal.loop-b-preserved
loop-b-preserved c =
    let L = c.args.sight.now.shape.links in
    let makers = c.args.makers.now in
    let firsts = numbers_of c.args.target.firsts in
    let row = c.args.counts.now.row in
    record {
      told = λ m.
          c.with_other-mask.ensures m ∙ (ap (λ (t : Bool). t || (other_sees L makers firsts row c.args.target.row c.loop-b.b && eqb (slice_index makers c.loop-b.b) m)) (c.loop-b.invariant.told m)
          ∙ some_below-next c.loop-b.b c.next_after-b.result (λ b. other_sees L makers firsts row c.args.target.row b && eqb (slice_index makers b) m) c.next_after-b.ensures.later
          (λ b past before. let none : slice_index row b ≡ 0 = c.next_after-b.ensures.between b past before in other_unseen L makers firsts row c.args.target.row b m (none_on L row c.args.target.row b none)));
      inside = c.next_after-b.ensures.within;
      past = omega (arith, c.loop-b.invariant.past, c.next_after-b.ensures.later);
    }

pub returns : goal.returns
returns c = λ m.
    let L = c.args.sight.now.shape.links in
    let makers = c.args.makers.now in
    let firsts = numbers_of c.args.target.firsts in
    let row = c.args.counts.now.row in
    let all : c.loop-b.b ≡ length makers = omega (arith, c.loop-b.invariant.inside, c.loop-b-test.false) in
    c.loop-b.invariant.told m ∙ ap (λ (k : ℕ). some_below k (λ b. other_sees L makers firsts row c.args.target.row b && eqb (slice_index makers b) m)) all
