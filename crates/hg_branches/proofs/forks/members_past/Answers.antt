use Rattle.std.proofs.Common.{◌≡◌, ◌∙◌, sym, ap, ap₂, max, ◌||◌, ◌&&◌, nat_lt, ℕ, Bool, slice_index, length, eqb, arith}
use Rattle.hg_bits.specs.Masks.{mask_has}
use Rattle.hg_bits.proofs.MaskLaws.{mask_none}
use Rattle.hg_model.specs.Places.{some_below}
use Rattle.std.proofs.lemmas.Bool.{le-ltb}
use Rattle.hg_model.proofs.PlacesLaws.{some_below_zero}
use Rattle.hg_branches.specs.Branches.{greatest_count}
use Rattle.hg_branches.specs.Columns.{count_in, joined_counts}
use Rattle.hg_branches.specs.Rows.{RowView}
use Rattle.hg_branches.proofs.RowLaws.{some_below-next}
use Rattle.hg_branches.proofs.forks.members_past.Goals as goal

pub loop-b-init : goal.loop-b-init
loop-b-init c =
    let row = c.args.there.now.row in
    let known = joined_counts c.args.counts.now.rows c.args.first c.args.others.now in
    let makers = c.args.makers.now in
    record {
      told = λ m. mask_none m ∙ sym (some_below_zero (λ b. nat_lt (known b) (slice_index row b) && eqb (slice_index makers b) m));
      inside = omega arith;
    }

pub loop-b-preserved : goal.loop-b-preserved
loop-b-preserved c =
    let row = c.args.there.now.row in
    let known = joined_counts c.args.counts.now.rows c.args.first c.args.others.now in
    let makers = c.args.makers.now in
    let most : c.greatest-most.result ≡ known c.loop-b.b = c.greatest-most.ensures
    ∙ ap (λ (n : ℕ). max n (greatest_count (count_in c.args.counts.now.rows) c.args.others.now c.loop-b.b)) (c.at.ensures ∙ ap (λ (r : RowView). slice_index r.row c.loop-b.b) c.row_of-here.ensures) in
    record {
      told = λ m.
          c.with_if-mask.ensures m
          ∙ (ap₂ (λ (a d : ℕ). mask_has c.loop-b.mask m || (nat_lt a d && eqb (slice_index makers c.loop-b.b) m)) most c.at-in-loop-b.ensures) ∙ (ap (λ (t : Bool). t || (nat_lt (known c.loop-b.b) (slice_index row c.loop-b.b) && eqb (slice_index makers c.loop-b.b) m)) (c.loop-b.invariant.told m)
          ∙ some_below-next c.loop-b.b c.next_after-b.result (λ b. nat_lt (known b) (slice_index row b) && eqb (slice_index makers b) m) c.next_after-b.ensures.later
          (λ b past before. let none : slice_index row b ≡ 0 = c.next_after-b.ensures.between b past before in ap (λ (more : Bool). more && eqb (slice_index makers b) m) (le-ltb (known b) (slice_index row b) (omega (arith, none)))));
      inside = c.next_after-b.ensures.within;
    }

pub returns : goal.returns
returns c = λ m.
    let row = c.args.there.now.row in
    let known = joined_counts c.args.counts.now.rows c.args.first c.args.others.now in
    let makers = c.args.makers.now in
    let all : c.loop-b.b ≡ length makers = omega (arith, c.loop-b.invariant.inside, c.loop-b-test.false) in
    c.loop-b.invariant.told m ∙ ap (λ (k : ℕ). some_below k (λ b. nat_lt (known b) (slice_index row b) && eqb (slice_index makers b) m)) all
