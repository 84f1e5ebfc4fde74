use Rattle.std.proofs.Common.{◌∙◌, sym, ◌&&◌, not, eqb, ◌<◌, length, arith}
use Rattle.std.proofs.lemmas.Bool.{and_parts}
use Rattle.hg_model.specs.Links.{creator}
use Rattle.hg_model.proofs.PlacesLaws.{some_below_zero}
use Rattle.hg_bits.specs.Masks.{mask_has}
use Rattle.hg_bits.specs.Rows.{is_in, is_over}
use Rattle.hg_bits.proofs.MaskLaws.{mask_none}
use Rattle.hg_ancestry.proofs.ApartLaws.{apart_next, apart_all}
use Rattle.hg_ancestry.proofs.forks.members_apart.Goals as goal

pub places-init : goal.places-init
places-init c = record {
  within = omega arith;
  matches = λ m. mask_none m ∙ sym (some_below_zero (λ a. is_over c.args.rows.now c.args.others.now a && eqb (creator c.args.sight.now.shape.links a) m));
}

pub creator-requires : goal.creator-requires
creator-requires c = c.requires c.in-Some.a (and_parts (is_in c.args.rows.now c.in-Some.a) (not (is_in c.args.others.now c.in-Some.a)) c.in-Some.ensures.1.passes).0

pub overflow_add-from : goal.overflow_add-from
overflow_add-from c =
    let low : c.in-Some.a < length c.args.sight.now.shape.links =
    c.requires c.in-Some.a (and_parts (is_in c.args.rows.now c.in-Some.a) (not (is_in c.args.others.now c.in-Some.a)) c.in-Some.ensures.1.passes).0 in
    omega (arith, c.is_shaped.ensures.short)

pub places-preserved : goal.places-preserved
places-preserved c = record {
  within = omega (arith, c.in-Some.ensures.0);
  matches = apart_next c.args.sight.now.shape.links c.args.rows.now c.args.others.now c.places.from (mask_has c.places.mask) c.places.invariant.matches c.in-Some.a c.creator.result
      (mask_has c.with_member-mask.result) c.in-Some.ensures.1 c.creator.ensures.value c.with_member-mask.ensures;
}

pub returns : goal.returns
returns c = apart_all c.args.sight.now.shape.links c.args.rows.now c.args.others.now c.places.from (mask_has c.places.mask) c.places.invariant.matches c.in_default.ensures c.requires
