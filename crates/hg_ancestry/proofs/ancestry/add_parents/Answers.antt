use Rattle.std.proofs.Common.{◌≡◌, ◌<◌, ◌+◌, ◌∷◌, ◌∙◌, ◌||◌, [], ℕ, Bool, false, sym, ap, ap₂, take, get_or, length, arith}
use Rattle.std.proofs.lemmas.Bool.{or_left}
use Rattle.std.proofs.lemmas.List.{length-replicate, take_all}
use Rattle.std.proofs.Math.Bool.{or-false}
use Rattle.hg_model.specs.Ancestry.{is_ancestor}
use Rattle.hg_model.proofs.ReachLaws.{has_place_first}
use Rattle.hg_model.proofs.AncestryLaws.{is_ancestor_self}
use Rattle.hg_bits.specs.Rows.{is_in}
use Rattle.hg_bits.proofs.RowLaws.{length-table, table-same}
use Rattle.hg_ancestry.specs.Held.{is_above}
use Rattle.hg_ancestry.proofs.HeldLaws.{above_inside, above_says, filled_more, filled_none, filled_next, other_there, row_long}
use Rattle.hg_ancestry.proofs.UnionLaws.{union}
use Rattle.hg_ancestry.proofs.NewForkLaws.{closed_above, forks_all, forks_first, forks_more, forks_next, forks_next-same, forks_with-same}
use Rattle.hg_ancestry.proofs.ancestry.add_parents.Goals as goal

pub ancestors_of-requires : goal.ancestors_of-requires
ancestors_of-requires c = c.requires.fits.earlier c.args.self_place (has_place_first c.args.self_place c.args.others.now)

pub union-requires : goal.union-requires
union-requires c =
    let long = row_long c.args.sight.now.shape.links c.args.self_place c.ancestors_of.result.now c.ancestors_of.ensures in
    let empty = ap length c.requires.empty ∙ length-replicate (length c.args.sight.now.shape.links + 1) false in
    let inside : c.args.self_place < length c.args.sight.now.shape.links = c.requires.fits.earlier c.args.self_place (has_place_first c.args.self_place c.args.others.now) in
    omega (arith, long, empty)

pub forked_below-forked-requires : goal.forked_below-forked-requires
forked_below-forked-requires c = c.requires.fits.earlier c.args.self_place (has_place_first c.args.self_place c.args.others.now)

pub loop-other-init : goal.loop-other-init
loop-other-init c =
    let L = c.args.sight.now.shape.links in
    let e = c.is_shaped.ensures.shaped.earlier in
    let p = c.args.self_place in
    record {
      row = filled_more L e (is_above L []) (length L + 1) p c.args.row.now c.ancestors_of.result.now c.union.new.self (c.requires.empty ∙ filled_none L (length L + 1)) c.ancestors_of.ensures c.union.ensures
          ∙ table-same (λ k. is_ancestor L p k) (is_above L (p ∷ [])) (length L + 1) (λ k h. sym (or-false (is_ancestor L p k)));
      forks = λ m. c.forked_below-forked.ensures m
          ∙ (sym (forks_first c.args.sight.now.shape.members L c.is_shaped.ensures.shaped c.args.by p c.args.others.now c.requires.fits m)
          ∙ forks_next-same L p c.args.by m (is_ancestor L p) (is_above L (p ∷ [])) (λ k h. sym (or-false (is_ancestor L p k))));
    }

pub forks_with-requires-clause-inside : goal.forks_with-requires-clause-inside
forks_with-requires-clause-inside c =
    above_inside c.args.sight.now.shape.members c.args.sight.now.shape.links c.is_shaped.ensures.shaped.earlier c.args.by c.args.self_place c.args.others.now c.requires.fits c.loop-other.other-index
    c.loop-other.row c.loop-other.invariant.row

pub forks_with-requires-clause-place : goal.forks_with-requires-clause-place
forks_with-requires-clause-place c =
    other_there c.args.sight.now.shape.members c.args.sight.now.shape.links c.args.by c.args.self_place c.args.others.now c.requires.fits c.loop-other.other-index c.loop-other-test.true

pub ancestors_of-requires-in-loop-other : goal.ancestors_of-requires-in-loop-other
ancestors_of-requires-in-loop-other c =
    other_there c.args.sight.now.shape.members c.args.sight.now.shape.links c.args.by c.args.self_place c.args.others.now c.requires.fits c.loop-other.other-index c.loop-other-test.true

pub union-requires-in-loop-other : goal.union-requires-in-loop-other
union-requires-in-loop-other c =
    let L = c.args.sight.now.shape.links in
    let q : ℕ = get_or c.args.others.now c.loop-other.other-index 0 in
    let inside : q < length L = other_there c.args.sight.now.shape.members L c.args.by c.args.self_place c.args.others.now c.requires.fits c.loop-other.other-index c.loop-other-test.true in
    let long : length c.ancestors_of-in-loop-other.result.now ≡ q + 1 = row_long L q c.ancestors_of-in-loop-other.result.now c.ancestors_of-in-loop-other.ensures in
    let row_is : length c.loop-other.row ≡ length L + 1 =
    ap length c.loop-other.invariant.row ∙ length-table (is_above L (c.args.self_place ∷ take c.loop-other.other-index c.args.others.now)) (length L + 1) in
    omega arith

pub loop-other-preserved : goal.loop-other-preserved
loop-other-preserved c =
    let L = c.args.sight.now.shape.links in
    let e = c.is_shaped.ensures.shaped.earlier in
    let p = c.args.self_place in
    let qs = c.args.others.now in
    let i = c.loop-other.other-index in
    let by = c.args.by in
    let q : ℕ = get_or qs i 0 in
    let first : ℕ → Bool = is_above L (p ∷ take i qs) in
    let inside : q < length L = other_there c.args.sight.now.shape.members L by p qs c.requires.fits i c.loop-other-test.true in
    let grown : (k : ℕ) → (first k || is_ancestor L q k) ≡ is_above L (p ∷ take (i + 1) qs) k = filled_next L p qs i c.loop-other-test.true in
    let says : (k : ℕ) → k < length L → is_in c.loop-other.row k ≡ first k = λ k h. above_says L (p ∷ take i qs) c.loop-other.row k c.loop-other.invariant.row (omega arith) in
    record {
      row = filled_more L e first (length L + 1) q c.loop-other.row c.ancestors_of-in-loop-other.result.now c.union-in-loop-other.new.self c.loop-other.invariant.row c.ancestors_of-in-loop-other.ensures c.union-in-loop-other.ensures
          ∙ table-same (union first (is_ancestor L q)) (is_above L (p ∷ take (i + 1) qs)) (length L + 1) (λ k h. grown k);
      forks = λ m. c.join_masks-forked.ensures m
          ∙ (ap₂ (λ (a b : Bool). a || b) (c.loop-other.invariant.forks m) (c.forks_with.ensures m ∙ forks_with-same L by (is_in c.loop-other.row) first q m says)
          ∙ (sym (forks_more L p by m e first (closed_above L e (p ∷ take i qs)) (or_left (is_ancestor L p p) (is_above L (take i qs) p) (is_ancestor_self L e p)) q inside)
          ∙ forks_next-same L p by m (union first (is_ancestor L q)) (is_above L (p ∷ take (i + 1) qs)) (λ k h. grown k)));
    }

pub returns-clause-forks : goal.returns-clause-forks
returns-clause-forks c = λ m.
    let L = c.args.sight.now.shape.links in
    let p = c.args.self_place in
    let qs = c.args.others.now in
    let all : take c.loop-other.other-index qs ≡ qs = take_all c.loop-other.other-index qs (omega (arith, c.loop-other-test.false)) in
    c.loop-other.invariant.forks m
    ∙ (ap (λ qs. forks_next L p c.args.by (is_above L (p ∷ qs)) m) all ∙ forks_all c.args.sight.now.shape.members L c.is_shaped.ensures.shaped c.args.by p qs c.requires.fits m)
