use Rattle.std.proofs.Common.{◌≡◌, ℕ, ◌≤◌, ◌<◌, ◌∙◌, ◌||◌, ◌&&◌, eqb, Bool, sym, ap, ap₂, refl, length, arith}
use Rattle.hg_model.specs.Ancestry.{is_ancestor}
use Rattle.hg_model.proofs.AncestryLaws.{is_ancestor-le}
use Rattle.hg_bits.specs.Rows.{is_in}
use Rattle.hg_ancestry.proofs.HeldLaws.{row_says}
use Rattle.hg_ancestry.proofs.UnionLaws.{apart-same}
use Rattle.hg_ancestry.proofs.forks.forks_with.Goals as goal

pub members_apart-there-requires : goal.members_apart-there-requires
members_apart-there-requires c = λ k here.
    let e = c.is_shaped.ensures.shaped.earlier in
    let le : k ≤ c.args.q = is_ancestor-le c.args.sight.now.shape.links e c.args.q k (sym (row_says c.args.sight.now.shape.links e c.args.q k c.ancestors_of-above.result.now c.ancestors_of-above.ensures) ∙ here) in
    omega (arith, c.requires.place)

pub returns : goal.returns
returns c = λ m.
    let L = c.args.sight.now.shape.links in
    let q = c.args.q in
    let above = is_in c.ancestors_of-above.result.now in
    let same : (a : ℕ) → a < length L → above a ≡ is_ancestor L q a = λ a h. row_says L c.is_shaped.ensures.shaped.earlier q a c.ancestors_of-above.result.now c.ancestors_of-above.ensures in
    c.join_masks.ensures m
    ∙ ap₂ (λ (below anew : Bool). below || anew) (c.forked_below.ensures m) (c.meet_masks.ensures m
    ∙ ap₂ (λ (here there : Bool). here && there)
    (c.with_member-here.ensures m ∙ ap (λ b. eqb m c.args.by || b) (c.members_apart.ensures m ∙ apart-same L m (is_in c.args.rows.now) above (is_in c.args.rows.now) (is_ancestor L q) (λ a h. refl) same))
    (c.members_apart-there.ensures m ∙ apart-same L m above (is_in c.args.rows.now) (is_ancestor L q) (is_in c.args.rows.now) same (λ a h. refl)))
