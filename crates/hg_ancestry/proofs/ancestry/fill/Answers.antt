use Rattle.std.proofs.Common.{◌≡◌, ◌+◌, ◌∙◌, [], ℕ, List, false, sym, ap, subst, length, arith}
use Rattle.std.proofs.lemmas.List.{length-replicate, nil_from_length}
use Rattle.hg_model.specs.Links.{Link}
use Rattle.hg_model.specs.Shape.{FitsLink, link_of}
use Rattle.hg_bits.proofs.MaskLaws.{mask_none}
use Rattle.hg_bits.specs.Rows.{with_place}
use Rattle.hg_bits.proofs.RowLaws.{length-table}
use Rattle.hg_ancestry.specs.Held.{above_row, is_above, IsForkMask}
use Rattle.hg_ancestry.proofs.HeldLaws.{filled_last, filled_none, first_and_rest}
use Rattle.hg_ancestry.proofs.NewForkLaws.{no_fork_alone}
use Rattle.hg_ancestry.proofs.ancestry.fill.Goals as goal
use Rattle.hg_ancestry.proofs.ancestry.fill.Goals.{in-empty, in-len1-up}

pub set-requires : goal.set-requires
set-requires c =
    let L : List Link = c.args.sight.now.shape.links in
    let on : List ℕ = c.args.on.now in
    let n : ℕ = length L in
    let long : length c.if-on-lt1.row ≡ n + 1 = elim c.if-on-lt1.branch [
      | in-empty w ↦ ap length (w.row-is ∙ c.requires.empty) ∙ length-replicate (n + 1) false
      | in-len1-up w ↦ ap length (w.row-is ∙ (w.add_parents-forked.ensures.row ∙ ap (above_row L) (first_and_rest on w.in-len1-up.len_at_least))) ∙ length-table (is_above L on) (n + 1)
    ] in
    omega (arith, c.rows.ensures.value)

pub returns-clause-row : goal.returns-clause-row
returns-clause-row c =
    let L : List Link = c.args.sight.now.shape.links in
    let on : List ℕ = c.args.on.now in
    let row_is : c.if-on-lt1.row ≡ above_row L on = elim c.if-on-lt1.branch [
      | in-empty w ↦ w.row-is ∙ (c.requires.empty ∙ (filled_none L (length L + 1) ∙ ap (above_row L) (sym (nil_from_length on (omega (arith, w.in-empty.len_below))))))
      | in-len1-up w ↦ w.row-is ∙ (w.add_parents-forked.ensures.row ∙ ap (above_row L) (first_and_rest on w.in-len1-up.len_at_least))
    ] in
    c.set.ensures ∙ (ap (with_place c.if-on-lt1.row) c.rows.ensures.value ∙ filled_last (is_above L on) c.if-on-lt1.row (length L + 1) (length L) row_is)

pub returns-clause-forks : goal.returns-clause-forks
returns-clause-forks c =
    let L : List Link = c.args.sight.now.shape.links in
    let on : List ℕ = c.args.on.now in
    elim c.if-on-lt1.branch [
      | in-empty w ↦
          (let none : on ≡ [] = nil_from_length on (omega (arith, w.in-empty.len_below)) in
          subst (λ (mask : ℕ). IsForkMask L (link_of c.args.by on) mask) (sym w.forked-is)
          (subst (λ (on : List ℕ). IsForkMask L (link_of c.args.by on) 0) (sym none)
          (λ m. mask_none m ∙ sym (no_fork_alone c.args.sight.now.shape.members L m c.args.by c.is_shaped.ensures.shaped
          (subst (λ (on : List ℕ). FitsLink c.args.sight.now.shape.members L (link_of c.args.by on)) none c.requires.fits)))))
      | in-len1-up w ↦ subst (λ (mask : ℕ). IsForkMask L (link_of c.args.by on) mask) (sym w.forked-is)
          (subst (λ (on : List ℕ). IsForkMask L (link_of c.args.by on) w.add_parents-forked.result) (first_and_rest on w.in-len1-up.len_at_least) w.add_parents-forked.ensures.forks)
    ]
