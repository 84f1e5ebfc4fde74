use Rattle.std.proofs.Common.{◌∙◌, sym, ap, ◌||◌, arith}
use Rattle.std.proofs.Math.Bool.{or-false}
use Rattle.hg_model.specs.Counts.{numbers_of}
use Rattle.hg_bits.specs.Masks.{mask_has}
use Rattle.hg_branches.proofs.LineSeenLaws.{line_low, other_unseen}
use Rattle.hg_branches.proofs.seeing.with_other.Goals as goal

pub returns-then-at-target : goal.returns-then-at-target
returns-then-at-target c = λ m.
    let shape = c.args.sight.now.shape in
    let counts = c.args.counts.now.row in
    let unseen = line_low shape.members shape.links counts c.args.target.row c.args.b c.is_shaped.ensures.shaped (omega (arith, c.at.ensures, c.if-at-target.true)) in
    sym (ap (λ added. mask_has c.args.mask m || added) (other_unseen shape.links c.args.makers.now (numbers_of c.args.target.firsts) counts c.args.target.row c.args.b m unseen)
    ∙ or-false (mask_has c.args.mask m))
