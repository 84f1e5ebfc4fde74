use Rattle.std.proofs.Common.{◌∙◌, sym, ap, ◌||◌, ◌&&◌, eqb, arith}
use Rattle.std.proofs.Math.Bool.{or-false}
use Rattle.hg_bits.specs.Masks.{mask_has}
use Rattle.hg_branches.proofs.LineSeenLaws.{line_low}
use Rattle.hg_branches.proofs.seeing.with_seer.Goals as goal

pub returns-then-end-y : goal.returns-then-end-y
returns-then-end-y c = λ m.
    sym (ap (λ sees. mask_has c.args.mask m || (sees && eqb c.args.maker m))
    (line_low c.args.sight.now.shape.members c.args.sight.now.shape.links c.args.counts.now.row c.args.y c.args.b c.is_shaped.ensures.shaped (omega (arith, c.at-end.ensures)))
    ∙ or-false (mask_has c.args.mask m))
