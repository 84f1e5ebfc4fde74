use Rattle.std.proofs.Common.{arith}
use Rattle.hg_model.proofs.ShapeLaws.{fits_on}
use Rattle.check_sights.proofs.growing.fits_on.Goals as goal

pub returns : goal.returns
returns g c = λ t.
    fits_on (g.S.Sight.shape c.args.sight.now).members (g.S.Sight.shape c.args.sight.now).links c.args.creator c.args.own c.args.others.now c.requires
    (omega (arith, c.if-others-gt4.false)) (omega (arith, c.if-own-rows.false, c.rows.ensures.value)) (c.are_by_others.ensures.there t)
    (omega (arith, c.creator.ensures.value, c.if-creator.false)) (c.are_by_others.ensures.by t)
