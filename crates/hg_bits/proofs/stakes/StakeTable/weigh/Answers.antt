use Rattle.std.proofs.Common.{◌∙◌, ◌*◌, ◌^◌, ◌<◌, IfSome, ap, ap₂, sym, subst, arith}
use Rattle.hg_model.specs.Stakes.{Stakes, AllWeigh, stake_where}
use Rattle.hg_bits.specs.Masks.{mask_has}
use Rattle.hg_bits.proofs.StakeLaws.{even_weighs, ones_within, weighs_low}
use Rattle.hg_bits.proofs.stakes.StakeTable.weigh.Goals as goal

pub returns-in-None-clause-low : goal.returns-in-None-clause-low
returns-in-None-clause-low c =
    let is = c.weigh_mask.ensures ∙ ap (λ (n : Stakes). stake_where n (mask_has c.args.mask)) c.deref.ensures.value in
    omega (arith, is, weighs_low c.self.inside.stakes.items c.self.inside.total (mask_has c.args.mask) c.self.invariant.is_sum c.self.invariant.low)

pub returns-in-Some-clause-value : goal.returns-in-Some-clause-value
returns-in-Some-clause-value c =
    let n = c.self.inside.stakes.items in
    let even : AllWeigh n c.in-Some.stake = subst (λ each. IfSome each (λ stake. AllWeigh n stake)) c.in-Some.is c.self.invariant.even in
    let fits : c.args.mask < 2 ^ 128 = omega arith in
    ap₂ (λ a b. a * b) c.from.ensures c.from-in-Some.ensures
    ∙ (even_weighs n c.in-Some.stake _ (mask_has c.args.mask) even (ones_within c.args.mask c.self.inside.all _ fits c.self.invariant.few c.self.invariant.all)
    ∙ ap (λ (n : Stakes). stake_where n (mask_has c.args.mask)) c.self.view_is)

pub returns-in-Some-clause-low : goal.returns-in-Some-clause-low
returns-in-Some-clause-low c =
    let low = weighs_low c.self.inside.stakes.items c.self.inside.total (mask_has c.args.mask) c.self.invariant.is_sum c.self.invariant.low in
    let is = returns-in-Some-clause-value c ∙ ap (λ (n : Stakes). stake_where n (mask_has c.args.mask)) (sym c.self.view_is) in
    omega (arith, low, is)
