use Rattle.std.proofs.Common.{◌≡◌, ◌∙◌, ◌*◌, IfSome, length, ap, ap₂, refl, sym, subst, arith}
use Rattle.hg_model.specs.Places.{count_below, weight_below}
use Rattle.hg_model.specs.Stakes.{Stakes, AllWeigh, stake_of, stake_where}
use Rattle.hg_bits.specs.Lanes.{is_at_least}
use Rattle.hg_bits.proofs.StakeLaws.{even_weighs, weighs_low}
use Rattle.hg_bits.proofs.stakes.StakeTable.weigh_ge.Goals as goal

pub returns-in-None-clause-value : goal.returns-in-None-clause-value
returns-in-None-clause-value c =
    let test = is_at_least c.args.row.now c.args.other.now in
    c.weigh_lanes.ensures
    ∙ (ap (λ (n : Stakes). weight_below (stake_of n) (length c.args.row.now) test) (c.deref.ensures.value ∙ c.self.view_is)
    ∙ ap (λ k. weight_below (stake_of c.args.self.now) k test) c.requires.row)

pub returns-in-None-clause-low : goal.returns-in-None-clause-low
returns-in-None-clause-low c =
    let test = is_at_least c.args.row.now c.args.other.now in
    let low = weighs_low c.self.inside.stakes.items c.self.inside.total test c.self.invariant.is_sum c.self.invariant.low in
    let is = returns-in-None-clause-value c ∙ ap (λ (n : Stakes). stake_where n test) (sym c.self.view_is) in
    omega (arith, low, is)

pub returns-in-Some-clause-value : goal.returns-in-Some-clause-value
returns-in-Some-clause-value c =
    let n = c.self.inside.stakes.items in
    let test = is_at_least c.args.row.now c.args.other.now in
    let even : AllWeigh n c.in-Some.stake = subst (λ each. IfSome each (λ stake. AllWeigh n stake)) c.in-Some.is c.self.invariant.even in
    let wide : length c.args.row.now ≡ length n = c.requires.row ∙ ap (λ (n : Stakes). length n) (sym c.self.view_is) in
    ap₂ (λ a b. a * b) (c.from.ensures ∙ (c.count_ge.ensures ∙ ap (λ k. count_below k test) wide)) c.from-in-Some.ensures
    ∙ (even_weighs n c.in-Some.stake _ test even refl ∙ ap (λ (n : Stakes). stake_where n test) c.self.view_is)

pub returns-in-Some-clause-low : goal.returns-in-Some-clause-low
returns-in-Some-clause-low c =
    let test = is_at_least c.args.row.now c.args.other.now in
    let low = weighs_low c.self.inside.stakes.items c.self.inside.total test c.self.invariant.is_sum c.self.invariant.low in
    let is = returns-in-Some-clause-value c ∙ ap (λ (n : Stakes). stake_where n test) (sym c.self.view_is) in
    omega (arith, low, is)
