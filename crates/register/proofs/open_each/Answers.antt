use Rattle.std.proofs.Common.{◌≡◌, ℕ, ◌∙◌, length, ap, arith}
use Rattle.register.specs.Play.{opened}
use Rattle.register.proofs.open_each.Goals as goal

pub returns : goal.returns
returns c =
    let all : c.loop-number.number ≡ length c.args.world.now.sites = omega (arith, c.loop-number-test.false, c.loop-number.auto.number-end, c.members-number-end.ensures.value) in
    c.loop-number.invariant ∙ ap (λ (m : ℕ). opened c.args.world.now m) all
