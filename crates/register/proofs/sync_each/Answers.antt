use Rattle.std.proofs.Common.{◌≡◌, ℕ, ◌∙◌, ap, arith}
use Rattle.register.specs.Play.{turn_count, turned}
use Rattle.register.proofs.sync_each.Goals as goal

pub returns : goal.returns
returns c =
    let all : c.loop-step.step ≡ turn_count = omega (arith, c.loop-step-test.false, c.loop-step.auto.step-end) in
    c.loop-step.invariant ∙ ap (λ (step : ℕ). turned c.args.world.now step) all
