use Rattle.std.proofs.Common.{ℕ, ◌≡◌, subst, arith}
use Rattle.hg_storm.specs.Turning.{Stands}
use Rattle.hg_storm.proofs.turning.take_turns.Goals as goal

pub returns-clause-stands : goal.returns-clause-stands
returns-clause-stands g c =
    let all : c.turns.t ≡ c.args.plan.now.turns = omega (arith, c.turns-test.false, c.turns.auto.t-end) in
    subst (λ (n : ℕ). Stands c.args.plan.now c.args.place c.args.mailboxes.now c.args.shared.now n n c.turns.desk) all c.turns.invariant.stands
