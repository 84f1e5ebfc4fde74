use Rattle.std.proofs.Common.{◌∙◌, ap, sym, true, arith}
use Rattle.hg_model.specs.Places.{weight_below}
use Rattle.hg_model.specs.Stakes.{stake_of}
use Rattle.hg_model.proofs.PlacesLaws.{total-all}
use Rattle.hg_bits.proofs.stakes.sum_stakes.Goals as goal

pub returns-clause-value : goal.returns-clause-value
returns-clause-value c =
    c.loop-m.invariant.sum ∙ (ap (λ k. weight_below (stake_of c.args.stakes.now) k (λ _. true)) (omega arith) ∙ sym (total-all c.args.stakes.now))
