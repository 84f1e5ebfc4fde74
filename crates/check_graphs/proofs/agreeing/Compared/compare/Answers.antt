use Rattle.std.proofs.Common.{subst, ◌∙◌}
use Rattle.check_graphs.specs.Orders.{AreOneOrder}
use Rattle.check_graphs.proofs.agreeing.Compared.compare.Goals as goal

pub returns-clause-pairs : goal.returns-clause-pairs
returns-clause-pairs c = λ e. subst AreOneOrder (c.as_slice.ensures.value ∙ c.in_ok-orders.ensures) (c.with_pairs-score.ensures.pairs (c.with_growth-self.ensures.none e))
