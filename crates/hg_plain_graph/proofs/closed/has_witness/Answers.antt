use Rattle.std.proofs.Common.{arith, sym, ◌∙◌}
use Rattle.hg_model.proofs.PlacesLaws.{some_below_from}
use Rattle.hg_plain_graph.proofs.closed.has_witness.Goals as goal

pub returns-then-is_witness_of_round : goal.returns-then-is_witness_of_round
returns-then-is_witness_of_round c = sym (some_below_from _ _ c.loop-y.y (omega arith) (sym c.is_witness_of_round.ensures ∙ c.if-is_witness_of_round.true))
