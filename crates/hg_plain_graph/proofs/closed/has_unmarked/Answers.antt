use Rattle.std.proofs.Common.{arith, sym, ◌∙◌}
use Rattle.hg_model.proofs.PlacesLaws.{some_below_from}
use Rattle.hg_plain_graph.proofs.closed.has_unmarked.Goals as goal

pub returns-then-is_unmarked : goal.returns-then-is_unmarked
returns-then-is_unmarked c = sym (some_below_from _ _ c.loop-y.y (omega arith) (sym c.is_unmarked.ensures ∙ c.if-is_unmarked.true))
