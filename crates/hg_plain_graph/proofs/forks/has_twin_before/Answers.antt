use Rattle.std.proofs.Common.{◌∙◌, sym}
use Rattle.hg_model.proofs.PlacesLaws.{some_below_from}
use Rattle.hg_plain_graph.specs.Twins.{is_twin, has_twin_before}
use Rattle.hg_plain_graph.proofs.forks.has_twin_before.Goals as goal

pub returns-then-is_twin : goal.returns-then-is_twin
unfolding has_twin_before
returns-then-is_twin c =
    sym (some_below_from c.args.x (is_twin c.args.rows.now c.args.x) c.loop-y.y c.loop-y-test.true (sym c.is_twin.ensures ∙ c.if-is_twin.true))
