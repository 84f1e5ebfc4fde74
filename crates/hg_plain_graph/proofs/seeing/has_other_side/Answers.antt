use Rattle.std.proofs.Common.{◌∙◌, sym}
use Rattle.hg_model.proofs.AncestryLaws.{some_ancestor_from}
use Rattle.hg_model.proofs.ForkLaws.{no_other_side}
use Rattle.hg_plain_graph.proofs.seeing.has_other_side.Goals as goal

pub returns-then-not-is_by : goal.returns-then-not-is_by
returns-then-not-is_by c = sym (no_other_side _ _ _ _ (sym c.is_by.ensures ∙ c.if-not-is_by.true))

pub returns-then-is_other_side : goal.returns-then-is_other_side
returns-then-is_other_side c =
    sym (some_ancestor_from _ _ c.loop-b.b _ c.loop-b-test.true (sym c.is_other_side.ensures ∙ c.if-is_other_side.true))
