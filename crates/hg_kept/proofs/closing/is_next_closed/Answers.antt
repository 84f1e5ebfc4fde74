use Rattle.std.proofs.Common.{◌∙◌, Bool, ◌&&◌, not, ap, sym, is_some}
use Rattle.std.specs.List.{list_all}
use Rattle.hg_model.specs.Fame.{mark_at}
use Rattle.hg_kept.proofs.GraphFacts.{witnesses_inside, next_known}
use Rattle.hg_kept.proofs.closing.is_next_closed.Goals as goal

pub are_marked-requires : goal.are_marked-requires
are_marked-requires g c =
    witnesses_inside _ _ _ c.is_of_graph.ensures.matches _ _ c.witnesses-witnesses.ensures _ c.requires.marked

pub returns-then-not-is_empty : goal.returns-then-not-is_empty
returns-then-not-is_empty g c =
    c.are_marked.ensures
    ∙ (ap (λ (b : Bool). not b && list_all (λ w. is_some (mark_at c.args.marks.now w)) c.witnesses-witnesses.result.now) (sym c.if-not-is_empty.true ∙ c.is_empty.ensures)
    ∙ next_known _ _ _ c.is_of_graph.ensures.matches c.is_of_graph.ensures.shaped _ _ c.requires.reached _ c.witnesses-witnesses.ensures)

pub returns-else-not-is_empty : goal.returns-else-not-is_empty
returns-else-not-is_empty g c =
    ap not c.if-not-is_empty.false
    ∙ (ap (λ (b : Bool). not b && list_all (λ w. is_some (mark_at c.args.marks.now w)) c.witnesses-witnesses.result.now) (sym c.if-not-is_empty.false ∙ c.is_empty.ensures)
    ∙ next_known _ _ _ c.is_of_graph.ensures.matches c.is_of_graph.ensures.shaped _ _ c.requires.reached _ c.witnesses-witnesses.ensures)
