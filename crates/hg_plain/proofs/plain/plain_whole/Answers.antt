use Rattle.std.proofs.Common.{◌∙◌, ap₂}
use Rattle.hg_model.specs.Order.{last_closed, ordered, order_of, closed_of}
use Rattle.hg_model.specs.Prefix.{Graph, links_of}
use Rattle.hg_plain.proofs.plain.plain_whole.Goals as goal

pub returns-clause-closed : goal.returns-clause-closed
unfolding closed_of
returns-clause-closed c =
    c.state_of.ensures.closed ∙ ap₂ (λ (g : Graph) marks. last_closed g.members (links_of g) marks) c.in_ok-graph.ensures.graph c.in_ok-graph.ensures.marks

pub returns-clause-order : goal.returns-clause-order
unfolding order_of
returns-clause-order c =
    c.from_vec.ensures
    ∙ (c.in_ok-order.ensures
    ∙ ap₂ (λ (g : Graph) marks. ordered g.members g.rows (links_of g) marks) c.in_ok-graph.ensures.graph (c.deref.ensures.value ∙ c.in_ok-graph.ensures.marks))
