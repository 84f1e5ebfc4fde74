use Rattle.std.proofs.Common.{◌∙◌, subst}
use Rattle.check_graphs.specs.Published.{IsPublished}
use Rattle.check_graphs.proofs.game.Game.is_plain.Goals as goal

pub returns : goal.returns
returns c = λ t. subst IsPublished c.node-node.ensures record {
  order = c.is_told_alike.ensures.order t ∙ c.in_ok-whole.ensures.order;
  closed = c.is_told_alike.ensures.closed t ∙ c.in_ok-whole.ensures.closed;
}
