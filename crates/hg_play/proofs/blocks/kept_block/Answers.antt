use Rattle.std.proofs.Common.{◌<◌, ◌∙◌, All, List, ap, length, subst, sym}
use Rattle.hg_life.specs.declared.pay.Effect.{Effect}
use Rattle.hg_model.specs.declared.row.Placed.{Placed}
use Rattle.hg_model.specs.Prefix.{Graph, links_of}
use Rattle.hg_outcome.specs.Ledger.{order_lines}
use Rattle.hg_play.proofs.PlayLaws.{ap_three}
use Rattle.hg_play.proofs.BlockLaws.{block_is}
use Rattle.hg_play.proofs.blocks.kept_block.Goals as goal

pub order_lines-requires-clause-places : goal.order_lines-requires-clause-places
order_lines-requires-clause-places g c = subst (λ (g : Graph). All (λ (p : Placed). p.place < length g.rows) c.kept.result.now) (sym c.graph.ensures) c.kept.ensures.places

pub order_lines-requires-clause-each : goal.order_lines-requires-clause-each
order_lines-requires-clause-each g c = c.effects.ensures.each ∙ sym (ap length c.kept.ensures.order)

pub returns : goal.returns
returns g c = λ members made.
    block_is _ members c.args.node.now _ _ _ _ _ _ _ made c.is_node.ensures c.own.ensures
    (c.in_ok-lines.ensures ∙ ap_three (λ (g : Graph) (order : List Placed) (effects : List Effect). order_lines g.rows (links_of g) order effects) c.graph.ensures c.kept.ensures.order c.effects.ensures.effects)
    c.rows-events.ensures c.forkers.ensures c.greatest.ensures c.closed.ensures
    (c.from_vec.ensures ∙ (c.in_ok-balances.ensures.items ∙ (c.balances.ensures ∙ c.book.ensures)))
