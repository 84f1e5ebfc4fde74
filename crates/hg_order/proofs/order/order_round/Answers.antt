use Rattle.hg_order.proofs.RoundLaws.{round_placed, round_ordered}
use Rattle.hg_order.proofs.order.order_round.Goals as goal

pub returns-clause-placed : goal.returns-clause-placed
returns-clause-placed g c = round_placed (g.P.Prefix.graph c.args.p.now) c.is_of_graph.ensures.shaped c.args.famous.now c.args.fresh.now _ _ c.round_of.result
    c.round_of.ensures c.requires.some c.requires.received c.place_rows.ensures.placed c.place_rows.ensures.wide c.sort_round.ensures.sorted c.sort_round.ensures.long

pub returns-clause-whole : goal.returns-clause-whole
returns-clause-whole g c = round_ordered (g.P.Prefix.graph c.args.p.now) c.is_of_graph.ensures.shaped c.args.famous.now c.args.fresh.now _ (returns-clause-placed g c)
