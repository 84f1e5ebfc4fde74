use Rattle.hg_graph.proofs.HeldLaws.{keeps_none}
use Rattle.hg_graph.proofs.graph.EventGraph.new.Goals as goal

pub invariant_of-result : goal.invariant_of-result
invariant_of-result c =
    rw (c.new-4.ensures, c.in_ok-sight.ensures, c.in_ok-watch.ensures) (keeps_none c.args.stakes.now c.args.coin c.in_ok-rounds.rounds c.requires.some c.requires.few c.requires.coin c.in_ok-rounds.ensures.standings c.in_ok-rounds.ensures.weights)
