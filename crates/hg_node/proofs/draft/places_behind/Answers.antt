use Rattle.std.proofs.Common.{List, ℕ, ◌+◌, drop}
use Rattle.std.proofs.lemmas.List.{at_drop_more}
use Rattle.hg_arrival.proofs.PlaceLaws.{placed_more}
use Rattle.hg_node.proofs.draft.places_behind.Goals as goal

pub loop-name-preserved : goal.loop-name-preserved
loop-name-preserved c =
    let names : List (List ℕ) = c.args.others.now in
    placed_more c.args.graph.now.graph.rows c.args.own names (drop c.loop-name.name-index names) (drop (c.loop-name.name-index + 1) names) c.loop-name.name-index _
    c.loop-name.places c.with-places-in-loop-name.result c.in-Some.place
    (at_drop_more (λ (left : List (List ℕ)). left) names c.loop-name.name-index _ c.loop-name-test.true)
    c.in-Some.ensures c.with-places-in-loop-name.ensures c.loop-name.invariant
