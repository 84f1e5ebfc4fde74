use Rattle.std.proofs.Common.{List, ℕ, Bool, subst, sym}
use Rattle.hg_answering.specs.Beyond.{AreFlaggedFrom, BeginWith, beyond_flagged}
use Rattle.hg_answering.proofs.BeyondLaws.{beyond_answer}
use Rattle.hg_answering.proofs.beyond_rows.beyond.Goals as goal

pub returns : goal.returns
returns g c =
    let graph = c.graph-graph.result.now.graph in
    let flags : AreFlaggedFrom graph.rows c.args.names.now c.min-start.result c.as_slice.result.now =
    subst (λ (xs : List Bool). AreFlaggedFrom graph.rows c.args.names.now c.min-start.result xs) (sym c.as_slice.ensures.value) c.in_ok-flags.ensures in
    beyond_answer c.args.node.now graph c.args.names.now c.args.place c.args.limit c.min-start.result c.len-rows.result c.in_ok-all.all c.as_slice.result.now c.from_vec.result
    c.graph-graph.ensures c.len-rows.ensures.value c.min-start.ensures flags
    (subst (λ (xs : List (List ℕ)). BeginWith c.args.limit (beyond_flagged graph.rows c.as_slice.result.now c.min-start.result) c.in_ok-all.all xs) (sym c.from_vec.ensures) c.in_ok-all.ensures)
