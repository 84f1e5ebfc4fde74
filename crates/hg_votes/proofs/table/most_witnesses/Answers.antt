use Rattle.std.proofs.Common.{◌≡◌, ◌∙◌, length, max, ap, arith, rules}
use Rattle.hg_model.specs.Shape.{Shape}
use Rattle.hg_model.specs.GraphWords.{round_in}
use Rattle.hg_model.proofs.LinkLaws.{length-links}
use Rattle.hg_model.proofs.PrefixLaws.{round_read}
use Rattle.hg_votes.proofs.MadeLaws.{most_more}
use Rattle.hg_votes.proofs.table.most_witnesses.Goals as goal

pub loop-y-preserved : goal.loop-y-preserved
loop-y-preserved g c =
    let graph = g.P.Prefix.graph c.args.p.now in
    let matches = g.met.P.Prefix.has_rounds c.args.p.now in
    let top : c.max-most.result ≡ max c.loop-y.most (length c.witnesses.result.now) = search rules in
    let long : c.rows-y-end.result ≡ length graph.rows =
    c.rows-y-end.ensures.value ∙ (ap (λ (s : Shape). length s.links) (g.met.P.Prefix.sees_graph c.args.p.now) ∙ length-links graph.rows) in
    let read : c.round.result ≡ round_in graph c.loop-y.y = c.round.ensures ∙ round_read graph _ c.loop-y.y matches (omega (arith, long, c.loop-y-test.true)) in
    most_more graph _ c.args.from c.loop-y.y c.round.result c.loop-y.most c.witnesses.result.now matches read c.witnesses.ensures c.loop-y.invariant _ (omega arith) (omega arith)
