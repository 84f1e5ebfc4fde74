use Rattle.std.proofs.Common.{◌≡◌, ◌∙◌, ap, arith, length}
use Rattle.hg_model.specs.Shape.{Shape}
use Rattle.hg_model.specs.Rounds.{is_witness}
use Rattle.hg_model.specs.Prefix.{links_of}
use Rattle.hg_model.proofs.LinkLaws.{length-links}
use Rattle.hg_model.proofs.PlacesLaws.{count_below-le}
use Rattle.hg_fame.proofs.ShareLaws.{found_below, speaks_of}
use Rattle.hg_fame.proofs.sharing.elect_unmarked.Goals as goal

pub overflow_add-witnesses : goal.overflow_add-witnesses
overflow_add-witnesses g c =
    let graph = g.P.Prefix.graph c.args.p.now in
    omega (arith, count_below-le c.loop-x.x (is_witness graph.members (links_of graph)), c.loop-x.invariant.witnesses, c.loop-x-test.true, c.rows-x-end.ensures.short)

pub returns-clause-speaks : goal.returns-clause-speaks
returns-clause-speaks g c =
    let graph = g.P.Prefix.graph c.args.p.now in
    let whole : c.loop-x.x ≡ c.rows.result = omega (arith, c.loop-x-test.false, c.loop-x.auto.x-end, c.rows-x-end.ensures.value, c.rows.ensures.value) in
    let long : c.rows.result ≡ length graph.rows =
    c.rows.ensures.value ∙ (ap (λ (s : Shape). length s.links) (g.met.P.Prefix.sees_graph c.args.p.now) ∙ length-links graph.rows) in
    speaks_of graph c.args.share c.rows.result c.from_vec.result (c.from_vec.ensures ∙ (c.loop-x.invariant.found ∙ ap (found_below graph c.args.share) whole)) long
