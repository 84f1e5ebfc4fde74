use Rattle.std.proofs.Common.{◌≡◌, ◌∙◌, length, ap}
use Rattle.hg_model.specs.Shape.{Shape}
use Rattle.hg_model.proofs.LinkLaws.{length-links}
use Rattle.hg_fame.proofs.DecisionLaws.{whole_decider, whole_fame}
use Rattle.hg_fame.proofs.electing.elect.Goals as goal

pub returns-clause-fame : goal.returns-clause-fame
returns-clause-fame g c =
    let graph = g.P.Prefix.graph c.args.p.now in
    let long : c.rows.result ≡ length graph.rows =
    c.rows.ensures.value ∙ (ap (λ (s : Shape). length s.links) (g.met.P.Prefix.sees_graph c.args.p.now) ∙ length-links graph.rows) in
    c.elect_within.ensures.fame ∙ whole_fame graph c.rows.result c.args.x long

pub returns-clause-decider : goal.returns-clause-decider
returns-clause-decider g c =
    let graph = g.P.Prefix.graph c.args.p.now in
    let long : c.rows.result ≡ length graph.rows =
    c.rows.ensures.value ∙ (ap (λ (s : Shape). length s.links) (g.met.P.Prefix.sees_graph c.args.p.now) ∙ length-links graph.rows) in
    c.elect_within.ensures.decider ∙ whole_decider graph c.rows.result c.args.x long
