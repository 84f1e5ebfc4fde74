use Rattle.std.proofs.Common.{◌≡◌, ◌∙◌, ℕ, Bool, List, IfOk, length, ap, subst}
use Rattle.hg_model.specs.Shape.{Shape}
use Rattle.hg_model.proofs.LinkLaws.{length-links}
use Rattle.hg_fame.proofs.ShareLaws.{whole_fames}
use Rattle.hg_fame.proofs.sharing.elect_open.Goals as goal

pub returns-clause-fames : goal.returns-clause-fames
returns-clause-fames g c =
    let graph = g.P.Prefix.graph c.args.p.now in
    let long : c.rows.result ≡ length graph.rows =
    c.rows.ensures.value ∙ (ap (λ (s : Shape). length s.links) (g.met.P.Prefix.sees_graph c.args.p.now) ∙ length-links graph.rows) in
    subst (λ (fames : List (ℕ × Bool)). IfOk c.elect_first.result (λ found. found.marks ≡ fames)) (whole_fames graph c.rows.result c.args.places.now long) c.elect_first.ensures.fames
