use Rattle.std.proofs.Common.{subst, sym, ap, ◌∙◌, arith}
use Rattle.hg_model.specs.GraphWords.{IsLawfulGraph}
use Rattle.hg_model.specs.Prefix.{Graph}
use Rattle.hg_proof.specs.Answers.{order_in}
use Rattle.hg_proof.proofs.FrontLaws.{first_lawful, whole_test}
use Rattle.hg_proof.proofs.least.has_whole.Goals as goal

pub order_in-requires : goal.order_in-requires
order_in-requires c =
    subst IsLawfulGraph (sym c.in_ok-front.ensures.graph) (first_lawful c.args.graph.now.graph c.len.ensures.lawful.graph c.args.len)

pub returns : goal.returns
returns c =
    whole_test c.args.graph.now.graph c.len.ensures.lawful c.args.len _ c.args.entries c.in_ok-order.order.items
    (c.in_ok-order.ensures ∙ ap (λ (g : Graph). order_in g) c.in_ok-front.ensures.graph) (omega (arith, c.len-2.ensures)) c.requires.entries
