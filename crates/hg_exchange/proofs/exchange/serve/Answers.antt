use Rattle.std.proofs.Common.{subst}
use Rattle.hg_life.specs.NodeView.{NodeView}
use Rattle.hg_life.specs.Signing.{accepts_by}
use Rattle.hg_wire.specs.declared.message.Want.TheVariants.{Rows}
use Rattle.hg_wire.specs.Exchange.{answer_of}
use Rattle.hg_wire.specs.Grammar.{Fits}
use Rattle.hg_world.specs.World.{Secrets}
use Rattle.hg_exchange.specs.Messages.{names_in}
use Rattle.hg_exchange.proofs.TakingLaws.{always}
use Rattle.hg_exchange.proofs.exchange.serve.Goals as goal

pub returns-clause-fits : goal.returns-clause-fits
returns-clause-fits g c =
    let names = names_in c.args.have.now in
    always c.answer.result
    (subst (λ (v : NodeView Secrets). Fits Rows (answer_of names v)) c.in_ok-node.ensures.node (c.exchanges_fit.ensures.answers accepts_by names c.in_ok-node.node c.is_node.ensures))
