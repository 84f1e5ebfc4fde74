use Rattle.std.proofs.Common.{subst}
use Rattle.hg_life.specs.NodeView.{NodeView}
use Rattle.hg_life.specs.Signing.{accepts_by}
use Rattle.hg_wire.specs.declared.message.Want.TheVariants.{Have}
use Rattle.hg_wire.specs.Exchange.{asked_of}
use Rattle.hg_wire.specs.Grammar.{Fits}
use Rattle.hg_world.specs.World.{Secrets}
use Rattle.hg_exchange.proofs.TakingLaws.{always}
use Rattle.hg_exchange.proofs.exchange.ask.Goals as goal

pub returns-clause-fits : goal.returns-clause-fits
returns-clause-fits g c =
    always c.ask.result (subst (λ (v : NodeView Secrets). Fits Have (asked_of v)) c.in_ok-node.ensures.node (c.exchanges_fit.ensures.asks accepts_by c.in_ok-node.node c.is_node.ensures))
