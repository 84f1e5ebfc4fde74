use Rattle.std.proofs.Common.{◌∙◌, ap}
use Rattle.hg_life.specs.NodeView.{NodeView, kept_of, node_rows}
use Rattle.hg_world.specs.World.{Secrets}
use Rattle.register.specs.Replicas.{register_in}
use Rattle.register.proofs.ReplicaLaws.{site_register}
use Rattle.register.proofs.replica.register_at.Goals as goal

pub returns : goal.returns
returns c =
    c.register_of.ensures
    ∙ (ap (λ (v : NodeView Secrets). register_in (node_rows v) (kept_of v)) c.node.ensures.value
    ∙ site_register _ _ c.node.ensures.site)
