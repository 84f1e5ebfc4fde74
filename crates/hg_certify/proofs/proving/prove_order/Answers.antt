use Rattle.std.proofs.Common.{◌∙◌, ap, arith}
use Rattle.hg_life.specs.NodeView.{NodeView}
use Rattle.hg_world.specs.World.{Secrets, WorldView, node_at}
use Rattle.hg_certify.proofs.ProveLaws.{proof_of}
use Rattle.hg_certify.proofs.proving.prove_order.Goals as goal

pub returns : goal.returns
returns c =
    let members = c.args.members.now in
    let lines = c.args.lines.now in
    let own = c.args.own in
    let began = c.in_ok-world.ensures.began own (omega (arith, c.requires.own, c.in_ok-world.ensures.count)) in
    proof_of c.certificates_are_judged.ensures.shown members lines own c.node.result.now c.in_ok-bytes.bytes.items
    (c.node.ensures.value ∙ ap (λ (w : WorldView). node_at w own) c.in_ok-world.ensures.world)
    (ap (λ (v : NodeView Secrets). v.start) c.node.ensures.value ∙ began)
    c.in_ok-world.ensures.safe c.in_ok-bytes.ensures
