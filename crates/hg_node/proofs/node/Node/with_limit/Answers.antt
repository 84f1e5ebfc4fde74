use Rattle.std.proofs.Common.{◌∙◌}
use Rattle.hg_node.proofs.RecordLaws.{recorded_none}
use Rattle.hg_node.proofs.node.Node.with_limit.Goals as goal

pub invariant_of-result : goal.invariant_of-result
invariant_of-result g c =
    recorded_none g.V.Verifier.accepts c.args.members.now c.args.own c.args.limit c.args.keys c.in_ok-chronicle.chronicle.value c.is_lawful.ensures c.requires.own c.requires.limit (c.in_ok-chronicle.ensures.ok ∙ c.in_ok-new.ensures)
