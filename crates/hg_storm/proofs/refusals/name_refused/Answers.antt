use Rattle.std.proofs.Common.{get_or}
use Rattle.std.proofs.lemmas.List.{get_or_default}
use Rattle.hg_life.specs.declared.answers.ByteFault.TheVariants as byte_fault
use Rattle.hg_life.specs.declared.answers.Fault.TheVariants as fault
use Rattle.hg_storm.specs.declared.taking.RefusedMessage.{RefusedMessage}
use Rattle.hg_storm.proofs.NameLaws.{named_more}
use Rattle.hg_storm.proofs.refusals.name_refused.Goals as goal

pub loop-one-preserved : goal.loop-one-preserved
loop-one-preserved c =
    let nothing : RefusedMessage = record { index = 0; why = fault.Bytes (byte_fault.Short 0); at = 0 } in
    let one : RefusedMessage = get_or c.args.refused.now c.loop-one.one-index nothing in
    named_more c.args.nodes.now c.args.taken.now c.args.refused.now c.loop-one.one-index one c.index-taken-one.result c.index-nodes-message.result c.row.result.now c.loop-one.named.items c.push.new.self.items
    c.requires c.loop-one-test.true (get_or_default c.args.refused.now c.loop-one.one-index nothing one c.loop-one-test.true) c.index-taken-one.is c.index-nodes-message.is c.row.ensures
    c.loop-one.invariant c.in_ok-push.ensures.items
