use Rattle.hg_storm.proofs.MailLaws.{first_more}
use Rattle.hg_storm.proofs.mails.first_names.Goals as goal

pub loop-place-preserved : goal.loop-place-preserved
loop-place-preserved c = first_more c.args.node.now c.loop-place.place c.row.result.now c.loop-place.names.items c.push.new.self.items c.row.ensures c.loop-place.invariant c.in_ok-push.ensures.items
