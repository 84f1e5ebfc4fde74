use Rattle.hg_storm.proofs.OpenLaws.{opening_none, opening_one}
use Rattle.hg_storm.proofs.opening.open_all.Goals as goal

pub mailboxes-init : goal.mailboxes-init
mailboxes-init c = opening_none c.args.room c.new-mailboxes.result.items c.new-masters.result.items c.new-mailboxes.ensures.items c.new-masters.ensures.items

pub mailboxes-preserved : goal.mailboxes-preserved
mailboxes-preserved c =
    opening_one c.mailboxes.i c.args.room c.mailboxes.mailboxes.items c.push.new.self.items c.mailboxes.masters.items c.push-in-mailboxes.new.self.items c.in_ok-mailbox.mailbox c.in_ok-mailbox.port
    c.mailboxes.invariant c.in_ok-mailbox.ensures c.in_ok-push.ensures.items c.in_ok-push-2.ensures.items
