use Rattle.std.proofs.Common.{arith, get_or, refl}
use Rattle.hg_storm.proofs.MailLaws.{are_mails, senders_more}
use Rattle.hg_storm.proofs.mails.mails_of.Goals as goal

pub senders-preserved : goal.senders-preserved
senders-preserved c = record {
  each = c.in_ok-push_mails.ensures.mails;
  pairs = senders_more c.args.circle.now c.senders.from-index (get_or c.args.circle.now c.senders.from-index 0) c.senders.mails.items c.push_mails.new.mails.items c.senders-test.true refl
      c.senders.invariant.pairs c.in_ok-push_mails.ensures.pairs;
}

pub returns : goal.returns
returns c = are_mails c.args.joined.now c.args.circle.now c.senders.from-index c.senders.mails.items (omega arith) c.senders.invariant.pairs c.senders.invariant.each
