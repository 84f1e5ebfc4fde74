use Rattle.std.proofs.Common.{ap, get_or, refl, ◌∙◌}
use Rattle.hg_storm.proofs.MailLaws.{mails_push, mails_same, pairs_more, pairs_same}
use Rattle.hg_storm.proofs.mails.push_mails.Goals as goal
use Rattle.hg_storm.proofs.mails.push_mails.Goals.{then-to-from+in_ok-mail+in_ok-push, else-to-from}

pub others-preserved : goal.others-preserved
others-preserved c =
    let to = get_or c.args.circle.now c.others.to-index 0 in
    elim c.if-to-from.branch [
      | then-to-from+in_ok-mail+in_ok-push w ↦
          let pushed = ap (λ v. v.items) w.mails-is ∙ w.in_ok-push.ensures.items in
          record {
            each = mails_push c.args.joined.now c.others.mails.items c.if-to-from.mails.items w.in_ok-mail.mail c.others.invariant.each w.in_ok-mail.ensures.mail pushed;
            pairs = pairs_more c.args.circle.now c.args.from c.others.to-index to c.others-test.true refl c.args.mails.now.items c.others.mails.items c.if-to-from.mails.items w.in_ok-mail.mail w.if-to-from.true
                c.others.invariant.pairs w.in_ok-mail.ensures.pair pushed;
          }
      | else-to-from w ↦
          let same = ap (λ v. v.items) w.mails-is in
          record {
            each = mails_same c.args.joined.now c.others.mails.items c.if-to-from.mails.items c.others.invariant.each same;
            pairs = pairs_same c.args.circle.now c.args.from c.others.to-index to c.others-test.true refl c.args.mails.now.items c.others.mails.items c.if-to-from.mails.items w.if-to-from.false
                c.others.invariant.pairs same;
          }
    ]
