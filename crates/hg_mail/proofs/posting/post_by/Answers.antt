use Rattle.std.proofs.Common.{sym, subst}
use Rattle.crossbeam_queue.specs.Passes.{view}
use Rattle.hg_mail.specs.declared.message.Message.{Message}
use Rattle.hg_mail.specs.declared.view.View.{View}
use Rattle.hg_mail.specs.Messages.{HasPort}
use Rattle.hg_mail.proofs.MessageLaws.{learns, puts}
use Rattle.hg_mail.proofs.posting.post_by.Goals as goal

pub push_as-requires-clause-rule : goal.push_as-requires-clause-rule
push_as-requires-clause-rule g c =
    let i = c.tries.invariant in
    let sender : HasPort c.tries.letter.from (view c.tries.pass) = subst (λ (y : Message × View). HasPort y.0.from y.1) (λ k. (sym i.letter k, sym i.view k)) c.requires.sender in
    (puts _ _ _ _ sender, learns _ _)
