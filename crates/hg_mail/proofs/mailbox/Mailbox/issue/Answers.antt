use Rattle.std.proofs.Common.{ap, ◌∙◌, arith}
use Rattle.hg_mail.specs.Mailboxes.{PortView}
use Rattle.hg_mail.proofs.CountLaws.{gives_part}
use Rattle.hg_mail.proofs.MessageLaws.{issues}
use Rattle.hg_mail.proofs.PortLaws.{of_inside}
use Rattle.hg_mail.proofs.mailbox.Mailbox.issue.Goals as goal

pub another-other-requires-clause-rule : goal.another-other-requires-clause-rule
another-other-requires-clause-rule c = issues _ _ (ap (λ (p : PortView). p.view.gives) c.port.view_is ∙ c.requires.gives)

pub split_seat-part-requires : goal.split_seat-part-requires
split_seat-part-requires c = (
  (of_inside _ _ _ _ c.self.view_is c.port.view_is c.requires.of).1,
  omega (arith, c.self.invariant),
  gives_part _ _ (omega (arith, ap (λ (p : PortView). p.count.parts) c.port.view_is, c.requires.parts)),
)
