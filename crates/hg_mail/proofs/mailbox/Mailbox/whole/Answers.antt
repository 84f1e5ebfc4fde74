use Rattle.std.proofs.Common.{arith}
use Rattle.hg_mail.proofs.CountLaws.{gives_all}
use Rattle.hg_mail.proofs.MessageLaws.{moves}
use Rattle.hg_mail.proofs.PortLaws.{of_inside}
use Rattle.hg_mail.proofs.mailbox.Mailbox.whole.Goals as goal

pub another-other-requires-clause-rule : goal.another-other-requires-clause-rule
another-other-requires-clause-rule c = moves _ _

pub split_seat-parts-requires : goal.split_seat-parts-requires
split_seat-parts-requires c = ((of_inside _ _ _ _ c.self.view_is c.port.view_is c.requires.of).1, omega (arith, c.self.invariant), gives_all _ _)
