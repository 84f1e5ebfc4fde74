use Rattle.std.proofs.Common.{arith}
use Rattle.hg_mail.proofs.CountLaws.{joins}
use Rattle.hg_mail.proofs.MessageLaws.{merges}
use Rattle.hg_mail.proofs.PortLaws.{of_inside}
use Rattle.hg_mail.proofs.mailbox.Mailbox.absorb.Goals as goal

pub absorb-requires-clause-rule : goal.absorb-requires-clause-rule
absorb-requires-clause-rule c = merges _ _ _ _

pub join_seat-requires : goal.join_seat-requires
join_seat-requires c = (
  (of_inside _ _ _ _ c.self.view_is c.port.view_is c.requires.of).1,
  (of_inside _ _ _ _ c.self.view_is c.other.view_is c.requires.other).1,
  c.other.invariant.1,
  omega (arith, c.self.invariant),
  joins _ _ _ _,
)
