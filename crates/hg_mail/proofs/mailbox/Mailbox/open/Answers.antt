use Rattle.hg_mail.proofs.CountLaws as count
use Rattle.hg_mail.proofs.MessageLaws.{begins}
use Rattle.hg_mail.proofs.mailbox.Mailbox.open.Goals as goal

pub ruled-requires-clause-rule : goal.ruled-requires-clause-rule
ruled-requires-clause-rule c = begins

pub vacant-requires : goal.vacant-requires
vacant-requires c = count.begins _
