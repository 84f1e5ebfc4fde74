use Rattle.hg_mail.proofs.MessageLaws.{learns, takes}
use Rattle.hg_mail.proofs.collecting.take_one.Goals as goal

pub pop_as-requires-clause-rule : goal.pop_as-requires-clause-rule
pop_as-requires-clause-rule g c = (takes _ _ c.requires.takes, learns _ _)
