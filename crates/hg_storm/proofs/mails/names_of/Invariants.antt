use Rattle.std.proofs.Common.{◌≡◌, take}
use Rattle.hg_mail.specs.Messages.{messages_of}
use Rattle.hg_storm.specs.Mails.{names_in, names_told}
use Rattle.hg_storm.proofs.mails.names_of.Given as goal

abbrev pub invariant-loop-message : goal.invariant-loop-message
invariant-loop-message l = l.names.items ≡ names_told (names_in l.node) (messages_of l.from (take l.message-index l.messages))
