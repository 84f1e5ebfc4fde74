use Rattle.hg_storm.proofs.OpenLaws.{Opening}
use Rattle.hg_storm.proofs.opening.open_all.Given as goal

abbrev pub invariant-mailboxes : goal.invariant-mailboxes
invariant-mailboxes l = Opening l.i l.room l.mailboxes.items l.masters.items
