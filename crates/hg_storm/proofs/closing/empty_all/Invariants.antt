use Rattle.hg_storm.proofs.CloseLaws.{Emptying}
use Rattle.hg_storm.proofs.closing.empty_all.Given as goal

abbrev pub invariant-mailboxes : goal.invariant-mailboxes
invariant-mailboxes g l = Emptying l.k l.mailboxes l.fn.masters.items l.masters.items l.left.items
