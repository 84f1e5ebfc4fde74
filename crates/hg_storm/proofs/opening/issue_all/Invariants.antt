use Rattle.std.specs.Prelude.{vec_capacity}
use Rattle.hg_storm.proofs.OpenLaws.{Issuing}
use Rattle.hg_storm.proofs.opening.issue_all.Given as goal

abbrev pub invariant-ports : goal.invariant-ports
invariant-ports l = Issuing l.me l.k (vec_capacity l.ports) l.mailboxes l.masters.items l.ports.items
