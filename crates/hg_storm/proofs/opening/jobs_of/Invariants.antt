use Rattle.hg_storm.proofs.OpenLaws.{Seating}
use Rattle.hg_storm.proofs.opening.jobs_of.Given as goal

abbrev pub invariant-seats : goal.invariant-seats
invariant-seats l = Seating l.mailboxes l.seed l.fn.seats.items l.masters.items l.jobs.items l.first-iterator.rest.items
