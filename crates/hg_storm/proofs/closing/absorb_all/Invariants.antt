use Rattle.std.proofs.Common.{◌≡◌, length, drop}
use Rattle.hg_storm.proofs.CloseLaws.{Closing}
use Rattle.hg_storm.proofs.closing.absorb_all.Given as goal

abbrev pub invariant-jobs : goal.invariant-jobs
invariant-jobs l = record {
  rest : l.job-iterator.rest.items ≡ drop (length l.logs.items) l.fn.jobs.items;
  closing : Closing l.mailboxes l.places l.fn.jobs.items l.job-iterator.rest.items l.masters.items l.seats.items l.logs.items;
}
