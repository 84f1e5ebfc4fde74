use Rattle.std.proofs.Common.{length}
use Rattle.check_sights.proofs.growing.+are_by_others.Given as goal

abbrev pub decreases-are_by_others : goal.decreases-are_by_others
decreases-are_by_others g l = length l.places.now
