use Rattle.std.proofs.Common.{length}
use Rattle.hg_life.proofs.lawful.+are_named_apart.Given as goal

abbrev pub decreases-are_named_apart : goal.decreases-are_named_apart
decreases-are_named_apart l = length l.entries.now
