use Rattle.std.proofs.Common.{◌∙◌}
use Rattle.hg_kept.proofs.WalkLaws.{sorted_below}
use Rattle.hg_kept.proofs.walking.take_below.Goals as goal

pub returns-clause-listed : goal.returns-clause-listed
returns-clause-listed g c = c.sort_places.ensures.sorted ∙ sorted_below _ _ _ c.raise_ends.ensures.listed
