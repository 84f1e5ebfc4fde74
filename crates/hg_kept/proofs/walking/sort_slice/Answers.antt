use Rattle.hg_model.proofs.SortLaws.{sorted_numbers}
use Rattle.hg_kept.proofs.walking.sort_slice.Goals as goal

pub returns : goal.returns
returns c = sorted_numbers c.args.places.now c.sort_unstable.new.self c.sort_unstable.ensures.permutation c.sort_unstable.ensures.sorted
