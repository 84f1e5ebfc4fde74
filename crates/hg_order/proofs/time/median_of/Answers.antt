use Rattle.std.proofs.Common.{◌∙◌}
use Rattle.hg_model.proofs.SortLaws.{median_is}
use Rattle.hg_order.proofs.time.median_of.Goals as goal

pub returns : goal.returns
returns c = c.middle_of.ensures ∙ median_is c.args.times.now c.sort_unstable.new.self c.sort_unstable.ensures.permutation c.sort_unstable.ensures.sorted
