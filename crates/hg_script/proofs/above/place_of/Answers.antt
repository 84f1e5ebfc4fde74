use Rattle.std.proofs.Common.{◌∙◌}
use Rattle.hg_script.proofs.NameLaws.{position_map}
use Rattle.hg_script.proofs.above.place_of.Goals as goal

pub returns : goal.returns
returns c = c.get_index_of.ensures.index ∙ position_map (λ name. name.now) _ c.args.labels.now.keys
