use Rattle.std.proofs.Common.{◌∙◌}
use Rattle.hg_script.proofs.NameLaws.{any_map}
use Rattle.hg_script.proofs.above.is_label.Goals as goal

pub returns : goal.returns
returns c = c.contains.ensures ∙ any_map (λ name. name.now) _ c.args.labels.now.keys
