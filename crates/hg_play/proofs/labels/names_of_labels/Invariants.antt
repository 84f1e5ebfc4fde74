use Rattle.std.proofs.Common.{◌≡◌, map, take}
use Rattle.hg_play.specs.Labels.{name_of_label}
use Rattle.hg_play.proofs.labels.names_of_labels.Given as goal

abbrev pub invariant-loop-label : goal.invariant-loop-label
invariant-loop-label l = l.names.items ≡ map (name_of_label l.labels) (take l.label-index l.places)
