use Rattle.std.proofs.Common.{◌≡◌}
use Rattle.hg_gossip.specs.Known.{handed_on}
use Rattle.hg_gossip.proofs.known.Known.note_all.Given as goal

abbrev pub invariant-loop-z : goal.invariant-loop-z
invariant-loop-z l = l.self ≡ handed_on l.initial.self l.x l.y l.z
