use Rattle.std.proofs.Common.{◌≡◌, take}
use Rattle.hg_event.specs.Names.{lent_names}
use Rattle.hg_event.proofs.event.names_copied.Given as goal

abbrev pub invariant-loop-name : goal.invariant-loop-name
invariant-loop-name l = l.copies.items ≡ lent_names (take l.name-index l.names)
