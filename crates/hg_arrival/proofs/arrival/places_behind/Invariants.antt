use Rattle.std.proofs.Common.{drop}
use Rattle.hg_event.specs.Names.{lent_names}
use Rattle.hg_arrival.proofs.PlaceLaws.{ArePlaced}
use Rattle.hg_arrival.proofs.arrival.places_behind.Given as goal

abbrev pub invariant-loop-name : goal.invariant-loop-name
invariant-loop-name l = ArePlaced l.graph.graph.rows l.own (lent_names l.others) (lent_names (drop l.name-index l.others)) l.name-index l.places
