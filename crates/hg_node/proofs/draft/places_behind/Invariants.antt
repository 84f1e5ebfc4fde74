use Rattle.std.proofs.Common.{drop}
use Rattle.hg_arrival.proofs.PlaceLaws.{ArePlaced}
use Rattle.hg_node.proofs.draft.places_behind.Given as goal

abbrev pub invariant-loop-name : goal.invariant-loop-name
invariant-loop-name l = ArePlaced l.graph.graph.rows l.own l.others (drop l.name-index l.others) l.name-index l.places
