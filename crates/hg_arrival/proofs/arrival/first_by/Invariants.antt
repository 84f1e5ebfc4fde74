use Rattle.std.proofs.Common.{◌≡◌, drop}
use Rattle.hg_arrival.specs.Arrival.{first_place_by}
use Rattle.hg_arrival.proofs.arrival.first_by.Given as goal

abbrev pub invariant-loop-place : goal.invariant-loop-place
invariant-loop-place l = first_place_by l.graph.graph.rows l.member l.places ≡ first_place_by l.graph.graph.rows l.member (drop l.place-index l.places)
