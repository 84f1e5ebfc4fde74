use Rattle.std.proofs.Common.{◌≡◌, ◌∷◌, map, take}
use Rattle.hg_model.specs.Links.{place_of}
use Rattle.hg_plain_graph.proofs.links.places_by.Given as goal

abbrev pub invariant-loop-name : goal.invariant-loop-name
invariant-loop-name l = l.places.items ≡ place_of l.rows l.first ∷ map (place_of l.rows) (take l.name-index l.others)
