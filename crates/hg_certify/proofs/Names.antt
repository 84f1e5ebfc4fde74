-- The row of the event at a place, and none where there is none
use Rattle.std.proofs.Common.{◌≡◌, ◌∙◌, ℕ, List, Option, option_map, slice_get, ap}
use Rattle.std.proofs.lemmas.Option.{slice_get-map}
use Rattle.std.specs.declared.sync.Arc.{Arc}
use Rattle.hg_graph.specs.RowsWithRoom.{rows_of}
use Rattle.hg_model.specs.declared.row.Row.{Row}

pub row_found : {A : Type 0} (events : List (Arc Row A)) (place : ℕ) (found : Option (Arc Row A)) → slice_get events place ≡ found →
    slice_get (rows_of events) place ≡ option_map (λ (e : Arc Row A). e.value) found
row_found {A} events place found is = slice_get-map (λ (e : Arc Row A). e.value) events place ∙ ap (option_map (λ (e : Arc Row A). e.value)) is
