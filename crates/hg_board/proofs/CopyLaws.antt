-- Events that are copied out of a node
use Rattle.std.proofs.Common.{append_assoc, ◌≡◌, ℕ, suc, ◌+◌, ◌-◌, ◌<◌, min, List, [], ◌∷◌, ◌++◌, length, map, take, drop, get_or, slice_get, Some, option_map, sym, ap, ◌∙◌, add-one, arith}
use Rattle.std.specs.declared.sync.Arc.{Arc}
use Rattle.std.proofs.lemmas.List.{length-drop, map-append, take_min}
use Rattle.std.proofs.lemmas.Option.{get_or_from_slice_get, slice_get-get_or, slice_get_within}
use Rattle.std.proofs.Math.Seq.{drop-cons}
use Rattle.hg_model.specs.declared.row.Row.{Row}
use Rattle.hg_model.specs.Links.{no_row}
use Rattle.hg_life.specs.Spelling.{spelling}
use Rattle.hg_graph.specs.RowsWithRoom.{rows_of}

-- the rest of the rows begins with the row at the place
rest_at : (G : List Row) (place : ℕ) (row : Row) → slice_get G place ≡ Some row → row ∷ drop (place + 1) G ≡ drop place G
rest_at G place row at =
    (λ i. sym (get_or_from_slice_get G place row row at) i ∷ drop (add-one place i) G) ∙ sym (drop-cons G place row (slice_get_within G place row at))

-- one event more
pub copied_more : {A : Type 0} (G : List Row) (place : ℕ) (events more : List (Arc Row A)) (event : Arc Row A) (all : List Row) → slice_get G place ≡ Some event.value → more ≡ events ++ event ∷ [] →
    rows_of events ++ drop place G ≡ all → rows_of more ++ drop (place + 1) G ≡ all
copied_more {A} G place events more event all at is before =
    ap (λ (es : List (Arc Row A)). rows_of es ++ drop (place + 1) G) is
    ∙ (ap (λ (rs : List Row). rs ++ drop (place + 1) G) (map-append (λ (e : Arc Row A). e.value) events (event ∷ []))
    ∙ (append_assoc (rows_of events) (event.value ∷ []) (drop (place + 1) G) ∙ (ap (λ (rs : List Row). rows_of events ++ rs) (rest_at G place event.value at) ∙ before)))

-- at most so many of the rows behind a place are those up to the end
pub most_of : (G : List Row) (from most end : ℕ) → end ≡ min (length G) (from + most) → map spelling (take (end - from) (drop from G)) ≡ map spelling (take most (drop from G))
most_of G from most end is =
    let long : length (drop from G) ≡ length G - from = length-drop from G in
    let number : end - from ≡ min most (length (drop from G)) = omega (arith, is, long) in
    ap (map spelling) (ap (λ (n : ℕ). take n (drop from G)) number ∙ take_min most (drop from G))

-- the bytes of one row more
pub bytes_more : (G : List Row) (place end : ℕ) (rows more all : List (List ℕ)) → place < end → place < length G → option_map (λ (row : Row). rows ++ spelling row ∷ []) (slice_get G place) ≡ Some more →
    rows ++ map spelling (take (end - place) (drop place G)) ≡ all → more ++ map spelling (take (end - (place + 1)) (drop (place + 1) G)) ≡ all
bytes_more G place end rows more all low within grown is =
    let row : Row = get_or G place no_row in
    let behind : List Row = take (end - (place + 1)) (drop (place + 1) G) in
    let some : Some (rows ++ spelling row ∷ []) ≡ Some more = sym (ap (option_map (λ (r : Row). rows ++ spelling r ∷ [])) (slice_get-get_or G place no_row within)) ∙ grown in
    let same : rows ++ spelling row ∷ [] ≡ more = cc in
    let number : end - place ≡ suc (end - (place + 1)) = omega (arith, low) in
    let rest : row ∷ behind ≡ take (end - place) (drop place G) =
    ap (take (suc (end - (place + 1)))) (rest_at G place row (slice_get-get_or G place no_row within)) ∙ ap (λ (n : ℕ). take n (drop place G)) (sym number) in
    ap (λ (xs : List (List ℕ)). xs ++ map spelling behind) (sym same)
    ∙ (append_assoc rows (spelling row ∷ []) (map spelling behind)
    ∙ (ap (λ (rs : List Row). rows ++ map spelling rs) rest ∙ is))
