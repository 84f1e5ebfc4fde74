-- Entries of an order as they are told
use Rattle.std.proofs.Common.{◌≡◌, ℕ, ◌+◌, ◌-◌, ◌<◌, ◌≤◌, List, [], ◌∷◌, ◌++◌, length, map, get_or, slice_get, Some, refl, sym, ap, ap₂, ◌∙◌, arith, zero-add}
use Rattle.std.specs.List.{zip}
use Rattle.std.proofs.lemmas.List.{get_or-map, length-map}
use Rattle.std.proofs.lemmas.List.FromFn.{get_or-map-range_with_len}
use Rattle.std.proofs.lemmas.Option.{slice_get-get_or}
use Rattle.std.proofs.lemmas.Slice.Zip.{get_or-zip, length-zip}
use Rattle.hg_model.specs.Graph.{name_at, name_in}
use Rattle.hg_model.specs.Links.{creator, links, no_row}
use Rattle.hg_model.specs.Order.{sequence_of}
use Rattle.hg_model.specs.Places.{table}
use Rattle.hg_model.specs.declared.row.Placed.{Placed}
use Rattle.hg_model.specs.declared.row.Row.{Row}
use Rattle.hg_model.proofs.LinkLaws.{creator-links}
use Rattle.hg_life.specs.declared.pay.Effect.{Effect}
use Rattle.hg_service.specs.declared.answer.OrderedEvent.{OrderedEvent}
use Rattle.hg_answering.specs.Telling.{ordered_event, window}
use Rattle.hg_answering.proofs.WindowLaws.{window_next}

pub event_is : (G : List Row) (p : Placed) (e : Effect) (row : Row) (sequence : ℕ) (payload : List ℕ) → p.place < length G → slice_get G p.place ≡ Some row
    → sequence ≡ sequence_of (links G) p.place → payload ≡ row.payload
    → (let event : OrderedEvent = record {
      line = record { creator = row.creator; sequence = sequence; received = p.received; time = p.time; effect = e; name = row.name };
      payload = payload;
    } in event) ≡ ordered_event G (links G) (p, e)
unfolding name_at
event_is G p e row sequence payload inside at number copied =
    let there : Some (get_or G p.place no_row) ≡ Some row = sym (slice_get-get_or G p.place no_row inside) ∙ at in
    let read : row ≡ get_or G p.place no_row = cc in
    let itself : Some row ≡ Some (get_or G p.place row) = sym at ∙ slice_get-get_or G p.place row inside in
    let maker : row.creator ≡ creator (links G) p.place = sym (creator-links G p.place row inside cc) in
    let named : row.name ≡ name_in (slice_get G p.place) = sym (ap name_in at) in
    let told : payload ≡ (get_or G p.place no_row).payload = copied ∙ ap (λ (r : Row). r.payload) read in
    rw (maker, number, named, told) refl

pub sequence_at : (G : List Row) (sequences : List ℕ) (x : ℕ) → sequences ≡ table (sequence_of (links G)) (length G) → x < length G → get_or sequences x 0 ≡ sequence_of (links G) x
sequence_at G sequences x is inside =
    ap (λ (xs : List ℕ). get_or xs x 0) is ∙ get_or-map-range_with_len (sequence_of (links G)) 0 (length G) x x 0 inside (zero-add x)

pub ordered_next : (G : List Row) (order : List Placed) (effects : List Effect) (start i : ℕ) (q : Placed) (f : Effect) (event : OrderedEvent) (old new : List OrderedEvent)
    → start ≤ i → i < length order → length effects ≡ length order → event ≡ ordered_event G (links G) (get_or order i q, get_or effects i f)
    → old ≡ window start (i - start) (map (ordered_event G (links G)) (zip order effects)) → new ≡ old ++ event ∷ []
    → new ≡ window start (i + 1 - start) (map (ordered_event G (links G)) (zip order effects))
ordered_next G order effects start i q f event old new from inside even told before is =
    let all = zip order effects in
    let long : length all ≡ length order = length-zip order effects ∙ omega (arith, even) in
    let within : i < length all = omega (arith, inside, long) in
    let pair : (get_or order i q, get_or effects i f) ≡ get_or all i (q, f) = sym (get_or-zip order effects i (q, f) inside (omega (arith, inside, even))) in
    let here : event ≡ get_or (map (ordered_event G (links G)) all) i event =
    told ∙ (ap (ordered_event G (links G)) pair ∙ sym (get_or-map (ordered_event G (links G)) all i (q, f) event within)) in
    is ∙ (ap₂ (λ (xs : List OrderedEvent) (x : OrderedEvent). xs ++ x ∷ []) before here
    ∙ sym (window_next start i (map (ordered_event G (links G)) all) event from (omega (arith, within, length-map all (ordered_event G (links G))))))

pub each_ordered : (G : List Row) (order : List Placed) (effects : List Effect) → length effects ≡ length order → length (map (ordered_event G (links G)) (zip order effects)) ≡ length order
each_ordered G order effects even = length-map (zip order effects) (ordered_event G (links G)) ∙ (length-zip order effects ∙ omega (arith, even))
