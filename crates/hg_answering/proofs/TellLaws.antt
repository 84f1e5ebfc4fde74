-- What is told is what was noted
use Rattle.std.proofs.Common.{◌≡◌, ℕ, ◌-◌, ◌<◌, ◌≤◌, Bool, false, List, [], get_or, slice_get, length, Option, Some, None, is_some, refl, sym, ap, ap₂, ◌∙◌, subst, zero-add, arith}
use Rattle.std.specs.Prelude.{count_by, option_map, unwrap_or, take}
use Rattle.std.proofs.lemmas.Bool.{ltb-true}
use Rattle.std.proofs.lemmas.List.{length-map, take_all}
use Rattle.std.proofs.lemmas.List.FromFn.{get_or-map-range_with_len, length-map-range_with_len}
use Rattle.std.proofs.lemmas.Option.{slice_get-get_or}
use Rattle.hg_model.specs.Links.{no_row, place_of}
use Rattle.hg_model.specs.Places.{list_below, table}
use Rattle.hg_model.specs.declared.row.Row.{Row}
use Rattle.hg_model.proofs.PlacesLaws.{list_below-same}
use Rattle.hg_model.specs.Stakes.{member_count}
use Rattle.hg_life.specs.Members.{MemberList}
use Rattle.hg_life.specs.NodeView.{NodeView, kept_of, node_rows}
use Rattle.hg_life.specs.Verdict.{last_name}
use Rattle.hg_life.specs.declared.members.MemberEntry.{MemberEntry}
use Rattle.hg_service.specs.Binding.{bound_payload, is_strange, strange_in}
use Rattle.hg_answering.specs.Notes.{AreNoted}
use Rattle.hg_answering.specs.RowNotes.{RowNotesView, notes_of}
use Rattle.hg_answering.specs.declared.notes.Notes.{Notes}
use Rattle.hg_answering.specs.declared.order_notes.OrderNotes.{OrderNotes}
use Rattle.hg_node.specs.ChronicleView.{last_own_place}
use Rattle.hg_answering.specs.Telling.{has_payload, heads, heads_in, orders_payload, placed_time, waiting}
use Rattle.hg_answering.specs.Told.{members_flagged, names_there}
use Rattle.hg_answering.proofs.HeadLaws.{last_held}

pub strange_listed : (test : ℕ → Bool) (n : ℕ) (flags : List Bool) → flags ≡ table test n → members_flagged flags ≡ list_below (λ m. m) n test
strange_listed test n flags is =
    ap members_flagged is
    ∙ (ap (λ (k : ℕ). list_below (λ m. m) k (λ m. get_or (table test n) m false)) (length-map-range_with_len test 0 n)
    ∙ list_below-same (λ m. m) (λ m. m) n (λ m. get_or (table test n) m false) test (λ m below. get_or-map-range_with_len test 0 n m m false below (zero-add m)) (λ m below passes. refl))

pub heads_listed : (G : List Row) (n : ℕ) (names : List (Option (List ℕ))) → names ≡ table (λ m. last_name m G) n → names_there names ≡ heads_in G n
heads_listed G n names is =
    let last : ℕ → Option (List ℕ) = λ m. last_name m G in
    let at : (m : ℕ) → m < n → get_or (table last n) m None ≡ last m = λ m below. get_or-map-range_with_len last 0 n m m None below (zero-add m) in
    ap names_there is
    ∙ (ap (λ (k : ℕ). list_below (λ m. unwrap_or (get_or (table last n) m None) []) k (λ m. is_some (get_or (table last n) m None))) (length-map-range_with_len last 0 n)
    ∙ list_below-same (λ m. unwrap_or (get_or (table last n) m None) []) (λ m. unwrap_or (last m) []) n (λ m. is_some (get_or (table last n) m None)) (λ m. is_some (last m))
    (λ m below. ap is_some (at m below)) (λ m below passes. ap (λ (o : Option (List ℕ)). unwrap_or o []) (at m below)))

-- the place of the last own row is that of a row
pub last_own_inside : (own : ℕ) (G : List Row) (p : ℕ) → last_own_place own G ≡ Some p → p < length G
last_own_inside own G p is = by_name (last_name own G) refl is
  where
    by_name : (last : Option (List ℕ)) → last_name own G ≡ last → option_map (place_of G) last ≡ Some p → p < length G
    by_name None name at = absurd cc
    by_name (Some name) named at =
        let same : place_of G name ≡ p = cc in
        subst (λ (k : ℕ). k < length G) same (ltb-true (place_of G name) (length G) (last_held own G name named))

pub told_time : (own : ℕ) (G : List Row) (p : ℕ) (row : Row) → last_own_place own G ≡ Some p → slice_get G p ≡ Some row → Some (p, row.time) ≡ option_map (placed_time G) (last_own_place own G)
told_time own G p row is at =
    let there : Some (get_or G p no_row) ≡ Some row = sym (slice_get-get_or G p no_row (last_own_inside own G p is)) ∙ at in
    let read : row ≡ get_or G p no_row = cc in
    sym (ap (option_map (placed_time G)) is ∙ ap (λ (r : Row). Some (p, r.time)) (sym read))

module _ {K : Type 0} (members : MemberList) (v : NodeView K) (notes : Notes) (are : AreNoted members v notes) where
  abbrev of_all : RowNotesView
  of_all = notes_of (bound_payload members) (length members.entries) (node_rows v)

  all_rows : take (length (node_rows v)) (node_rows v) ≡ node_rows v
  all_rows = take_all (length (node_rows v)) (node_rows v) (omega arith)

  all_ordered : take (length (kept_of v)) (kept_of v) ≡ kept_of v
  all_ordered = take_all (length (kept_of v)) (kept_of v) (omega arith)

  pub waiting_noted : (count : ℕ) → count ≡ notes.rows.payloads - notes.order.payloads → count ≡ waiting (node_rows v) (kept_of v)
  unfolding waiting
  waiting_noted count is =
      is ∙ ap₂ (λ (a b : ℕ). a - b)
      (ap (λ (r : RowNotesView). r.payloads) are.rows ∙ ap (count_by has_payload) all_rows)
      (ap (λ (o : OrderNotes). o.payloads) are.order ∙ ap (count_by (orders_payload (node_rows v))) all_ordered)

  pub few_flags : length members.entries ≤ 128 → length notes.rows.strange ≤ 128
  few_flags few =
      let long = ap (λ (r : RowNotesView). length r.strange) are.rows
      ∙ length-map-range_with_len (is_strange (bound_payload members) (take (length (node_rows v)) (node_rows v))) 0 (length members.entries) in
      omega (arith, few, long)

  pub state_noted : members_flagged notes.rows.strange ≡ strange_in members (node_rows v)
  unfolding strange_in
  state_noted =
      strange_listed (is_strange (bound_payload members) (take (length (node_rows v)) (node_rows v))) (length members.entries) notes.rows.strange (ap (λ (r : RowNotesView). r.strange) are.rows)
      ∙ ap (λ (G : List Row). list_below (λ m. m) (length members.entries) (is_strange (bound_payload members) G)) all_rows

  pub heads_noted : names_there notes.rows.lasts ≡ heads v
  unfolding heads
  heads_noted =
      heads_listed (take (length (node_rows v)) (node_rows v)) (length members.entries) notes.rows.lasts (ap (λ (r : RowNotesView). r.lasts) are.rows)
      ∙ ap₂ (λ (G : List Row) (n : ℕ). heads_in G n) all_rows (sym (ap member_count are.begun ∙ length-map members.entries (λ (e : MemberEntry). e.stake)))
