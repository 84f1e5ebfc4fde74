-- Rows of distinct names, found at their places
use Rattle.std.proofs.Common.{◌≡◌, ◌∙◌, ◌<◌, ap, sym, get_or, refl, ℕ, List, length, Some, true}
use Rattle.std.proofs.lemmas.Bool.{lt-ltb}
use Rattle.std.proofs.lemmas.Option.{slice_get_within, slice_get-get_or}
use Rattle.std.specs.Prelude.{slice_get, nat_lt}
use Rattle.hg_model.specs.declared.row.Row.{Row}
use Rattle.hg_model.specs.Links.{place_of}
use Rattle.hg_model.specs.Graph.{HasDistinctNames, name_at, name_in}
use Rattle.hg_model.proofs.NameLaws.{place_of_at}
use Rattle.hg_graph.specs.RowsWithRoom.{found_place}

pub name_read : (G : List Row) (x : ℕ) (row : Row) → slice_get G x ≡ Some row → name_at G x ≡ row.name
unfolding name_at
name_read G x row at = ap name_in at

-- the row that is read there
pub row_read : (G : List Row) (x : ℕ) (item row : Row) → x < length G → item ≡ get_or G x item → row ≡ item → slice_get G x ≡ Some row
row_read G x item row low read is = slice_get-get_or G x item low ∙ ap Some (sym (is ∙ read))

-- a row is found by its name
pub named_found : (G : List Row) → HasDistinctNames G → (x : ℕ) (row : Row) (name : List ℕ) → slice_get G x ≡ Some row → row.name ≡ name → found_place G name ≡ Some x
named_found G distinct x row name at named =
    let below : x < length G = slice_get_within G x row at in
    let place : place_of G name ≡ x = place_of_at G distinct x name below (name_read G x row at ∙ named) in
    let here : nat_lt x (length G) ≡ true = lt-ltb x (length G) below in
    rw (place, here) refl
