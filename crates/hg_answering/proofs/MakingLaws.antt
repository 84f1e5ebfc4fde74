-- On which row a node makes its next event
use Rattle.std.proofs.Common.{◌≡◌, ℕ, ◌+◌, ◌<◌, ◌≤◌, Bool, true, false, not, ◌||◌, ◌==◌, List, ◌∷◌, length, drop, get_or, slice_get, Option, Some, None, option_map, refl, sym, ap, ap₂, ◌∙◌, add-one}
use Rattle.std.specs.List.{list_any}
use Rattle.std.specs.Option.{option_to_list}
use Rattle.std.proofs.Math.Seq.{drop-cons}
use Rattle.std.proofs.lemmas.Bool.{eq-eqb, ne_eqb}
use Rattle.std.proofs.lemmas.List.{drop_all}
use Rattle.std.proofs.lemmas.Option.{slice_get-get_or}
use Rattle.hg_model.specs.declared.row.Row.{Row}
use Rattle.hg_life.specs.Verdict.{last_name}
use Rattle.hg_node.specs.Next.{last_other, others_after}
use Rattle.hg_node.specs.ChronicleView.{last_own_place}
use Rattle.hg_model.specs.Links.{place_of}

-- another member made the row
abbrev pub is_other : ℕ → Row → Bool
is_other own row = not (row.creator == own)

row_first : (G : List Row) (x : ℕ) (row : Row) → x < length G → slice_get G x ≡ Some row → drop x G ≡ row ∷ drop (x + 1) G
row_first G x row inside at =
    let there : Some (get_or G x row) ≡ Some row = sym (slice_get-get_or G x row inside) ∙ at in
    let read : get_or G x row ≡ row = cc in
    drop-cons G x row inside ∙ ap₂ (λ (r : Row) (k : ℕ). r ∷ drop k G) read (sym (add-one x))

pub own_next : (own : ℕ) (G : List Row) (x : ℕ) (row : Row) → x < length G → slice_get G x ≡ Some row → row.creator ≡ own
    → list_any (is_other own) (drop (x + 1) G) ≡ list_any (is_other own) (drop x G)
own_next own G x row inside at by =
    sym (ap (list_any (is_other own)) (row_first G x row inside at) ∙ ap (λ (b : Bool). not b || list_any (is_other own) (drop (x + 1) G)) (eq-eqb row.creator own by))

pub other_there : (own : ℕ) (G : List Row) (x : ℕ) (row : Row) → x < length G → slice_get G x ≡ Some row → (row.creator ≡ own → ⊥) → list_any (is_other own) (drop x G) ≡ true
other_there own G x row inside at by =
    ap (list_any (is_other own)) (row_first G x row inside at) ∙ ap (λ (b : Bool). not b || list_any (is_other own) (drop (x + 1) G)) (ne_eqb row.creator own by)

pub none_left : (own : ℕ) (G : List Row) (x : ℕ) → length G ≤ x → list_any (is_other own) (drop x G) ≡ false
none_left own G x past = ap (list_any (is_other own)) (drop_all x G past)

-- ---- the other-parent

module _ (own : ℕ) (G : List Row) where
  by_names : (p : ℕ) (found : Option (Option (List ℕ))) (last other : Option (List ℕ)) → last_name own G ≡ last → last_other own G ≡ other
      → last_own_place own G ≡ Some p → option_map option_to_list found ≡ others_after last other → option_map (λ name. Some name) other ≡ found
  by_names p found None other named others own_is is = absurd (let none : last_own_place own G ≡ None = ap (option_map (place_of G)) named in let both : None ≡ Some p = sym none ∙ own_is in cc)
  by_names p None (Some last) None named others own_is is = refl
  by_names p (Some found) (Some last) None named others own_is is = absurd cc
  by_names p None (Some last) (Some other) named others own_is is = absurd cc
  by_names p (Some None) (Some last) (Some other) named others own_is is = absurd cc
  by_names p (Some (Some name)) (Some last) (Some other) named others own_is is = (let same : name ≡ other = cc in ap (λ (n : List ℕ). Some (Some n)) (sym same))

  -- where the node has a row of its own, the answer is the name of the last row by another member
  pub other_found : (p : ℕ) (found : Option (Option (List ℕ))) → last_own_place own G ≡ Some p
      → option_map option_to_list found ≡ others_after (last_name own G) (last_other own G) → option_map (λ name. Some name) (last_other own G) ≡ found
  other_found p found own_is is = by_names p found (last_name own G) (last_other own G) refl refl own_is is
