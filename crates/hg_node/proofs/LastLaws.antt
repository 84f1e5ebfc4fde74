-- The place of the last row that a member made
use Rattle.std.proofs.Common.{◌≡◌, ℕ, ◌<◌, Bool, true, false, cond, eqb, List, [], ◌∷◌, ◌++◌, length, Option, Some, None, option_map, slice_get, sym, refl, ap, ◌∙◌, subst, arith}
use Rattle.std.specs.Prelude.{IfSome}
use Rattle.std.proofs.lemmas.List.{length_push}
use Rattle.std.proofs.lemmas.List.Sums.{fold-append}
use Rattle.hg_model.specs.declared.row.Row.{Row}
use Rattle.hg_model.specs.Links.{place_of}
use Rattle.hg_model.specs.Graph.{name_in, name_at, HasDistinctNames}
use Rattle.hg_life.specs.Verdict.{later_name, last_name}
use Rattle.hg_model.proofs.NameLaws.{place_of_at}
use Rattle.hg_life.proofs.LastLaws.{last_is_own}
use Rattle.hg_model.proofs.PushLaws.{place_of-append, slice_get-last}
use Rattle.hg_prefix.proofs.StandingLaws.{name_at_place}
use Rattle.hg_node.specs.ChronicleView.{last_own_place}

read_name : (G : List Row) (x : ℕ) (row : Row) → slice_get G x ≡ Some row → name_at G x ≡ row.name
unfolding name_at
read_name G x row at = ap name_in at

-- the last name with a row more
last_name-push : (m : ℕ) (G : List Row) (row : Row) → last_name m (G ++ row ∷ []) ≡ cond (eqb row.creator m) (Some row.name) (last_name m G)
last_name-push m G row = fold-append (later_name m) None G (row ∷ [])

module _ (m : ℕ) (G : List Row) (row : Row) (distinct : HasDistinctNames G) (distinct' : HasDistinctNames (G ++ row ∷ [])) where
  old_stays : (last : Option (List ℕ)) → last_name m G ≡ last → option_map (place_of (G ++ row ∷ [])) last ≡ option_map (place_of G) last
  old_stays None is = refl
  old_stays (Some name) is = ap (λ (p : ℕ). Some p) (place_of-append G (row ∷ []) name (last_is_own m G name distinct is).0)

  new_place : place_of (G ++ row ∷ []) row.name ≡ length G
  unfolding name_at
  new_place = place_of_at (G ++ row ∷ []) distinct' (length G) row.name (omega (arith, length_push G row)) (ap name_in (slice_get-last G row))

  by_test : (b : Bool) → eqb row.creator m ≡ b → last_own_place m (G ++ row ∷ []) ≡ cond b (Some (length G)) (last_own_place m G)
  by_test true is =
      ap (option_map (place_of (G ++ row ∷ []))) (last_name-push m G row ∙ ap (λ (b : Bool). cond b (Some row.name) (last_name m G)) is) ∙ ap (λ (p : ℕ). Some p) new_place
  by_test false is =
      ap (option_map (place_of (G ++ row ∷ []))) (last_name-push m G row ∙ ap (λ (b : Bool). cond b (Some row.name) (last_name m G)) is) ∙ old_stays (last_name m G) refl

  pub last_own_place-push : last_own_place m (G ++ row ∷ []) ≡ cond (eqb row.creator m) (Some (length G)) (last_own_place m G)
  last_own_place-push = by_test (eqb row.creator m) refl

-- the row at that place has the last name
pub last_read : (m : ℕ) (G : List Row) (place : ℕ) → HasDistinctNames G → Some place ≡ last_own_place m G → (place < length G) × ((row : Row) → slice_get G place ≡ Some row → Some row.name ≡ last_name m G)
last_read m G place distinct is = by_name (last_name m G) refl
  where
    by_name : (last : Option (List ℕ)) → last_name m G ≡ last → (place < length G) × ((row : Row) → slice_get G place ≡ Some row → Some row.name ≡ last_name m G)
    by_name None none = (let no_place : Some place ≡ None = is ∙ ap (option_map (place_of G)) none in cc)
    by_name (Some name) some =
        let here : Some place ≡ Some (place_of G name) = is ∙ ap (option_map (place_of G)) some in
        let same : place ≡ place_of G name = cc in
        let held = (last_is_own m G name distinct some).0 in (
          subst (λ (p : ℕ). p < length G) (sym same) held,
          λ row at.
              let named : name_at G (place_of G name) ≡ name = name_at_place G name held in
              let read : name_at G place ≡ row.name = read_name G place row at in
              ap (λ (x : List ℕ). Some x) (sym read ∙ (ap (name_at G) same ∙ named)) ∙ sym some,
        )

-- it is a row's
pub last_inside : (m : ℕ) (G : List Row) (last : Option ℕ) → HasDistinctNames G → last ≡ last_own_place m G → IfSome last (λ place. place < length G)
last_inside m G None distinct is = tt
last_inside m G (Some place) distinct is = (last_read m G place distinct is).0
