-- The row that comes next in a graph: its link and its name
use Rattle.std.proofs.Common.{◌≡◌, inl, inr, ℕ, ◌<◌, ◌≤◌, true, List, [], ◌∷◌, ◌++◌, length, map, get_or, Some, None, sym, refl, ap, ◌∙◌, subst, arith}
use Rattle.std.specs.List.{AllByRecursion}
use Rattle.std.specs.Prelude.{nat_le, nat_lt}
use Rattle.std.proofs.lemmas.Bool.{and_parts, cases_lt, leb-true}
use Rattle.std.proofs.lemmas.List.{length-map, length_push, get_or_append_left, get_or_push}
use Rattle.std.proofs.lemmas.List.Sums.{position_or_len_is, fails_before_first, passes_at_first, prefix_len-le-length}
use Rattle.hg_model.specs.declared.row.Row.{Row}
use Rattle.hg_model.specs.Places.{has_place}
use Rattle.hg_model.specs.Stakes.{Stakes}
use Rattle.hg_model.specs.Links.{Link, ParentNames, most_others, most_parents, has_few_others, parent_names, is_named, place_of, link_in, links, first_place, later_places, parents, self_parent, other_parents, creator}
use Rattle.hg_model.specs.Graph.{name_at, IsShaped, HasDistinctNames}
use Rattle.hg_model.specs.Fits.{AreHeld, IsPresent, Fits}
use Rattle.hg_model.specs.Shape.{FitsLink}
use Rattle.hg_model.proofs.LinkLaws.{parents_read, parents_below, parents-links}
use Rattle.hg_model.proofs.NameLaws.{name-at, place_of_at}
use Rattle.hg_model.proofs.PushLaws.{nobody, place_of-append, links-push, all_present, first_of_places, later_of_places, creator_before, creator_last, shaped-push}
use Rattle.hg_graph.specs.Added.{AddsLink}

-- what is found before the last row is found without it
place_before : (G : List Row) (row : Row) (name : List ℕ) → place_of (G ++ row ∷ []) name < length G → place_of G name ≡ place_of (G ++ row ∷ []) name
place_before G row name low =
    let p = place_of (G ++ row ∷ []) name in
    let test = is_named name in
    position_or_len_is test G p nobody (omega arith)
    (λ k h. rw (← get_or_append_left G (row ∷ []) nobody k (omega arith)) (fails_before_first test (G ++ row ∷ []) k nobody h))
    (λ h. rw (← get_or_append_left G (row ∷ []) nobody p low) (passes_at_first test (G ++ row ∷ []) nobody (omega (arith, length_push G row))))

held_before : (G : List Row) (row : Row) (names : List (List ℕ)) → AllByRecursion (λ p. p < length G) (map (place_of (G ++ row ∷ [])) names) → AreHeld G names
held_before G row [] low = tt
held_before G row (name ∷ names) low = (let first = low.0 in (rw (place_before G row name first) first, held_before G row names low.1))

-- the last row of a shaped graph has its parents among the others
present_next : (n : Stakes) (G : List Row) (row : Row) → IsShaped n (links (G ++ row ∷ [])) → IsPresent G row
present_next n G row shaped =
    let U = G ++ row ∷ [] in
    record {
      held = held_before G row (parent_names row.parents)
          (subst (AllByRecursion (λ p. p < length G)) (parents-links U (length G) row (omega (arith, length_push G row)) (sym (get_or_push G row row (length G) refl)))
          (parents_below (links U) (length G) shaped.earlier));
    }

-- a row of a shaped graph adds its link
pub links_next : (n : Stakes) (G : List Row) (row : Row) → IsShaped n (links G) → IsShaped n (links (G ++ row ∷ [])) → links (G ++ row ∷ []) ≡ links G ++ link_in G row ∷ []
links_next n G row before shaped = links-push G row (all_present n G before) (present_next n G row shaped)

few_names : (parents : ParentNames) → has_few_others parents ≡ true → length (parent_names parents) ≤ most_parents
few_names None few = omega arith
few_names (Some names) few =
    let parts = and_parts (nat_lt 0 (length names.1)) (nat_le (length names.1) most_others) few in
    let most : length names.1 ≤ 4 = leb-true (length names.1) 4 parts.1 in
    omega arith

-- a row of few other-parents has few parents
pub few_parents : (G : List Row) (row : Row) → has_few_others row.parents ≡ true → length (link_in G row).parents ≤ most_parents
few_parents G row few = omega (arith, length-map (parent_names row.parents) (place_of G), few_names row.parents few)

-- the last link of a shaped graph fits, where it has few parents
pub fits_last : (n : Stakes) (L : List Link) (link : Link) → length link.parents ≤ most_parents → IsShaped n (L ++ link ∷ []) → FitsLink n L link
unfolding self_parent other_parents
fits_last n L link few shaped =
    let x = length L in
    let inside : x < length (L ++ link ∷ []) = omega (arith, length_push L link) in
    let by : creator (L ++ link ∷ []) x ≡ link.creator = creator_last n L link x refl in
    let on : parents (L ++ link ∷ []) x ≡ link.parents = parents_read (L ++ link ∷ []) x link inside (sym (get_or_push L link link x refl)) in
    let low : (p : ℕ) → has_place link.parents p ≡ true → p < x = λ p h. shaped.earlier.earlier x p (subst (λ ps. has_place ps p ≡ true) (sym on) h) in
    record {
      member = rw (← by) (shaped.members x inside);
      few = few;
      earlier = low;
      self_by_same = λ p h.
          sym (creator_before n L link p (low p (first_of_places link.parents p h)))
          ∙ (shaped.self_by_same x p (subst (λ ps. has_place (first_place ps) p ≡ true) (sym on) h) ∙ by);
      others_by_others = λ p h same.
          shaped.others_by_others x p (subst (λ ps. has_place (later_places ps) p ≡ true) (sym on) h)
          (creator_before n L link p (low p (later_of_places link.parents p h)) ∙ (same ∙ sym by));
    }

-- a row that fits adds its link, which fits
pub adds_link : (n : Stakes) (G : List Row) (row : Row) → IsShaped n (links G) → Fits n G row → AddsLink n G row
adds_link n G row shaped fits =
    let added = links-push G row (all_present n G shaped) fits.present in
    record { fits = fits_last n (links G) (link_in G row) (few_parents G row fits.few) (subst (IsShaped n) added (shaped-push n G row shaped fits)); added = added }

-- the last of rows of distinct names has a name that the others have not
pub name_next : (G : List Row) (row : Row) → HasDistinctNames (G ++ row ∷ []) → place_of G row.name ≡ length G
name_next G row distinct =
    let U = G ++ row ∷ [] in
    let inside : length G < length U = omega (arith, length_push G row) in
    let named : name_at U (length G) ≡ row.name = name-at U (length G) inside ∙ ap (λ (r : Row). r.name) (get_or_push G row nobody (length G) refl) in
    let last : place_of U row.name ≡ length G = place_of_at U distinct (length G) row.name inside named in
    elim (cases_lt (place_of G row.name) (length G)) [
      | inl low ↦ (let same = place_of-append G (row ∷ []) row.name low in absurd (omega arith))
      | inr past ↦ omega (arith, prefix_len-le-length (λ (r : Row). Rattle.std.proofs.Common.not (is_named row.name r)) G)
    ]
