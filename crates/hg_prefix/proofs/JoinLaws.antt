-- Two graphs of which rows of equal names are equal, joined: the rows of the first, and those of the second that it lacks
use Rattle.std.proofs.Common.{◌≡◌, ◌≢◌, ◌⊎◌, inl, inr, ℕ, zero, suc, ◌<◌, ◌≤◌, true, cond, List, [], ◌∷◌, ◌++◌, length, map, get_or, Some, slice_get, sym, refl, ap, ◌∙◌, subst, arith, le-ltb, lt-ltb}
use Rattle.std.specs.List.{AllByRecursion}
use Rattle.std.proofs.lemmas.Bool.{cases_lt, cases_eq}
use Rattle.std.proofs.lemmas.List.{length_push}
use Rattle.std.proofs.lemmas.Option.{slice_get-get_or, get_or_from_slice_get}
use Rattle.hg_model.specs.declared.row.Row.{Row}
use Rattle.hg_model.specs.Places.{has_place}
use Rattle.hg_model.specs.Stakes.{Stakes}
use Rattle.hg_model.specs.Links.{has_few_others, parent_names, place_of, links, first_place, later_places, creator, parents, self_parent, other_parents}
use Rattle.hg_model.specs.Graph.{name_in, name_at, have_few_others, HasDistinctNames, IsShaped, IsGraph}
use Rattle.hg_model.specs.Held.{is_held}
use Rattle.hg_model.specs.Graph.{creator_at, creator_of_row}
use Rattle.hg_model.specs.Fits.{AreHeld, ParentsFit, Fits}
use Rattle.hg_model.proofs.LinkLaws.{length-links, parents-links}
use Rattle.hg_model.proofs.NameLaws.{place_of_at, distinct-push}
use Rattle.hg_model.proofs.PushLaws.{nobody, row_creator-links, slice_get-before, slice_get-last, shaped-push}
use Rattle.hg_model.proofs.ReachLaws.{has_place_first, has_place_later}
use Rattle.hg_prefix.specs.Standing.{IsRowOf, StandsIn}
use Rattle.hg_prefix.specs.Chains.{HaveEqualRows}
use Rattle.hg_prefix.proofs.FewLaws.{few_at, few_push}
use Rattle.hg_prefix.proofs.StandingLaws.{name_at_place}

-- the rows with one more, unless one has its name
abbrev row_added : List Row → Row → List Row
row_added G row = cond (is_held G row.name) G (G ++ row ∷ [])

-- the rows of G, and the first k of H
unfoldable pub joined : List Row → List Row → ℕ → List Row
joined G H zero = G
joined G H (suc k) = row_added (joined G H k) (get_or H k nobody)

-- what the first k rows of H make of G
pub record IsJoined (n : Stakes) (G H : List Row) (k : ℕ) (U : List Row) : Type 0 where
  pub distinct : HasDistinctNames U
  pub few_others : have_few_others U ≡ true
  pub shaped : IsShaped n (links U)
  pub has_first : StandsIn G U
  pub has_second : (y : ℕ) → y < k → IsRowOf H y U
  pub no_other : (u : ℕ) → u < length U → IsRowOf U u G ⊎ IsRowOf U u H

-- a row stays a row of the longer list
row_stays : (G : List Row) (x : ℕ) (U : List Row) (row : Row) → IsRowOf G x U → IsRowOf G x (U ++ row ∷ [])
row_stays G x U row is =
    let inside : is.0 < length U = is.1 in
    (is.0, omega (arith, length_push U row), slice_get-before U row is.0 inside ∙ is.2)

module _ (n : Stakes) (G H : List Row) (graph_H : IsGraph n H) (equal : HaveEqualRows G H) where
  -- row k of H fits behind rows that have all earlier rows of H
  module _ (k : ℕ) (inside : k < length H) (U : List Row) (is : IsJoined n G H k U) where
    row : Row
    row = get_or H k nobody

    at_k : slice_get H k ≡ Some row
    unfolding row
    at_k = slice_get-get_or H k nobody inside

    row_places : List ℕ
    row_places = map (place_of H) (parent_names row.parents)

    parents_are : parents (links H) k ≡ row_places
    unfolding row row_places
    parents_are = parents-links H k (get_or H k nobody) inside (sym (get_or_from_slice_get H k (get_or H k nobody) (get_or H k nobody) at_k))

    creator_is : creator (links H) k ≡ row.creator
    creator_is = row_creator-links H k ∙ ap creator_of_row at_k

    -- a row of H before k is found in U by its name
    found : (name : List ℕ) → place_of H name < k → (place_of U name < length U) × (creator_at U (place_of U name) ≡ creator_at H (place_of H name))
    unfolding name_at
    found name low =
        let u = is.has_second (place_of H name) low in
        let place : place_of U name ≡ u.0 = place_of_at U is.distinct u.0 name u.1 (ap name_in u.2 ∙ name_at_place H name (omega arith)) in
        (rw place u.1, ap (creator_at U) place ∙ ap creator_of_row u.2)

    held : (names : List (List ℕ)) → ((p : ℕ) → has_place (map (place_of H) names) p ≡ true → p < k) → AreHeld U names
    held [] low = tt
    held (name ∷ names) low = (
      (found name (low (place_of H name) (has_place_first (place_of H name) (map (place_of H) names)))).0,
      held names (λ p h. low p (has_place_later (place_of H name) p (map (place_of H) names) h)),
    )

    by_others : (names : List (List ℕ)) → ((p : ℕ) → has_place (map (place_of H) names) p ≡ true → p < k) → ((p : ℕ) → has_place (map (place_of H) names) p ≡ true → creator_at H p ≢ row.creator) →
        AllByRecursion (λ name. creator_at U (place_of U name) ≢ row.creator) names
    by_others [] low other = tt
    by_others (name ∷ names) low other =
        let here = has_place_first (place_of H name) (map (place_of H) names) in
        let by = (found name (low (place_of H name) here)).1 in (
          (λ same. other (place_of H name) here (sym by ∙ same)),
          by_others names (λ p h. low p (has_place_later (place_of H name) p (map (place_of H) names) h)) (λ p h. other p (has_place_later (place_of H name) p (map (place_of H) names) h)),
        )

    parents_fit : (names : List (List ℕ)) → ((p : ℕ) → has_place (map (place_of H) names) p ≡ true → p < k) →
        ((p : ℕ) → has_place (first_place (map (place_of H) names)) p ≡ true → creator_at H p ≡ row.creator) →
        ((p : ℕ) → has_place (later_places (map (place_of H) names)) p ≡ true → creator_at H p ≢ row.creator) → ParentsFit U row.creator names
    parents_fit [] low own other = tt
    parents_fit (name ∷ names) low own other =
        let by = (found name (low (place_of H name) (has_place_first (place_of H name) (map (place_of H) names)))).1 in (
          by ∙ own (place_of H name) (has_place_first (place_of H name) []),
          by_others names (λ p h. low p (has_place_later (place_of H name) p (map (place_of H) names) h)) other,
        )

    low_places : (p : ℕ) → has_place row_places p ≡ true → p < k
    low_places p h = graph_H.shaped.earlier.earlier k p (subst (λ ps. has_place ps p ≡ true) (sym parents_are) h)

    own_place : (p : ℕ) → has_place (first_place row_places) p ≡ true → creator_at H p ≡ row.creator
    unfolding self_parent
    own_place p h =
        sym (row_creator-links H p)
        ∙ (graph_H.shaped.self_by_same k p (subst (λ ps. has_place (first_place ps) p ≡ true) (sym parents_are) h) ∙ creator_is)

    other_places : (p : ℕ) → has_place (later_places row_places) p ≡ true → creator_at H p ≢ row.creator
    unfolding other_parents
    other_places p h same =
        graph_H.shaped.others_by_others k p (subst (λ ps. has_place (later_places ps) p ≡ true) (sym parents_are) h)
        (row_creator-links H p ∙ (same ∙ sym creator_is))

    few : has_few_others row.parents ≡ true
    unfolding row
    few = few_at H k graph_H.few_others inside

    fits : Fits n U row
    unfolding row_places
    fits = record {
      member = rw (← creator_is) (graph_H.shaped.members k (rw (length-links H) inside));
      few = few;
      present = record { held = held (parent_names row.parents) low_places };
      parents_fit = parents_fit (parent_names row.parents) low_places own_place other_places;
    }

    -- where a row has its name, it is that row
    joined_held : place_of U row.name < length U → IsJoined n G H (suc k) U
    unfolding name_at
    joined_held held = record {
      distinct = is.distinct;
      few_others = is.few_others;
      shaped = is.shaped;
      has_first = is.has_first;
      has_second = λ y low. elim (cases_eq y k) [
        | inl last ↦ subst (λ z. IsRowOf H z U) (sym last) (
          place_of U row.name,
          held,
          elim (is.no_other (place_of U row.name) held) [
            | inl of_G ↦ sym of_G.2 ∙ equal.equal of_G.0 k of_G.1 inside (ap name_in of_G.2 ∙ named)
            | inr of_H ↦ sym of_H.2 ∙ ap (slice_get H) (graph_H.distinct.one of_H.0 k of_H.1 inside (ap name_in of_H.2 ∙ named))
          ],
        )
        | inr before ↦ is.has_second y (omega arith)
      ];
      no_other = is.no_other;
    }
      where
        named : name_in (slice_get U (place_of U row.name)) ≡ name_in (slice_get H k)
        named = name_at_place U row.name held ∙ ap name_in (sym at_k)

    -- else it comes as the last
    joined_more : length U ≤ place_of U row.name → IsJoined n G H (suc k) (U ++ row ∷ [])
    joined_more free = record {
      distinct = distinct-push U row is.distinct free;
      few_others = few_push U row is.few_others few;
      shaped = shaped-push n U row is.shaped fits;
      has_first = record { row_in = λ x h. row_stays G x U row (is.has_first.row_in x h) };
      has_second = λ y low. elim (cases_eq y k) [
        | inl last ↦ subst (λ z. IsRowOf H z (U ++ row ∷ [])) (sym last) (length U, omega (arith, length_push U row), slice_get-last U row ∙ sym at_k)
        | inr before ↦ row_stays H y U row (is.has_second y (omega arith))
      ];
      no_other = λ u below. elim (cases_lt u (length U)) [
        | inl before ↦ elim (is.no_other u before) [
          | inl of_G ↦ inl (of_G.0, of_G.1, of_G.2 ∙ sym (slice_get-before U row u before))
          | inr of_H ↦ inr (of_H.0, of_H.1, of_H.2 ∙ sym (slice_get-before U row u before))
        ]
        | inr ge ↦ (
            let last : u ≡ length U = omega (arith, length_push U row) in
            inr (k, inside, at_k ∙ (sym (slice_get-last U row) ∙ ap (slice_get (U ++ row ∷ [])) (sym last))))
      ];
    }

  pub joined_is : (first : IsJoined n G H 0 G) (k : ℕ) → k ≤ length H → IsJoined n G H k (joined G H k)
  unfolding joined row
  joined_is first zero le = first
  joined_is first (suc k) le =
      let U : List Row = joined G H k in
      let last : Row = get_or H k nobody in
      let is = joined_is first k (omega arith) in
      elim (cases_lt (place_of U last.name) (length U)) [
        | inl held ↦ subst (IsJoined n G H (suc k)) (sym (ap (λ b. cond b U (U ++ last ∷ [])) (lt-ltb (place_of U last.name) (length U) held))) (joined_held k (omega arith) U is held)
        | inr free ↦ subst (IsJoined n G H (suc k)) (sym (ap (λ b. cond b U (U ++ last ∷ [])) (le-ltb (place_of U last.name) (length U) free))) (joined_more k (omega arith) U is free)
      ]

-- the whole of both
pub joined_whole : (n : Stakes) (G H : List Row) → IsGraph n G → IsGraph n H → HaveEqualRows G H → IsJoined n G H (length H) (joined G H (length H))
joined_whole n G H graph_G graph_H equal =
    joined_is n G H graph_H equal
    (record {
      distinct = graph_G.distinct;
      few_others = graph_G.few_others;
      shaped = graph_G.shaped;
      has_first = record { row_in = λ x inside. (x, inside, refl) };
      has_second = λ y low. absurd (omega arith);
      no_other = λ u inside. inl (u, inside, refl);
    })
    (length H) (omega arith)
