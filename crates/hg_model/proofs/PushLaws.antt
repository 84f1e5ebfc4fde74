-- Links of rows that come one by one, and the shape that they keep
use Rattle.std.proofs.Common.{◌≡◌, ◌≢◌, ◌⊎◌, inl, inr, ℕ, ◌+◌, ◌<◌, ◌≤◌, Bool, true, false, cond, eqb, List, [], ◌∷◌, ◌++◌, length, get_or, map, Option, Some, None, option_map, slice_get, sym, refl, ap, ap₂, ◌∙◌, subst, arith, length-append}
use Rattle.std.specs.List.{AllByRecursion}
use Rattle.std.specs.Prelude.{nat_le, nat_lt}
use Rattle.std.proofs.lemmas.Bool.{and_parts, leb-true, eq-eqb, eqb-true, true≢false, cases_lt, or_left, or_right, or_cases}
use Rattle.std.proofs.lemmas.List.{length-map, map-append, length_push, get_or_append_left, get_or_push}
use Rattle.std.proofs.lemmas.List.Sums.{fails_before_first, passes_at_first, position_or_len_is}
use Rattle.std.proofs.lemmas.Option.{slice_get-get_or, slice_get-map, slice_get_past}
use Rattle.hg_model.specs.declared.row.Row.{Row}
use Rattle.hg_model.proofs.LinkLaws.{length-links}
use Rattle.hg_model.specs.Places.{has_place}
use Rattle.hg_model.specs.Stakes.{Stakes}
use Rattle.hg_model.specs.Links.{Link, ParentNames, most_others, most_parents, has_few_others, parent_names, is_named, place_of, link_in, links, parents_in, creator_in, first_place, later_places, parents, self_parent, other_parents, creator}
use Rattle.hg_model.specs.Graph.{IsShaped}
use Rattle.hg_model.specs.Shape.{FitsLink}
use Rattle.hg_model.specs.Graph.{creator_at, creator_of_row}
use Rattle.hg_model.specs.Fits.{AreHeld, IsPresent, ParentsFit, Fits}

abbrev pub nobody : Row
nobody = record { creator = 0; parents = None; time = 0; payload = []; sig = []; name = [] }

pub place_of-append : (G more : List Row) (name : List ℕ) → place_of G name < length G → place_of (G ++ more) name ≡ place_of G name
place_of-append G more name held =
    let test = is_named name in
    position_or_len_is test (G ++ more) (place_of G name) nobody
    (omega (arith, length-append G more))
    (λ k h. rw (get_or_append_left G more nobody k (omega arith)) (fails_before_first test G k nobody h))
    (λ h. rw (get_or_append_left G more nobody (place_of G name) held) (passes_at_first test G nobody held))

places-append : (G more : List Row) (names : List (List ℕ)) → AreHeld G names → map (place_of (G ++ more)) names ≡ map (place_of G) names
places-append G more [] held = refl
places-append G more (name ∷ names) held = ap₂ (λ (p : ℕ) (ps : List ℕ). p ∷ ps) (place_of-append G more name held.0) (places-append G more names held.1)

abbrev linked_to : Row → List ℕ → Link
linked_to row ps = record { creator = row.creator; parents = ps }

-- later rows leave a link as it is
pub link_in-append : (G more : List Row) (row : Row) → IsPresent G row → link_in (G ++ more) row ≡ link_in G row
link_in-append G more row present = ap (linked_to row) (places-append G more (parent_names row.parents) present.held)

links_in-push : (G : List Row) (later : Row) (H : List Row) → AllByRecursion (IsPresent G) H → map (link_in (G ++ later ∷ [])) H ≡ map (link_in G) H
links_in-push G later [] present = refl
links_in-push G later (row ∷ H) present = ap₂ (λ (l : Link) (ls : List Link). l ∷ ls) (link_in-append G (later ∷ []) row present.0) (links_in-push G later H present.1)

-- a row whose parents stand before it adds its link
pub links-push : (G : List Row) (row : Row) → AllByRecursion (IsPresent G) G → IsPresent G row → links (G ++ row ∷ []) ≡ links G ++ link_in G row ∷ []
unfolding links
links-push G row all present =
    map-append (link_in (G ++ row ∷ [])) G (row ∷ [])
    ∙ ap₂ (λ (ls : List Link) (l : Link). ls ++ l ∷ []) (links_in-push G row G all) (link_in-append G (row ∷ []) row present)

pub link_at : (G : List Row) (x : ℕ) → x < length G → slice_get (links G) x ≡ Some (link_in G (get_or G x nobody))
unfolding links
link_at G x inside = slice_get-map (link_in G) G x ∙ ap (option_map (link_in G)) (slice_get-get_or G x nobody inside)

pub row_creator-links : (G : List Row) (x : ℕ) → creator (links G) x ≡ creator_at G x
unfolding creator links
row_creator-links G x = ap creator_in (slice_get-map (link_in G) G x) ∙ either (slice_get G x)
  where
    either : (o : Option Row) → creator_in (option_map (link_in G) o) ≡ creator_of_row o
    either None = refl
    either (Some row) = refl

held_from : (G : List Row) (names : List (List ℕ)) → ((p : ℕ) → has_place (map (place_of G) names) p ≡ true → p < length G) → AreHeld G names
held_from G [] below = tt
held_from G (name ∷ names) below = (
  below (place_of G name) (or_left (eqb (place_of G name) (place_of G name)) (has_place (map (place_of G) names) (place_of G name)) (eq-eqb (place_of G name) (place_of G name) refl)),
  held_from G names (λ p h. below p (or_right (eqb (place_of G name) p) (has_place (map (place_of G) names) p) h)),
)

-- the rows of a shaped graph have their parents among them
pub present_at : (n : Stakes) (G : List Row) → IsShaped n (links G) → (x : ℕ) → x < length G → IsPresent G (get_or G x nobody)
unfolding parents
present_at n G shaped x inside = record {
  held = held_from G (parent_names (get_or G x nobody).parents) (λ p h.
      let low = shaped.earlier.earlier x p (subst (λ ps. has_place ps p ≡ true) (sym (ap parents_in (link_at G x inside))) h) in
      omega arith);
}

pub all_from : {A : Type 0} (P : A → Type 0) (d : A) (xs : List A) → ((k : ℕ) → k < length xs → P (get_or xs k d)) → AllByRecursion P xs
all_from P d [] each = tt
all_from P d (x ∷ xs) each = (each 0 (omega arith), all_from P d xs (λ k h. each (Rattle.std.proofs.Common.suc k) (omega arith)))

pub all_present : (n : Stakes) (G : List Row) → IsShaped n (links G) → AllByRecursion (IsPresent G) G
all_present n G shaped = all_from (IsPresent G) nobody G (present_at n G shaped)

-- a place is before the last, the last, or after it
cases_last : (n x : ℕ) → (x < n) ⊎ ((x ≡ n) ⊎ (n < x))
cases_last n x = elim (cases_lt x n) [
  | inl before ↦ inl before
  | inr ge ↦ elim (cases_lt n x) [ inl after ↦ inr (inr after) | inr le ↦ inr (inl (omega arith)) ]
]

pub first_of_places : (ps : List ℕ) (p : ℕ) → has_place (first_place ps) p ≡ true → has_place ps p ≡ true
first_of_places [] p h = h
first_of_places (q ∷ ps) p h = elim (or_cases (eqb q p) false h) [ inl same ↦ or_left (eqb q p) (has_place ps p) same | inr none ↦ absurd (true≢false (sym none)) ]

pub later_of_places : (ps : List ℕ) (p : ℕ) → has_place (later_places ps) p ≡ true → has_place ps p ≡ true
later_of_places [] p h = h
later_of_places (q ∷ ps) p h = or_right (eqb q p) (has_place ps p) h

-- what stands in a list with one element more

pub slice_get-before : {A : Type 0} (xs : List A) (y : A) (x : ℕ) → x < length xs → slice_get (xs ++ y ∷ []) x ≡ slice_get xs x
slice_get-before {A} xs y x inside =
    slice_get-get_or (xs ++ y ∷ []) x y (omega (arith, length_push xs y))
    ∙ (ap (λ (a : A). Some a) (get_or_append_left xs (y ∷ []) y x inside) ∙ sym (slice_get-get_or xs x y inside))

pub slice_get-last : {A : Type 0} (xs : List A) (y : A) → slice_get (xs ++ y ∷ []) (length xs) ≡ Some y
slice_get-last {A} xs y =
    slice_get-get_or (xs ++ y ∷ []) (length xs) y (omega (arith, length_push xs y)) ∙ ap (λ (a : A). Some a) (get_or_push xs y y (length xs) refl)

module _ (n : Stakes) (L : List Link) (link : Link) where
  last_is : (x : ℕ) → x ≡ length L → slice_get (L ++ link ∷ []) x ≡ Some link
  last_is x last = ap (slice_get (L ++ link ∷ [])) last ∙ slice_get-last L link

  after_is : (x : ℕ) → length L < x → slice_get (L ++ link ∷ []) x ≡ None
  after_is x after = slice_get_past (L ++ link ∷ []) x (omega (arith, length_push L link))

  -- a place that some parents of a link's list have, in the longer list
  parent_cases : (pick : List ℕ → List ℕ) → (pick [] ≡ []) → (x p : ℕ) → has_place (pick (parents_in (slice_get (L ++ link ∷ []) x))) p ≡ true →
      ((x < length L) × (has_place (pick (parents_in (slice_get L x))) p ≡ true)) ⊎ ((x ≡ length L) × (has_place (pick link.parents) p ≡ true))
  parent_cases pick none x p h = elim (cases_last (length L) x) [
    | inl before ↦ inl (before, subst (λ (o : Option Link). has_place (pick (parents_in o)) p ≡ true) (slice_get-before L link x before) h)
    | inr rest ↦ elim rest [
      | inl last ↦ inr (last, subst (λ (o : Option Link). has_place (pick (parents_in o)) p ≡ true) (last_is x last) h)
      | inr after ↦ (
          let gone = subst (λ (o : Option Link). has_place (pick (parents_in o)) p ≡ true) (after_is x after) h in
          let empty = subst (λ (ps : List ℕ). has_place ps p ≡ true) none gone in
          absurd (true≢false (sym empty)))
    ]
  ]

  pub creator_before : (x : ℕ) → x < length L → creator (L ++ link ∷ []) x ≡ creator L x
  unfolding creator
  creator_before x inside = ap creator_in (slice_get-before L link x inside)

  pub creator_last : (x : ℕ) → x ≡ length L → creator (L ++ link ∷ []) x ≡ link.creator
  unfolding creator
  creator_last x last = ap creator_in (last_is x last)

  -- a link that fits keeps the shape
  pub shape-push : IsShaped n L → FitsLink n L link → IsShaped n (L ++ link ∷ [])
  unfolding parents self_parent other_parents
  shape-push shaped fits = record {
    members = λ x inside. elim (cases_lt x (length L)) [
      | inl before ↦ rw (creator_before x before) (shaped.members x before)
      | inr ge ↦ (let last : x ≡ length L = omega (arith, length_push L link) in rw (creator_last x last) fits.member)
    ];
    earlier = record {
      earlier = λ x p h. elim (parent_cases (λ ps. ps) refl x p h) [
        | inl before ↦ shaped.earlier.earlier x p before.1
        | inr last ↦ (let low = fits.earlier p last.1 in let at = last.0 in omega arith)
      ];
    };
    self_by_same = λ x p h. elim (parent_cases first_place refl x p h) [
      | inl before ↦ (
          let low = shaped.earlier.earlier x p (first_of_places (parents_in (slice_get L x)) p before.1) in
          let at = before.0 in
          rw (creator_before x at, creator_before p (omega arith)) (shaped.self_by_same x p before.1))
      | inr last ↦ (
          let low = fits.earlier p (first_of_places link.parents p last.1) in
          rw (creator_last x last.0, creator_before p low) (fits.self_by_same p last.1))
    ];
    others_by_others = λ x p h. elim (parent_cases later_places refl x p h) [
      | inl before ↦ (
          let low = shaped.earlier.earlier x p (later_of_places (parents_in (slice_get L x)) p before.1) in
          let at = before.0 in
          rw (creator_before x at, creator_before p (omega arith)) (shaped.others_by_others x p before.1))
      | inr last ↦ (
          let low = fits.earlier p (later_of_places link.parents p last.1) in
          rw (creator_last x last.0, creator_before p low) (fits.others_by_others p last.1))
    ];
  }

place_below : (G : List Row) (names : List (List ℕ)) (p : ℕ) → AreHeld G names → has_place (map (place_of G) names) p ≡ true → p < length G
place_below G [] p held h = absurd (true≢false (sym h))
place_below G (name ∷ names) p held h = elim (or_cases (eqb (place_of G name) p) (has_place (map (place_of G) names) p) h) [
  | inl same ↦ (let is : place_of G name ≡ p = eqb-true (place_of G name) p same in let low = held.0 in omega arith)
  | inr later ↦ place_below G names p held.1 later
]

own_creator : (G : List Row) (m : ℕ) (names : List (List ℕ)) (p : ℕ) → ParentsFit G m names → has_place (first_place (map (place_of G) names)) p ≡ true → creator_at G p ≡ m
own_creator G m [] p fit h = absurd (true≢false (sym h))
own_creator G m (own ∷ others) p fit h = elim (or_cases (eqb (place_of G own) p) false h) [
  | inl same ↦ subst (λ (k : ℕ). creator_at G k ≡ m) (eqb-true (place_of G own) p same) fit.0
  | inr none ↦ absurd (true≢false (sym none))
]

others_creator : (G : List Row) (m : ℕ) (names : List (List ℕ)) (p : ℕ) → AllByRecursion (λ name. creator_at G (place_of G name) ≢ m) names → has_place (map (place_of G) names) p ≡ true → creator_at G p ≢ m
others_creator G m [] p fit h = absurd (true≢false (sym h))
others_creator G m (name ∷ names) p fit h = elim (or_cases (eqb (place_of G name) p) (has_place (map (place_of G) names) p) h) [
  | inl same ↦ subst (λ (k : ℕ). creator_at G k ≢ m) (eqb-true (place_of G name) p same) fit.0
  | inr later ↦ others_creator G m names p fit.1 later
]

other_creator : (G : List Row) (m : ℕ) (names : List (List ℕ)) (p : ℕ) → ParentsFit G m names → has_place (later_places (map (place_of G) names)) p ≡ true → creator_at G p ≢ m
other_creator G m [] p fit h = absurd (true≢false (sym h))
other_creator G m (own ∷ others) p fit h = others_creator G m others p fit.1 h

few_parents : (parents : ParentNames) → has_few_others parents ≡ true → length (parent_names parents) ≤ most_parents
few_parents None few = omega arith
few_parents (Some names) few =
    let parts = and_parts (nat_lt 0 (length names.1)) (nat_le (length names.1) most_others) few in
    let most : length names.1 ≤ 4 = leb-true (length names.1) 4 parts.1 in
    omega arith

-- a row that fits keeps the shape
pub shaped-push : (n : Stakes) (G : List Row) (row : Row) → IsShaped n (links G) → Fits n G row → IsShaped n (links (G ++ row ∷ []))
shaped-push n G row shaped fits =
    let names = parent_names row.parents in
    let len = length-links G in
    rw (links-push G row (all_present n G shaped) fits.present)
    (shape-push n (links G) (link_in G row) shaped (record {
      member = fits.member;
      few = omega (arith, length-map names (place_of G), few_parents row.parents fits.few);
      earlier = λ p h. rw len (place_below G names p fits.present.held h);
      self_by_same = λ p h. row_creator-links G p ∙ own_creator G row.creator names p fits.parents_fit h;
      others_by_others = λ p h. rw (row_creator-links G p) (other_creator G row.creator names p fits.parents_fit h);
    }))

pub shaped-none : (n : Stakes) → IsShaped n (links [])
unfolding links creator parents self_parent other_parents
shaped-none n = record {
  members = λ x inside. absurd (omega arith);
  earlier = record { earlier = λ x p h. absurd (true≢false (sym h)) };
  self_by_same = λ x p h. absurd (true≢false (sym h));
  others_by_others = λ x p h. absurd (true≢false (sym h));
}
