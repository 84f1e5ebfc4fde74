-- What the links tell of a row
use Rattle.std.proofs.Common.{◌≡◌, ℕ, ◌<◌, ◌≤◌, true, eqb, List, [], ◌∷◌, length, map, get_or, option_map, ap, ◌∙◌, sym, refl, subst, inl, inr, arith}
use Rattle.std.proofs.lemmas.List.{length-map}
use Rattle.std.specs.List.{AllByRecursion}
use Rattle.std.specs.Str.{bytes_eq}
use Rattle.std.proofs.lemmas.Bool.{or_left, or_right, eq-eqb}
use Rattle.std.proofs.lemmas.Slice.Eq.{bytes_eq-Decides}
use Rattle.std.proofs.lemmas.Option.{slice_get_read, slice_get_past, slice_get-map, slice_get_cases}
use Rattle.std.proofs.lemmas.List.Sums.{passes_at_first}
use Rattle.hg_model.specs.declared.row.Row.{Row}
use Rattle.hg_model.specs.Places.{has_place, IsEarlier}
use Rattle.hg_model.specs.Links.{Link, parent_names, is_named, place_of, link_in, links, parents_in, creator_in, first_place, parents, self_parent, creator}

-- a link that is read in the list

pub creator_read : (L : List Link) (x : ℕ) (link : Link) → x < length L → link ≡ get_or L x link → creator L x ≡ link.creator
unfolding creator
creator_read L x link h is = ap creator_in (slice_get_read L (length L) x link refl h is)

pub parents_read : (L : List Link) (x : ℕ) (link : Link) → x < length L → link ≡ get_or L x link → parents L x ≡ link.parents
unfolding parents
parents_read L x link h is = ap parents_in (slice_get_read L (length L) x link refl h is)

pub ruleset link_reads = (creator_read, parents_read)

-- past the end there are none

pub parents_past : (L : List Link) (x : ℕ) → length L ≤ x → parents L x ≡ []
unfolding parents
parents_past L x h = ap parents_in (slice_get_past L x h)

pub self_parent_past : (L : List Link) (x : ℕ) → length L ≤ x → self_parent L x ≡ []
unfolding self_parent
self_parent_past L x h = ap first_place (parents_past L x h)

-- parents stand earlier

pub places_below : (n : ℕ) (ps : List ℕ) → ((p : ℕ) → has_place ps p ≡ true → p < n) → AllByRecursion (λ p. p < n) ps
places_below n [] h = tt
places_below n (p ∷ ps) h =
    (h p (or_left (eqb p p) (has_place ps p) (eq-eqb p p refl)), places_below n ps (λ q e. h q (or_right (eqb p q) (has_place ps q) e)))

pub parents_below : (L : List Link) (x : ℕ) → IsEarlier (parents L) → AllByRecursion (λ p. p < x) (parents L x)
parents_below L x e = places_below x (parents L x) (λ p h. e.earlier x p h)

-- the links of rows

pub length-links : (G : List Row) → length (links G) ≡ length G
unfolding links
length-links G = length-map G (link_in G)

pub ruleset link_lengths = (length-links)

pub creator-links : (G : List Row) (x : ℕ) (row : Row) → x < length G → row ≡ get_or G x row → creator (links G) x ≡ row.creator
unfolding creator links
creator-links G x row h is =
    ap creator_in (slice_get-map (link_in G) G x ∙ ap (λ r. option_map (link_in G) r) (slice_get_read G (length G) x row refl h is))

pub parents-links : (G : List Row) (x : ℕ) (row : Row) → x < length G → row ≡ get_or G x row → parents (links G) x ≡ map (place_of G) (parent_names row.parents)
unfolding parents links
parents-links G x row h is =
    ap parents_in (slice_get-map (link_in G) G x ∙ ap (λ r. option_map (link_in G) r) (slice_get_read G (length G) x row refl h is))

pub self_parent-links : (G : List Row) (x : ℕ) (row : Row) → x < length G → row ≡ get_or G x row → self_parent (links G) x ≡ first_place (map (place_of G) (parent_names row.parents))
unfolding self_parent
self_parent-links G x row h is = ap first_place (parents-links G x row h is)

-- rows found by two names at one place have one name
pub same_place-same_name : (G : List Row) (a b : List ℕ) → place_of G a < length G → place_of G a ≡ place_of G b → a ≡ b
same_place-same_name G a b h same = elim (slice_get_cases G (place_of G a)).1 [
  | inl here ↦
      (let row : Row = here.0 in
      let by_a : bytes_eq row.name a ≡ true = subst (λ r. is_named a r ≡ true) here.3 (passes_at_first (is_named a) G row h) in
      let inside : place_of G b < length G = rw (← same) h in
      let read : get_or G (place_of G b) row ≡ row = rw (← same) here.3 in
      let by_b : bytes_eq row.name b ≡ true = subst (λ r. is_named b r ≡ true) read (passes_at_first (is_named b) G row inside) in
      sym ((bytes_eq-Decides row.name a).0 by_a) ∙ (bytes_eq-Decides row.name b).0 by_b)
  | inr past ↦ absurd (omega (arith, past.0))
]
