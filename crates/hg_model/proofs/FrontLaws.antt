-- The first rows of a graph, and their links
use Rattle.std.proofs.Common.{◌≡◌, ℕ, ◌<◌, ◌≤◌, List, [], ◌∷◌, ◌++◌, length, length-append, map, take, drop, get_or, sym, refl, ap, ap₂, ◌∙◌, subst, arith}
use Rattle.std.specs.List.{AllByRecursion}
use Rattle.std.proofs.lemmas.List.{length-map, length-take-le, take-append-drop, get_or_append_left, map-append}
use Rattle.std.proofs.lemmas.List.Sums.{position_or_len_is, fails_before_first, passes_at_first}
use Rattle.std.proofs.lemmas.Option.{get_or_from_slice_get, slice_get-get_or}
use Rattle.std.proofs.Math.Seq.{take-append_seam}
use Rattle.hg_model.specs.declared.row.Row.{Row}
use Rattle.hg_model.specs.Stakes.{Stakes}
use Rattle.hg_model.specs.Links.{Link, links, link_in, parent_names, is_named, place_of}
use Rattle.hg_model.specs.Graph.{IsShaped}
use Rattle.hg_model.specs.Fits.{AreHeld, IsPresent}
use Rattle.hg_model.proofs.LinkLaws.{parents_below, parents-links}
use Rattle.hg_model.proofs.LongerLaws.{slice_get-append}
use Rattle.hg_model.proofs.PushLaws.{all_from, nobody, link_in-append}

-- what is found among all rows before the end of the first ones is found there
place_in_front : (G more : List Row) (name : List ℕ) → place_of (G ++ more) name < length G → place_of G name ≡ place_of (G ++ more) name
place_in_front G more name low =
    let p = place_of (G ++ more) name in
    let test = is_named name in
    position_or_len_is test G p nobody (omega arith)
    (λ k h. rw (← get_or_append_left G more nobody k (omega arith)) (fails_before_first test (G ++ more) k nobody h))
    (λ h. rw (← get_or_append_left G more nobody p low) (passes_at_first test (G ++ more) nobody (omega (arith, length-append G more))))

held_in_front : (G more : List Row) (names : List (List ℕ)) (x : ℕ) → x ≤ length G → AllByRecursion (λ p. p < x) (map (place_of (G ++ more)) names) → AreHeld G names
held_in_front G more [] x le low = tt
held_in_front G more (name ∷ names) x le low =
    (let first = low.0 in (rw (place_in_front G more name (omega arith)) (omega arith), held_in_front G more names x le low.1))

-- the parents of each of the first rows are among them
present_in_front : (n : Stakes) (G more : List Row) → IsShaped n (links (G ++ more)) → (x : ℕ) → x < length G → IsPresent G (get_or G x nobody)
present_in_front n G more shaped x inside =
    let row : Row = get_or G x nobody in
    let U = G ++ more in
    let longer = length-append G more in
    let here : row ≡ get_or U x row = sym (get_or_from_slice_get U x row row
    (slice_get-append G more nobody x inside ∙ slice_get-get_or G x nobody inside)) in
    record {
      held = held_in_front G more (parent_names row.parents) x (omega arith)
          (subst (AllByRecursion (λ p. p < x)) (parents-links U x row (omega arith) here) (parents_below (links U) x shaped.earlier));
    }

same_links : (G more H : List Row) → AllByRecursion (IsPresent G) H → map (link_in (G ++ more)) H ≡ map (link_in G) H
same_links G more [] all = refl
same_links G more (row ∷ H) all = ap₂ (λ (l : Link) (ls : List Link). l ∷ ls) (link_in-append G more row all.0) (same_links G more H all.1)

-- the links of the first rows are the first links
pub links_of_front : (n : Stakes) (G more : List Row) → IsShaped n (links (G ++ more)) → links G ≡ take (length G) (links (G ++ more))
unfolding links
links_of_front n G more shaped =
    let present = all_from (IsPresent G) nobody G (present_in_front n G more (unfold links in shaped)) in
    let split = map-append (link_in (G ++ more)) G more in
    let here = map (link_in (G ++ more)) G in
    sym (ap (take (length G)) split
    ∙ (ap (λ (k : ℕ). take k (here ++ map (link_in (G ++ more)) more)) (sym (length-map G (link_in (G ++ more))))
    ∙ (take-append_seam here (map (link_in (G ++ more)) more) ∙ same_links G more G present)))

-- so with the first `len` rows
pub links-take : (n : Stakes) (G : List Row) (len : ℕ) → IsShaped n (links G) → len ≤ length G → links (take len G) ≡ take len (links G)
links-take n G len shaped le =
    let parts = take-append-drop len G in
    links_of_front n (take len G) (drop len G) (subst (λ (U : List Row). IsShaped n (links U)) (sym parts) shaped)
    ∙ ap₂ (λ (k : ℕ) (U : List Row). take k (links U)) (length-take-le len G le) parts
