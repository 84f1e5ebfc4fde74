-- A graph whose rows are rows of a larger graph stands there, each row at the place of its name
use Rattle.std.proofs.Common.{◌≡◌, ℕ, ◌<◌, List, [], ◌∷◌, length, map, get_or, slice_get, sym, refl, ap, ap₂, ◌∙◌, arith}
use Rattle.std.proofs.lemmas.Option.{slice_get-get_or, get_or_from_slice_get}
use Rattle.std.proofs.lemmas.List.Sums.{passes_at_first}
use Rattle.hg_model.specs.declared.row.Row.{Row}
use Rattle.hg_model.specs.Stakes.{Stakes}
use Rattle.hg_model.specs.Links.{parent_names, is_named, place_of, links, parents}
use Rattle.hg_model.specs.Graph.{name_in, name_at, HasDistinctNames, IsShaped}
use Rattle.hg_model.specs.Order.{row_sig, sig_at, row_time, time_at, middle_bit, coin_at}
use Rattle.hg_model.specs.Graph.{creator_of_row}
use Rattle.hg_model.specs.Fits.{AreHeld}
use Rattle.hg_model.proofs.LinkLaws.{length-links, parents-links}
use Rattle.hg_model.proofs.PushLaws.{nobody, row_creator-links, present_at}
use Rattle.hg_model.proofs.NameLaws.{bytes_same, name-at, place_of_at}
use Rattle.hg_prefix.specs.Standing.{StandsIn, place_in}
use Rattle.hg_prefix.specs.Laws.{PartsAreAlike}
use Rattle.hg_prefix.proofs.MovedLaws.{IsMoved, is_ancestor-moved, is_ancestor_back, is_self_ancestor-moved, sees-moved, strongly_sees-moved, round_of-moved, is_witness-moved, vote_of-moved, decides-moved}

-- the row at the place of a name has the name
pub name_at_place : (G : List Row) (name : List ℕ) → place_of G name < length G → name_at G (place_of G name) ≡ name
name_at_place G name held =
    name-at G (place_of G name) held
    ∙ bytes_same (get_or G (place_of G name) nobody).name name (passes_at_first (is_named name) G nobody held)

-- where a row is found in a list with distinct names
pub place_is : (U G : List Row) → HasDistinctNames U → (x u : ℕ) → u < length U → slice_get U u ≡ slice_get G x → place_in U G x ≡ u
unfolding name_at
place_is U G distinct x u inside same = place_of_at U distinct u (name_at G x) inside (ap name_in same)

module _ (G U : List Row) (distinct_G : HasDistinctNames G) (distinct_U : HasDistinctNames U) (stands : StandsIn G U) where
  pub place_inside : (x : ℕ) → x < length G → place_in U G x < length U
  place_inside x inside =
      let u = stands.row_in x inside in
      let at = place_is U G distinct_U x u.0 u.1 u.2 in
      omega (arith, u.1)

  pub row_there : (x : ℕ) → x < length G → slice_get U (place_in U G x) ≡ slice_get G x
  row_there x inside =
      let u = stands.row_in x inside in
      ap (slice_get U) (place_is U G distinct_U x u.0 u.1 u.2) ∙ u.2

  pub name_there : (x : ℕ) → x < length G → name_at U (place_in U G x) ≡ name_at G x
  unfolding name_at
  name_there x inside = ap name_in (row_there x inside)

  pub time_there : (x : ℕ) → x < length G → time_at U (place_in U G x) ≡ time_at G x
  unfolding time_at
  time_there x inside = ap row_time (row_there x inside)

  pub sig_there : (x : ℕ) → x < length G → sig_at U (place_in U G x) ≡ sig_at G x
  unfolding sig_at
  sig_there x inside = ap row_sig (row_there x inside)

  pub coin_there : (x : ℕ) → x < length G → coin_at U (place_in U G x) ≡ coin_at G x
  unfolding coin_at
  coin_there x inside = ap middle_bit (sig_there x inside)

  pub places_apart : (x y : ℕ) → x < length G → y < length G → place_in U G x ≡ place_in U G y → x ≡ y
  places_apart x y hx hy same = distinct_G.one x y hx hy (sym (name_there x hx) ∙ (ap (name_at U) same ∙ name_there y hy))

  names_there : (names : List (List ℕ)) → AreHeld G names → map (place_of U) names ≡ map (place_in U G) (map (place_of G) names)
  names_there [] held = refl
  names_there (name ∷ names) held =
      ap₂ (λ (p : ℕ) (ps : List ℕ). p ∷ ps) (ap (place_of U) (sym (name_at_place G name held.0))) (names_there names held.1)

  module _ (n : Stakes) (shaped : IsShaped n (links G)) where
    parents_there : (x : ℕ) → x < length G → parents (links U) (place_in U G x) ≡ map (place_in U G) (parents (links G) x)
    parents_there x inside =
        let row : Row = get_or G x nobody in
        let there : row ≡ get_or U (place_in U G x) row =
        sym (get_or_from_slice_get U (place_in U G x) row row (row_there x inside ∙ slice_get-get_or G x nobody inside)) in
        let here : row ≡ get_or G x row = sym (get_or_from_slice_get G x row row (slice_get-get_or G x nobody inside)) in
        parents-links U (place_in U G x) row (place_inside x inside) there
        ∙ (names_there (parent_names row.parents) (present_at n G shaped x inside).held
        ∙ ap (map (place_in U G)) (sym (parents-links G x row inside here)))

    -- the links of the one stand among those of the other
    pub links_moved : IsMoved (links G) (links U) (place_in U G)
    links_moved = record {
      inside = λ x h. rw (length-links U) (place_inside x (rw (← length-links G) h));
      apart = λ x y hx hy same. places_apart x y (rw (← length-links G) hx) (rw (← length-links G) hy) same;
      parents_there = λ x h. parents_there x (rw (← length-links G) h);
      creator_there = λ x h.
          row_creator-links U (place_in U G x) ∙ (ap creator_of_row (row_there x (rw (← length-links G) h)) ∙ sym (row_creator-links G x));
    }

pub parts_alike : PartsAreAlike
parts_alike n c G U g u stands x inside =
    let moved = links_moved G U g.distinct u.distinct stands n g.shaped in
    let l = g.shaped.earlier in
    let v = u.shaped.earlier in
    let len : length (links G) ≡ length G = length-links G in
    let coins = λ (y : ℕ) (h : y < length (links G)). coin_there G U g.distinct u.distinct stands y (omega arith) in
    record {
      row = row_there G U g.distinct u.distinct stands x inside;
      ancestors = λ y h. is_ancestor-moved n (links G) (links U) l v (place_in U G) moved x y (omega arith) (omega arith);
      self_ancestors = λ y h. is_self_ancestor-moved n (links G) (links U) l v (place_in U G) moved x y (omega arith) (omega arith);
      no_further_ancestor = λ w r. let y = is_ancestor_back n (links G) (links U) l v (place_in U G) moved x w (omega arith) r in (y.0, y.1, y.2);
      seeing = λ y h. sees-moved n (links G) (links U) l v (place_in U G) moved x y (omega arith) (omega arith);
      strong_seeing = λ y h. strongly_sees-moved n (links G) (links U) l v (place_in U G) moved x y (omega arith) (omega arith);
      round = round_of-moved n (links G) (links U) l v (place_in U G) moved x (omega arith);
      witness = is_witness-moved n (links G) (links U) l v (place_in U G) moved x (omega arith);
      votes = λ y h. vote_of-moved n (links G) (links U) l v (place_in U G) moved c (coin_at U) (coin_at G) coins y x (omega arith) (omega arith);
      decisions = λ y h. decides-moved n (links G) (links U) l v (place_in U G) moved c (coin_at U) (coin_at G) coins y x (omega arith) (omega arith);
    }
