-- The kept order only grows, and is a prefix of the order of the graph: by names from the laws of graphs that stand in one
-- graph, and then by places, since names stand for places
use Rattle.std.proofs.Common.{◌≡◌, ℕ, ◌<◌, ◌≤◌, true, List, [], ◌∷◌, ◌++◌, length, map, sym, refl, ap, ap₂, ◌∙◌, subst, inl, inr, arith, length-append}
use Rattle.std.specs.List.{AllByRecursion}
use Rattle.std.proofs.lemmas.Bool.{cases_lt}
use Rattle.std.proofs.lemmas.List.{map-append}
use Rattle.hg_model.specs.declared.row.Row.{Row}
use Rattle.hg_model.specs.declared.row.Placed.{Placed}
use Rattle.hg_model.specs.Places.{list_below}
use Rattle.hg_model.specs.Stakes.{Stakes}
use Rattle.hg_model.specs.Links.{Link, links, place_of}
use Rattle.hg_model.specs.Graph.{name_in, name_at, HasDistinctNames}
use Rattle.hg_model.specs.Fame.{Marks, fame_marks, is_closed}
use Rattle.hg_model.specs.Order.{sort_by, comes_before, keyed_at, is_received_in, ordered_in, ordered, Ordered, named_in, last_closed, coin_at, order_of}
use Rattle.hg_life.specs.History.{Change, replay, IsHistory}
use Rattle.hg_life.specs.Kept.{kept, kept_by_names}
use Rattle.hg_life.specs.Terms.{Terms}
use Rattle.hg_model.specs.Orders.{IsPrefix, marked_order_by_names}
use Rattle.hg_model.proofs.LinkLaws.{length-links}
use Rattle.hg_model.proofs.ListLaws.{all_list_below}
use Rattle.hg_model.proofs.LongerLaws.{slice_get-append}
use Rattle.hg_model.proofs.NameLaws.{place_of_at}
use Rattle.hg_model.proofs.PushLaws.{nobody}
use Rattle.hg_model.proofs.SortLaws.{all_sorted}
use Rattle.hg_prefix.specs.Standing.{StandsIn, IsMarkedPart}
use Rattle.hg_prefix.proofs.ClosedLaws.{closed_last, closed_up_to}
use Rattle.hg_prefix.proofs.GrowthLaws.{no_fewer_closed, stands_in_itself, stands_in_longer}
use Rattle.hg_prefix.proofs.OrderLaws.{order_prefix}
use Rattle.hg_prefix.proofs.OwnLaws.{own_fame}
use Rattle.hg_history.proofs.StateLaws.{rows_grow}
use Rattle.hg_history.proofs.SoundLaws.{IsSound, sound, moment, closed_later, node_graph}

-- from names back to places

placed_by : List Row → Ordered → Placed
placed_by U row = record { place = place_of U row.name; received = row.received; time = row.time }

abbrev IsInside : List Row → List ℕ × Placed → Type 0
IsInside G keyed = keyed.1.place < length G

module _ (G U : List Row) (distinct : HasDistinctNames U) (same : (x : ℕ) → x < length G → name_at U x ≡ name_at G x) (more : length G ≤ length U) where
  back_at : (p : Placed) → p.place < length G → placed_by U (named_in G p) ≡ p
  unfolding placed_by
  back_at p inside =
      ap (λ (place : ℕ). at place) (place_of_at U distinct p.place (name_at G p.place) (omega arith) (same p.place inside))
    where
      at : ℕ → Placed
      at place = record { place = place; received = p.received; time = p.time }

  all_back : (xs : List (List ℕ × Placed)) → AllByRecursion (IsInside G) xs → map (placed_by U) (map (named_in G) (map (λ keyed. keyed.1) xs)) ≡ map (λ keyed. keyed.1) xs
  all_back [] all = refl
  all_back (keyed ∷ xs) all = ap₂ (λ (p : Placed) (ps : List Placed). p ∷ ps) (back_at keyed.1 all.0) (all_back xs all.1)

  places_back : (n : Stakes) (marks : Marks) → map (placed_by U) (map (named_in G) (ordered n G (links G) marks)) ≡ ordered n G (links G) marks
  unfolding ordered_in
  places_back n marks =
      let L = links G in
      let len = length-links G in
      let rows = list_below (keyed_at n G L marks) (length L) (is_received_in n L marks (λ r. true)) in
      all_back (sort_by comes_before rows)
      (all_sorted (IsInside G) comes_before rows (all_list_below (IsInside G) (keyed_at n G L marks) (length L) (is_received_in n L marks (λ r. true)) (λ x inside e. omega arith)))

-- where the rows of G are the first rows of U, an order that is a prefix by names is one by places
pub prefix_by_places : (n : Stakes) (G U : List Row) (f h : Marks) → HasDistinctNames U → IsPrefix G U →
    IsPrefix (marked_order_by_names n G f) (marked_order_by_names n U h) → IsPrefix (ordered n G (links G) f) (ordered n U (links U) h)
unfolding name_at
prefix_by_places n G U f h distinct first names = (
  map (placed_by U) names.0,
  sym (places_back U U distinct (λ x inside. refl) (omega arith) n h)
      ∙ (ap (map (placed_by U)) names.1
      ∙ (map-append (placed_by U) (marked_order_by_names n G f) names.0
      ∙ ap (λ (ps : List Placed). ps ++ map (placed_by U) names.0)
      (places_back G U distinct (λ x inside. ap name_in (subst (λ (H : List Row). Rattle.std.specs.Prelude.slice_get H x ≡ Rattle.std.specs.Prelude.slice_get G x) (sym first.1) (slice_get-append G first.0 nobody x inside)))
      (let e = ap length first.1 in omega (arith, e, length-append G first.0)) n f))),
)

pub stands_as_first : (G U : List Row) → IsPrefix G U → StandsIn G U
stands_as_first G U first = subst (StandsIn G) (sym first.1) (stands_in_longer G first.0)

module _ (terms : Terms) (n : Stakes) (c own : ℕ) (a b : List Change) (three : 2 < c) (is : IsHistory terms n c own (a ++ b)) where
  early : IsSound terms n c own (replay n c a)
  early = sound terms n c own a three (moment terms n c own a b is)

  late : IsSound terms n c own (replay n c (a ++ b))
  late = sound terms n c own (a ++ b) three is

  fewer : last_closed n (links (replay n c a).rows) (replay n c a).marks ≤ last_closed n (links (replay n c (a ++ b)).rows) (replay n c (a ++ b)).marks
  fewer =
      let s = replay n c a in
      let t = replay n c (a ++ b) in
      let m = last_closed n (links s.rows) s.marks in
      elim (cases_lt 0 m) [
        | inl some ↦ (
            let here = closed_up_to n (links s.rows) early.graph.shaped.earlier s.marks m some (omega arith) in
            let there = closed_later terms n c own a b three is m (subst (λ (L : List Link). is_closed n L s.marks m ≡ true) (sym early.linked) here) in
            (closed_last n (links t.rows) late.graph.shaped.earlier t.marks m (subst (λ (L : List Link). is_closed n L t.marks m ≡ true) late.linked there)).1)
        | inr none ↦ omega arith
      ]

  first_rows : IsPrefix (replay n c a).rows (replay n c (a ++ b)).rows
  first_rows = rows_grow n c a b

  names_of_rows : IsPrefix (marked_order_by_names n (replay n c a).rows (replay n c a).marks) (marked_order_by_names n (replay n c (a ++ b)).rows (replay n c (a ++ b)).marks)
  names_of_rows =
      let G : List Row = (replay n c a).rows in
      let U : List Row = (replay n c (a ++ b)).rows in
      order_prefix n c U late.graph three G U (replay n c a).marks (replay n c (a ++ b)).marks
      (record { graph = early.graph; stands = stands_as_first G U first_rows; fame = early.fame })
      (record { graph = late.graph; stands = stands_in_itself U; fame = late.fame })
      fewer 48 (node_graph terms n c own a three (moment terms n c own a b is)).sizes (node_graph terms n c own (a ++ b) three is).sizes

  pub order_grows : IsPrefix (kept n (replay n c a)) (kept n (replay n c (a ++ b)))
  order_grows =
      let s = replay n c a in
      let t = replay n c (a ++ b) in
      subst (λ (L : List Link). IsPrefix (ordered n s.rows L s.marks) (kept n t)) (sym early.linked)
      (subst (λ (L : List Link). IsPrefix (ordered n s.rows (links s.rows) s.marks) (ordered n t.rows L t.marks)) (sym late.linked)
      (prefix_by_places n s.rows t.rows s.marks t.marks late.graph.distinct first_rows names_of_rows))

  pub named_order_grows : IsPrefix (kept_by_names n (replay n c a)) (kept_by_names n (replay n c (a ++ b)))
  named_order_grows =
      let s = replay n c a in
      let t = replay n c (a ++ b) in
      subst (λ (L : List Link). IsPrefix (map (named_in s.rows) (ordered n s.rows L s.marks)) (kept_by_names n t)) (sym early.linked)
      (subst (λ (L : List Link). IsPrefix (marked_order_by_names n s.rows s.marks) (map (named_in t.rows) (ordered n t.rows L t.marks))) (sym late.linked) names_of_rows)

module _ (terms : Terms) (n : Stakes) (c own : ℕ) (h : List Change) (three : 2 < c) (is : IsHistory terms n c own h) where
  now : IsSound terms n c own (replay n c h)
  now = sound terms n c own h three is

  pub kept_of_graph : IsPrefix (kept n (replay n c h)) (order_of n c (replay n c h).rows)
  unfolding order_of
  kept_of_graph =
      let s = replay n c h in
      let G : List Row = s.rows in
      let own_marks = fame_marks n c (links G) (coin_at G) in
      let part : IsMarkedPart n c G G s.marks = record { graph = now.graph; stands = stands_in_itself G; fame = now.fame } in
      let sizes = (node_graph terms n c own h three is).sizes in
      subst (λ (L : List Link). IsPrefix (ordered n G L s.marks) (ordered n G (links G) own_marks)) (sym now.linked)
      (prefix_by_places n G G s.marks own_marks now.graph.distinct ([], sym (Rattle.std.proofs.lemmas.List.append-nil G))
      (order_prefix n c G now.graph three G G s.marks own_marks part (record { graph = now.graph; stands = stands_in_itself G; fame = own_fame n c G })
      (no_fewer_closed n c G now.graph three G s.marks part) 48 sizes sizes))
