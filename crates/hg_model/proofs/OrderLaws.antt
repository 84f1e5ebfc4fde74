-- How long an order is, what stands in it, and how it falls apart by rounds
use Rattle.std.proofs.Common.{◌≡◌, ℕ, ◌<◌, ◌≤◌, Bool, true, false, not, ◌&&◌, List, [], ◌++◌, length, map, get_or, All, Option, Some, None, is_some, unwrap_or, sym, refl, ap, ap₂, ◌∙◌, arith}
use Rattle.std.specs.Prelude.{filter}
use Rattle.std.proofs.Math.Bool.{and_assoc, and-false}
use Rattle.std.proofs.lemmas.List.{map-append, length-map}
use Rattle.std.proofs.lemmas.List.Elements.{All-map, All-from_recursion}
use Rattle.hg_model.specs.declared.row.Row.{Row}
use Rattle.hg_model.specs.declared.row.Placed.{Placed}
use Rattle.hg_model.specs.Places.{list_below}
use Rattle.hg_model.specs.Stakes.{Stakes}
use Rattle.hg_model.specs.Links.{Link}
use Rattle.hg_model.specs.Fame.{Marks}
use Rattle.hg_model.specs.Order.{sort_by, comes_before, keyed_at, is_received_in, ordered_in, ordered, round_received, received_or_zero}
use Rattle.hg_model.proofs.PlacesLaws.{list_below-same, list_below_none}
use Rattle.hg_model.proofs.ListLaws.{map-list_below, filter-list_below, all_list_below, length-list_below-le}
use Rattle.hg_model.proofs.SortLaws.{all_sorted, sort_by-sums, same_length}
use Rattle.hg_model.proofs.SplitLaws.{sort_split}
use Rattle.hg_model.proofs.CompareLaws.{lesser_first}

-- the rows of an order stand in the graph
pub ordered_within : (n : Stakes) (G : List Row) (L : List Link) (marks : Marks) → All (λ (p : Placed). p.place < length L) (ordered n G L marks)
unfolding ordered_in
ordered_within n G L marks =
    let P : List ℕ × Placed → Type 0 = λ keyed. keyed.1.place < length L in
    let test = is_received_in n L marks (λ _. true) in
    let rows = list_below (keyed_at n G L marks) (length L) test in
    All-map (λ (p : Placed). p.place < length L) (λ (keyed : List ℕ × Placed). keyed.1) (sort_by comes_before rows)
    (All-from_recursion P (sort_by comes_before rows) (all_sorted P comes_before rows
    (all_list_below P (keyed_at n G L marks) (length L) test (λ x h e. h))))

module _ (n : Stakes) (G : List Row) (L : List Link) (marks : Marks) where
  abbrev in_rounds : (ℕ → Bool) → List Placed
  in_rounds test = ordered_in n G L marks test

  abbrev received : (ℕ → Bool) → ℕ → Bool
  received test = is_received_in n L marks test

  -- there are as many as were received
  pub length-ordered_in : (test : ℕ → Bool) → length (in_rounds test) ≡ length (list_below (λ x. x) (length L) (received test))
  unfolding ordered_in
  length-ordered_in test =
      let rows = list_below (keyed_at n G L marks) (length L) (received test) in
      length-map (sort_by comes_before rows) (λ (keyed : List ℕ × Placed). keyed.1)
      ∙ (same_length (sort_by comes_before rows) rows (sort_by-sums comes_before rows)
      ∙ (ap length (sym (map-list_below (keyed_at n G L marks) (λ x. x) (length L) (received test)))
      ∙ length-map (list_below (λ x. x) (length L) (received test)) (keyed_at n G L marks)))

  pub length-ordered_in-le : (test : ℕ → Bool) → length (in_rounds test) ≤ length L
  length-ordered_in-le test = omega (arith, length-ordered_in test, length-list_below-le (λ x. x) (length L) (received test))

  -- what the rounds received that pass a test: first the low ones, then the others
  pub ordered_in-split : (test low : ℕ → Bool) → ((j k : ℕ) → low j ≡ true → low k ≡ false → j < k) →
      in_rounds test ≡ in_rounds (λ r. test r && low r) ++ in_rounds (λ r. test r && not (low r))
  unfolding ordered_in
  ordered_in-split test low lower =
      let keyed = keyed_at n G L marks in
      let rows = list_below keyed (length L) (received test) in
      let second : List ℕ × Placed → Placed = λ k. k.1 in
      let is_low : List ℕ × Placed → Bool = λ k. low (get_or k.0 0 0) in
      let listed : (pick : ℕ → Bool) → filter (λ (k : List ℕ × Placed). pick (get_or k.0 0 0)) rows ≡ list_below keyed (length L) (received (λ r. test r && pick r)) = λ pick.
      filter-list_below (λ (k : List ℕ × Placed). pick (get_or k.0 0 0)) keyed (length L) (received test)
      ∙ list_below-same keyed keyed (length L) (λ x. received test x && pick (received_or_zero n L marks x)) (received (λ r. test r && pick r))
      (λ x inside. and_assoc (is_some (round_received n L marks x)) (test (received_or_zero n L marks x)) (pick (received_or_zero n L marks x))) (λ x inside is. refl) in
      ap (map second) (sort_split comes_before is_low (λ a b is_a is_b. lesser_first a.0 b.0 (lower (get_or a.0 0 0) (get_or b.0 0 0) is_a is_b)) rows)
      ∙ (map-append second (sort_by comes_before (filter is_low rows)) (sort_by comes_before (filter (λ k. not (is_low k)) rows))
      ∙ ap₂ (λ (xs ys : List (List ℕ × Placed)). map second (sort_by comes_before xs) ++ map second (sort_by comes_before ys)) (listed low) (listed (λ r. not (low r))))

  same_test : (o : Option ℕ) (f g : ℕ → Bool) → ((r : ℕ) → o ≡ Some r → f r ≡ g r) → (is_some o && f (unwrap_or o 0)) ≡ (is_some o && g (unwrap_or o 0))
  same_test None f g same = refl
  same_test (Some r) f g same = same r refl

  -- tests that agree on the rounds that received a row give one order
  pub ordered_in-same : (f g : ℕ → Bool) → ((x r : ℕ) → x < length L → round_received n L marks x ≡ Some r → f r ≡ g r) → in_rounds f ≡ in_rounds g
  unfolding ordered_in
  ordered_in-same f g same =
      ap (λ (xs : List (List ℕ × Placed)). map (λ (keyed : List ℕ × Placed). keyed.1) (sort_by comes_before xs))
      (list_below-same (keyed_at n G L marks) (keyed_at n G L marks) (length L) (received f) (received g)
      (λ x inside. same_test (round_received n L marks x) f g (λ r is. same x r inside is)) (λ x inside is. refl))

  pub ordered_in-none : in_rounds (λ r. false) ≡ []
  unfolding ordered_in sort_by
  ordered_in-none =
      ap (λ (xs : List (List ℕ × Placed)). map (λ (keyed : List ℕ × Placed). keyed.1) (sort_by comes_before xs))
      (list_below_none (keyed_at n G L marks) (length L) (received (λ r. false)) (λ x inside. and-false (is_some (round_received n L marks x))))
