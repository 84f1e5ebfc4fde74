-- The orders of the first rows of a graph grow with the rows, up to that of the graph
use Rattle.std.proofs.Common.{◌≡◌, inl, inr, ℕ, ◌+◌, ◌-◌, ◌<◌, ◌≤◌, true, eqb, List, ◌++◌, length, max, take, drop, get_or, Some, slice_get, refl, sym, ap, ◌∙◌, subst, arith, length-append}
use Rattle.std.specs.Prelude.{All, Contains}
use Rattle.std.proofs.lemmas.Bool.{cases_lt, eq-eqb, eqb-true}
use Rattle.std.proofs.lemmas.List.{append-nil, length-take, nil_from_length, take-append-drop, take-take, take_all}
use Rattle.std.proofs.lemmas.List.Elements.{All-contains, Contains-get_or}
use Rattle.std.proofs.lemmas.Option.{slice_get-get_or}
use Rattle.sha2.proofs.Facts512.{length-sha384}
use Rattle.hg_model.specs.declared.row.Row.{Row}
use Rattle.hg_model.specs.declared.row.Placed.{Placed}
use Rattle.hg_model.specs.Links.{links}
use Rattle.hg_model.specs.Fame.{fame_marks}
use Rattle.hg_model.specs.Graph.{IsGraph, name_at, name_in}
use Rattle.hg_model.specs.GraphWords.{IsLawfulGraph}
use Rattle.hg_model.specs.Order.{coin_at, order_of}
use Rattle.hg_model.specs.Orders.{HasNameSizes, IsPrefix}
use Rattle.hg_model.specs.Prefix.{Graph}
use Rattle.hg_model.specs.Stakes.{Stakes}
use Rattle.hg_model.proofs.LinkLaws.{length-links}
use Rattle.hg_model.proofs.LongerLaws.{slice_get-append}
use Rattle.hg_model.proofs.OrderLaws.{length-ordered_in-le, ordered_within}
use Rattle.hg_model.proofs.PushLaws.{nobody}
use Rattle.hg_prefix.proofs.GrowthLaws.{order_grows}
use Rattle.hg_history.proofs.FirstLaws.{first_rows_are_a_graph}
use Rattle.hg_history.proofs.KeptLaws.{prefix_by_places}
use Rattle.hg_life.specs.Spelling.{spelling}
use Rattle.hg_graph.specs.Held.{AreEvents, IsHeld, first_graph}
use Rattle.hg_proof.specs.Answers.{order_in}
use Rattle.hg_proof.specs.Least.{HasFrom, HasWhole, IsBetween, IsLeast}

-- the places in an order are those of rows
pub order_within : (g : Graph) → All (λ (p : Placed). p.place < length g.rows) (order_in g)
unfolding order_of
order_within g =
    subst (λ (k : ℕ). All (λ (p : Placed). p.place < k) (order_in g)) (length-links g.rows)
    (ordered_within g.members g.rows (links g.rows) (fame_marks g.members g.coin (links g.rows) (coin_at g.rows)))

-- and there are no more of them
pub few_ordered : (g : Graph) → length (order_in g) ≤ length g.rows
unfolding order_of
few_ordered g =
    omega (arith, length-ordered_in-le g.members g.rows (links g.rows) (fame_marks g.members g.coin (links g.rows) (coin_at g.rows)) (λ _. true), length-links g.rows)

part_prefix : (n : Stakes) (c size : ℕ) (F more : List Row) → IsGraph n F → IsGraph n (F ++ more) → 2 < c → HasNameSizes size (F ++ more) → IsPrefix (order_of n c F) (order_of n c (F ++ more))
unfolding order_of
part_prefix n c size F more f u three sizes =
    prefix_by_places n F (F ++ more) (fame_marks n c (links F) (coin_at F)) (fame_marks n c (links (F ++ more)) (coin_at (F ++ more))) u.distinct (more, refl)
    (order_grows n c size F more f u three sizes)

first_sizes : (size l : ℕ) (G : List Row) → HasNameSizes size G → HasNameSizes size (take l G)
unfolding name_at
first_sizes size l G sizes = record {
  sized = λ x inside.
      let parts = take-append-drop l G in
      let same = sym (slice_get-append (take l G) (drop l G) nobody x inside) ∙ ap (λ (H : List Row). slice_get H x) parts in
      ap (λ o. length (name_in o)) same ∙ sizes.sized x (omega (arith, ap length parts, length-append (take l G) (drop l G)));
}

same_long : (xs ys : List Placed) → IsPrefix xs ys → length ys ≤ length xs → xs ≡ ys
same_long xs ys first le =
    let none = nil_from_length first.0 (omega (arith, ap length first.1, length-append xs first.0)) in
    sym (first.1 ∙ (ap (λ (rest : List Placed). xs ++ rest) none ∙ append-nil xs))

pub first_lawful : (g : Graph) → IsLawfulGraph g → (k : ℕ) → IsLawfulGraph (first_graph g k)
first_lawful g lawful k = (first_rows_are_a_graph g.members k g.rows lawful).0

-- the names of events have one size
event_sizes : (G : List Row) → AreEvents G → HasNameSizes 48 G
unfolding name_at
event_sizes G events = record {
  sized = λ x inside.
      let row : Row = get_or G x nobody in
      let here : slice_get G x ≡ Some row = slice_get-get_or G x nobody inside in
      ap (λ found. length (name_in found)) here ∙ (ap length (events x row here).named ∙ length-sha384 (spelling row));
}

module _ (g : Graph) (held : IsHeld g) where
  fronts_grow : (k l : ℕ) → k ≤ l → IsPrefix (order_in (first_graph g k)) (order_in (first_graph g l))
  fronts_grow k l le =
      let U : List Row = take l g.rows in
      let F : List Row = take k g.rows in
      let whole : F ++ drop k U ≡ U = ap (λ (H : List Row). H ++ drop k U) (sym (take-take k l g.rows le)) ∙ take-append-drop k U in
      subst (λ (H : List Row). IsPrefix (order_of g.members g.coin F) (order_of g.members g.coin H)) whole
      (part_prefix g.members g.coin 48 F (drop k U) (first_lawful g held.graph k) (subst (IsGraph g.members) (sym whole) (first_lawful g held.graph l)) held.coin
      (subst (HasNameSizes 48) (sym whole) (first_sizes 48 l g.rows (event_sizes g.rows held.events))))

  front_of_all : (k : ℕ) → IsPrefix (order_in (first_graph g k)) (order_in g)
  front_of_all k =
      let F : List Row = take k g.rows in
      let whole : F ++ drop k g.rows ≡ g.rows = take-append-drop k g.rows in
      subst (λ (H : List Row). IsPrefix (order_of g.members g.coin F) (order_of g.members g.coin H)) whole
      (part_prefix g.members g.coin 48 F (drop k g.rows) (first_lawful g held.graph k) (subst (IsGraph g.members) (sym whole) held.graph) held.coin (subst (HasNameSizes 48) (sym whole) (event_sizes g.rows held.events)))

  -- so the number of entries tells whether it is the whole
  pub length_tells : (k : ℕ) → length (order_in (first_graph g k)) ≡ length (order_in g) → HasWhole g k
  length_tells k same = same_long (order_in (first_graph g k)) (order_in g) (front_of_all k) (omega (arith, same))

  -- and where so many rows have it, more rows have it too
  pub whole_stays : (k l : ℕ) → k ≤ l → HasWhole g k → HasWhole g l
  whole_stays k l le whole =
      let low = fronts_grow k l le in
      same_long (order_in (first_graph g l)) (order_in g) (front_of_all l)
      (omega (arith, ap length low.1, length-append (order_in (first_graph g k)) low.0, ap length whole))

-- rows without one that is in the order do not have it
lacks_one : (g : Graph) (k : ℕ) (p : Placed) → Contains (order_in g) p → k ≤ p.place → HasWhole g k → ⊥
lacks_one g k p has past whole =
    let F : List Row = take k g.rows in
    let low : p.place < length F = All-contains (λ (p : Placed). p.place < length F) (order_in (first_graph g k)) p (order_within (first_graph g k)) (subst (λ (order : List Placed). Contains order p) (sym whole) has) in
    absurd (omega (arith, low, length-take k g.rows))

-- ---- the least number of first rows, between two bounds

pub bound_more : (order : List Placed) (i : ℕ) (d : Placed) (old new k : ℕ) → i < length order → new ≡ max old ((get_or order i d).place + 1) →
    ((k : ℕ) → k < old → HasFrom order k) → k < new → HasFrom order k
bound_more order i d old new k low is before under = elim (cases_lt k old) [
  | inl below ↦ before k below
  | inr past ↦ (get_or order i d, Contains-get_or order i d low, omega (arith, is, under))
]

-- the places are few
pub few_places : (g : Graph) (order : List Placed) (most : ℕ) → order ≡ order_in g → length g.rows ≤ most → All (λ (p : Placed). p.place < most) order
few_places g order most is few =
    subst (All (λ (p : Placed). p.place < most)) (sym is) (λ k d inside. (let low = order_within g k d inside in omega (arith, low)))

bound_within : (g : Graph) (bound : ℕ) → ((k : ℕ) → k < bound → HasFrom (order_in g) k) → bound ≤ length g.rows
bound_within g bound reached = elim (cases_lt 0 bound) [
  | inr none ↦ omega arith
  | inl some ↦ (
      let last = reached (bound - 1) (omega arith) in
      let low : last.0.place < length g.rows = All-contains (λ (p : Placed). p.place < length g.rows) (order_in g) last.0 (order_within g) last.1 in
      omega (arith, low, last.2))
]

pub between_start : (g : Graph) (order : List Placed) (low high : ℕ) → order ≡ order_in g → ((k : ℕ) → k < low → HasFrom order k) → high ≡ length g.rows → IsBetween g low high
between_start g order low high is reached all =
    let from : (k : ℕ) → k < low → HasFrom (order_in g) k = subst (λ (o : List Placed). (k : ℕ) → k < low → HasFrom o k) is reached in
    record {
      ordered = omega (arith, bound_within g low from, all);
      within = omega (arith, all);
      whole = ap (λ (rows : List Row). order_of g.members g.coin rows) (take_all high g.rows (omega (arith, all)));
      lacks = λ k under whole. (let last = from k under in lacks_one g k last.0 last.1 last.2 whole);
    }

module _ (g : Graph) (held : IsHeld g) (low high middle : ℕ) (between : IsBetween g low high) (least : low ≤ middle) (most : middle < high) where
  pub between_high : HasWhole g middle → IsBetween g low middle
  between_high whole = record { ordered = least; within = omega (arith, between.within, most); whole = whole; lacks = between.lacks }

  pub between_low : (HasWhole g middle → ⊥) → IsBetween g (middle + 1) high
  between_low lacks = record {
    ordered = omega (arith, most);
    within = between.within;
    whole = between.whole;
    lacks = λ k under whole. lacks (whole_stays g held k middle (omega (arith, under)) whole);
  }

pub between_end : (g : Graph) (low high : ℕ) → high ≤ low → IsBetween g low high → IsLeast g high
between_end g low high met between = record {
  within = between.within;
  whole = between.whole;
  least = λ k under. between.lacks k (omega (arith, under, met));
}

-- the number of entries tells whether so many rows have the whole order
pub whole_test : (g : Graph) → IsHeld g → (k count entries : ℕ) (order : List Placed) → order ≡ order_in (first_graph g k) → count ≡ length order → entries ≡ length (order_in g) →
    (eqb count entries ≡ true → HasWhole g k) × (HasWhole g k → eqb count entries ≡ true)
whole_test g held k count entries order is counted all = (
  (λ same. length_tells g held k (omega (arith, ap length is, counted, all, eqb-true count entries same))),
  (λ whole. eq-eqb count entries (omega (arith, ap length is, counted, all, ap length whole))),
)
