-- Of the orders of two graphs that stand in one graph the one is a prefix of the other
use Rattle.std.proofs.Common.{◌≡◌, ◌⊎◌, inl, inr, ℕ, ◌+◌, ◌-◌, ◌<◌, ◌≤◌, Bool, true, false, not, leb, List, [], ◌∷◌, ◌++◌, length, map, get_or, drop, Option, Some, is_some, unwrap_or, None, sym, refl, ap, ap₂, ◌∙◌, subst, arith}
use Rattle.std.specs.List.{AllByRecursion}
use Rattle.std.proofs.Math.Bool.{and-true}
use Rattle.std.proofs.lemmas.Bool.{and_parts, and_from, cases_lt, le-leb, leb-true, leb-false, not-true, true≢false}
use Rattle.std.proofs.lemmas.List.{map-append}
use Rattle.std.proofs.lemmas.List.Prefix.{end_rest}
use Rattle.std.proofs.lemmas.List.Sums.{sum_by-append}
use Rattle.hg_model.specs.declared.row.Row.{Row}
use Rattle.hg_model.specs.declared.row.Placed.{Placed}
use Rattle.hg_model.specs.Places.{list_below}
use Rattle.hg_model.specs.Stakes.{Stakes}
use Rattle.hg_model.specs.Links.{links}
use Rattle.hg_model.specs.Graph.{name_at, IsGraph}
use Rattle.hg_model.specs.Fame.{Marks, is_closed}
use Rattle.hg_model.specs.Order.{sig_at, xor_bytes, whitening, sort_by, comes_before, keyed_at, placed_at, order_key, round_received, received_or_zero, is_received_in, ordered_in, last_closed, Ordered, named_in}
use Rattle.hg_model.specs.Orders.{IsPrefix, marked_order_by_names, HasNameSizes}
use Rattle.hg_model.proofs.WeightLaws.{weight_below_split}
use Rattle.hg_model.proofs.LinkLaws.{length-links}
use Rattle.hg_model.proofs.ListLaws.{map-list_below, sum_by-list_below, all_list_below}
use Rattle.hg_model.proofs.PlacesLaws.{weight_below-same}
use Rattle.hg_model.proofs.CompareLaws.{lesser_first}
use Rattle.hg_model.proofs.SortLaws.{HasSameSums, one_ascending, all_sorted, sort_by-sums, sort_by-ascending, sort_by-map}
use Rattle.hg_prefix.specs.Standing.{place_in, IsMarkedPart}
use Rattle.hg_prefix.proofs.WeightLaws.{list_below-matched}
use Rattle.hg_prefix.proofs.SumLaws.{bytes_less, bytes_order, bytes_tie, ascending_joined}
use Rattle.hg_prefix.proofs.FamousLaws.{received_is}
use Rattle.hg_prefix.proofs.ClosedLaws.{closed_last, closed_up_to}
use Rattle.hg_prefix.proofs.SharedLaws.{moved_in}
use Rattle.hg_prefix.proofs.ReceivedLaws.{received_row, received_alike, key_alike}

-- keys of the order

abbrev pub key_at : Stakes → List Row → Marks → ℕ → List ℕ
key_at n G marks x = order_key n G (links G) marks (placed_at n G (links G) marks x)

-- the keys of the rows received in rounds that pass the test, in order
abbrev pub keys_in : Stakes → List Row → Marks → (ℕ → Bool) → List (List ℕ)
keys_in n G marks test = sort_by bytes_less (list_below (key_at n G marks) (length (links G)) (is_received_in n (links G) marks test))

-- what a key tells of its row
abbrev named_by : ℕ → List ℕ → Ordered
named_by size key = record { name = drop (length key - size) key; received = get_or key 0 0; time = get_or key 1 0 }

name_of_key : (size received time : ℕ) (white name : List ℕ) → length name ≡ size → let key = received ∷ time ∷ (white ++ name) in drop (length key - size) key ≡ name
name_of_key size received time white name sized =
    let key : List ℕ = received ∷ time ∷ (white ++ name) in
    subst (λ (k : ℕ). drop (length key - k) key ≡ name) sized (end_rest key name (received ∷ time ∷ white) refl)

-- the key of a placed row tells its name, round and time
abbrev IsNamedSo : ℕ → List Row → List ℕ × Placed → Type 0
IsNamedSo size G keyed = named_in G keyed.1 ≡ named_by size keyed.0

all_known : (size : ℕ) (G : List Row) (xs : List (List ℕ × Placed)) → AllByRecursion (IsNamedSo size G) xs → map (named_in G) (map (λ keyed. keyed.1) xs) ≡ map (named_by size) (map (λ keyed. keyed.0) xs)
all_known size G [] matches = refl
all_known size G (keyed ∷ xs) matches = ap₂ (λ (row : Ordered) (rows : List Ordered). row ∷ rows) matches.0 (all_known size G xs matches.1)

always : ℕ → Bool
always r = true

module _ (n : Stakes) (size : ℕ) (G : List Row) (marks : Marks) (sizes : HasNameSizes size G) where
  named_so_at : (x : ℕ) → x < length (links G) → IsNamedSo size G (keyed_at n G (links G) marks x)
  named_so_at x inside =
      let sized = sizes.sized x (rw (← length-links G) inside) in
      let placed : Placed = placed_at n G (links G) marks x in
      let white : List ℕ = xor_bytes (sig_at G x) (whitening n G (links G) marks placed.received) in
      ap (λ (name : List ℕ). named placed name) (sym (name_of_key size placed.received placed.time white (name_at G x) sized))
    where
      named : Placed → List ℕ → Ordered
      named placed name = record { name = name; received = placed.received; time = placed.time }

  -- the order by names is told by the sorted keys
  names_by_keys : marked_order_by_names n G marks ≡ map (named_by size) (keys_in n G marks always)
  unfolding ordered_in always
  names_by_keys =
      let rows = list_below (keyed_at n G (links G) marks) (length (links G)) (is_received_in n (links G) marks always) in
      all_known size G (sort_by comes_before rows)
      (all_sorted (IsNamedSo size G) comes_before rows (all_list_below (IsNamedSo size G) (keyed_at n G (links G) marks) (length (links G)) (is_received_in n (links G) marks always) (λ x inside e. named_so_at x inside)))
      ∙ ap (map (named_by size))
      (sym (sort_by-map (λ (keyed : List ℕ × Placed). keyed.0) bytes_less rows)
      ∙ ap (sort_by bytes_less) (map-list_below (λ (keyed : List ℕ × Placed). keyed.0) (keyed_at n G (links G) marks) (length (links G)) (is_received_in n (links G) marks always)))

-- a key of an earlier round comes first

abbrev IsUpTo : ℕ → List ℕ → Type 0
IsUpTo m key = get_or key 0 0 ≤ m

abbrev IsAfter : ℕ → List ℕ → Type 0
IsAfter m key = m < get_or key 0 0

later_not_less : (m : ℕ) (a b : List ℕ) → IsUpTo m a → IsAfter m b → bytes_less b a ≡ false
later_not_less m a b low high = (lesser_first a b (omega arith)).1

some_is : (o : Option ℕ) → is_some o ≡ true → (r : ℕ) × (o ≡ Some r)
some_is None e = absurd (true≢false (sym e))
some_is (Some r) e = (r, refl)

-- the places where rows are received fall apart at a test of their rounds
received_split : {A : Type 0} (value : ℕ → A) (n : Stakes) (G : List Row) (marks : Marks) (test : ℕ → Bool) →
    HasSameSums (list_below value (length (links G)) (is_received_in n (links G) marks always))
    (list_below value (length (links G)) (is_received_in n (links G) marks test) ++ list_below value (length (links G)) (is_received_in n (links G) marks (λ r. not (test r))))
unfolding always
received_split value n G marks test weight =
    let len = length (links G) in
    let some = λ (x : ℕ). is_some (round_received n (links G) marks x) in
    let all = is_received_in n (links G) marks always in
    let one = is_received_in n (links G) marks test in
    let two = is_received_in n (links G) marks (λ r. not (test r)) in
    let at = λ (x : ℕ). weight (value x) in
    sum_by-list_below weight value len all
    ∙ (weight_below-same at len all some (λ x inside. and-true (some x))
    ∙ (weight_below_split at len some (λ x. test (received_or_zero n (links G) marks x))
    ∙ (ap₂ (λ (a b : ℕ). a + b) (sym (sum_by-list_below weight value len one)) (sym (sum_by-list_below weight value len two))
    ∙ sym (sum_by-append weight (list_below value len one) (list_below value len two)))))

module _ (n : Stakes) (c : ℕ) (U : List Row) (u : IsGraph n U) (three : 2 < c) (G H : List Row) (f h : Marks) (g : IsMarkedPart n c U G f) (k : IsMarkedPart n c U H h)
    (fewer : last_closed n (links G) f ≤ last_closed n (links H) h) where
  last : ℕ
  last = last_closed n (links G) f

  up_to_last : ℕ → Bool
  up_to_last r = leb r last

  after_last : ℕ → Bool
  after_last r = not (leb r last)

  -- a round that received a row of G is closed in both
  received_bounds : (x r : ℕ) → round_received n (links G) f x ≡ Some r → (0 < r) × (r ≤ last_closed n (links G) f) × (is_closed n (links H) h r ≡ true)
  received_bounds x r is =
      let bounds = closed_last n (links G) g.graph.shaped.earlier f r (received_is n (links G) f x r is).receives.closed in
      let le = bounds.1 in
      (bounds.0, le, closed_up_to n (links H) k.graph.shaped.earlier h r bounds.0 (omega arith))

  received_here : (x : ℕ) → x < length (links G) → is_received_in n (links G) f always x ≡ true →
      (y : ℕ) × (y < length (links H)) × (is_received_in n (links H) h up_to_last y ≡ true) × (place_in U H y ≡ place_in U G x) × (key_at n H h y ≡ key_at n G f x)
  unfolding up_to_last last always
  received_here x inside e =
      let r = some_is (round_received n (links G) f x) (and_parts (is_some (round_received n (links G) f x)) true e).0 in
      let bounds = received_bounds x r.0 r.1 in
      let y = received_row n c U u three G H f h g k r.0 x inside (received_is n (links G) f x r.0 r.1).receives bounds.2 in
      let is = received_alike n c U u three G H f h g k r.0 x y.0 inside y.1 r.1 bounds.2 in
      let zero_is : received_or_zero n (links H) h y.0 ≡ r.0 = ap (λ o. unwrap_or o 0) is in
      let le = bounds.1 in (
        y.0,
        y.1.0,
        and_from (is_some (round_received n (links H) h y.0)) (leb (received_or_zero n (links H) h y.0) (last_closed n (links G) f)) (ap is_some is)
            (le-leb (received_or_zero n (links H) h y.0) (last_closed n (links G) f) (omega arith)),
        y.1.1,
        key_alike n c U u three G H f h g k r.0 x y.0 inside y.1 r.1 bounds.2,
      )

  received_there : (y : ℕ) → y < length (links H) → is_received_in n (links H) h up_to_last y ≡ true →
      (x : ℕ) × (x < length (links G)) × (is_received_in n (links G) f always x ≡ true) × (place_in U G x ≡ place_in U H y) × (key_at n G f x ≡ key_at n H h y)
  unfolding up_to_last last always
  received_there y inside e =
      let parts = and_parts (is_some (round_received n (links H) h y)) (leb (received_or_zero n (links H) h y) (last_closed n (links G) f)) e in
      let r = some_is (round_received n (links H) h y) parts.0 in
      let zero_is : received_or_zero n (links H) h y ≡ r.0 = ap (λ o. unwrap_or o 0) r.1 in
      let le = leb-true (received_or_zero n (links H) h y) (last_closed n (links G) f) parts.1 in
      let receives = (received_is n (links H) h y r.0 r.1).receives in
      let pos = (closed_last n (links H) k.graph.shaped.earlier h r.0 receives.closed).0 in
      let closed = closed_up_to n (links G) g.graph.shaped.earlier f r.0 pos (omega arith) in
      let x = received_row n c U u three H G h f k g r.0 y inside receives closed in
      let is = received_alike n c U u three H G h f k g r.0 y x.0 inside x.1 r.1 closed in (
        x.0,
        x.1.0,
        and_from (is_some (round_received n (links G) f x.0)) true (ap is_some is) refl,
        x.1.1,
        key_alike n c U u three H G h f k g r.0 y x.0 inside x.1 r.1 closed,
      )

  same_start : HasSameSums (list_below (key_at n G f) (length (links G)) (is_received_in n (links G) f always)) (list_below (key_at n H h) (length (links H)) (is_received_in n (links H) h up_to_last))
  same_start =
      list_below-matched (key_at n G f) (key_at n H h) (place_in U G) (place_in U H) (length (links G)) (length (links H)) (is_received_in n (links G) f always) (is_received_in n (links H) h up_to_last)
      (moved_in n c U u G f g).apart (moved_in n c U u H h k).apart received_here received_there

  start_up_to : AllByRecursion (IsUpTo last) (keys_in n G f always)
  unfolding last always
  start_up_to =
      all_sorted (IsUpTo (last_closed n (links G) f)) bytes_less (list_below (key_at n G f) (length (links G)) (is_received_in n (links G) f (λ _. true)))
      (all_list_below (IsUpTo (last_closed n (links G) f)) (key_at n G f) (length (links G)) (is_received_in n (links G) f (λ _. true)) (λ x inside e.
      let r = some_is (round_received n (links G) f x) (and_parts (is_some (round_received n (links G) f x)) true e).0 in
      let zero_is : received_or_zero n (links G) f x ≡ r.0 = ap (λ o. unwrap_or o 0) r.1 in
      let le = (received_bounds x r.0 r.1).1 in
      omega arith))

  rest_after : AllByRecursion (IsAfter last) (keys_in n H h after_last)
  unfolding last after_last
  rest_after =
      all_sorted (IsAfter (last_closed n (links G) f)) bytes_less (list_below (key_at n H h) (length (links H)) (is_received_in n (links H) h (λ r. not (leb r (last_closed n (links G) f)))))
      (all_list_below (IsAfter (last_closed n (links G) f)) (key_at n H h) (length (links H)) (is_received_in n (links H) h (λ r. not (leb r (last_closed n (links G) f)))) (λ y inside e.
      let late = (and_parts (is_some (round_received n (links H) h y)) (not (leb (received_or_zero n (links H) h y) (last_closed n (links G) f))) e).1 in
      let above = leb-false (received_or_zero n (links H) h y) (last_closed n (links G) f) (not-true (leb (received_or_zero n (links H) h y) (last_closed n (links G) f)) late) in
      omega arith))

  keys_split : keys_in n H h always ≡ keys_in n G f always ++ keys_in n H h after_last
  unfolding up_to_last after_last
  keys_split =
      let here = list_below (key_at n G f) (length (links G)) (is_received_in n (links G) f always) in
      let there = list_below (key_at n H h) (length (links H)) (is_received_in n (links H) h always) in
      let start = list_below (key_at n H h) (length (links H)) (is_received_in n (links H) h up_to_last) in
      let rest = list_below (key_at n H h) (length (links H)) (is_received_in n (links H) h after_last) in
      one_ascending bytes_less bytes_order bytes_tie (sort_by bytes_less there) (sort_by bytes_less here ++ sort_by bytes_less rest)
      (sort_by-ascending bytes_less bytes_order there)
      (ascending_joined bytes_less (IsUpTo last) (IsAfter last) (later_not_less last) (sort_by bytes_less here) (sort_by bytes_less rest)
      (sort_by-ascending bytes_less bytes_order here) (sort_by-ascending bytes_less bytes_order rest) start_up_to rest_after)
      (λ weight.
      sort_by-sums bytes_less there weight
      ∙ (received_split (key_at n H h) n H h up_to_last weight
      ∙ (sum_by-append weight start rest
      ∙ (ap₂ (λ (a b : ℕ). a + b) (sym (same_start weight) ∙ sym (sort_by-sums bytes_less here weight)) (sym (sort_by-sums bytes_less rest weight))
      ∙ sym (sum_by-append weight (sort_by bytes_less here) (sort_by bytes_less rest))))))

  -- the order of the graph that closed no more rounds is a prefix of the other's
  pub order_prefix : (size : ℕ) → HasNameSizes size G → HasNameSizes size H → IsPrefix (marked_order_by_names n G f) (marked_order_by_names n H h)
  order_prefix size sizes_G sizes_H = (
    map (named_by size) (keys_in n H h after_last),
    names_by_keys n size H h sizes_H
        ∙ (ap (map (named_by size)) keys_split
        ∙ (map-append (named_by size) (keys_in n G f always) (keys_in n H h after_last)
        ∙ ap (λ rows. rows ++ map (named_by size) (keys_in n H h after_last)) (sym (names_by_keys n size G f sizes_G)))),
  )

-- of the two orders one is a prefix of the other
pub one_order : (n : Stakes) (c size : ℕ) (U : List Row) (u : IsGraph n U) (three : 2 < c) (G H : List Row) (f h : Marks) → IsMarkedPart n c U G f → IsMarkedPart n c U H h →
    HasNameSizes size G → HasNameSizes size H → IsPrefix (marked_order_by_names n G f) (marked_order_by_names n H h) ⊎ IsPrefix (marked_order_by_names n H h) (marked_order_by_names n G f)
one_order n c size U u three G H f h g k sizes_G sizes_H = elim (cases_lt (last_closed n (links H) h) (last_closed n (links G) f)) [
  | inl more ↦ inr (order_prefix n c U u three H G h f k g (omega arith) size sizes_H sizes_G)
  | inr no_more ↦ inl (order_prefix n c U u three G H f h g k no_more size sizes_G sizes_H)
]
