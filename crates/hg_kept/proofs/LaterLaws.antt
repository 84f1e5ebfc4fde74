-- What closed rounds have received stays when rows come and when marks are published
use Rattle.std.proofs.Common.{◌≡◌, ℕ, zero, suc, ◌<◌, ◌≤◌, true, false, ◌&&◌, leb, eqb, List, ◌++◌, length, Option, Some, None, is_some, unwrap_or, sym, refl, ap₂, arith}
use Rattle.std.proofs.lemmas.Bool.{leb-true, le-leb, eq-eqb, both_ways, false_from_ne_true, true≢false}
use Rattle.hg_model.specs.declared.row.Row.{Row}
use Rattle.hg_model.specs.declared.row.Placed.{Placed}
use Rattle.hg_model.specs.Stakes.{Stakes}
use Rattle.hg_model.specs.Links.{links}
use Rattle.hg_model.specs.Graph.{IsGraph}
use Rattle.hg_model.specs.Fame.{Marks, is_closed}
use Rattle.hg_model.specs.Order.{is_received_in, round_received}
use Rattle.hg_life.specs.Kept.{kept_up_to}
use Rattle.hg_model.specs.Prefix.{graph_of}
use Rattle.hg_model.specs.Orders.{IsPrefix}
use Rattle.hg_life.specs.StateWords.{state_by}
use Rattle.hg_model.proofs.ReachLaws.{bool_iff}
use Rattle.hg_prefix.specs.Standing.{IsMarkedPart}
use Rattle.hg_prefix.proofs.FamousLaws.{received_is, closed_bounds}
use Rattle.hg_history.proofs.StayLaws.{round_stays, received_there, received_back, none_later}

up_to_is : (m : ℕ) (o : Option ℕ) → (is_some o && leb (unwrap_or o 0) m) ≡ true → (a : ℕ) × (o ≡ Some a) × (a ≤ m)
up_to_is m None h = absurd (true≢false (sym h))
up_to_is m (Some a) h = (a, refl, leb-true a m h)

up_to_from : (m a : ℕ) (o : Option ℕ) → o ≡ Some a → a ≤ m → (is_some o && leb (unwrap_or o 0) m) ≡ true
up_to_from m a None is le = cc
up_to_from m a (Some k) is le = (let same : k ≡ a = cc in le-leb k m (omega arith))

just_from : (r : ℕ) (o : Option ℕ) → o ≡ Some r → (is_some o && eqb (unwrap_or o 0) r) ≡ true
just_from r None is = cc
just_from r (Some k) is = (let same : k ≡ r = cc in eq-eqb k r same)

-- a graph, and one that begins with its rows, both with marks that are fame, which both have closed the rounds up to m
module _ (n : Stakes) (c : ℕ) (U : List Row) (u : IsGraph n U) (three : 2 < c) (G : List Row) (f h : Marks) (g : IsMarkedPart n c U G f) (k : IsMarkedPart n c U U h)
    (first : IsPrefix G U) (m : ℕ) (closed_G : (r : ℕ) → 0 < r → r ≤ m → is_closed n (links G) f r ≡ true) (closed_U : (r : ℕ) → 0 < r → r ≤ m → is_closed n (links U) h r ≡ true) where
  pub order_stays : (r : ℕ) → r ≤ m → kept_up_to n (state_by (graph_of n c U) h) r ≡ kept_up_to n (state_by (graph_of n c G) f) r
  unfolding kept_up_to
  order_stays zero le = refl
  order_stays (suc r) le =
      ap₂ (λ (xs ys : List Placed). xs ++ ys) (order_stays r (omega arith))
      (round_stays n c U u three G f h g k first (suc r) (closed_G (suc r) (omega arith) le) (closed_U (suc r) (omega arith) le))

  pub received_stays : (x : ℕ) → x < length (links G) → is_received_in n (links U) h (λ i. leb i m) x ≡ is_received_in n (links G) f (λ i. leb i m) x
  received_stays x inside = bool_iff (is_received_in n (links U) h (λ i. leb i m) x) (is_received_in n (links G) f (λ i. leb i m) x)
      (λ there.
      let a = up_to_is m (round_received n (links U) h x) there in
      let le : a.0 ≤ m = a.2 in
      let pos = (closed_bounds n (links U) h k.graph.shaped.earlier a.0 (received_is n (links U) h x a.0 a.1).receives.closed).0 in
      up_to_from m a.0 (round_received n (links G) f x)
      (received_back n c U u three G f h g k first a.0 (closed_G a.0 pos le) (closed_U a.0 pos le) x inside a.1) le)
      (λ here.
      let a = up_to_is m (round_received n (links G) f x) here in
      let le : a.0 ≤ m = a.2 in
      let pos = (closed_bounds n (links G) f g.graph.shaped.earlier a.0 (received_is n (links G) f x a.0 a.1).receives.closed).0 in
      up_to_from m a.0 (round_received n (links U) h x)
      (received_there n c U u three G f h g k first a.0 (closed_G a.0 pos le) (closed_U a.0 pos le) x inside a.1) le)

  -- a later row is received in none of them
  pub none_of_later : (x : ℕ) → length (links G) ≤ x → x < length (links U) → is_received_in n (links U) h (λ i. leb i m) x ≡ false
  none_of_later x late inside = false_from_ne_true (is_received_in n (links U) h (λ i. leb i m) x) (λ there.
      let a = up_to_is m (round_received n (links U) h x) there in
      let le : a.0 ≤ m = a.2 in
      let pos = (closed_bounds n (links U) h k.graph.shaped.earlier a.0 (received_is n (links U) h x a.0 a.1).receives.closed).0 in
      both_ways (is_received_in n (links U) h (λ i. eqb i a.0) x)
      (none_later n c U u three G f h g k first a.0 (closed_G a.0 pos le) (closed_U a.0 pos le) x late inside)
      (just_from a.0 (round_received n (links U) h x) a.1))
