-- What a row gets from a round that both of two graphs have closed: the same round received, time and key of the order
use Rattle.std.proofs.Common.{◌≡◌, ℕ, ◌<◌, true, ◌&&◌, not, List, length, replicate, Some, unwrap_or, sym, refl, ap, ap₂, ◌∙◌, arith}
use Rattle.std.proofs.lemmas.Bool.{and_parts, and_from}
use Rattle.std.specs.List.{list_all}
use Rattle.hg_model.specs.declared.row.Row.{Row}
use Rattle.hg_model.specs.Places.{list_below}
use Rattle.hg_model.specs.Stakes.{Stakes}
use Rattle.hg_model.specs.Links.{links, self_parent}
use Rattle.hg_model.specs.Ancestry.{is_ancestor, is_self_ancestor}
use Rattle.hg_model.specs.Graph.{name_at, IsGraph}
use Rattle.hg_model.specs.Fame.{Marks, is_closed, is_unique_famous}
use Rattle.hg_model.specs.Order.{time_at, sig_at, round_received, received_or_zero, is_below_famous, is_first_holder, consensus_time, whitening, placed_at, order_key}
use Rattle.hg_model.proofs.LinkLaws.{length-links}
use Rattle.hg_model.proofs.PlacesLaws.{some_below_from, some_below_found}
use Rattle.hg_model.proofs.SightLaws.{is_ancestor-from_self}
use Rattle.hg_model.proofs.SortLaws.{median-same}
use Rattle.hg_prefix.specs.Standing.{place_in, IsMarkedPart}
use Rattle.hg_prefix.proofs.WeightLaws.{list_below-matched}
use Rattle.hg_prefix.proofs.MovedLaws.{self_parent_test-moved}
use Rattle.hg_prefix.proofs.StandingLaws.{name_there, time_there, sig_there}
use Rattle.hg_prefix.proofs.FamousLaws.{Receives, receives_is, receives_from, received_is, received_from}
use Rattle.hg_prefix.proofs.ClosedLaws.{closed_below, closed_last}
use Rattle.hg_prefix.proofs.SumLaws.{xor_all-same}
use Rattle.hg_prefix.proofs.SharedLaws.{HasRowIn, moved_in, ancestor_in, ancestor_both, self_ancestor_both, ancestor_shared, unique_shared}

module _ (n : Stakes) (c : ℕ) (U : List Row) (u : IsGraph n U) (G : List Row) (f : Marks) (g : IsMarkedPart n c U G f) where
  inside_rows : (x : ℕ) → x < length (links G) → x < length G
  inside_rows x inside = rw (← length-links G) inside

  pub name_in_U : (x : ℕ) → x < length (links G) → name_at U (place_in U G x) ≡ name_at G x
  name_in_U x inside = name_there G U g.graph.distinct u.distinct g.stands x (inside_rows x inside)

  pub time_in_U : (x : ℕ) → x < length (links G) → time_at U (place_in U G x) ≡ time_at G x
  time_in_U x inside = time_there G U g.graph.distinct u.distinct g.stands x (inside_rows x inside)

  pub sig_in_U : (x : ℕ) → x < length (links G) → sig_at U (place_in U G x) ≡ sig_at G x
  sig_in_U x inside = sig_there G U g.graph.distinct u.distinct g.stands x (inside_rows x inside)

  -- z is the first of its line above x, told in U
  first_in_U : (x z : ℕ) → x < length (links G) → z < length (links G) →
      list_all (λ q. not (is_ancestor (links U) q (place_in U G x))) (self_parent (links U) (place_in U G z)) ≡ list_all (λ p. not (is_ancestor (links G) p x)) (self_parent (links G) z)
  first_in_U x z hx hz =
      self_parent_test-moved n (links G) (links U) g.graph.shaped.earlier u.shaped.earlier (place_in U G) (moved_in n c U u G f g)
      (λ q. not (is_ancestor (links U) q (place_in U G x))) (λ p. not (is_ancestor (links G) p x)) z hz
      (λ p low. ap not (ancestor_in n c U u G f g p x (omega arith) hx))

module _ (n : Stakes) (c : ℕ) (U : List Row) (u : IsGraph n U) (three : 2 < c) (G H : List Row) (f h : Marks) (g : IsMarkedPart n c U G f) (k : IsMarkedPart n c U H h) where
  receives_shared : (r x y : ℕ) → x < length (links G) → HasRowIn U G x H y → Receives n (links G) f x r → is_closed n (links H) h r ≡ true → Receives n (links H) h y r
  receives_shared r x y inside at_x receives closed =
      let w = receives.some in
      let w' = unique_shared n c U u three G H f h g k r w.0 w.1 receives.closed closed w.2 in
      record {
        closed = closed;
        some = (w'.0, w'.1.0, w'.2);
        below_all = λ v inside_v unique.
            let v' = unique_shared n c U u three H G h f k g r v inside_v closed receives.closed unique in
            ancestor_both n c U u three G H f h g k v'.0 x v y v'.1.0 inside (inside_v, sym v'.1.1) at_x ∙ receives.below_all v'.0 v'.1.0 v'.2;
      }

  -- a row that G receives is a row of H, where H has closed the round
  pub received_row : (r x : ℕ) → x < length (links G) → Receives n (links G) f x r → is_closed n (links H) h r ≡ true → (y : ℕ) × HasRowIn U G x H y
  received_row r x inside receives closed =
      let w = receives.some in
      let w' = unique_shared n c U u three G H f h g k r w.0 w.1 receives.closed closed w.2 in
      ancestor_shared n c U u three G H f h g k w.0 x w'.0 w.1 inside w'.1 (receives.below_all w.0 w.1 w.2)

  holder_shared : (r x y z : ℕ) → x < length (links G) → HasRowIn U G x H y → is_closed n (links G) f r ≡ true → is_closed n (links H) h r ≡ true →
      z < length (links G) → is_first_holder n (links G) f r x z ≡ true → (v : ℕ) × HasRowIn U G z H v × (is_first_holder n (links H) h r y v ≡ true)
  holder_shared r x y z inside at_x closed_G closed_H inside_z holds =
      let top_G = λ (w : ℕ). is_unique_famous n (links G) f r w && is_self_ancestor (links G) w z in
      let parts = and_parts (is_below_famous n (links G) f r z && is_ancestor (links G) z x) (list_all (λ p. not (is_ancestor (links G) p x)) (self_parent (links G) z)) holds in
      let inner = and_parts (is_below_famous n (links G) f r z) (is_ancestor (links G) z x) parts.0 in
      let w = some_below_found (length (links G)) top_G inner.0 in
      let above = and_parts (is_unique_famous n (links G) f r w.0) (is_self_ancestor (links G) w.0 z) w.2 in
      let w' = unique_shared n c U u three G H f h g k r w.0 w.1 closed_G closed_H above.0 in
      let v = ancestor_shared n c U u three G H f h g k w.0 z w'.0 w.1 inside_z w'.1 (is_ancestor-from_self (links G) g.graph.shaped.earlier w.0 z above.1) in
      let top_H = λ (w : ℕ). is_unique_famous n (links H) h r w && is_self_ancestor (links H) w v.0 in
      let line = self_ancestor_both n c U u three G H f h g k w.0 z w'.0 v.0 w.1 inside_z w'.1 v.1 ∙ above.1 in
      let holds_x = ancestor_both n c U u three G H f h g k z x v.0 y inside_z inside v.1 at_x ∙ inner.1 in
      let first_U = λ (a b : ℕ). list_all (λ q. not (is_ancestor (links U) q a)) (self_parent (links U) b) in
      let first : list_all (λ p. not (is_ancestor (links H) p y)) (self_parent (links H) v.0) ≡ true =
      sym (first_in_U n c U u H h k y v.0 at_x.0 v.1.0) ∙ (ap₂ first_U at_x.1 v.1.1 ∙ (first_in_U n c U u G f g x z inside inside_z ∙ parts.1)) in (
        v.0,
        v.1,
        and_from (is_below_famous n (links H) h r v.0 && is_ancestor (links H) v.0 y) (list_all (λ p. not (is_ancestor (links H) p y)) (self_parent (links H) v.0))
            (and_from (is_below_famous n (links H) h r v.0) (is_ancestor (links H) v.0 y)
            (some_below_from (length (links H)) top_H w'.0 w'.1.0 (and_from (is_unique_famous n (links H) h r w'.0) (is_self_ancestor (links H) w'.0 v.0) w'.2 line))
            holds_x)
            first,
      )

-- the row of the other graph
pub turned : (U G H : List Row) (x y : ℕ) → x < length (links G) → HasRowIn U G x H y → HasRowIn U H y G x
turned U G H x y inside at_x = (inside, sym at_x.1)

module _ (n : Stakes) (c : ℕ) (U : List Row) (u : IsGraph n U) (three : 2 < c) (G H : List Row) (f h : Marks) (g : IsMarkedPart n c U G f) (k : IsMarkedPart n c U H h) where
  pub received_alike : (r x y : ℕ) → x < length (links G) → HasRowIn U G x H y → round_received n (links G) f x ≡ Some r → is_closed n (links H) h r ≡ true → round_received n (links H) h y ≡ Some r
  received_alike r x y inside at_x is closed =
      let in_G = received_is n (links G) f x r is in
      received_from n (links H) h k.graph.shaped.earlier y r (record {
        receives = receives_shared n c U u three G H f h g k r x y inside at_x in_G.receives closed;
        least = λ s low can.
            let in_H = receives_is n (links H) h y s can in
            let pos = (closed_last n (links H) k.graph.shaped.earlier h s in_H.closed).0 in
            let closed_G = closed_below n (links G) g.graph.shaped.earlier f r s in_G.receives.closed pos (omega arith) in
            in_G.least s low (receives_from n (links G) f x s
            (receives_shared n c U u three H G h f k g s y x at_x.0 (turned U G H x y inside at_x) in_H closed_G));
      })

  time_alike : (r x y : ℕ) → x < length (links G) → HasRowIn U G x H y → is_closed n (links G) f r ≡ true → is_closed n (links H) h r ≡ true →
      consensus_time n G (links G) f r x ≡ consensus_time n H (links H) h r y
  unfolding consensus_time
  time_alike r x y inside at_x closed_G closed_H =
      median-same (list_below (time_at G) (length (links G)) (is_first_holder n (links G) f r x)) (list_below (time_at H) (length (links H)) (is_first_holder n (links H) h r y))
      (list_below-matched (time_at G) (time_at H) (place_in U G) (place_in U H) (length (links G)) (length (links H)) (is_first_holder n (links G) f r x) (is_first_holder n (links H) h r y)
      (moved_in n c U u G f g).apart (moved_in n c U u H h k).apart
      (λ z hz holds.
      let v = holder_shared n c U u three G H f h g k r x y z inside at_x closed_G closed_H hz holds in
      (v.0, v.1.0, v.2, v.1.1, sym (time_in_U n c U u H h k v.0 v.1.0) ∙ (ap (time_at U) v.1.1 ∙ time_in_U n c U u G f g z hz)))
      (λ v hv holds.
      let z = holder_shared n c U u three H G h f k g r y x v at_x.0 (turned U G H x y inside at_x) closed_H closed_G hv holds in
      (z.0, z.1.0, z.2, z.1.1, sym (time_in_U n c U u G f g z.0 z.1.0) ∙ (ap (time_at U) z.1.1 ∙ time_in_U n c U u H h k v hv))))

  whitening_alike : (r : ℕ) → is_closed n (links G) f r ≡ true → is_closed n (links H) h r ≡ true → whitening n G (links G) f r ≡ whitening n H (links H) h r
  unfolding whitening
  whitening_alike r closed_G closed_H =
      xor_all-same (replicate 64 0) (list_below (sig_at G) (length (links G)) (is_unique_famous n (links G) f r)) (list_below (sig_at H) (length (links H)) (is_unique_famous n (links H) h r))
      (list_below-matched (sig_at G) (sig_at H) (place_in U G) (place_in U H) (length (links G)) (length (links H)) (is_unique_famous n (links G) f r) (is_unique_famous n (links H) h r)
      (moved_in n c U u G f g).apart (moved_in n c U u H h k).apart
      (λ z hz unique.
      let v = unique_shared n c U u three G H f h g k r z hz closed_G closed_H unique in
      (v.0, v.1.0, v.2, v.1.1, sym (sig_in_U n c U u H h k v.0 v.1.0) ∙ (ap (sig_at U) v.1.1 ∙ sig_in_U n c U u G f g z hz)))
      (λ v hv unique.
      let z = unique_shared n c U u three H G h f k g r v hv closed_H closed_G unique in
      (z.0, z.1.0, z.2, z.1.1, sym (sig_in_U n c U u G f g z.0 z.1.0) ∙ (ap (sig_at U) z.1.1 ∙ sig_in_U n c U u H h k v hv))))

  -- a received row has the same key of the order in both
  pub key_alike : (r x y : ℕ) → x < length (links G) → HasRowIn U G x H y → round_received n (links G) f x ≡ Some r → is_closed n (links H) h r ≡ true →
      order_key n H (links H) h (placed_at n H (links H) h y) ≡ order_key n G (links G) f (placed_at n G (links G) f x)
  key_alike r x y inside at_x is closed =
      let closed_G = (received_is n (links G) f x r is).receives.closed in
      let in_G : received_or_zero n (links G) f x ≡ r = ap (λ o. unwrap_or o 0) is in
      let in_H : received_or_zero n (links H) h y ≡ r = ap (λ o. unwrap_or o 0) (received_alike r x y inside at_x is closed) in
      let times = time_alike r x y inside at_x closed_G closed in
      let whites = whitening_alike r closed_G closed in
      let sigs : sig_at H y ≡ sig_at G x = sym (sig_in_U n c U u H h k y at_x.0) ∙ (ap (sig_at U) at_x.1 ∙ sig_in_U n c U u G f g x inside) in
      let names : name_at H y ≡ name_at G x = sym (name_in_U n c U u H h k y at_x.0) ∙ (ap (name_at U) at_x.1 ∙ name_in_U n c U u G f g x inside) in
      rw (in_G, in_H, times, whites, sigs, names) refl
