-- With its own fame as marks a graph goes on as its part began: what is closed stays closed, and the order only grows
use Rattle.std.proofs.Common.{◌≡◌, ℕ, ◌<◌, ◌≤◌, Bool, true, false, List, ◌++◌, length, Some, sym, refl, ap, ◌∙◌, inl, inr, arith, length-append}
use Rattle.std.proofs.lemmas.Bool.{cases_Bool, cases_lt}
use Rattle.hg_model.specs.declared.row.Row.{Row}
use Rattle.hg_model.specs.Stakes.{Stakes}
use Rattle.hg_model.specs.Links.{links}
use Rattle.hg_model.specs.Ancestry.{is_ancestor}
use Rattle.hg_model.specs.Graph.{name_in, name_at, IsGraph}
use Rattle.hg_model.specs.Rounds.{round_of, is_witness}
use Rattle.hg_model.specs.Fame.{Marks, fame_of, fame_marks, is_closed}
use Rattle.hg_model.specs.Order.{coin_at, last_closed}
use Rattle.hg_model.specs.Orders.{HasNameSizes}
use Rattle.hg_agree.proofs.LateLaws.{fame_of_decider, late_fame, closed_mark, closed_has_above, mark_of_fame}
use Rattle.hg_model.proofs.LongerLaws.{slice_get-append}
use Rattle.hg_model.proofs.PushLaws.{nobody}
use Rattle.hg_prefix.specs.Standing.{StandsIn, place_in, IsMarkedPart}
use Rattle.hg_prefix.specs.Laws.{OrderOfPartIsPrefix, OrderGrows}
use Rattle.hg_prefix.proofs.FamousLaws.{witness_of_closed, closed_from}
use Rattle.hg_prefix.proofs.ClosedLaws.{closed_last, closed_up_to}
use Rattle.hg_prefix.proofs.SharedLaws.{moved_in, ancestor_back, round_in, witness_in, decision_in}
use Rattle.hg_prefix.proofs.OrderLaws.{order_prefix}
use Rattle.hg_prefix.proofs.OwnLaws.{own_part, own_order}

module _ (n : Stakes) (c : ℕ) (U : List Row) (u : IsGraph n U) (three : 2 < c) (G : List Row) (f : Marks) (g : IsMarkedPart n c U G f) where
  -- each witness of the whole, of a round that the part has closed, is decided
  decided : (r x : ℕ) → is_closed n (links G) f r ≡ true → x < length (links U) → is_witness n (links U) x ≡ true → round_of n (links U) x ≤ r →
      (v : Bool) × (fame_of n c (links U) (coin_at U) x ≡ Some v)
  decided r x closed inside witness le =
      let y = closed_has_above n c (links G) (coin_at G) f r g.fame.fame closed in
      let inside_y : y.0 < length (links G) = y.1 in
      let far = y.3 in
      let round_y = round_in n c U u G f g y.0 inside_y in
      elim (cases_Bool (is_ancestor (links U) (place_in U G y.0) x)) [
        | inr apart ↦ (
          false,
          late_fame n (links U) u.shaped u.few_forkers c (coin_at U) x (place_in U G y.0) inside ((moved_in n c U u G f g).inside y.0 inside_y) three witness (omega arith) apart,
        )
        | inl above ↦ (
            let z = ancestor_back n c U u G f g y.0 x inside_y above in
            let le_z : z.0 ≤ y.0 = z.1 in
            let inside_z : z.0 < length (links G) = omega arith in
            let witness_z = sym (witness_in n c U u G f g z.0 inside_z) ∙ (ap (is_witness n (links U)) z.2 ∙ witness) in
            let round_z : round_of n (links G) z.0 ≡ round_of n (links U) x = sym (round_in n c U u G f g z.0 inside_z) ∙ ap (round_of n (links U)) z.2 in
            let mark = closed_mark n (links G) f r closed z.0 inside_z witness_z (omega arith) in
            let d = decision_in n c U u G f g z.0 mark.0 inside_z mark.1 in
            (mark.0, ap (fame_of n c (links U) (coin_at U)) (sym z.2) ∙ fame_of_decider n (links U) u.shaped u.few_forkers c (coin_at U) (place_in U G z.0) mark.0 (place_in U G d.0) d.3))
      ]

  -- so the whole has closed that round too
  closed_in_whole : (r : ℕ) → is_closed n (links G) f r ≡ true → is_closed n (links U) (fame_marks n c (links U) (coin_at U)) r ≡ true
  closed_in_whole r closed =
      let w = witness_of_closed n (links G) f r closed in
      closed_from n (links U) (fame_marks n c (links U) (coin_at U)) r (place_in U G w.0)
      (record {
        inside = (moved_in n c U u G f g).inside w.0 w.1.inside;
        witness = witness_in n c U u G f g w.0 w.1.inside ∙ w.1.witness;
        in_round = round_in n c U u G f g w.0 w.1.inside ∙ w.1.in_round;
      })
      (λ x inside witness le.
      let v = decided r x closed inside witness le in
      (v.0, mark_of_fame n c (links U) (coin_at U) x v.0 inside v.1))

  pub no_fewer_closed : last_closed n (links G) f ≤ last_closed n (links U) (fame_marks n c (links U) (coin_at U))
  no_fewer_closed = elim (cases_lt 0 (last_closed n (links G) f)) [
    | inl some ↦ (closed_last n (links U) u.shaped.earlier (fame_marks n c (links U) (coin_at U)) (last_closed n (links G) f)
        (closed_in_whole (last_closed n (links G) f) (closed_up_to n (links G) g.graph.shaped.earlier f (last_closed n (links G) f) some (omega arith)))).1
    | inr none ↦ omega arith
  ]

-- the names of a part have the sizes of the whole
sizes_of_part : (size : ℕ) (G U : List Row) → StandsIn G U → HasNameSizes size U → HasNameSizes size G
unfolding name_at
sizes_of_part size G U stands sizes = record {
  sized = λ x inside.
      let u = stands.row_in x inside in
      ap (λ row. length (name_in row)) (sym u.2) ∙ sizes.sized u.0 u.1;
}

pub stands_in_itself : (U : List Row) → StandsIn U U
stands_in_itself U = record { row_in = λ x inside. (x, inside, refl) }

pub stands_in_longer : (G more : List Row) → StandsIn G (G ++ more)
stands_in_longer G more = record { row_in = λ x inside. (x, omega (arith, length-append G more), slice_get-append G more nobody x inside) }

pub order_of_part : OrderOfPartIsPrefix
order_of_part n c size G U g u three stands sizes =
    let part = own_part n c U G g stands in
    rw (own_order n c G, own_order n c U)
    (order_prefix n c U u three G U (fame_marks n c (links G) (coin_at G)) (fame_marks n c (links U) (coin_at U)) part (own_part n c U U u (stands_in_itself U))
    (no_fewer_closed n c U u three G (fame_marks n c (links G) (coin_at G)) part) size (sizes_of_part size G U stands sizes) sizes)

pub order_grows : OrderGrows
order_grows n c size G more g h three sizes = order_of_part n c size G (G ++ more) g h three (stands_in_longer G more) sizes
