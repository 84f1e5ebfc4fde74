-- The times of the first holders on the lines of the unique famous witnesses are those of the consensus timestamp
use Rattle.std.proofs.Common.{◌≡◌, ℕ, ◌<◌, ◌≤◌, Bool, true, not, ◌&&◌, List, length, sum_by, sym, ap, ◌∙◌, inl, inr, arith}
use Rattle.std.proofs.lemmas.Bool.{cases_Bool, and_parts, and_from, not-true, not_from_false, both_ways}
use Rattle.hg_model.specs.declared.row.Row.{Row}
use Rattle.hg_model.specs.Places.{some_below, list_below}
use Rattle.hg_model.specs.Stakes.{Stakes}
use Rattle.hg_model.specs.Links.{Link, creator}
use Rattle.hg_model.specs.Ancestry.{is_ancestor, is_self_ancestor}
use Rattle.hg_model.specs.Graph.{IsShaped}
use Rattle.hg_model.specs.Fame.{Marks, is_unique_famous}
use Rattle.hg_model.specs.Order.{time_at, median, famous_places, is_first_holder, is_below_famous, is_without, consensus_time}
use Rattle.hg_model.proofs.PlacesLaws.{some_below_from, some_below_found}
use Rattle.hg_model.proofs.ListLaws.{sum_by-list_below, map-list_below, list_all-list_below}
use Rattle.hg_model.proofs.SortLaws.{HasSameSums, median-same}
use Rattle.hg_order.specs.Famous.{all_have, first_holder, times_of}
use Rattle.hg_order.proofs.ImageLaws.{IsImage, weight_below-image}
use Rattle.hg_order.proofs.LineLaws.{IsFirstHolder, is_new_to_line, first_holder_is, first_holder_found, first_holder-le, creator_of_line}
use Rattle.hg_order.proofs.FamousLaws.{one_by_creator}

module _ (n : Stakes) (L : List Link) (s : IsShaped n L) (marks : Marks) (r x : ℕ) where
  -- all unique famous witnesses have x as ancestor
  abbrev pub AllHave : Type 0
  AllHave = (w : ℕ) → w < length L → is_unique_famous n L marks r w ≡ true → is_ancestor L w x ≡ true

  pub all_have_is : all_have L (famous_places n L marks r) x ≡ true → AllHave
  unfolding famous_places
  all_have_is all w h e =
      let none = not-true (some_below (length L) (is_without n L marks r x)) (sym (list_all-list_below (λ w. is_ancestor L w x) (length L) (is_unique_famous n L marks r)) ∙ all) in
      elim (cases_Bool (is_ancestor L w x)) [
        | inl up ↦ up
        | inr not_up ↦ absurd (both_ways (some_below (length L) (is_without n L marks r x)) none
            (some_below_from (length L) (is_without n L marks r x) w h
            (and_from (is_unique_famous n L marks r w) (not (is_ancestor L w x)) e (not_from_false (is_ancestor L w x) not_up))))
      ]

  line_row_here : (w z : ℕ) → w < length L → is_unique_famous n L marks r w ≡ true → IsFirstHolder L x w z → is_first_holder n L marks r x z ≡ true
  line_row_here w z h e line_row =
      let on_some : ℕ → Bool = λ w. is_unique_famous n L marks r w && is_self_ancestor L w z in
      and_from (is_below_famous n L marks r z && is_ancestor L z x) (is_new_to_line L x z)
      (and_from (is_below_famous n L marks r z) (is_ancestor L z x)
      (some_below_from (length L) on_some w h (and_from (is_unique_famous n L marks r w) (is_self_ancestor L w z) e line_row.on_line)) line_row.holds) line_row.first

  line_rows_are : AllHave → IsImage (first_holder L x) (length L) (length L) (is_unique_famous n L marks r) (is_first_holder n L marks r x)
  line_rows_are all = record {
    into = λ w h e.
        let up = all w h e in
        let low : first_holder L x w ≤ w = first_holder-le L s.earlier x w up in
        (omega arith, line_row_here w (first_holder L x w) h e (first_holder_found L s.earlier x w up));
    apart = λ w v hw hv e f same.
        let at_w = creator_of_line n L s w (first_holder L x w) (first_holder_found L s.earlier x w (all w hw e)).on_line in
        let at_v = creator_of_line n L s v (first_holder L x v) (first_holder_found L s.earlier x v (all v hv f)).on_line in
        one_by_creator n L marks r w v hw hv e f (sym at_w ∙ (ap (creator L) same ∙ at_v));
    onto = λ z h e.
        let parts = and_parts (is_below_famous n L marks r z && is_ancestor L z x) (is_new_to_line L x z) e in
        let inner = and_parts (is_below_famous n L marks r z) (is_ancestor L z x) parts.0 in
        let found = some_below_found (length L) (λ w. is_unique_famous n L marks r w && is_self_ancestor L w z) inner.0 in
        let on = and_parts (is_unique_famous n L marks r found.0) (is_self_ancestor L found.0 z) found.2 in (
          found.0,
          (found.1, on.0, first_holder_is L s.earlier x found.0 z (record { on_line = on.1; holds = inner.1; first = parts.1 })),
        );
  }

  pub same_times : (G : List Row) → AllHave → HasSameSums (times_of G L x (famous_places n L marks r)) (list_below (time_at G) (length L) (is_first_holder n L marks r x))
  unfolding famous_places
  same_times G all weight =
      ap (sum_by weight) (map-list_below (λ w. time_at G (first_holder L x w)) (λ w. w) (length L) (is_unique_famous n L marks r))
      ∙ (sum_by-list_below weight (λ w. time_at G (first_holder L x w)) (length L) (is_unique_famous n L marks r)
      ∙ (weight_below-image (λ z. weight (time_at G z)) (first_holder L x) (length L) (length L) (is_unique_famous n L marks r) (is_first_holder n L marks r x) (line_rows_are all)
      ∙ sym (sum_by-list_below weight (time_at G) (length L) (is_first_holder n L marks r x))))

  -- the median of the times of the first holders, one on each line
  pub median_is_consensus : (G : List Row) → all_have L (famous_places n L marks r) x ≡ true → median (times_of G L x (famous_places n L marks r)) ≡ consensus_time n G L marks r x
  unfolding consensus_time
  median_is_consensus G all =
      median-same (times_of G L x (famous_places n L marks r)) (list_below (time_at G) (length L) (is_first_holder n L marks r x)) (same_times G (all_have_is all))
