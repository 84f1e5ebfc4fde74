-- The closed rounds of a graph are all those up to the last
use Rattle.std.proofs.Common.{◌≡◌, ℕ, suc, ◌<◌, ◌≤◌, true, List, length, arith}
use Rattle.hg_model.specs.Places.{IsEarlier}
use Rattle.hg_model.specs.Stakes.{Stakes}
use Rattle.hg_model.specs.Links.{Link, parents}
use Rattle.hg_model.specs.Fame.{Marks, is_closed}
use Rattle.hg_model.specs.Order.{last_closed}
use Rattle.hg_model.proofs.AncestryLaws.{is_ancestor-le}
use Rattle.hg_agree.proofs.LateLaws.{closed_mark}
use Rattle.hg_agree.proofs.WitnessLaws.{witness_below}
use Rattle.hg_prefix.proofs.LeastLaws.{greatest_below_bounds, greatest_below_true}
use Rattle.hg_prefix.proofs.FamousLaws.{witness_of_closed, closed_from, closed_bounds}

module _ (n : Stakes) (L : List Link) (e : IsEarlier (parents L)) (marks : Marks) where
  -- each round below a closed one is closed
  pub closed_below : (r s : ℕ) → is_closed n L marks r ≡ true → 0 < s → s ≤ r → is_closed n L marks s ≡ true
  closed_below r s closed pos le =
      let w = witness_of_closed n L marks r closed in
      let in_round = w.1.in_round in
      let z = witness_below n L e w.0 s pos (omega arith) in
      let low = is_ancestor-le L e w.0 z.0 z.1 in
      let inside = w.1.inside in
      closed_from n L marks s z.0 (record { inside = omega arith; witness = z.2; in_round = z.3 })
      (λ y hy witness below. closed_mark n L marks r closed y hy witness (omega arith))

  -- a closed round is no later than the last
  pub closed_last : (r : ℕ) → is_closed n L marks r ≡ true → (0 < r) × (r ≤ last_closed n L marks)
  unfolding last_closed
  closed_last r closed =
      let bounds = closed_bounds n L marks e r closed in
      let fits = bounds.1 in
      (bounds.0, greatest_below_bounds (suc (length L)) (is_closed n L marks) r (omega arith) closed)

  -- each round from the first to the last is closed
  pub closed_up_to : (r : ℕ) → 0 < r → r ≤ last_closed n L marks → is_closed n L marks r ≡ true
  unfolding last_closed
  closed_up_to r pos le =
      closed_below (last_closed n L marks) r (greatest_below_true (suc (length L)) (is_closed n L marks) (omega arith)) pos le
