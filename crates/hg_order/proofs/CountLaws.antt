-- The timers of a round once all its line rows are counted
use Rattle.std.proofs.Common.{◌≡◌, ℕ, ◌+◌, ◌-◌, ◌/◌, ◌<◌, ◌≤◌, true, List, [], ◌∷◌, length, get_or, map, All, refl, sym, ap₂, ◌∙◌, arith}
use Rattle.std.specs.List.{AllByRecursion}
use Rattle.std.proofs.lemmas.Bool.{and_parts, lt-ltb, ltb-true}
use Rattle.std.proofs.lemmas.List.Elements.{All-from_recursion}
use Rattle.hg_model.specs.declared.row.Placed.{Placed}
use Rattle.hg_model.specs.Places.{IsEarlier}
use Rattle.hg_model.specs.Links.{Link, creator, parents}
use Rattle.hg_model.specs.Ancestry.{is_ancestor}
use Rattle.hg_model.specs.Graph.{IsShaped}
use Rattle.hg_model.specs.Prefix.{Graph, links_of}
use Rattle.hg_model.specs.Order.{sort_by}
use Rattle.hg_model.proofs.AncestryLaws.{is_ancestor-le}
use Rattle.hg_model.proofs.ListLaws.{all_list_below}
use Rattle.hg_model.proofs.SortLaws.{all_sorted}
use Rattle.hg_order.specs.declared.timer.Timer.{Timer}
use Rattle.hg_order.specs.declared.timer.LineRow.{LineRow}
use Rattle.hg_order.specs.Famous.{AreFamous, IsBelowAll, all_have}
use Rattle.hg_order.specs.Round.{placed_below}
use Rattle.hg_order.specs.Counted.{IsBelow, JustBelow, AreShared}
use Rattle.hg_order.specs.Timers.{timer_at, line_row_at, is_line_row, is_on_some_line, line_rows_below, is_earlier, placed_with, HaveMedians}
use Rattle.hg_order.specs.Swept.{AreTimed, ReachTo}
use Rattle.hg_order.proofs.MedianLaws.{median_counted}

-- what all of these have as ancestor stands no later than the first of them
below_first : (L : List Link) → IsEarlier (parents L) → (places : List ℕ) (x : ℕ) → 0 < length places → all_have L places x ≡ true → x ≤ get_or places 0 0
below_first L e [] x some all = absurd (omega arith)
below_first L e (w ∷ places) x some all = is_ancestor-le L e w x (and_parts (is_ancestor L w x) (all_have L places x) all).0

module _ (g : Graph) (s : IsShaped g.members (links_of g)) (famous least ends : List ℕ) (low «end» : ℕ) where
  pub line_rows_inside : «end» ≤ length (links_of g) → All (λ h. h.place < length (links_of g)) (sort_by is_earlier (line_rows_below g ends low «end»))
  line_rows_inside inside =
      let P : LineRow → Type 0 = λ h. h.place < length (links_of g) in
      let line_rows = line_rows_below g ends low «end» in
      All-from_recursion P (sort_by is_earlier line_rows)
      (all_sorted P is_earlier line_rows (all_list_below P (line_row_at g.rows) «end» (is_line_row (links_of g) ends low) (λ z h passes. omega arith)))

  module _ (some : 0 < length famous) (shared : AreShared g famous least) (below : All (λ w. w < «end») famous) where
    under_end : (x : ℕ) → all_have (links_of g) famous x ≡ true → x < «end»
    under_end x all = (let first = below 0 0 some in let le = below_first (links_of g) s.earlier famous x some all in omega arith)

    pub window_reaches : low ≤ «end» → ReachTo (links_of g) least (low + («end» - low))
    window_reaches order x h under =
        let last = under_end x (sym (shared.bounds.just x h) ∙ lt-ltb x (get_or least (creator (links_of g) x) 0) under) in
        omega arith

    pub have_medians : AreFamous g famous → JustBelow (links_of g) ends (is_on_some_line (links_of g) famous) → ((m : ℕ) → get_or ends m 0 ≤ «end») → «end» ≤ length (links_of g) →
        (ts : List Timer) → AreTimed (links_of g) least low ((length famous + 1) / 2) (sort_by is_earlier (line_rows_below g ends low «end»)) ts → length ts ≡ «end» - low → HaveMedians g famous low ts
    have_medians f just within inside ts t long = record {
      median = λ k received.
          let last = under_end (low + k) received.1 in
          let under : IsBelow (links_of g) least (low + k) = ltb-true (low + k) (get_or least (creator (links_of g) (low + k)) 0) (shared.bounds.just (low + k) received.0 ∙ received.1) in
          t k received.0 under ∙ median_counted g s f.marks f.round famous f.are ends low «end» (low + k) just within inside (omega arith) some received.1;
      reach = λ x received.
          let last = under_end x received.1 in
          omega arith;
    }

-- the rows that these timers place are those that the round places

pub placed_alike : (g : Graph) (famous : List ℕ) (low round : ℕ) (timers : List Timer) (fresh : List ℕ) → HaveMedians g famous low timers → AllByRecursion (IsBelowAll g famous) fresh → AllByRecursion (λ x. low ≤ x) fresh →
    map (placed_with low round timers) fresh ≡ map (placed_below g famous round) fresh
placed_alike g famous low round timers [] have received from = refl
placed_alike g famous low round timers (x ∷ fresh) have received from =
    ap₂ (λ (t : ℕ) (ps : List Placed). record { place = x; received = round; time = t } ∷ ps) time (placed_alike g famous low round timers fresh have received.1 from.1)
  where
    time : (timer_at timers (x - low)).time ≡ (placed_below g famous round x).time
    time =
        let above = from.0 in
        let at : low + (x - low) ≡ x = omega arith in
        rw at at (have.median (x - low) (rw at received.0))
