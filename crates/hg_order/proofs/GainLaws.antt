-- What the timers of one line row count: the rows that it has as ancestor and its self-parent has not; and what several do
use Rattle.std.proofs.Common.{◌≡◌, ℕ, ◌+◌, ◌-◌, ◌<◌, ◌≤◌, Bool, true, cond, not, ◌&&◌, ltb, leb, min, List, [], ◌∷◌, length, get_or, take, replicate, refl, sym, ap, ap₂, ◌∙◌, inl, inr, arith}
use Rattle.std.specs.List.{list_all}
use Rattle.std.proofs.lemmas.Bool.{cases_lt, lt-ltb, le-leb}
use Rattle.std.proofs.Math.Bool.{and_comm, and-true}
use Rattle.std.proofs.lemmas.Bool.Decides.{nat_tests}
use Rattle.std.proofs.lemmas.List.{get_or_past}
use Rattle.std.proofs.lemmas.List.Sums.{fold_more}
use Rattle.hg_model.specs.Stakes.{Stakes, member_count}
use Rattle.hg_model.specs.Links.{Link, creator, self_parent}
use Rattle.hg_model.specs.Ancestry.{is_ancestor}
use Rattle.hg_model.specs.Counts.{CountsMembers}
use Rattle.hg_model.specs.Graph.{IsShaped}
use Rattle.hg_order.specs.declared.timer.Timer.{Timer}
use Rattle.hg_order.specs.declared.timer.LineRow.{LineRow}
use Rattle.hg_order.specs.Counted.{IsBelow, EndAtRows}
use Rattle.hg_order.specs.Timers.{timer_at, ticked, timer_by, is_gained_by, is_between, AreEnds, AreTicked, AreTickedBy, AreTickedByAll, ReachAll}
use Rattle.hg_order.proofs.BoundLaws.{no_number, ltb_min, min_cases, counts_end}

-- the rows that are not ancestors of the self-parent of z are those not below these numbers
pub record AreNewFrom (L : List Link) (z : ℕ) (before : List ℕ) : Type 0 where
  pub news : (x : ℕ) → x < length L → leb (get_or before (creator L x) 0) x ≡ list_all (λ p. not (is_ancestor L p x)) (self_parent L z)

pub new_of_first : (L : List Link) (z wide : ℕ) → [] ≡ self_parent L z → AreNewFrom L z (replicate wide 0)
new_of_first L z wide none = record { news = λ x h. rw (← none) (le-leb (get_or (replicate wide 0) (creator L x) 0) x (rw (no_number wide (creator L x)) (omega arith))) }

pub new_of_next : (n : Stakes) (L : List Link) (z p : ℕ) (before : List ℕ) → p ∷ [] ≡ self_parent L z → CountsMembers n L p before → AreNewFrom L z before
new_of_next n L z p before is c = record { news = λ x h. rw (← is, ← c.told x h) (tests (get_or before (creator L x) 0) x) }
  where
    tests : (a x : ℕ) → leb a x ≡ (not (ltb x a) && true)
    tests a x = grind (arith, nat_tests)

module _ (n : Stakes) (L : List Link) (s : IsShaped n L) (z : ℕ) (counts : List ℕ) (c : CountsMembers n L z counts) where
  inside : (m : ℕ) → 0 < get_or counts m 0 → m < member_count n
  inside m some = elim (cases_lt m (member_count n)) [
    | inl low ↦ low
    | inr past ↦ (let wide = c.wide in let none = get_or_past counts m 0 (omega arith) in absurd (omega arith))
  ]

  pub ends_both : (least : List ℕ) → EndAtRows n L least → AreEnds L counts least
  ends_both least last m some =
      let here = counts_end n L s z counts c m (omega arith) in
      let fits = here.0 in (
        fits,
        elim (min_cases (get_or counts m 0) (get_or least m 0)) [
          | inl first ↦ rw first here.1
          | inr second ↦ rw second (last m (inside m (omega arith)) (omega arith)).1
        ],
      )

  pub reach_ends : (least : List ℕ) (low : ℕ) (timers : List Timer) → AreEnds L counts least → ReachAll L least low timers → (m : ℕ) → min (get_or counts m 0) (get_or least m 0) ≤ low + length timers
  reach_ends least low timers ends reach m = elim (cases_lt 0 (min (get_or counts m 0) (get_or least m 0))) [
    | inl some ↦
        (let end = ends m some in
        let fits = end.0 in
        let y = min (get_or counts m 0) (get_or least m 0) - 1 in
        let below : IsBelow L least y = rw end.1 (omega arith) in
        let room = reach y (omega arith) below in
        omega arith)
    | inr none ↦ omega arith
  ]

  pub ticked_by : (h : LineRow) → h.place ≡ z → (before least : List ℕ) (low : ℕ) (old after : List Timer) → AreNewFrom L z before →
      AreTicked low h.time (is_between L before counts least) old after → AreTickedBy L least low h old after
  ticked_by h at before least low old after new a = record {
    each = λ k inside below. a.each k ∙ ap (λ (b : Bool). cond b (ticked h.time (timer_at old k)) (timer_at old k)) (gained (low + k) inside below);
    long = a.long;
  }
    where
      gained : (x : ℕ) → x < length L → IsBelow L least x → is_between L before counts least x ≡ is_gained_by L h.place x
      gained x inside below =
          let m = creator L x in
          let just = ltb_min x (get_or counts m 0) (get_or least m 0) ∙ (ap₂ (λ (p q : Bool). p && q) (c.told x inside) (lt-ltb x (get_or least m 0) below) ∙ and-true (is_ancestor L z x)) in
          rw at (ap₂ (λ (p q : Bool). p && q) (new.news x inside) just ∙ and_comm (list_all (λ p. not (is_ancestor L p x)) (self_parent L z)) (is_ancestor L z x))

pub line_rows_none : (L : List Link) (least : List ℕ) (low : ℕ) (ts : List Timer) → AreTickedByAll L least low [] ts ts
line_rows_none L least low ts = record { each = λ k inside below. refl; long = refl }

pub line_rows_next : (L : List Link) (least : List ℕ) (low : ℕ) (line_rows : List LineRow) (i : ℕ) (d : LineRow) (old mid new : List Timer) → i < length line_rows →
    AreTickedByAll L least low (take i line_rows) old mid → AreTickedBy L least low (get_or line_rows i d) mid new → AreTickedByAll L least low (take (i + 1) line_rows) old new
line_rows_next L least low line_rows i d old mid new h a b = record {
  each = λ k inside below.
      b.each k inside below
      ∙ (ap (λ (t : Timer). timer_by L (low + k) t (get_or line_rows i d)) (a.each k inside below)
      ∙ sym (fold_more (timer_by L (low + k)) (timer_at old k) line_rows i d h));
  long = b.long ∙ a.long;
}
