-- The sweep: rows linked along the lines, lanes that go on, and what line rows leave of timers
use Rattle.std.proofs.Common.{◌≡◌, ◌≢◌, ℕ, zero, suc, ◌+◌, ◌-◌, ◌<◌, ◌≤◌, Bool, true, false, cond, not, ◌&&◌, ltb, leb, List, [], ◌∷◌, ◌++◌, length, get_or, set, fold, replicate, count_by, refl, sym, ap, ap₂, ◌∙◌, inl, inr, ◌⊎◌, arith}
use Rattle.std.specs.List.{list_all}
use Rattle.std.proofs.lemmas.Bool.{false≢true, cases_Bool, cases_eq, cases_lt, lt-ltb, le-ltb, le-leb, ltb-true, false_from_ne_true}
use Rattle.std.proofs.Math.Bool.{and-true, and_comm}
use Rattle.std.proofs.lemmas.Bool.Decides.{nat_tests}
use Rattle.std.proofs.lemmas.List.{get_or-set_same, get_or-set_other, get_or-replicate, get_or_past, length-set, length-replicate}
use Rattle.std.proofs.lemmas.List.Sums.{sum_by-set, sum_by-cons, sum_by-append, sum_by-le-sum_by, fold-append}
use Rattle.std.proofs.lemmas.List.Folds.{sum_by-replicate}
use Rattle.hg_model.specs.Places.{IsEarlier}
use Rattle.hg_model.specs.Stakes.{Stakes, member_count}
use Rattle.hg_model.specs.Links.{Link, creator, parents, self_parent}
use Rattle.hg_model.specs.Ancestry.{is_ancestor}
use Rattle.hg_model.specs.Graph.{IsShaped}
use Rattle.hg_model.specs.Counts.{CountsMembers}
use Rattle.hg_model.specs.Shape.{Shape}
use Rattle.hg_model.proofs.AncestryLaws.{is_ancestor-le, is_ancestor_self, is_ancestor-trans, is_self_ancestor_by, is_self_ancestor_self}
use Rattle.hg_model.proofs.SightLaws.{is_ancestor-from_self}
use Rattle.hg_model.proofs.ReachLaws.{has_place_first}
use Rattle.hg_model.proofs.ForkLaws.{self_parent_cases}
use Rattle.hg_order.specs.declared.timer.Timer.{Timer}
use Rattle.hg_order.specs.declared.timer.LineRow.{LineRow}
use Rattle.hg_order.specs.Counted.{IsBelow}
use Rattle.hg_order.specs.Timers.{no_timer, timer_at, ticked, timer_by, timer_of, is_gained_by, unticked, ReachAll}
use Rattle.hg_order.specs.Swept.{has_reached, has_counted, reached, counts_at, end_from, end_of, ends_from, lines_from, parent_end, AreLast, GainsFrom, IsNextFrom, AreLinked, IsLane, AreLanes, IsPast, IsAdvanced, IsLaneFrom, AreAdvanced, AreFew, AreGained, AreGainedBy, IsSwept, AreTimed, ArePast}
use Rattle.hg_order.proofs.BoundLaws.{no_number, counts_end}
use Rattle.hg_order.proofs.FromLaws.{counted_from, ends_long, from_end, from_gone, from_kept, from_some, gained_from, line_from, lines_long, read_from, set_from, set_line_from}
use Rattle.hg_order.proofs.MedianLaws.{timer_where}

-- the doubtful law first: how many lines have x as ancestor is one more where a line row gains it that follows its self-parent

bits : (up was : Bool) → (was ≡ true → up ≡ true) → cond {A = ℕ} up 1 0 ≡ cond {A = ℕ} was 1 0 + cond {A = ℕ} (up && not was) 1 0
bits true true h = refl
bits true false h = refl
bits false true h = absurd (false≢true (h refl))
bits false false h = refl

not_below : (a x : ℕ) → leb a x ≡ not (ltb x a)
not_below a x = grind (arith, nat_tests)

module _ (L : List Link) (e : IsEarlier (parents L)) where
  reached_at : (z x : ℕ) → has_reached L x (z + 1) ≡ is_ancestor L z x
  reached_at z x = (let at : z + 1 - 1 ≡ z = omega arith in rw (lt-ltb 0 (z + 1) (omega arith), at) refl)

  new_where : (z low x : ℕ) → low ≤ x → list_all (λ p. not (is_ancestor L p x)) (self_parent L z) ≡ not (has_reached L x (parent_end low (self_parent L z)))
  new_where z low x from = elim (self_parent_cases L z) [
    | inl none ↦ rw none refl
    | inr one ↦ elim (cases_lt one.0 low) [
      | inl under ↦
          (let no : is_ancestor L one.0 x ≡ false = false_from_ne_true (is_ancestor L one.0 x) (λ up. let le = is_ancestor-le L e one.0 x up in absurd (omega arith)) in
          rw (one.1, lt-ltb one.0 low under, no) refl)
      | inr over ↦ rw (one.1, le-ltb one.0 low over, reached_at one.0 x) (and-true (not (is_ancestor L one.0 x)))
    ]
  ]

  parent_has : (z low x : ℕ) → has_reached L x (parent_end low (self_parent L z)) ≡ true → is_ancestor L z x ≡ true
  parent_has z low x was = elim (self_parent_cases L z) [
    | inl none ↦ absurd (false≢true (rw none at was))
    | inr one ↦ elim (cases_lt one.0 low) [
      | inl under ↦ absurd (false≢true (rw (one.1, lt-ltb one.0 low under) at was))
      | inr over ↦
          (let up : is_ancestor L one.0 x ≡ true = rw (one.1, le-ltb one.0 low over, reached_at one.0 x) at was in
          let on = is_self_ancestor_by L e z one.0 one.0 (rw one.1 (has_place_first one.0 [])) (is_self_ancestor_self L e one.0) in
          is_ancestor-trans L e z one.0 x (is_ancestor-from_self L e z one.0 on) up)
    ]
  ]

  module _ (low : ℕ) (last : List (List ℕ)) (ls : AreLast L low last) (z : ℕ) (follows : end_of last (creator L z) ≡ parent_end low (self_parent L z)) (x : ℕ) (from : low ≤ x) (inside : x < length L) where
    -- what the counts of a line tell before its next row z comes
    line_was : has_counted L x (counts_at last (creator L z)) ≡ has_reached L x (parent_end low (self_parent L z))
    line_was = ls (creator L z) x from inside ∙ ap (has_reached L x) follows

    pub line_new : leb (get_or (counts_at last (creator L z)) (creator L x) 0) x ≡ list_all (λ p. not (is_ancestor L p x)) (self_parent L z)
    line_new = not_below (get_or (counts_at last (creator L z)) (creator L x) 0) x ∙ (ap not line_was ∙ sym (new_where z low x from))

    pub reached_next : (counts : List ℕ) → creator L z < length last → has_counted L x counts ≡ is_ancestor L z x →
        reached L (set last (creator L z) counts) x ≡ reached L last x + cond (is_gained_by L z x) 1 0
    reached_next counts room now =
        let was = has_reached L x (parent_end low (self_parent L z)) in
        let f : List ℕ → ℕ = λ c. cond (has_counted L x c) 1 0 in
        let moved : reached L (set last (creator L z) counts) x + cond was 1 0 ≡ reached L last x + cond (is_ancestor L z x) 1 0 =
        rw (line_was, now) at (sum_by-set f last (creator L z) counts [] room) in
        let step = bits (is_ancestor L z x) was (parent_has z low x) in
        let gained : cond (is_gained_by L z x) 1 0 ≡ cond (is_ancestor L z x && not was) 1 0 = ap (λ (b : Bool). cond {A = ℕ} (is_ancestor L z x && b) 1 0) (new_where z low x from) in
        omega (arith, moved, step, gained)

-- rows linked along the lines, from the last down

pub next_none : (L : List Link) (top m : ℕ) → IsNextFrom L top m top 0
next_none L top m = record { from = λ some. absurd (omega arith); to = omega arith; by = λ some. absurd (omega arith); first = λ x by from to. absurd (omega arith) }

module _ (L : List Link) (top : ℕ) (next : List ℕ) (y : ℕ) (inside : y < top) (firsts : (m : ℕ) → IsNextFrom L top m (y + 1) (get_or next m 0)) where
  pub firsts_next : creator L y < length next → (m : ℕ) → IsNextFrom L top m y (get_or (set next (creator L y) (y + 1)) m 0)
  firsts_next room m = elim (cases_eq m (creator L y)) [
    | inl same ↦ rw (same, get_or-set_same next (creator L y) (y + 1) 0 room) (record {
      from = λ some. omega arith;
      to = omega arith;
      by = λ some. (let at : y + 1 - 1 ≡ y = omega arith in ap (creator L) at);
      first = λ x by from to. (omega arith, omega arith);
    })
    | inr other ↦
        (let old = firsts m in
        rw (get_or-set_other next (creator L y) m (y + 1) 0 other) (record {
          from = λ some. (let low = old.from some in omega arith);
          to = old.to;
          by = old.by;
          first = λ x by from to. elim (cases_eq x y) [
            | inl here ↦ absurd (other (sym by ∙ ap (creator L) here))
            | inr later ↦ old.first x by (omega arith) to
          ];
        }))
  ]

  pub linked_next : (low : ℕ) (ts : List Timer) → low ≤ y → y - low < length ts → ((k : ℕ) → k < length ts → y + 1 ≤ low + k → IsNextFrom L top (creator L (low + k)) (low + k + 1) (timer_at ts k).left) →
      (k : ℕ) → k < length ts → y ≤ low + k → IsNextFrom L top (creator L (low + k)) (low + k + 1) (timer_at (set ts (y - low) (record { left = get_or next (creator L y) 0; time = 0 })) k).left
  linked_next low ts from room linked k few over = elim (cases_eq k (y - low)) [
    | inl here ↦
        (let at : low + k ≡ y = omega arith in
        rw (here, get_or-set_same ts (y - low) (record { left = get_or next (creator L y) 0; time = 0 }) no_timer room) (rw (sym here, at) (firsts (creator L y))))
    | inr other ↦ rw (get_or-set_other ts (y - low) k (record { left = get_or next (creator L y) 0; time = 0 }) no_timer other) (linked k few (omega arith))
  ]

-- the same where the numbers are kept by how far they are from `low` on
module _ (L : List Link) (low top : ℕ) (next : List ℕ) (y : ℕ) (from : low ≤ y) (inside : y < top) (firsts : (m : ℕ) → IsNextFrom L top m (y + 1) (get_or (ends_from low next) m 0)) where
  pub firsts_from : creator L y < length next → (m : ℕ) → IsNextFrom L top m y (get_or (ends_from low (set next (creator L y) (y - low + 1))) m 0)
  firsts_from room m =
      let at : end_from low (y - low + 1) ≡ y + 1 = from_some low (y - low + 1) (omega arith) ∙ omega arith in
      rw (set_from low next (creator L y) (y - low + 1), at) (firsts_next L top (ends_from low next) y inside firsts (rw (ends_long low next) room) m)

  pub linked_from : (ts : List Timer) → y - low < length ts → ((k : ℕ) → k < length ts → y + 1 ≤ low + k → IsNextFrom L top (creator L (low + k)) (low + k + 1) (timer_at ts k).left) →
      (k : ℕ) → k < length ts → y ≤ low + k → IsNextFrom L top (creator L (low + k)) (low + k + 1) (timer_at (set ts (y - low) (record { left = end_from low (get_or next (creator L y) 0); time = 0 })) k).left
  linked_from ts room linked k few over = rw (sym (read_from low next (creator L y))) (linked_next L top (ends_from low next) y inside firsts low ts from room linked k few over)

cond_cases : (b : Bool) (n : ℕ) → (cond b n 0 ≡ 0) ⊎ (cond b n 0 ≡ n)
cond_cases true n = inr refl
cond_cases false n = inl refl

-- a row that follows on a line, or none past the bound, stands in the window
pub next_window : (L : List Link) (low top m bottom left bound next : ℕ) → IsNextFrom L top m bottom left → low ≤ bottom → next ≡ cond (leb left bound) left 0 → (0 < next → low < next) × (next ≤ top)
next_window L low top m bottom left bound next is from chosen = elim (cond_cases (leb left bound) left) [
  | inl none ↦ (let zero_is = chosen ∙ none in (λ some. absurd (omega arith), omega arith))
  | inr one ↦
      (let same = chosen ∙ one in
      let to = is.to in (
        λ some. (let after = is.from (omega arith) in omega arith),
        omega arith,
      ))
]

-- a time more in a timer

-- the timer at k with this time
abbrev pub with_time : List Timer → ℕ → ℕ → List Timer
with_time ts k time = set ts k (record { left = (timer_at ts k).left; time = time })

left_kept : (ts : List Timer) (k time j : ℕ) → k < length ts → (timer_at (with_time ts k time) j).left ≡ (timer_at ts j).left
left_kept ts k time j room = elim (cases_eq j k) [
  | inl same ↦ rw same (ap (λ (t : Timer). t.left) (get_or-set_same ts k (record { left = (timer_at ts k).left; time = time }) no_timer room))
  | inr other ↦ ap (λ (t : Timer). t.left) (get_or-set_other ts k j (record { left = (timer_at ts k).left; time = time }) no_timer other)
]

linked_timed : (L : List Link) (low : ℕ) (ts : List Timer) (k time : ℕ) → k < length ts → AreLinked L low ts → AreLinked L low (with_time ts k time)
linked_timed L low ts k time room linked j few =
    let long = length-set ts k (record { left = (timer_at ts k).left; time = time }) in
    let old = linked j (rw long at few) in
    next_same L (low + length ts) (low + length (with_time ts k time)) (creator L (low + j)) (low + j + 1) (timer_at ts j).left (timer_at (with_time ts k time) j).left (ap (λ (n : ℕ). low + n) (sym long)) (sym (left_kept ts k time j room)) old
  where
    next_same : (L : List Link) (top after m bottom next more : ℕ) → top ≡ after → next ≡ more → IsNextFrom L top m bottom next → IsNextFrom L after m bottom more
    next_same L top after m bottom next more e1 e2 is = rw (← e1, ← e2) is

-- one lane that goes on

-- how far it is from a row to the top, and nothing once no row is left
abbrev pub way_left : ℕ → ℕ → ℕ
way_left top zero = 0
way_left top (suc x) = top - x

pub way_shorter : (top here next : ℕ) → 0 < here → here ≤ top → (next ≡ 0) ⊎ (here < next) → way_left top next < way_left top here
way_shorter top zero next some inside on = absurd (omega arith)
way_shorter top (suc x) zero some inside on = omega arith
way_shorter top (suc x) (suc y) some inside (inl none) = absurd (omega arith)
way_shorter top (suc x) (suc y) some inside (inr later) = omega arith

module _ (L : List Link) (bound : ℕ) (last : List (List ℕ)) (low need time start : ℕ) (old : List Timer) where
  pub advanced_none : (above : ℕ) → AreLinked L low old → IsLaneFrom L last low old start above → IsAdvanced L bound last low need time (creator L (start - 1)) start start above old old
  advanced_none above linked lane = record {
    lane = record { from = λ _. lane.from; to = lane.to; by = λ _. refl; counted = λ _. lane.counted; idle = λ none. (let from = lane.from in absurd (omega arith)) };
    later = λ some. omega arith;
    linked = linked;
    kept = λ k before. refl;
    timed = λ k below inside by from past. absurd (not_past k from past);
    long = refl;
  }
    where
      not_past : (k : ℕ) → start ≤ low + k + 1 → IsPast start (low + k) → ⊥
      not_past k from (inl none) = (let some = lane.from in absurd (omega arith))
      not_past k from (inr later) = absurd (omega arith)

  module _ (m here above : ℕ) (now : List Timer) (a : IsAdvanced L bound last low need time m start here above old now) (some : 0 < need) (enough : need ≤ above) where
    pub row_there : 0 < here
    row_there = elim (cases_lt 0 here) [
      | inl there ↦ there
      | inr none ↦ (let idle = a.lane.idle (omega arith) in absurd (omega arith))
    ]

    pub row_from : low < here
    row_from = a.lane.from row_there

    pub row_inside : here - 1 - low < length now
    row_inside = (let there = row_there in let from = row_from in let to = a.lane.to in omega arith)

    at_row : low + (here - 1 - low) ≡ here - 1
    at_row = (let there = row_there in let from = row_from in omega arith)

    pub step_facts : IsNextFrom L (low + length now) m here (timer_at now (here - 1 - low)).left
    step_facts =
        let there = row_there in
        let from = row_from in
        let at = at_row in
        let one : low + (here - 1 - low) + 1 ≡ here = omega arith in
        rw (one, at, a.lane.by there) at (a.linked (here - 1 - low) row_inside)

    module _ (next more : ℕ) (is : next ≡ cond (leb (timer_at now (here - 1 - low)).left bound) (timer_at now (here - 1 - low)).left 0) where
      next_is : (0 < next) → next ≡ (timer_at now (here - 1 - low)).left
      next_is more = elim (cond_cases (leb (timer_at now (here - 1 - low)).left bound) (timer_at now (here - 1 - low)).left) [
        | inl none ↦ (let zero_is = is ∙ none in absurd (omega arith))
        | inr one ↦ is ∙ one
      ]

      pub steps_on : (next ≡ 0) ⊎ (here < next)
      steps_on = elim (cases_lt 0 next) [
        | inl more ↦ (let same = next_is more in inr (rw same (step_facts.from (rw same at more))))
        | inr none ↦ inl (omega arith)
      ]

      not_later : (k : ℕ) → low + k < bound → low + k < low + length now → creator L (low + k) ≡ m → here ≤ low + k → IsPast next (low + k) → ⊥
      not_later k below inside by from past =
          let q = (timer_at now (here - 1 - low)).left in
          let first = step_facts.first (low + k) by from inside in
          let first0 = first.0 in
          let first1 = first.1 in
          elim (cases_lt bound q) [
            | inl over ↦ absurd (omega arith)
            | inr within ↦ passes past (is ∙ ap (λ (b : Bool). cond b q 0) (le-leb q bound within)) first0 first1
          ]
        where
          passes : IsPast next (low + k) → next ≡ (timer_at now (here - 1 - low)).left → 0 < (timer_at now (here - 1 - low)).left → (timer_at now (here - 1 - low)).left ≤ low + k + 1 → ⊥
          passes (inl none) same some few = absurd (omega arith)
          passes (inr later) same some few = absurd (omega arith)

      pub advanced_next : (0 < next → more ≡ reached L last (next - 1)) → (next ≡ 0 → more ≡ 0) →
          IsAdvanced L bound last low need time m start next more old (with_time now (here - 1 - low) time)
      advanced_next counted idle =
          let k0 = here - 1 - low in
          let there = row_there in
          let from = row_from in
          let at = at_row in
          let inside = row_inside in
          let later = a.later there in
          let long : length (with_time now k0 time) ≡ length now = length-set now k0 (record { left = (timer_at now k0).left; time = time }) in record {
            lane = record {
              from = λ more. (let on = after more in omega arith);
              to = elim (cases_lt 0 next) [
                | inl more ↦ (let same = next_is more in let to = step_facts.to in omega arith)
                | inr none ↦ omega arith
              ];
              by = λ more. (let same = next_is more in rw same (step_facts.by (rw same at more)));
              counted = counted;
              idle = idle;
            };
            later = λ more. (let on = after more in omega arith);
            linked = linked_timed L low now k0 time inside a.linked;
            kept = λ k before. elim (cases_eq k k0) [
              | inl same ↦ (let early = before (ap (λ (j : ℕ). creator L (low + j)) same ∙ (ap (creator L) at ∙ a.lane.by there)) in absurd (omega arith))
              | inr other ↦ get_or-set_other now k0 k (record { left = (timer_at now k0).left; time = time }) no_timer other ∙ a.kept k before
            ];
            timed = λ k below in_window by after_start past. elim (cases_eq k k0) [
              | inl same ↦ record {
                found = rw same (ap (λ (t : Timer). t.time) (get_or-set_same now k0 (record { left = (timer_at now k0).left; time = time }) no_timer inside));
                enough = (let count = a.lane.counted there in rw (same, at) (omega arith));
              }
              | inr other ↦ rw (get_or-set_other now k0 k (record { left = (timer_at now k0).left; time = time }) no_timer other) (a.timed k below (omega arith) by after_start (before_here k other (λ over. not_later k below (omega arith) by over past)))
            ];
            long = long ∙ a.long;
          }
        where
          after : 0 < next → here < next
          after more = elim steps_on [
            | inl none ↦ absurd (omega arith)
            | inr on ↦ on
          ]

          before_here : (k : ℕ) → k ≢ here - 1 - low → (here ≤ low + k → ⊥) → IsPast here (low + k)
          before_here k other not_over = (let there = row_there in let from = row_from in elim (cases_lt (low + k + 1) here) [
            | inl before ↦ inr before
            | inr over ↦ absurd (not_over (omega arith))
          ])

-- all lanes that go on

pub lane_from : (L : List Link) (last : List (List ℕ)) (low m next above need : ℕ) (ts : List Timer) → IsLane L last low (low + length ts) m next above → 0 < need → need ≤ above → IsLaneFrom L last low ts next above
lane_from L last low m next above need ts lane some enough = elim (cases_lt 0 next) [
  | inl there ↦ record { from = lane.from there; to = lane.to; counted = lane.counted there }
  | inr none ↦ (let idle = lane.idle (omega arith) in absurd (omega arith))
]

module _ (L : List Link) (least : List ℕ) (last : List (List ℕ)) (low need time : ℕ) (start next above : List ℕ) (old now : List Timer) (a : AreAdvanced L least last low need time start next above old now)
    (m : ℕ) (same : get_or next m 0 ≡ get_or start m 0) (room : m < length next) (room_above : m < length above) (there : 0 < get_or next m 0) where
  pub lanes_next : (q more : ℕ) (new : List Timer) → IsAdvanced L (get_or least m 0) last low need time (creator L (get_or next m 0 - 1)) (get_or next m 0) q more now new →
      AreAdvanced L least last low need time start (set next m q) (set above m more) old new
  lanes_next q more new step =
      let by : creator L (get_or next m 0 - 1) ≡ m = (a.lanes m).by there in
      let b : IsAdvanced L (get_or least m 0) last low need time m (get_or next m 0) q more now new = rw by at step in record {
        lanes = λ j. elim (cases_eq j m) [
          | inl is ↦ rw (is, get_or-set_same next m q 0 room, get_or-set_same above m more 0 room_above) b.lane
          | inr other ↦ rw (get_or-set_other next m j q 0 other, get_or-set_other above m j more 0 other, b.long) (a.lanes j)
        ];
        linked = b.linked;
        kept = λ k past. b.kept k (λ is. before k is (rw is at past)) ∙ a.kept k past;
        timed = λ k below inside some from past. elim (cases_eq (creator L (low + k)) m) [
          | inl is ↦ b.timed k (rw is at below) inside is (rw (is, ← same) at from) (rw (is, get_or-set_same next m q 0 room) at past)
          | inr other ↦ rw (b.kept k (λ is. absurd (other is))) (a.timed k below (rw b.long at inside) some from (rw (get_or-set_other next m (creator L (low + k)) q 0 other) at past))
        ];
        long = b.long ∙ a.long;
      }
    where
      before : (k : ℕ) → creator L (low + k) ≡ m → IsPast (get_or start m 0) (low + k) → low + k + 1 < get_or next m 0
      before k is (inl none) = absurd (omega arith)
      before k is (inr later) = omega arith

-- the same where the lanes' rows are kept by how far they are from `low` on
module _ (L : List Link) (least : List ℕ) (last : List (List ℕ)) (low need time : ℕ) (start next above : List ℕ) (old now : List Timer)
    (a : AreAdvanced L least last low need time (ends_from low start) (ends_from low next) above old now)
    (m : ℕ) (same : get_or next m 0 ≡ get_or start m 0) (room : m < length next) (room_above : m < length above) (there : 0 < end_from low (get_or next m 0)) where
  pub lanes_from : (q more : ℕ) (new : List Timer) → IsAdvanced L (get_or least m 0) last low need time (creator L (end_from low (get_or next m 0) - 1)) (end_from low (get_or next m 0)) q more now new →
      AreAdvanced L least last low need time (ends_from low start) (ends_from low (set next m (q - low))) (set above m more) old new
  lanes_from q more new step =
      let here = read_from low next m in
      let back : end_from low (q - low) ≡ q = from_end low q step.lane.from in
      let alike = here ∙ (ap (end_from low) same ∙ sym (read_from low start m)) in
      rw (set_from low next m (q - low), back)
      (lanes_next L least last low need time (ends_from low start) (ends_from low next) above old now a m alike (rw (ends_long low next) room) room_above (rw here there) q more new (rw (sym here) at step))

pub few_next : (above : List ℕ) (m v need : ℕ) → m < length above → v < need → ((j : ℕ) → j < m → get_or above j 0 < need) → (j : ℕ) → j < m + 1 → get_or (set above m v) j 0 < need
few_next above m v need room less few j h = elim (cases_eq j m) [
  | inl here ↦ rw (here, get_or-set_same above m v 0 room) less
  | inr other ↦ rw (get_or-set_other above m j v 0 other) (few j (omega arith))
]

pub same_next : (next start : List ℕ) (m v : ℕ) → ((j : ℕ) → m ≤ j → get_or next j 0 ≡ get_or start j 0) → (j : ℕ) → m + 1 ≤ j → get_or (set next m v) j 0 ≡ get_or start j 0
same_next next start m v same j over = get_or-set_other next m j v 0 (λ here. absurd (omega arith)) ∙ same j (omega arith)

-- what a row gains

gain_tests : (before counts q : ℕ) → 0 < q → (ltb before q && leb q counts) ≡ (leb before (q - 1) && ltb (q - 1) counts)
gain_tests before counts q some = grind (arith, nat_tests)

module _ (n : Stakes) (L : List Link) (s : IsShaped n L) (z : ℕ) (counts : List ℕ) (c : CountsMembers n L z counts) where
  module _ (low : ℕ) (last : List (List ℕ)) (ls : AreLast L low last) (follows : end_of last (creator L z) ≡ parent_end low (self_parent L z)) where
    pub gained_by : (next old new : List ℕ) (top : ℕ) → AreGained (counts_at last (creator L z)) counts next old new →
        ((m : ℕ) → length counts ≤ m → get_or new m 0 ≡ get_or old m 0) → ((m : ℕ) → m < length counts → get_or new m 0 ≤ top) → AreGainedBy n L low z next old new top
    gained_by next old new top each past top_is = record {
      each = λ m some by inside.
          let before = counts_at last (creator L z) in
          let x = get_or next m 0 - 1 in
          let here : x < length L = omega arith in
          let from : low ≤ x = omega arith in
          let member : m < length counts = rw (c.wide, ← by) (s.members x here) in
          let tests = gain_tests (get_or before m 0) (get_or counts m 0) (get_or next m 0) (omega arith) in
          let new_is = rw by at (line_new L s.earlier low last ls z follows x from here) in
          let told = rw by at (c.told x here) in
          each m member ∙ ap (λ (b : Bool). get_or old m 0 + cond b 1 0) (tests ∙ (ap₂ (λ (p q : Bool). p && q) new_is told ∙ and_comm (list_all (λ p. not (is_ancestor L p x)) (self_parent L z)) (is_ancestor L z x)));
      none = λ m zero_is. elim (cases_lt m (length counts)) [
        | inl member ↦
            (let before = counts_at last (creator L z) in
            let no = le-ltb (get_or before m 0) 0 (omega arith) in
            let is = rw (zero_is, no) at (each m member) in
            omega (arith, is))
        | inr over ↦ past m over
      ];
      most = λ m member. top_is m (rw c.wide member);
      rest = λ m over. past m (rw c.wide over);
    }

  -- the counts of row z from `low` on in the place of its line's
  module _ (inside : z < length L) (low : ℕ) (to : List ℕ) (copied : (m : ℕ) → m < length counts → get_or to m 0 ≡ end_from low (get_or counts m 0 - low)) where
    copied_at : (x : ℕ) → x < length L → get_or to (creator L x) 0 ≡ end_from low (get_or counts (creator L x) 0 - low)
    copied_at x here = copied (creator L x) (rw c.wide (s.members x here))

    pub counted_now : (x : ℕ) → low ≤ x → x < length L → has_counted L x to ≡ is_ancestor L z x
    counted_now x from here = ap (ltb x) (copied_at x here) ∙ (counted_from low (get_or counts (creator L x) 0) x from ∙ c.told x here)

    end_now : get_or to (creator L z) 0 ≡ end_from low (z + 1 - low)
    end_now =
        let count = get_or counts (creator L z) 0 in
        let over : z < count = ltb-true z count (c.told z inside ∙ is_ancestor_self L s.earlier z) in
        let ends = counts_end n L s z counts c (creator L z) (omega arith) in
        let fits = ends.0 in
        let here : count - 1 < length L = omega arith in
        let below : ltb (count - 1) count ≡ true = lt-ltb (count - 1) count (omega arith) in
        let up : is_ancestor L z (count - 1) ≡ true = sym (c.told (count - 1) here) ∙ rw ends.1 below in
        let le = is_ancestor-le L s.earlier z (count - 1) up in
        let count_is : count ≡ z + 1 = omega arith in
        copied_at z inside ∙ ap (λ (k : ℕ). end_from low (k - low)) count_is

    -- a row below `low` has no row from there on as ancestor
    end_reached : (x : ℕ) → low ≤ x → has_reached L x (end_from low (z + 1 - low)) ≡ is_ancestor L z x
    end_reached x from = elim (cases_lt z low) [
      | inl under ↦
          (let no : is_ancestor L z x ≡ false = false_from_ne_true (is_ancestor L z x) (λ up. let le = is_ancestor-le L s.earlier z x up in absurd (omega arith)) in
          ap (has_reached L x) (from_gone low (z + 1) (omega arith)) ∙ sym no)
      | inr over ↦ ap (has_reached L x) (from_kept low (z + 1) (omega arith)) ∙ reached_at L s.earlier z x
    ]

    pub last_next : (last : List (List ℕ)) → creator L z < length last → AreLast L low last → AreLast L low (set last (creator L z) to)
    last_next last room ls m x from here = elim (cases_eq m (creator L z)) [
      | inl same ↦ rw (same, get_or-set_same last (creator L z) to [] room, end_now, end_reached x from) (counted_now x from here)
      | inr other ↦ rw (get_or-set_other last (creator L z) m to [] other) (ls m x from here)
    ]

-- row z of member m is next on its line, whose counts become those of z
module _ (n : Stakes) (L : List Link) (s : IsShaped n L) (low : ℕ) (last : List (List ℕ)) (ls : AreLast L low last) (z : ℕ) (here : z < length L) (m : ℕ) (by : m ≡ creator L z) (room : m < length last)
    (line : List ℕ) (read : line ≡ counts_at last m) (ends : get_or line m 0 ≡ parent_end low (self_parent L z)) (counts : List ℕ) (c : CountsMembers n L z counts) where
  room_by : creator L z < length last
  room_by = rw by at room

  follows : end_of last (creator L z) ≡ parent_end low (self_parent L z)
  follows = rw (read, by) at ends

  pub line_gains : (next old new : List ℕ) (top : ℕ) → AreGained line counts next old new → ((j : ℕ) → length counts ≤ j → get_or new j 0 ≡ get_or old j 0) → ((j : ℕ) → j < length counts → get_or new j 0 ≤ top) →
      AreGainedBy n L low z next old new top
  line_gains next old new top each past most = gained_by n L s z counts c low last ls follows next old new top (rw (read, by) at each) past most

  module _ (to : List ℕ) (copied : (j : ℕ) → j < length counts → get_or to j 0 ≡ end_from low (get_or counts j 0 - low)) where
    pub line_on : (x : ℕ) → low ≤ x → x < length L → reached L (set last m to) x ≡ reached L last x + cond (is_gained_by L z x) 1 0
    line_on x from inside = rw by (reached_next L s.earlier low last ls z follows x from inside to room_by (counted_now n L s z counts c here low to copied x from inside))

    pub line_last : AreLast L low (set last m to)
    line_last = rw by (last_next n L s z counts c here low to copied last room_by ls)

-- the same where all but the counts are from `low` on
pub record Follows (s : Shape) (low z : ℕ) (lines with_row : List (List ℕ)) (next old new : List ℕ) (top : ℕ) : Type 0 where
  pub on : (x : ℕ) → low ≤ x → x < length s.links → reached s.links (lines_from low with_row) x ≡ reached s.links (lines_from low lines) x + cond (is_gained_by s.links z x) 1 0
  pub last : AreLast s.links low (lines_from low with_row)
  pub gained : AreGainedBy s.members s.links low z (ends_from low next) old new top

pub follows_from : (s : Shape) → IsShaped s.members s.links → (low : ℕ) (lines : List (List ℕ)) → AreLast s.links low (lines_from low lines) → (z : ℕ) → z < length s.links → (m : ℕ) → m ≡ creator s.links z →
    m < length lines → (before after : List ℕ) → before ≡ counts_at lines m → (far : ℕ) → get_or before m 0 ≡ far → end_from low far ≡ parent_end low (self_parent s.links z) →
    (next old new : List ℕ) (top : ℕ) → GainsFrom s z low before after next old new top → Follows s low z lines (set lines m after) next old new top
follows_from s shaped low lines ls z here m by room before after read far at ends next old new top gains =
    let all = lines_from low lines in
    let to = ends_from low after in
    let kept : m < length all = rw (lines_long low lines) room in
    let line : ends_from low before ≡ counts_at all m = ap (ends_from low) read ∙ sym (line_from low lines m) in
    let follow : get_or (ends_from low before) m 0 ≡ parent_end low (self_parent s.links z) = read_from low before m ∙ (ap (end_from low) at ∙ ends) in
    let counts = gains.counts in
    let copied : (j : ℕ) → j < length counts → get_or to j 0 ≡ end_from low (get_or counts j 0 - low) = λ j inside. read_from low after j ∙ ap (end_from low) (gains.line j inside) in
    let done = set_line_from low lines m after in
    record {
      on = λ x from inside. rw done (line_on s.members s.links shaped low all ls z here m by kept (ends_from low before) line follow counts gains.are to copied x from inside);
      last = rw done (line_last s.members s.links shaped low all ls z here m by kept (ends_from low before) line follow counts gains.are to copied);
      gained = line_gains s.members s.links shaped low all ls z here m by kept (ends_from low before) line follow counts gains.are (ends_from low next) old new top (gained_from low before counts next old new gains.gained) gains.rest gains.most;
    }

-- what line rows leave of timers

timer_left : (test : LineRow → Bool) (line_rows : List LineRow) (t : Timer) → (fold (timer_where test) t line_rows).left ≡ t.left - count_by test line_rows
timer_left test [] t = omega arith
timer_left test (h ∷ line_rows) t = elim (cases_Bool (test h)) [
  | inl passes ↦
      (let one : cond {A = ℕ} (test h) 1 0 ≡ 1 = ap (λ (b : Bool). cond {A = ℕ} b 1 0) passes in
      let more = sum_by-cons (λ (h : LineRow). cond (test h) 1 0) h line_rows in
      ap (λ (b : Bool). (fold (timer_where test) (cond b (ticked h.time t) t) line_rows).left) passes ∙ (timer_left test line_rows (ticked h.time t) ∙ omega arith))
  | inr fails ↦
      (let one : cond {A = ℕ} (test h) 1 0 ≡ 0 = ap (λ (b : Bool). cond {A = ℕ} b 1 0) fails in
      let more = sum_by-cons (λ (h : LineRow). cond (test h) 1 0) h line_rows in
      ap (λ (b : Bool). (fold (timer_where test) (cond b (ticked h.time t) t) line_rows).left) fails ∙ (timer_left test line_rows t ∙ omega arith))
]

at_last : (time : ℕ) (t : Timer) → t.left ≡ 1 → ticked time t ≡ record { left = 0; time = time }
at_last time t one = rw one refl

decided_now : (test : LineRow → Bool) (line_rows : List LineRow) (h : LineRow) (need : ℕ) → count_by test line_rows < need → need ≤ count_by test line_rows + cond (test h) 1 0 →
    timer_where test (fold (timer_where test) (unticked need) line_rows) h ≡ record { left = 0; time = h.time }
decided_now test line_rows h need few enough = elim (cases_Bool (test h)) [
  | inl passes ↦
      (let one : cond {A = ℕ} (test h) 1 0 ≡ 1 = ap (λ (b : Bool). cond {A = ℕ} b 1 0) passes in
      let left = timer_left test line_rows (unticked need) in
      ap (λ (b : Bool). cond b (ticked h.time (fold (timer_where test) (unticked need) line_rows)) (fold (timer_where test) (unticked need) line_rows)) passes
      ∙ at_last h.time (fold (timer_where test) (unticked need) line_rows) (left ∙ omega arith))
  | inr fails ↦ (let none : cond {A = ℕ} (test h) 1 0 ≡ 0 = ap (λ (b : Bool). cond {A = ℕ} b 1 0) fails in absurd (omega arith))
]

decided_before : (test : LineRow → Bool) (h : LineRow) (time : ℕ) (t : Timer) → t ≡ record { left = 0; time = time } → timer_where test t h ≡ record { left = 0; time = time }
decided_before test h time t is = rw is (same (test h))
  where
    same : (b : Bool) → cond b (ticked h.time (record { left = 0; time = time })) (record { left = 0; time = time }) ≡ record { left = 0; time = time }
    same true = refl
    same false = refl

-- a later row of a line is ancestor of no more lines than an earlier one

bit_less : (a b : Bool) → (a ≡ true → b ≡ true) → cond {A = ℕ} a 1 0 ≤ cond {A = ℕ} b 1 0
bit_less true b h = rw (h refl) (omega arith)
bit_less false b h = omega arith

reached_less : (L : List Link) (last : List (List ℕ)) (x y : ℕ) → y ≤ x → creator L x ≡ creator L y → reached L last x ≤ reached L last y
reached_less L last x y under same =
    sum_by-le-sum_by (λ (c : List ℕ). cond {A = ℕ} (has_counted L x c) 1 0) (λ (c : List ℕ). cond {A = ℕ} (has_counted L y c) 1 0) last
    (λ c. bit_less (has_counted L x c) (has_counted L y c) (λ up. (let over = ltb-true x (get_or c (creator L x) 0) up in rw (← same) (lt-ltb y (get_or c (creator L x) 0) (omega arith)))))

-- a lane of no member has no row
pub lane_past : (n : Stakes) (L : List Link) → IsShaped n L → (last : List (List ℕ)) (low top m next above : ℕ) → top ≤ length L → member_count n ≤ m → IsLane L last low top m next above → next ≡ 0
lane_past n L s last low top m next above inside over lane = elim (cases_lt 0 next) [
  | inl some ↦
      (let to = lane.to in
      let member : m < member_count n = rw (lane.by some) at (s.members (next - 1) (omega arith)) in
      absurd (omega arith))
  | inr none ↦ omega arith
]

-- one line row more, after which the lines' counts are others

module _ (n : Stakes) (L : List Link) (least : List ℕ) (low need : ℕ) (line_rows : List LineRow) (last : List (List ℕ)) (next above : List ℕ) (ts : List Timer)
    (swept : IsSwept L least low need line_rows last next above ts) (h : LineRow) (inside : low + length ts ≤ length L) (on : List (List ℕ))
    (more : (x : ℕ) → low ≤ x → x < length L → reached L on x ≡ reached L last x + cond (is_gained_by L h.place x) 1 0) where
  pub lanes_gained : (mid : List ℕ) (top : ℕ) → AreGainedBy n L low h.place next above mid top → AreLanes L on low (low + length ts) next mid
  lanes_gained mid top g m =
      let lane = swept.lanes m in record {
        from = lane.from;
        to = lane.to;
        by = lane.by;
        counted = λ some.
            let to = lane.to in
            let from = lane.from some in
            let old = lane.counted some in
            let gained = g.each m from (lane.by some) (omega arith) in
            let one = more (get_or next m 0 - 1) (omega arith) (omega arith) in
            omega arith;
        idle = λ none. g.none m none ∙ lane.idle none;
      }

  pub few_still : (mid : List ℕ) (top : ℕ) → AreGainedBy n L low h.place next above mid top → top < need → AreFew need mid
  few_still mid top g less m = elim (cases_lt m (member_count n)) [
    | inl member ↦ (let most = g.most m member in omega arith)
    | inr over ↦ rw (g.rest m over) (swept.few m)
  ]

  pub swept_next : (next_after above_after : List ℕ) (after : List Timer) → AreAdvanced L least on low need h.time next next_after above_after ts after → AreFew need above_after →
      IsSwept L least low need (line_rows ++ h ∷ []) on next_after above_after after
  swept_next next_after above_after after a few = record {
    lanes = a.lanes;
    linked = a.linked;
    few = few;
    counted = λ x from here. count_next x ∙ (ap (λ (k : ℕ). k + cond (is_gained_by L h.place x) 1 0) (swept.counted x from here) ∙ sym (more x from here));
    done = λ k below in_window past. fold-append (timer_by L (low + k)) (unticked need) line_rows (h ∷ []) ∙ done k below (rw a.long at in_window) past;
  }
    where
      count_next : (x : ℕ) → count_by (λ h. is_gained_by L h.place x) (line_rows ++ h ∷ []) ≡ count_by (λ h. is_gained_by L h.place x) line_rows + cond (is_gained_by L h.place x) 1 0
      count_next x =
          let f : LineRow → ℕ = λ h. cond (is_gained_by L h.place x) 1 0 in
          let both = sum_by-append f line_rows (h ∷ []) in
          let one = sum_by-cons f h [] in
          omega (arith, both, one)

      done : (k : ℕ) → IsBelow L least (low + k) → low + k < low + length ts → IsPast (get_or next_after (creator L (low + k)) 0) (low + k) →
          timer_by L (low + k) (timer_of L (low + k) (unticked need) line_rows) h ≡ record { left = 0; time = (timer_at after k).time }
      done k below in_window past =
          let m = creator L (low + k) in
          let before : IsPast (get_or next m 0) (low + k) → timer_by L (low + k) (timer_of L (low + k) (unticked need) line_rows) h ≡ record { left = 0; time = (timer_at after k).time } =
          λ was. rw (a.kept k was) (decided_before (λ h. is_gained_by L h.place (low + k)) h (timer_at ts k).time (timer_of L (low + k) (unticked need) line_rows) (swept.done k below in_window was)) in
          elim (cases_lt 0 (get_or next m 0)) [
            | inr none ↦ before (inl (omega arith))
            | inl some ↦ elim (cases_lt (low + k + 1) (get_or next m 0)) [
              | inl later ↦ before (inr later)
              | inr here ↦
                  (let lane = swept.lanes m in
                  let timed = a.timed k below (rw a.long in_window) some here past in
                  let less = reached_less L last (low + k) (get_or next m 0 - 1) (omega arith) (sym (lane.by some)) in
                  let at = lane.counted some in
                  let low_count = swept.few m in
                  let from : low ≤ low + k = omega arith in
                  let here : low + k < length L = omega arith in
                  let is = swept.counted (low + k) from here in
                  let one = more (low + k) from here in
                  let enough = timed.enough in
                  rw timed.found (decided_now (λ h. is_gained_by L h.place (low + k)) line_rows h need (omega arith) (omega arith)))
            ]
          ]

pub advanced_still : (L : List Link) (least : List ℕ) (last : List (List ℕ)) (low need time : ℕ) (next above : List ℕ) (ts : List Timer) → AreLanes L last low (low + length ts) next above → AreLinked L low ts →
    AreAdvanced L least last low need time next next above ts ts
advanced_still L least last low need time next above ts lanes linked = record {
  lanes = lanes;
  linked = linked;
  kept = λ k past. refl;
  timed = λ k below inside some from past. absurd (not_past (get_or next (creator L (low + k)) 0) k some from past);
  long = refl;
}
  where
    not_past : (next k : ℕ) → 0 < next → next ≤ low + k + 1 → IsPast next (low + k) → ⊥
    not_past next k some from (inl none) = absurd (omega arith)
    not_past next k some from (inr later) = absurd (omega arith)

-- the first and the last of a sweep

module _ (L : List Link) (least : List ℕ) (low need : ℕ) (next : List ℕ) (ts : List Timer) (reach : ReachAll L least low ts) where
  pub swept_none : AreLinked L low ts → ((m : ℕ) → IsNextFrom L (low + length ts) m low (get_or next m 0)) → 0 < need → (members : ℕ) → IsSwept L least low need [] (replicate members (replicate 128 0)) next (replicate 128 0) ts
  swept_none linked firsts some members = record {
    lanes = λ m. let first = firsts m in record {
      from = first.from;
      to = first.to;
      by = first.by;
      counted = λ there. no_number 128 m ∙ sym (none_reached (get_or next m 0 - 1));
      idle = λ none. no_number 128 m;
    };
    linked = linked;
    few = λ m. rw (no_number 128 m) some;
    counted = λ x from here. sym (none_reached x);
    done = λ k below inside past. absurd (not_past k inside past);
  }
    where
      none_reached : (x : ℕ) → reached L (replicate members (replicate 128 0)) x ≡ 0
      none_reached x =
          let none : has_counted L x (replicate 128 0) ≡ false = rw (no_number 128 (creator L x)) (le-ltb x 0 (omega arith)) in
          sum_by-replicate (λ (c : List ℕ). cond {A = ℕ} (has_counted L x c) 1 0) members (replicate 128 0) ∙ rw none (omega arith)

      not_past : (k : ℕ) → low + k < low + length ts → IsPast (get_or next (creator L (low + k)) 0) (low + k) → ⊥
      not_past k inside (inl none) = (let first = (firsts (creator L (low + k))).first (low + k) refl (omega arith) inside in let some = first.0 in absurd (omega arith))
      not_past k inside (inr later) = (let first = (firsts (creator L (low + k))).first (low + k) refl (omega arith) inside in let some = first.1 in absurd (omega arith))

  pub times_swept : (n : Stakes) → IsShaped n L → (line_rows : List LineRow) (last : List (List ℕ)) (above : List ℕ) → IsSwept L least low need line_rows last next above ts → ArePast (member_count n) next least → AreTimed L least low need line_rows ts
  times_swept n s line_rows last above swept past k inside below =
      sym (ap (λ (t : Timer). t.time) (swept.done k below (reach (low + k) inside below) (past_row k below (past (creator L (low + k)) (s.members (low + k) inside)))))
    where
      past_row : (k : ℕ) → IsBelow L least (low + k) → (get_or next (creator L (low + k)) 0 ≡ 0) ⊎ (get_or least (creator L (low + k)) 0 < get_or next (creator L (low + k)) 0) → IsPast (get_or next (creator L (low + k)) 0) (low + k)
      past_row k below (inl none) = inl none
      past_row k below (inr over) = inr (omega arith)

pub reach_same : (L : List Link) (least : List ℕ) (low : ℕ) (old new : List Timer) → length new ≡ length old → ReachAll L least low old → ReachAll L least low new
reach_same L least low old new long reach x inside below = (let room = reach x inside below in omega arith)

pub last_none : (L : List Link) (low members : ℕ) → AreLast L low (replicate members (replicate 128 0))
last_none L low members m x from here =
    let zeros : List ℕ = replicate 128 0 in
    elim (cases_lt m members) [
      | inl room ↦ rw (get_or-replicate members m zeros [] room, no_number 128 (creator L x), no_number 128 m) (le-ltb x 0 (omega arith))
      | inr over ↦ rw (get_or_past (replicate members zeros) m [] (rw (length-replicate members zeros) over)) (le-ltb x 0 (omega arith))
    ]
