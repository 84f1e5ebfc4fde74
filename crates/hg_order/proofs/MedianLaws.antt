-- Medians by counting: of line rows in the order of their times that which leaves no more to count has the median
use Rattle.std.proofs.Common.{◌≡◌, ℕ, zero, suc, ◌+◌, ◌-◌, ◌/◌, ◌<◌, ◌≤◌, Bool, true, false, cond, not, ◌&&◌, ltb, leb, eqb, List, [], ◌∷◌, length, get_or, map, filter, fold, sum_by, count_by, IsPermutation, IsSortedBy, nat_cmp, is_eq, refl, sym, ap, ap₂, ◌∙◌, inl, inr, arith}
use Rattle.std.specs.List.{AllByRecursion, list_all}
use Rattle.std.specs.Cmp.{IsTotalOrder, IsStrictWeakOrder}
use Rattle.std.proofs.lemmas.Bool.{cases_Bool, cases_lt, le-leb, lt-leb, le-ltb, ne_eqb, and_left, and_right, both_ways, ltb-false, false_from_ne_true}
use Rattle.std.proofs.Math.Bool.{and_assoc}
use Rattle.std.proofs.lemmas.Cmp.{nat_cmp_total, on_total, then_total}
use Rattle.std.proofs.lemmas.List.{length-map}
use Rattle.std.proofs.lemmas.List.Sums.{sum_by-cons, length-filter}
use Rattle.std.proofs.lemmas.List.Sorted.{ranks_by, IsStrictWeakOrder-by_number}
use Rattle.hg_model.specs.Places.{list_below}
use Rattle.hg_model.specs.Links.{creator, self_parent}
use Rattle.hg_model.specs.Ancestry.{is_ancestor, is_self_ancestor}
use Rattle.hg_model.specs.Graph.{IsShaped}
use Rattle.hg_model.specs.Fame.{Marks, is_unique_famous}
use Rattle.hg_model.specs.Order.{sort_by, median, time_at, famous_places, is_first_holder, is_below_famous}
use Rattle.hg_model.specs.Prefix.{Graph, links_of}
use Rattle.hg_model.specs.GraphWords.{famous_of}
use Rattle.hg_model.proofs.CompareLaws.{is_eq-then, nat_cmp-same}
use Rattle.hg_model.proofs.PlacesLaws.{list_below-same, list_below-longer}
use Rattle.hg_model.proofs.ListLaws.{map-list_below, filter-list_below, list_any-list_below}
use Rattle.hg_model.proofs.AncestryLaws.{is_ancestor-le}
use Rattle.hg_model.proofs.SortLaws.{HasSameSums, IsAscending, one_ascending, sort_by-ascending, sort_by-sums, sort_by_cmp_is, same_length, median-same}
use Rattle.hg_order.specs.declared.timer.Timer.{Timer}
use Rattle.hg_order.specs.declared.timer.LineRow.{LineRow}
use Rattle.hg_order.specs.Famous.{all_have, first_holder, times_of}
use Rattle.hg_order.specs.Counted.{JustBelow}
use Rattle.hg_order.proofs.FirstHolderLaws.{same_times, all_have_is}
use Rattle.hg_order.specs.Timers.{ticked, timer_of, is_gained_by, line_row_at, line_rows_below, is_line_row, is_on_some_line, line_row_cmp, is_earlier, unticked}

-- plain lists: line rows that pass a test, and what their times leave of a timer

abbrev pub timer_where : (LineRow → Bool) → Timer → LineRow → Timer
timer_where test t h = cond (test h) (ticked h.time t) t

abbrev pub times_where : (LineRow → Bool) → List LineRow → List ℕ
times_where test line_rows = map (λ h. h.time) (filter test line_rows)

stays : (test : LineRow → Bool) (line_rows : List LineRow) (time : ℕ) → (fold (timer_where test) (record { left = 0; time = time }) line_rows).time ≡ time
stays test [] time = refl
stays test (h ∷ line_rows) time =
    ap (λ (t : Timer). (fold (timer_where test) t line_rows).time) (same (test h)) ∙ stays test line_rows time
  where
    same : (b : Bool) → cond b (ticked h.time (record { left = 0; time = time })) (record { left = 0; time = time }) ≡ record { left = 0; time = time }
    same true = refl
    same false = refl

one_less : (left time later : ℕ) → ◌≡◌ {A = Timer} (ticked time (record { left = suc (suc left); time = later })) (record { left = suc left; time = later })
one_less left time later =
    let less : suc (suc left) - 1 ≡ suc left = omega arith in
    let more : eqb (suc (suc left)) 1 ≡ false = ne_eqb (suc (suc left)) 1 (λ is. absurd (omega arith)) in
    rw (less, more) refl

passed : (left time : ℕ) (h : LineRow) (line_rows : List LineRow) (test : LineRow → Bool) →
    ((left time : ℕ) → left < count_by test line_rows → (fold (timer_where test) (record { left = suc left; time = time }) line_rows).time ≡ get_or (times_where test line_rows) left 0) →
    left < suc (count_by test line_rows) →
    (fold (timer_where test) (ticked h.time (record { left = suc left; time = time })) line_rows).time ≡ get_or (h.time ∷ times_where test line_rows) left 0
passed zero time h line_rows test later some = stays test line_rows h.time
passed (suc left) time h line_rows test later some =
    ap (λ (t : Timer). (fold (timer_where test) t line_rows).time) (one_less left h.time time) ∙ later left time (omega arith)

-- the time that leaves none to come is that at its place among those that pass
pub counted_time : (test : LineRow → Bool) (line_rows : List LineRow) (left time : ℕ) → left < count_by test line_rows →
    (fold (timer_where test) (record { left = suc left; time = time }) line_rows).time ≡ get_or (times_where test line_rows) left 0
counted_time test [] left time some = absurd (omega arith)
counted_time test (h ∷ line_rows) left time some = elim (cases_Bool (test h)) [
  | inl passes ↦
      (let one : cond {A = ℕ} (test h) 1 0 ≡ 1 = ap (λ (b : Bool). cond {A = ℕ} b 1 0) passes in
      let more = sum_by-cons (λ (h : LineRow). cond (test h) 1 0) h line_rows in
      ap (λ (b : Bool). (fold (timer_where test) (cond b (ticked h.time (record { left = suc left; time = time })) (record { left = suc left; time = time })) line_rows).time) passes
      ∙ (passed left time h line_rows test (counted_time test line_rows) (omega arith)
      ∙ ap (λ (b : Bool). get_or (map (λ (k : LineRow). k.time) (cond b (h ∷ filter test line_rows) (filter test line_rows))) left 0) (sym passes)))
  | inr fails ↦
      (let one : cond {A = ℕ} (test h) 1 0 ≡ 0 = ap (λ (b : Bool). cond {A = ℕ} b 1 0) fails in
      let more = sum_by-cons (λ (h : LineRow). cond (test h) 1 0) h line_rows in
      ap (λ (b : Bool). (fold (timer_where test) (cond b (ticked h.time (record { left = suc left; time = time })) (record { left = suc left; time = time })) line_rows).time) fails
      ∙ (counted_time test line_rows left time (omega arith)
      ∙ ap (λ (b : Bool). get_or (map (λ (k : LineRow). k.time) (cond b (h ∷ filter test line_rows) (filter test line_rows))) left 0) (sym fails)))
]

-- line rows in the order of their times

earlier_time : (a b : LineRow) → is_earlier a b ≡ false → ltb a.time b.time ≡ false
earlier_time a b e = false_from_ne_true (ltb a.time b.time) (λ less. both_ways (is_earlier a b) e (rw less refl))

line_row_cmp_total : IsTotalOrder line_row_cmp
line_row_cmp_total = then_total (on_total (λ (h : LineRow). h.time) nat_cmp_total) (on_total (λ (h : LineRow). h.place) nat_cmp_total)

one_line_row : (a b : LineRow) → is_eq (line_row_cmp a b) ≡ true → a ≡ b
one_line_row a b e =
    let times = is_eq-then (nat_cmp a.time b.time) (nat_cmp a.place b.place) e in
    same_line_row a.time b.time a.place b.place (nat_cmp-same a.time b.time times.0) (nat_cmp-same a.place b.place times.1)
  where
    same_line_row : (t u p q : ℕ) → t ≡ u → p ≡ q → ◌≡◌ {A = LineRow} (record { time = t; place = p }) (record { time = u; place = q })
    same_line_row t u p q e1 e2 = rw (e1, e2) refl

pub line_rows_rank : IsStrictWeakOrder is_earlier
line_rows_rank = ranks_by line_row_cmp_total (λ h. h)

pub sorted_line_rows : (xs ys : List LineRow) → IsPermutation xs ys → IsSortedBy is_earlier ys → ys ≡ sort_by is_earlier xs
sorted_line_rows xs ys moved sorted = sort_by_cmp_is line_row_cmp line_row_cmp_total one_line_row xs ys moved sorted

times_above : (test : LineRow → Bool) (h : LineRow) (line_rows : List LineRow) → AllByRecursion (λ k. is_earlier k h ≡ false) line_rows → AllByRecursion (λ t. ltb t h.time ≡ false) (times_where test line_rows)
times_above test h [] all = tt
times_above test h (k ∷ line_rows) all = kept (test k) (times_above test h line_rows all.1)
  where
    kept : (b : Bool) → AllByRecursion (λ t. ltb t h.time ≡ false) (times_where test line_rows) → AllByRecursion (λ t. ltb t h.time ≡ false) (map (λ (k : LineRow). k.time) (cond b (k ∷ filter test line_rows) (filter test line_rows)))
    kept true rest = (earlier_time k h all.0, rest)
    kept false rest = rest

times_ascend : (test : LineRow → Bool) (line_rows : List LineRow) → IsAscending is_earlier line_rows → IsAscending ltb (times_where test line_rows)
times_ascend test [] up = tt
times_ascend test (h ∷ line_rows) up = kept (test h) (times_ascend test line_rows up.1)
  where
    kept : (b : Bool) → IsAscending ltb (times_where test line_rows) → IsAscending ltb (map (λ (k : LineRow). k.time) (cond b (h ∷ filter test line_rows) (filter test line_rows)))
    kept true rest = (times_above test h line_rows up.0, rest)
    kept false rest = rest

sorted_again : (xs : List ℕ) → IsAscending ltb xs → sort_by ltb xs ≡ xs
sorted_again xs up =
    let order = IsStrictWeakOrder-by_number (λ (x : ℕ). x) in
    one_ascending ltb order (λ a b le ge. omega (arith, ltb-false a b le, ltb-false b a ge)) (sort_by ltb xs) xs (sort_by-ascending ltb order xs) up (sort_by-sums ltb xs)

sum_where : (weight : ℕ → ℕ) (test : LineRow → Bool) (line_rows : List LineRow) → sum_by weight (times_where test line_rows) ≡ sum_by (λ h. cond (test h) (weight h.time) 0) line_rows
sum_where weight test [] = refl
sum_where weight test (h ∷ line_rows) = kept (test h) refl (sum_where weight test line_rows)
  where
    kept : (b : Bool) → test h ≡ b → sum_by weight (times_where test line_rows) ≡ sum_by (λ k. cond (test k) (weight k.time) 0) line_rows →
        sum_by weight (map (λ (k : LineRow). k.time) (cond b (h ∷ filter test line_rows) (filter test line_rows))) ≡ sum_by (λ k. cond (test k) (weight k.time) 0) (h ∷ line_rows)
    kept true is rest =
        let here : cond (test h) (weight h.time) 0 ≡ weight h.time = ap (λ (c : Bool). cond c (weight h.time) 0) is in
        omega (arith, here, rest, sum_by-cons weight h.time (times_where test line_rows), sum_by-cons (λ (k : LineRow). cond (test k) (weight k.time) 0) h line_rows)
    kept false is rest =
        let here : cond (test h) (weight h.time) 0 ≡ 0 = ap (λ (c : Bool). cond c (weight h.time) 0) is in
        omega (arith, here, rest, sum_by-cons (λ (k : LineRow). cond (test k) (weight k.time) 0) h line_rows)

-- of sorted line rows the median of the times of those that pass
pub counted_median : (test : LineRow → Bool) (line_rows : List LineRow) (times : List ℕ) → 0 < length times → HasSameSums times (times_where test line_rows) →
    (fold (timer_where test) (unticked ((length times + 1) / 2)) (sort_by is_earlier line_rows)).time ≡ median times
unfolding median
counted_median test line_rows times some same =
    let sorted = sort_by is_earlier line_rows in
    let kept = times_where test sorted in
    let again : HasSameSums times kept = λ weight.
    same weight ∙ (sum_where weight test line_rows ∙ (sym (sort_by-sums is_earlier line_rows (λ (h : LineRow). cond (test h) (weight h.time) 0)) ∙ sym (sum_where weight test sorted))) in
    let up : sort_by ltb kept ≡ kept = sorted_again kept (times_ascend test sorted (sort_by-ascending is_earlier line_rows_rank line_rows)) in
    let long : length times ≡ length kept = same_length times kept again in
    let counted : length kept ≡ count_by test sorted = length-map (filter test sorted) (λ (h : LineRow). h.time) ∙ length-filter test sorted in
    let half : (length times + 1) / 2 ≡ suc ((length times - 1) / 2) = omega arith in
    ap (λ (k : ℕ). (fold (timer_where test) (unticked k) sorted).time) half
    ∙ (counted_time test sorted ((length times - 1) / 2) 0 (omega arith)
    ∙ sym (median-same times kept again ∙ ap₂ (λ (ts : List ℕ) (k : ℕ). get_or ts ((k - 1) / 2) 0) up (sym long)))

-- the line rows of a round, and the first holders of a row

module _ (g : Graph) (s : IsShaped g.members (links_of g)) (marks : Marks) (r : ℕ) (famous : List ℕ) (are : famous ≡ famous_of g marks r) where
  below_is : (z : ℕ) → is_on_some_line (links_of g) famous z ≡ is_below_famous g.members (links_of g) marks r z
  unfolding famous_places
  below_is z = rw are (list_any-list_below (λ w. is_self_ancestor (links_of g) w z) (length (links_of g)) (is_unique_famous g.members (links_of g) marks r))

  module _ (ends : List ℕ) (low «end» x : ℕ) (just : JustBelow (links_of g) ends (is_on_some_line (links_of g) famous)) (within : (m : ℕ) → get_or ends m 0 ≤ «end»)
      (inside : «end» ≤ length (links_of g)) (from : low ≤ x) where
    first_is : (z : ℕ) → z < length (links_of g) → (is_line_row (links_of g) ends low z && is_gained_by (links_of g) z x) ≡ is_first_holder g.members (links_of g) marks r x z
    first_is z h =
        let last = get_or ends (creator (links_of g) z) 0 in
        let below = is_below_famous g.members (links_of g) marks r z in
        let up = is_ancestor (links_of g) z x in
        let news = list_all (λ p. not (is_ancestor (links_of g) p x)) (self_parent (links_of g) z) in
        elim (cases_lt z low) [
          | inl under ↦
              (let no : up ≡ false = false_from_ne_true up (λ e. let le = is_ancestor-le (links_of g) s.earlier z x e in absurd (omega arith)) in
              and_left (leb low z && ltb z last) (up && news) (and_left (leb low z) (ltb z last) (lt-leb low z under)) ∙ sym (and_left (below && up) news (and_right below up no)))
          | inr over ↦
              ap (λ (b : Bool). (b && ltb z last) && (up && news)) (le-leb low z over)
              ∙ (ap (λ (b : Bool). b && (up && news)) (just z h ∙ below_is z) ∙ sym (and_assoc below up news))
        ]

    times_are : times_where (λ h. is_gained_by (links_of g) h.place x) (line_rows_below g ends low «end»)
        ≡ list_below (time_at g.rows) (length (links_of g)) (is_first_holder g.members (links_of g) marks r x)
    times_are =
        let first = is_first_holder g.members (links_of g) marks r x in
        let on : ℕ → Bool = λ z. is_line_row (links_of g) ends low z && is_gained_by (links_of g) z x in
        ap (map (λ (h : LineRow). h.time)) (filter-list_below (λ (h : LineRow). is_gained_by (links_of g) h.place x) (line_row_at g.rows) «end» (is_line_row (links_of g) ends low))
        ∙ (map-list_below (λ (h : LineRow). h.time) (line_row_at g.rows) «end» on
        ∙ (list_below-same (time_at g.rows) (time_at g.rows) «end» on first (λ z h. first_is z (omega arith)) (λ z h passes. refl)
        ∙ sym (list_below-longer (time_at g.rows) «end» (length (links_of g)) first inside (λ z past h. sym (first_is z h) ∙ none z past))))
      where
        none : (z : ℕ) → «end» ≤ z → (is_line_row (links_of g) ends low z && is_gained_by (links_of g) z x) ≡ false
        none z past =
            let last = get_or ends (creator (links_of g) z) 0 in
            let short = within (creator (links_of g) z) in
            and_left (is_line_row (links_of g) ends low z) (is_gained_by (links_of g) z x) (and_right (leb low z) (ltb z last) (le-ltb z last (omega arith)))

    -- what the sorted line rows of the round leave of the timer of row x
    pub median_counted : 0 < length famous → all_have (links_of g) famous x ≡ true →
        (timer_of (links_of g) x (unticked ((length famous + 1) / 2)) (sort_by is_earlier (line_rows_below g ends low «end»))).time ≡ median (times_of g.rows (links_of g) x famous)
    median_counted some all =
        let times = times_of g.rows (links_of g) x famous in
        let long : length times ≡ length famous = length-map famous (λ (w : ℕ). time_at g.rows (first_holder (links_of g) x w)) in
        rw (← long) (counted_median (λ h. is_gained_by (links_of g) h.place x) (line_rows_below g ends low «end») times (omega arith)
        (λ weight. same_firsts weight ∙ sym (ap (sum_by weight) times_are)))
      where
        same_firsts : HasSameSums (times_of g.rows (links_of g) x famous) (list_below (time_at g.rows) (length (links_of g)) (is_first_holder g.members (links_of g) marks r x))
        same_firsts weight = rw are (same_times g.members (links_of g) s marks r x g.rows (all_have_is g.members (links_of g) s marks r x (rw are at all)) weight)
