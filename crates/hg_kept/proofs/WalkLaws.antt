-- The rows of a line, listed from the last to the first, and member by member those between two ends
use Rattle.std.proofs.Common.{◌≡◌, inl, inr, ℕ, ◌+◌, ◌-◌, ◌<◌, ◌≤◌, Bool, true, false, cond, ◌&&◌, not, max, leb, ltb, eqb, List, [], ◌∷◌, ◌++◌, length, get_or, set, sum_by, sym, refl, ap, ap₂, ◌∙◌, arith}
use Rattle.std.proofs.lemmas.Bool.{cases_lt, cases_eq, and_parts, and_from, both_ways, eq-eqb, ne_eqb, eqb-true, le-leb, leb-true, lt-ltb, le-ltb, ltb-true, ltb-false, not_from_false, not-true}
use Rattle.std.proofs.lemmas.List.{get_or-set_same, get_or-set_other}
use Rattle.std.proofs.lemmas.List.Sums.{sum_by_push}
use Rattle.std.proofs.lemmas.List.Sorted.{IsStrictWeakOrder-by_number}
use Rattle.hg_model.specs.Places.{list_below, weight_below, count_below}
use Rattle.hg_model.specs.Stakes.{Stakes, member_count}
use Rattle.hg_model.specs.Links.{Link, creator}
use Rattle.hg_model.specs.Graph.{IsShaped}
use Rattle.hg_model.specs.Order.{sort_by}
use Rattle.hg_model.proofs.ListLaws.{sum_by-list_below, IsPairwise-list_below}
use Rattle.hg_model.proofs.PlacesLaws.{weight_below-same, weight_below-le, weight_below_none, count_below-le}
use Rattle.hg_model.proofs.SortLaws.{one_ascending, sort_by-ascending, sort_by-sums, sum_of_ones}
use Rattle.hg_model.proofs.WeightLaws.{passes_beside, weight_below_beside, weight_below_split}
use Rattle.hg_order.specs.Counted.{EndsBefore}
use Rattle.hg_order.specs.Timers.{is_in_line, is_in_line_below}
use Rattle.hg_order.proofs.TimerLaws.{same_tests}
use Rattle.hg_kept.specs.Waiting.{AreRaised, AreLineEnds, HoldsJust, ListsLine, is_newly_below}

-- what it is to stand in a line

record InLine (L : List Link) (m low top x : ℕ) : Type 0 where
  by : creator L x ≡ m
  from : low ≤ x
  to : x < top

in_line : (L : List Link) (m low top x : ℕ) → is_in_line L m low top x ≡ true → InLine L m low top x
in_line L m low top x e =
    let parts = and_parts (eqb (creator L x) m) (leb low x && ltb x top) e in
    let ends = and_parts (leb low x) (ltb x top) parts.1 in
    record { by = eqb-true (creator L x) m parts.0; from = leb-true low x ends.0; to = ltb-true x top ends.1 }

in_line_from : (L : List Link) (m low top x : ℕ) → InLine L m low top x → is_in_line L m low top x ≡ true
in_line_from L m low top x i =
    and_from (eqb (creator L x) m) (leb low x && ltb x top) (eq-eqb (creator L x) m i.by)
    (and_from (leb low x) (ltb x top) (le-leb low x i.from) (lt-ltb x top i.to))

-- down a line

-- the rows from `last` on are listed
pub record IsWalked (L : List Link) (low top : ℕ) (old : List ℕ) (last : ℕ) (now : List ℕ) : Type 0 where
  pub within : last ≤ top
  pub same : 0 < last → creator L (last - 1) ≡ creator L (top - 1)
  pub above : (x : ℕ) → creator L x ≡ creator L (top - 1) → last ≤ x → x < top → low ≤ x
  pub listed : ListsLine L last top old now

module _ (L : List Link) (low top : ℕ) (old : List ℕ) where
  abbrev by : ℕ
  by = creator L (top - 1)

  pub walk_none : IsWalked L low top old top old
  walk_none = record {
    within = omega arith;
    same = λ some. refl;
    above = λ x by from to. absurd (omega arith);
    listed = λ weight. (
        let none = weight_below_none weight (length L) (is_in_line L by top top) (λ x h e. let i = in_line L by top top x e in omega (arith, i.from, i.to)) in
        omega arith);
  }

  module _ (last next : ℕ) (now : List ℕ) (w : IsWalked L low top old last now) (some : low < last) (inside : top ≤ length L) (before : EndsBefore L (last - 1) next) where
    here_in : is_in_line L by next top (last - 1) ≡ true
    here_in = (let first = before.low in let within = w.within in in_line_from L by next top (last - 1) (record { by = w.same (omega arith); from = omega arith; to = omega arith }))

    one_less : (x : ℕ) → x < length L → passes_beside (is_in_line L by next top) (last - 1) x ≡ is_in_line L by last top x
    one_less x h = same_tests (passes_beside (is_in_line L by next top) (last - 1) x) (is_in_line L by last top x)
        (λ e.
        let parts = and_parts (is_in_line L by next top x) (not (eqb x (last - 1))) e in
        let i = in_line L by next top x parts.0 in
        let from = i.from in
        in_line_from L by last top x (record {
          by = i.by;
          from = elim (cases_lt x last) [
            | inr over ↦ over
            | inl under ↦ elim (cases_eq x (last - 1)) [
              | inl same ↦ absurd (both_ways (eqb x (last - 1)) (not-true (eqb x (last - 1)) parts.1) (eq-eqb x (last - 1) same))
              | inr other ↦ (let less : x < next = before.all x (omega arith) (i.by ∙ sym (w.same (omega arith))) in absurd (omega arith))
            ]
          ];
          to = i.to;
        }))
        (λ e.
        let i = in_line L by last top x e in
        let from = i.from in
        let first = before.low in
        and_from (is_in_line L by next top x) (not (eqb x (last - 1))) (in_line_from L by next top x (record { by = i.by; from = omega arith; to = i.to }))
        (not_from_false (eqb x (last - 1)) (ne_eqb x (last - 1) (λ same. absurd (omega arith)))))

    one_more : (weight : ℕ → ℕ) → weight_below weight (length L) (is_in_line L by next top) ≡ weight_below weight (length L) (is_in_line L by last top) + weight (last - 1)
    one_more weight =
        let within = w.within in
        let beside = weight_below_beside weight (length L) (is_in_line L by next top) (last - 1) (omega arith) here_in in
        let rest = weight_below-same weight (length L) (passes_beside (is_in_line L by next top) (last - 1)) (is_in_line L by last top) one_less in
        omega arith

    above_next : (x : ℕ) → creator L x ≡ creator L (top - 1) → next ≤ x → x < top → low ≤ x
    above_next x by_same from to = elim (cases_lt x last) [
      | inr over ↦ w.above x by_same over to
      | inl under ↦ elim (cases_eq x (last - 1)) [
        | inl here ↦ omega arith
        | inr other ↦ (let less : x < next = before.all x (omega arith) (by_same ∙ sym (w.same (omega arith))) in absurd (omega arith))
      ]
    ]

    pub walk_next : IsWalked L low top old next (now ++ (last - 1) ∷ [])
    walk_next = record {
      within = (let first = before.low in let within = w.within in omega arith);
      same = λ more. before.same more ∙ w.same (omega arith);
      above = above_next;
      listed = λ weight. (let pushed = sum_by_push weight now (last - 1) in let sums = w.listed weight in let more = one_more weight in omega arith);
    }

    -- all that are listed stand in the line from `low` on, so that there is room
    pub walk_room : length now < length old + count_below (length L) (is_in_line_below L low top)
    walk_room =
        let sums = w.listed (λ _. 1) in
        let more = one_more (λ _. 1) in
        let fits = weight_below-le (λ _. 1) (length L) (is_in_line L by next top) (is_in_line L by low top)
        (λ x h e. let i = in_line L by next top x e in in_line_from L by low top x (record { by = i.by; from = above_next x i.by i.from i.to; to = i.to })) in
        omega (arith, sum_of_ones now, sum_of_ones old)

  pub walk_done : (last : ℕ) (now : List ℕ) → IsWalked L low top old last now → last ≤ low → ListsLine L low top old now
  walk_done last now w done weight =
      w.listed weight
      ∙ ap (λ (k : ℕ). sum_by weight old + k) (weight_below-same weight (length L) (is_in_line L by last top) (is_in_line L by low top)
      (λ x h. same_tests (is_in_line L by last top x) (is_in_line L by low top x)
      (λ e. let i = in_line L by last top x e in in_line_from L by low top x (record { by = i.by; from = w.above x i.by i.from i.to; to = i.to }))
      (λ e. let i = in_line L by low top x e in let from = i.from in in_line_from L by last top x (record { by = i.by; from = omega arith; to = i.to }))))

-- member by member

-- of the rows between the ends and the least counts those by the first members
abbrev pub is_below_by : List Link → List ℕ → List ℕ → ℕ → ℕ → Bool
is_below_by L ends least m x = is_newly_below L ends least x && ltb (creator L x) m

module _ (n : Stakes) (L : List Link) (least : List ℕ) (are : AreLineEnds n L least) (old : List ℕ) where
  pub members_none : HoldsJust [] (length L) (is_below_by L old least 0)
  members_none weight = sym (weight_below_none weight (length L) (is_below_by L old least 0)
      (λ x h e. let low = ltb-true (creator L x) 0 (and_parts (is_newly_below L old least x) (ltb (creator L x) 0) e).1 in omega arith))

  pub raised_none : AreRaised 0 old least old
  raised_none m = ap (λ (b : Bool). cond b (max (get_or old m 0) (get_or least m 0)) (get_or old m 0)) (sym (le-ltb m 0 (omega arith)))

  module _ (m : ℕ) (inside : m < member_count n) (now : List ℕ) (raised : AreRaised m old least now) where
    pub here : get_or now m 0 ≡ get_or old m 0
    here = raised m ∙ ap (λ (b : Bool). cond b (max (get_or old m 0) (get_or least m 0)) (get_or old m 0)) (le-ltb m m (omega arith))

    pub raised_next : (v : ℕ) → m < length now → v ≡ max (get_or now m 0) (get_or least m 0) → AreRaised (m + 1) old least (set now m v)
    raised_next v room is k = elim (cases_eq k m) [
      | inl same ↦
          (let set_here : get_or (set now m v) k 0 ≡ v = ap (λ (j : ℕ). get_or (set now m v) j 0) same ∙ get_or-set_same now m v 0 room in
          let greater : v ≡ max (get_or old k 0) (get_or least k 0) = is ∙ (ap (λ (j : ℕ). max j (get_or least m 0)) here ∙ ap (λ (j : ℕ). max (get_or old j 0) (get_or least j 0)) (sym same)) in
          set_here ∙ (greater ∙ ap (λ (b : Bool). cond b (max (get_or old k 0) (get_or least k 0)) (get_or old k 0)) (sym (lt-ltb k (m + 1) (omega arith)))))
      | inr other ↦
          (let tests : ltb k m ≡ ltb k (m + 1) = same_tests (ltb k m) (ltb k (m + 1)) (λ e. (let low = ltb-true k m e in lt-ltb k (m + 1) (omega arith))) (λ e. (let low = ltb-true k (m + 1) e in lt-ltb k m (omega arith))) in
          get_or-set_other now m k v 0 other
          ∙ (raised k ∙ ap (λ (b : Bool). cond b (max (get_or old k 0) (get_or least k 0)) (get_or old k 0)) tests))
    ]

    -- the rows of the next member
    abbrev line : ℕ → Bool
    line = is_in_line_below L (get_or now m 0) (get_or least m 0)

    by_next : (x : ℕ) → x < length L → (is_below_by L old least (m + 1) x && not (ltb (creator L x) m)) ≡ line x
    by_next x h = same_tests (is_below_by L old least (m + 1) x && not (ltb (creator L x) m)) (line x)
        (λ e.
        let parts = and_parts (is_below_by L old least (m + 1) x) (not (ltb (creator L x) m)) e in
        let both = and_parts (is_newly_below L old least x) (ltb (creator L x) (m + 1)) parts.0 in
        let low = ltb-true (creator L x) (m + 1) both.1 in
        let is : creator L x ≡ m = elim (cases_lt (creator L x) m) [
          | inl under ↦ absurd (both_ways (ltb (creator L x) m) (not-true (ltb (creator L x) m) parts.1) (lt-ltb (creator L x) m under))
          | inr over ↦ omega arith
        ] in
        let ends = and_parts (leb (get_or old (creator L x) 0) x) (ltb x (get_or least (creator L x) 0)) both.0 in
        let from : get_or now m 0 ≤ x = rw (here, ← is) (leb-true (get_or old (creator L x) 0) x ends.0) in
        let to : x < get_or least m 0 = rw (← is) (ltb-true x (get_or least (creator L x) 0) ends.1) in
        in_line_from L (creator L (get_or least m 0 - 1)) (get_or now m 0) (get_or least m 0) x (record { by = is ∙ sym (are.last m inside (omega arith)); from = from; to = to }))
        (λ e.
        let i = in_line L (creator L (get_or least m 0 - 1)) (get_or now m 0) (get_or least m 0) x e in
        let to = i.to in
        let is : creator L x ≡ m = i.by ∙ are.last m inside (omega arith) in
        let from : get_or old m 0 ≤ x = rw (← here) i.from in
        and_from (is_below_by L old least (m + 1) x) (not (ltb (creator L x) m))
        (and_from (is_newly_below L old least x) (ltb (creator L x) (m + 1))
        (rw is (and_from (leb (get_or old m 0) x) (ltb x (get_or least m 0)) (le-leb (get_or old m 0) x from) (lt-ltb x (get_or least m 0) to)))
        (lt-ltb (creator L x) (m + 1) (omega arith)))
        (not_from_false (ltb (creator L x) m) (le-ltb (creator L x) m (omega arith))))

    by_before : (x : ℕ) → x < length L → (is_below_by L old least (m + 1) x && ltb (creator L x) m) ≡ is_below_by L old least m x
    by_before x h = same_tests (is_below_by L old least (m + 1) x && ltb (creator L x) m) (is_below_by L old least m x)
        (λ e.
        let parts = and_parts (is_below_by L old least (m + 1) x) (ltb (creator L x) m) e in
        and_from (is_newly_below L old least x) (ltb (creator L x) m) (and_parts (is_newly_below L old least x) (ltb (creator L x) (m + 1)) parts.0).0 parts.1)
        (λ e.
        let parts = and_parts (is_newly_below L old least x) (ltb (creator L x) m) e in
        let low = ltb-true (creator L x) m parts.1 in
        and_from (is_below_by L old least (m + 1) x) (ltb (creator L x) m)
        (and_from (is_newly_below L old least x) (ltb (creator L x) (m + 1)) parts.0 (lt-ltb (creator L x) (m + 1) (omega arith))) parts.1)

    both_sum : (weight : ℕ → ℕ) → weight_below weight (length L) (is_below_by L old least (m + 1)) ≡ weight_below weight (length L) (is_below_by L old least m) + weight_below weight (length L) line
    both_sum weight =
        weight_below_split weight (length L) (is_below_by L old least (m + 1)) (λ x. ltb (creator L x) m)
        ∙ ap₂ (λ (a b : ℕ). a + b) (weight_below-same weight (length L) (λ x. is_below_by L old least (m + 1) x && ltb (creator L x) m) (is_below_by L old least m) by_before)
        (weight_below-same weight (length L) (λ x. is_below_by L old least (m + 1) x && not (ltb (creator L x) m)) line by_next)

    pub members_next : (fresh new : List ℕ) → HoldsJust fresh (length L) (is_below_by L old least m) → ListsLine L (get_or now m 0) (get_or least m 0) fresh new → HoldsJust new (length L) (is_below_by L old least (m + 1))
    members_next fresh new just more weight = more weight ∙ (ap (λ (k : ℕ). k + weight_below weight (length L) line) (just weight) ∙ sym (both_sum weight))

    pub members_room : (fresh : List ℕ) → HoldsJust fresh (length L) (is_below_by L old least m) → length fresh + count_below (length L) line ≤ length L
    members_room fresh just =
        let sums = just (λ _. 1) in
        let both = both_sum (λ _. 1) in
        omega (arith, sum_of_ones fresh, count_below-le (length L) (is_below_by L old least (m + 1)))

  pub members_done : IsShaped n L → (m : ℕ) → member_count n ≤ m → (fresh : List ℕ) → HoldsJust fresh (length L) (is_below_by L old least m) → HoldsJust fresh (length L) (is_newly_below L old least)
  members_done s m all fresh just weight = just weight ∙ weight_below-same weight (length L) (is_below_by L old least m) (is_newly_below L old least)
      (λ x h. same_tests (is_below_by L old least m x) (is_newly_below L old least x)
      (λ e. (and_parts (is_newly_below L old least x) (ltb (creator L x) m) e).0)
      (λ e. and_from (is_newly_below L old least x) (ltb (creator L x) m) e (lt-ltb (creator L x) m (let low = s.members x h in omega arith))))

-- sorted they are listed by place
pub sorted_below : (places : List ℕ) (n : ℕ) (test : ℕ → Bool) → HoldsJust places n test → sort_by ltb places ≡ list_below (λ x. x) n test
sorted_below places n test just =
    one_ascending ltb (IsStrictWeakOrder-by_number (λ x. x)) (λ a b le ge. omega (arith, ltb-false a b le, ltb-false b a ge))
    (sort_by ltb places) (list_below (λ x. x) n test) (sort_by-ascending ltb (IsStrictWeakOrder-by_number (λ x. x)) places)
    (IsPairwise-list_below (λ (x y : ℕ). ltb y x ≡ false) (λ x. x) n test (λ j k h. le-ltb k j (omega arith)))
    (λ weight. sort_by-sums ltb places weight ∙ (just weight ∙ sym (sum_by-list_below weight (λ x. x) n test)))
