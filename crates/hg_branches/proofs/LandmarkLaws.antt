-- The first descendants that are landmarks once a row has come, and what they tell
use Rattle.std.proofs.Common.{◌≡◌, ◌≢◌, ℕ, ◌+◌, ◌-◌, ◌<◌, ◌≤◌, ◌^◌, ◌||◌, ◌&&◌, eqb, nat_lt, nat_le, not, true, false, Bool, cond, min, List, [], ◌∷◌, ◌++◌, length, get_or, replicate, slice_index, slice_set, sym, ap, ◌∙◌, subst, inl, inr, arith}
use Rattle.std.proofs.lemmas.Bool.{cases_eq, cases_lt, cases_Bool, and_parts, and_from, or_cases, or_left, or_right, ltb-true, lt-ltb, leb-true, le-leb, eqb-true, eq-eqb, not-true, not_from_false, false_from_ne_true, both_ways}
use Rattle.std.proofs.lemmas.List.{length_push, length-set, length-replicate, get_or-set_same, get_or-set_other, get_or_append_left, get_or_push, get_or_past}
use Rattle.hg_model.specs.Places.{weight_below, some_below}
use Rattle.hg_model.specs.Stakes.{Stakes, member_count, stake_of, stake_where, total}
use Rattle.hg_model.specs.Links.{Link, creator}
use Rattle.hg_model.specs.Ancestry.{is_ancestor}
use Rattle.hg_model.specs.Forks.{has_fork_below}
use Rattle.hg_model.specs.Seeing.{sees_through, strongly_sees, is_supermajority}
use Rattle.hg_model.specs.Shape.{FitsLink, link_of}
use Rattle.hg_model.proofs.PlacesLaws.{some_below_from, some_below_found, weight_below-same, weight_below_none}
use Rattle.hg_model.proofs.WeightLaws.{weight_below_both}
use Rattle.hg_model.proofs.StakeLaws.{stake_where-total}
use Rattle.hg_model.proofs.ReachLaws.{bool_iff, has_place_first}
use Rattle.hg_branches.specs.declared.landmarks.NextRow.{NextRow}
use Rattle.hg_branches.specs.Branches.{Branching, CountsAncestors, FirstDescendants, greatest_count}
use Rattle.hg_branches.specs.Rows.{known_place}
use Rattle.hg_branches.specs.Columns.{branching_of, count_in, next_branch, put_at, HoldsBranches, HoldsCounts, with_branch}
use Rattle.hg_branches.specs.Landmarks.{LandmarkView, landmark_at, no_landmark, is_first, is_reached, noted, noted_once, with_stake, AreFreshOn, AreNotedOn, IsLastOn, IsWeighed, HoldsFirsts, HoldsLandmarks, HoldsTops}
use Rattle.hg_branches.specs.Lines.{sees_on, own_sees, others_see}
use Rattle.hg_branches.proofs.FirstLaws.{firsts_begin, firsts_next}
use Rattle.hg_branches.proofs.ReachedLaws.{alone_reached, one_more_reached}
use Rattle.hg_branches.proofs.SeenLaws.{by_branches, seen_by_branches, counted_sound, counted_complete}
use Rattle.hg_branches.proofs.LineSeenLaws.{sound_on, complete_on, none_on}
use Rattle.hg_branches.proofs.HeldLaws.{Serves, row_taken, branch_last, branches_hold, in_reach, maker_of_last, own_stake}
use Rattle.hg_branches.proofs.PutLaws.{opened_reads, opened_long}
use Rattle.hg_branches.proofs.ChainLaws.{zero_behind, read_zeros, StandsAs, chains_noted, newest_noted, numbers_noted, begun_last, chains_begun, newest_begun, numbers_begun}

-- what a note changes

le_is_lt : (e count : ℕ) → 0 < e → nat_le e count ≡ nat_lt (e - 1) count
le_is_lt e count some = bool_iff (nat_le e count) (nat_lt (e - 1) count)
    (λ h. (let le : e ≤ count = leb-true e count h in lt-ltb (e - 1) count (omega arith)))
    (λ h. (let less : e - 1 < count = ltb-true (e - 1) count h in le-leb e count (omega arith)))

module _ (count : ℕ) (next : NextRow) (k : LandmarkView) where
  abbrev set : List ℕ
  set = slice_set k.firsts next.branch next.end

  abbrev after : LandmarkView
  after = noted_once count next k

  first_set : is_first count next k ≡ true → after.firsts ≡ set
  first_set h = ap (λ c. cond c set k.firsts) h

  -- nothing, where the row is no first descendant there
  pub noted_same : is_first count next k ≡ false → after ≡ k
  noted_same h = ap (λ c. record { end = k.end; branch = k.branch; before = k.before; none = k.none; firsts = cond c set k.firsts; reached = cond c (with_stake k.reached next.stake) k.reached }) h

  first_left : is_first count next k ≡ false → after.firsts ≡ k.firsts
  first_left h = ap (λ (k : LandmarkView). k.firsts) (noted_same h)

  pub not_counted : count < k.end → after ≡ k
  not_counted less = noted_same (false_from_ne_true (is_first count next k) (λ h.
      let le : k.end ≤ count = leb-true k.end count (and_parts (nat_le k.end count) (nat_lt next.end (slice_index k.firsts next.branch)) h).0 in absurd (omega arith)))

  pub not_later : slice_index k.firsts next.branch ≤ next.end → after ≡ k
  not_later le = noted_same (false_from_ne_true (is_first count next k) (λ h.
      let less : next.end < slice_index k.firsts next.branch =
      ltb-true next.end (slice_index k.firsts next.branch) (and_parts (nat_le k.end count) (nat_lt next.end (slice_index k.firsts next.branch)) h).1 in absurd (omega arith)))

  noted_long : length after.firsts ≡ length k.firsts
  noted_long = elim (cases_Bool (is_first count next k)) [
    | inl first ↦ ap length (first_set first) ∙ length-set k.firsts next.branch next.end
    | inr not_first ↦ ap length (first_left not_first)
  ]

  noted_other : (i : ℕ) → i ≢ next.branch → slice_index after.firsts i ≡ slice_index k.firsts i
  noted_other i other = elim (cases_Bool (is_first count next k)) [
    | inl first ↦ ap (λ (f : List ℕ). slice_index f i) (first_set first) ∙ get_or-set_other k.firsts next.branch i next.end 0 other
    | inr not_first ↦ ap (λ (f : List ℕ). slice_index f i) (first_left not_first)
  ]

  noted_here : next.branch < length k.firsts →
      slice_index after.firsts next.branch ≡ cond (nat_le k.end count) (min (slice_index k.firsts next.branch) next.end) (slice_index k.firsts next.branch)
  noted_here inside = elim (cases_lt count k.end) [
    | inl less ↦ ap (λ (k : LandmarkView). slice_index k.firsts next.branch) (not_counted less)
        ∙ ap (λ c. cond c (min (slice_index k.firsts next.branch) next.end) (slice_index k.firsts next.branch))
        (sym (false_from_ne_true (nat_le k.end count) (λ h. (let le : k.end ≤ count = leb-true k.end count h in absurd (omega arith)))))
    | inr counted ↦ elim (cases_lt next.end (slice_index k.firsts next.branch)) [
      | inl later ↦ ap (λ (f : List ℕ). slice_index f next.branch) (first_set (and_from (nat_le k.end count) (nat_lt next.end (slice_index k.firsts next.branch))
          (le-leb k.end count counted) (lt-ltb next.end (slice_index k.firsts next.branch) later)))
          ∙ (get_or-set_same k.firsts next.branch next.end 0 inside ∙ (lesser later ∙ by_count counted))
      | inr no_later ↦ ap (λ (k : LandmarkView). slice_index k.firsts next.branch) (not_later no_later) ∙ (greater no_later ∙ by_count counted)
    ]
  ]
    where
      lesser : {a c : ℕ} → a < c → a ≡ min c a
      lesser h = omega arith

      greater : {a c : ℕ} → c ≤ a → c ≡ min c a
      greater h = omega arith

      by_count : k.end ≤ count → min (slice_index k.firsts next.branch) next.end ≡ cond (nat_le k.end count) (min (slice_index k.firsts next.branch) next.end) (slice_index k.firsts next.branch)
      by_count le = ap (λ c. cond c (min (slice_index k.firsts next.branch) next.end) (slice_index k.firsts next.branch)) (sym (le-leb k.end count le))

  -- the stake of the branch's member makes up for what that adds to those who are reached
  pub weighed_noted : (n : Stakes) → total n ≤ 2 ^ 39 → stake_of n next.branch ≤ next.stake → IsWeighed n k → IsWeighed n after
  weighed_noted n low enough weighed = elim (cases_Bool (is_first count next k)) [
    | inl first ↦
        (let sum : after.reached ≡ with_stake k.reached next.stake = ap (λ c. cond c (with_stake k.reached next.stake) k.reached) first in
        let one = one_more_reached n k.none next.branch k.firsts after.firsts noted_other in
        omega (arith, sum, one, low, enough, weighed, stake_where-total n (is_reached k.none after.firsts)))
    | inr not_first ↦ subst (IsWeighed n) (sym (noted_same not_first)) weighed
  ]

module _ (n : Stakes) (L : List Link) (branches makers ends : List ℕ) (held : HoldsBranches n L branches makers ends) (low : total n ≤ 2 ^ 39) (link : Link) (fits : FitsLink n L link)
    (b : ℕ) (serves : Serves L branches makers link b) (row : List ℕ) (counted : CountsAncestors (L ++ link ∷ []) (branching_of (branches ++ b ∷ []) (with_branch makers b link.creator)) (length L) (slice_index row))
    (short : length L + 1 < 2 ^ 32 - 1) where
  abbrev C : Branching
  C = branching_of (branches ++ b ∷ []) (with_branch makers b link.creator)

  -- where the new row stands, and what its creator weighs
  abbrev next : NextRow
  next = record { branch = b; end = length L + 1; stake = stake_of n link.creator }

  -- the new row's counts tell its earlier ancestors
  above_is : (y : ℕ) → y < length L → nat_lt y (slice_index row (slice_index branches y)) ≡ is_ancestor (L ++ link ∷ []) (length L) y
  above_is y h =
      let rows = held.rows in
      ap (λ k. nat_lt y (slice_index row k)) (sym (get_or_append_left branches (b ∷ []) 0 y (omega arith)))
      ∙ counted.told y (omega (arith, length_push L link))

  -- a member's own branch has its creator as maker
  enough : stake_of n b ≤ stake_of n link.creator
  enough = subst (λ m. stake_of n b ≤ stake_of n m) (maker_of_last n L branches makers ends held link fits b serves)
      (own_stake n (L ++ link ∷ []) (branches ++ b ∷ []) (with_branch makers b link.creator) (put_at ends b (length L + 1)) (branches_hold n L branches makers ends held link fits b serves short) b)

  pub holds_noted : (k : LandmarkView) → length L + 1 < k.none → HoldsFirsts n L branches makers k → HoldsFirsts n (L ++ link ∷ []) (branches ++ b ∷ []) (with_branch makers b link.creator) (noted row next k)
  holds_noted k fits_none holds =
      let some = holds.some in
      let inside = holds.inside in
      let rows = held.rows in
      let long = holds.long in
      let y : ℕ = k.end - 1 in
      let below : y < length L = omega arith in
      let count : ℕ = slice_index row k.branch in
      let last = branch_last n L branches makers ends held link fits b serves in
      let up : nat_le k.end count ≡ is_ancestor (L ++ link ∷ []) (length L) y =
      le_is_lt k.end count some ∙ (ap (λ c. nat_lt y (slice_index row c)) (sym holds.on) ∙ above_is y below) in
      record {
        some = some;
        inside = omega (arith, length_push L link);
        short = omega (arith, length_push L link);
        long = noted_long count next k ∙ long;
        on = get_or_append_left branches (b ∷ []) 0 y (omega arith) ∙ holds.on;
        told = firsts_next n L link held.shaped fits (branching_of branches makers) C held.lines (row_taken n L branches makers ends held link fits b serves) (member_count n) k.none y
            (slice_index k.firsts) (slice_index (noted row next k).firsts) below (omega arith) holds.told
            (λ i hi off. noted_other count next k i (λ e. off (e ∙ sym last)))
            (λ hb. ap (slice_index (noted row next k).firsts) last
            ∙ (noted_here count next k (let low = subst (λ k. k < member_count n) last hb in omega arith)
            ∙ (ap (λ c. cond c (min (slice_index k.firsts b) (length L + 1)) (slice_index k.firsts b)) up
            ∙ ap (λ j. cond (is_ancestor (L ++ link ∷ []) (length L) y) (min (slice_index k.firsts j) (length L + 1)) (slice_index k.firsts j)) (sym last))));
        weighed = weighed_noted count next k n low enough holds.weighed;
      }

  pub landmarks_more : (old new : List LandmarkView) (newest numbers : List ℕ) → ((i : ℕ) → i < length old → length L + 1 < (landmark_at old i).none) →
      HoldsLandmarks n L branches makers old newest numbers → length new ≡ length old → ((i : ℕ) → i < length old → landmark_at new i ≡ noted row next (landmark_at old i)) →
      HoldsLandmarks n (L ++ link ∷ []) (branches ++ b ∷ []) (with_branch makers b link.creator) new (with_branch newest b 0) (numbers ++ 0 ∷ [])
  landmarks_more old new newest numbers short_of landmarks long each =
      let reach = in_reach n L branches makers ends held link fits b serves in
      let same : (i : ℕ) → i < length old → StandsAs (landmark_at new i) (landmark_at old i) =
      λ i h. (ap (λ (k : LandmarkView). k.end) (each i h), ap (λ (k : LandmarkView). k.branch) (each i h), ap (λ (k : LandmarkView). k.before) (each i h)) in
      record {
        each = λ i h. (let low : i < length old = omega arith in
            subst (HoldsFirsts n (L ++ link ∷ []) (branches ++ b ∷ []) (with_branch makers b link.creator)) (sym (each i low)) (holds_noted (landmark_at old i) (short_of i low) (landmarks.each i low)));
        chains = chains_noted old new same long landmarks.chains;
        by_branch = λ c. subst (IsLastOn new (length new) c) (sym (opened_reads newest b c)) (newest_noted old new same long newest landmarks.by_branch c);
        newest_all = opened_long makers newest b link.creator reach landmarks.newest_all;
        by_place = λ y some. (let is = zero_behind numbers y in
            let was = numbers_noted old new same (omega arith) numbers landmarks.by_place y (subst (λ j. 0 < j) is some) in
            (subst (λ j. j ≤ length new) (sym is) was.0, subst (λ j. (landmark_at new (j - 1)).end ≡ y + 1) (sym is) was.1));
        numbers_all = (let all = landmarks.numbers_all in omega (arith, length_push numbers 0, length_push L link));
      }

-- what the self-parent has as ancestor needs no note: on the next row's branch it has a descendant already
pub noted_on : (n : Stakes) (L : List Link) (branches makers ends : List ℕ) → HoldsBranches n L branches makers ends → (counts : List (List ℕ)) → HoldsCounts n L branches makers counts →
    (landmarks : List LandmarkView) (newest numbers : List ℕ) → HoldsLandmarks n L branches makers landmarks newest numbers → (on : List ℕ) (by : ℕ) → FitsLink n L (link_of by on) → (row : List ℕ) →
    ((i : ℕ) → i ≢ next_branch branches ends on by → get_or row i 0 ≡ greatest_count (count_in counts) on i) → (stake c : ℕ) →
    AreNotedOn c (get_or (get_or (counts ++ row ∷ []) (known_place on (length L)) []) c 0) (get_or row c 0)
    (record { branch = next_branch branches ends on by; end = length L + 1; stake = stake }) landmarks
noted_on n L branches makers ends held counts rows landmarks newest numbers holds [] by fits row others stake c i h is_on le =
    let k : LandmarkView = landmark_at landmarks i in
    let firsts = holds.each i h in
    let some = firsts.some in
    let inside = firsts.inside in
    let y : ℕ = k.end - 1 in
    let known : k.end ≤ get_or row c 0 = subst (λ (r : List ℕ). k.end ≤ get_or r c 0) (get_or_push counts row [] (length L) rows.len) le in
    elim (cases_eq c (next_branch branches ends [] by)) [
      | inl here ↦
          (let end : y < get_or ends c 0 = subst (λ j. y < get_or ends j 0) (firsts.on ∙ is_on) (held.end y (omega arith)) in
          let there : get_or branches y 0 < length makers = held.known y (omega arith) in
          let all = held.ends_all in
          elim (cases_Bool (eqb (get_or ends by 0) 0)) [
            | inl empty ↦
                (let own : c ≡ by = here ∙ ap (λ e. cond e by (length ends)) empty in
                let none : get_or ends c 0 ≡ 0 = ap (λ j. get_or ends j 0) own ∙ eqb-true (get_or ends by 0) 0 empty in
                absurd (omega arith))
            | inr full ↦
                (let new : c ≡ length ends = here ∙ ap (λ e. cond e by (length ends)) full in
                let old : get_or branches y 0 ≡ c = firsts.on ∙ is_on in
                absurd (omega arith))
          ])
      | inr other ↦ (let none : get_or row c 0 ≡ 0 = others c other in absurd (omega arith))
    ]
noted_on n L branches makers ends held counts rows landmarks newest numbers holds (p ∷ ps) by fits row others stake c i h is_on le =
    let k : LandmarkView = landmark_at landmarks i in
    let firsts = holds.each i h in
    let some = firsts.some in
    let inside = firsts.inside in
    let y : ℕ = k.end - 1 in
    let below : p < length L = fits.earlier p (has_place_first p ps) in
    let rows_len = rows.len in
    let known : k.end ≤ count_in counts p c = subst (λ (r : List ℕ). k.end ≤ get_or r c 0) (get_or_append_left counts (row ∷ []) [] p (omega arith)) le in
    let branch : ℕ = get_or branches p 0 in
    let counted : is_ancestor L p y ≡ true = sym ((rows.row p below).told y (omega arith)) ∙ lt-ltb y (count_in counts p (get_or branches y 0))
    (let same : count_in counts p (get_or branches y 0) ≡ count_in counts p c = ap (count_in counts p) (firsts.on ∙ is_on) in omega arith) in
    let all = held.ends_all in
    let wide = held.all in
    not_later (get_or row c 0) (record { branch = next_branch branches ends (p ∷ ps) by; end = length L + 1; stake = stake }) k
    (elim (cases_lt (next_branch branches ends (p ∷ ps) by) (member_count n)) [
      | inl own ↦ elim (cases_Bool (eqb (get_or ends branch 0) (p + 1))) [
        | inl last ↦
            (let is : next_branch branches ends (p ∷ ps) by ≡ branch = ap (λ c. cond c branch (length ends)) last in
            let first : slice_index k.firsts branch ≤ p + 1 = leb-true (slice_index k.firsts branch) (p + 1) (firsts.told.told p below (omega arith) ∙ counted) in
            subst (λ j. slice_index k.firsts j ≤ length L + 1) (sym is) (omega arith))
        | inr not_last ↦ (let is : next_branch branches ends (p ∷ ps) by ≡ length ends = ap (λ c. cond c branch (length ends)) not_last in absurd (omega arith))
      ]
      | inr other ↦ (let long = firsts.long in let none = get_or_past k.firsts (next_branch branches ends (p ∷ ps) by) 0 (omega arith) in omega arith)
    ])

-- what the self-parent has not as ancestor has no descendant yet on the next row's branch
first_open : (n : Stakes) (L : List Link) (branches makers ends : List ℕ) → HoldsBranches n L branches makers ends → (counts : List (List ℕ)) → HoldsCounts n L branches makers counts →
    (landmarks : List LandmarkView) (newest numbers : List ℕ) → HoldsLandmarks n L branches makers landmarks newest numbers → ((i : ℕ) → i < length landmarks → length L + 1 < (landmark_at landmarks i).none) →
    (on : List ℕ) (by : ℕ) → FitsLink n L (link_of by on) → (row : List ℕ) (c i : ℕ) → i < length landmarks → (landmark_at landmarks i).branch ≡ c →
    get_or (get_or (counts ++ row ∷ []) (known_place on (length L)) []) c 0 < (landmark_at landmarks i).end →
    next_branch branches ends on by < length (landmark_at landmarks i).firsts → length L + 1 < slice_index (landmark_at landmarks i).firsts (next_branch branches ends on by)
first_open n L branches makers ends held counts rows landmarks newest numbers holds short [] by fits row c i h is_on less inside =
    let k : LandmarkView = landmark_at landmarks i in
    let firsts = holds.each i h in
    let long = firsts.long in
    let wide = held.all in
    let all = held.ends_all in
    let high = short i h in
    elim (cases_Bool (eqb (get_or ends by 0) 0)) [
      | inl empty ↦
          (let is : next_branch branches ends [] by ≡ by = ap (λ e. cond e by (length ends)) empty in
          let own : by < member_count n = subst (λ j. j < member_count n) is (omega (arith, inside, long)) in
          subst (λ j. length L + 1 < slice_index k.firsts j) (sym is) (elim (firsts.told.there by own) [
            | inl none ↦ omega (arith, none, high)
            | inr w ↦
                (let end : w.0 < get_or ends by 0 = subst (λ j. w.0 < get_or ends j 0) w.2 (held.end w.0 w.1) in
                let none : get_or ends by 0 ≡ 0 = eqb-true (get_or ends by 0) 0 empty in
                absurd (omega arith))
          ]))
      | inr full ↦ (let is : next_branch branches ends [] by ≡ length ends = ap (λ e. cond e by (length ends)) full in absurd (omega (arith, is, inside, long, wide, all)))
    ]
first_open n L branches makers ends held counts rows landmarks newest numbers holds short (p ∷ ps) by fits row c i h is_on less inside =
    let k : LandmarkView = landmark_at landmarks i in
    let firsts = holds.each i h in
    let some = firsts.some in
    let within = firsts.inside in
    let long = firsts.long in
    let wide = held.all in
    let all = held.ends_all in
    let rows_len = rows.len in
    let high = short i h in
    let y : ℕ = k.end - 1 in
    let below : p < length L = fits.earlier p (has_place_first p ps) in
    let unknown : count_in counts p c < k.end = subst (λ (r : List ℕ). get_or r c 0 < k.end) (get_or_append_left counts (row ∷ []) [] p (omega arith)) less in
    let branch : ℕ = get_or branches p 0 in
    elim (cases_Bool (eqb (get_or ends branch 0) (p + 1))) [
      | inl last ↦
          (let is : next_branch branches ends (p ∷ ps) by ≡ branch = ap (λ c. cond c branch (length ends)) last in
          let own : branch < member_count n = subst (λ j. j < member_count n) is (omega (arith, inside, long)) in
          subst (λ j. length L + 1 < slice_index k.firsts j) (sym is) (elim (firsts.told.there branch own) [
            | inl none ↦ omega (arith, none, high)
            | inr w ↦
                (let end : w.0 < get_or ends branch 0 = subst (λ j. w.0 < get_or ends j 0) w.2 (held.end w.0 w.1) in
                let at : get_or ends branch 0 ≡ p + 1 = eqb-true (get_or ends branch 0) (p + 1) last in
                let first : slice_index k.firsts branch ≤ p + 1 = (let stands = w.3 in omega arith) in
                let seen : is_ancestor L p y ≡ true = sym (firsts.told.told p below own) ∙ le-leb (slice_index k.firsts branch) (p + 1) first in
                let counted : y < count_in counts p (get_or branches y 0) = ltb-true y (count_in counts p (get_or branches y 0)) ((rows.row p below).told y (omega arith) ∙ seen) in
                let same : count_in counts p (get_or branches y 0) ≡ count_in counts p c = ap (count_in counts p) (firsts.on ∙ is_on) in
                absurd (omega arith))
          ]))
      | inr not_last ↦ (let is : next_branch branches ends (p ∷ ps) by ≡ length ends = ap (λ c. cond c branch (length ends)) not_last in absurd (omega (arith, is, inside, long, wide, all)))
    ]

pub fresh_on : (n : Stakes) (L : List Link) (branches makers ends : List ℕ) → HoldsBranches n L branches makers ends → (counts : List (List ℕ)) → HoldsCounts n L branches makers counts →
    (landmarks : List LandmarkView) (newest numbers : List ℕ) → HoldsLandmarks n L branches makers landmarks newest numbers → ((i : ℕ) → i < length landmarks → length L + 1 < (landmark_at landmarks i).none) →
    (on : List ℕ) (by : ℕ) → FitsLink n L (link_of by on) → (row : List ℕ) (stake c : ℕ) →
    AreFreshOn c (get_or (get_or (counts ++ row ∷ []) (known_place on (length L)) []) c 0) (record { branch = next_branch branches ends on by; end = length L + 1; stake = stake }) landmarks
fresh_on n L branches makers ends held counts rows landmarks newest numbers holds short on by fits row stake c i h is_on less =
    (short i h, first_open n L branches makers ends held counts rows landmarks newest numbers holds short on by fits row c i h is_on less)

-- the tops stay, and a new branch has none
pub tops_noted : (old new : List LandmarkView) → ((i : ℕ) → i < length old → StandsAs (landmark_at new i) (landmark_at old i)) → length new ≡ length old → (tops : List ℕ) (b : ℕ) → HoldsTops old tops →
    HoldsTops new (with_branch tops b 0)
tops_noted old new same long tops b holds i h =
    let low : i < length old = omega arith in
    let is = (same i low).0 in
    let was = holds i low in
    let branch_is : slice_index tops (landmark_at new i).branch ≡ slice_index tops (landmark_at old i).branch = ap (slice_index tops) (same i low).1 in
    let reads : slice_index (with_branch tops b 0) (landmark_at new i).branch ≡ slice_index tops (landmark_at new i).branch = opened_reads tops b (landmark_at new i).branch in
    omega arith

-- nothing is landmarks
pub landmarks_none : (n : Stakes) (L : List Link) (branches makers newest : List ℕ) → newest ≡ replicate (length makers) 0 → HoldsLandmarks n L branches makers [] newest []
landmarks_none n L branches makers newest newest_are = record {
  each = λ i h. absurd (omega arith);
  chains = record { low = λ i h. absurd (omega arith); rise = λ i j le h. absurd (omega arith); before = λ j h. absurd (omega arith) };
  by_branch = λ c. (let is = read_zeros newest (length makers) c newest_are in record { inside = omega arith; on = λ some. absurd (omega arith); none_later = λ i from below on. absurd (omega arith) });
  newest_all = ap length newest_are ∙ length-replicate (length makers) 0;
  by_place = λ y some. (let none = get_or_past {X = ℕ} [] y 0 (omega arith) in absurd (omega arith));
  numbers_all = omega arith;
}

-- the last row, when it begins to be landmarks
pub holds_begun : (n : Stakes) (L : List Link) (branches makers ends : List ℕ) → HoldsBranches n L branches makers ends → (k : LandmarkView) → 0 < k.end → length L ≡ k.end → length k.firsts ≡ member_count n →
    slice_index branches (k.end - 1) ≡ k.branch → (k.branch < member_count n → slice_index k.firsts k.branch ≡ k.end) → ((b : ℕ) → b < member_count n → b ≢ k.branch → slice_index k.firsts b ≡ k.none) →
    stake_of n k.branch ≤ k.reached → length L < k.none → HoldsFirsts n L branches makers k
holds_begun n L branches makers ends held k some last long on own others enough short = record {
  some = some;
  inside = omega arith;
  short = short;
  long = long;
  on = on;
  told = firsts_begin (member_count n) k.none L (branching_of branches makers) (k.end - 1) (slice_index k.firsts) held.shaped.earlier held.lines (omega arith) short
      (λ low. ap (slice_index k.firsts) on ∙ (own (subst (λ c. c < member_count n) on low) ∙ ends_some k.end some))
      (λ b low other. others b low (λ e. other (e ∙ sym on)));
  weighed = omega (arith, enough, alone_reached n k.none k.branch k.firsts others);
}
  where
    ends_some : (e : ℕ) → 0 < e → e ≡ (e - 1) + 1
    ends_some e h = omega arith

pub landmarks_begun : (n : Stakes) (L : List Link) (branches makers : List ℕ) (landmarks : List LandmarkView) (newest numbers : List ℕ) → HoldsLandmarks n L branches makers landmarks newest numbers → (k : LandmarkView) → HoldsFirsts n L branches makers k →
    length L ≡ k.end → length numbers ≡ k.end → k.branch < length makers → (0 < length landmarks → (landmark_at landmarks (length landmarks - 1)).end < k.end) → k.before ≡ slice_index newest k.branch →
    HoldsLandmarks n L branches makers (landmarks ++ k ∷ []) (slice_set newest k.branch (length landmarks + 1)) (slice_set numbers (k.end - 1) (length landmarks + 1))
landmarks_begun n L branches makers landmarks newest numbers holds k first last entries known later before =
    let all = holds.newest_all in
    let numbers_all = holds.numbers_all in
    let some = first.some in
    record {
      each = λ i h. elim (cases_lt i (length landmarks)) [
        | inl earlier ↦ subst (HoldsFirsts n L branches makers) (sym (get_or_append_left landmarks (k ∷ []) no_landmark i earlier)) (holds.each i earlier)
        | inr past ↦ subst (HoldsFirsts n L branches makers) (sym (begun_last landmarks k holds.chains i (omega (arith, length_push landmarks k)))) first
      ];
      chains = chains_begun landmarks k holds.chains some later (subst (IsLastOn landmarks (length landmarks) k.branch) (sym before) (holds.by_branch k.branch));
      by_branch = newest_begun landmarks k holds.chains newest holds.by_branch (omega arith);
      newest_all = length-set newest k.branch (length landmarks + 1) ∙ all;
      by_place = numbers_begun landmarks k holds.chains numbers (k.end - 1) holds.by_place (omega arith) (omega arith);
      numbers_all = omega (arith, length-set numbers (k.end - 1) (length landmarks + 1), numbers_all);
    }

-- where no place passes both of two tests, those that pass either weigh what both weigh
pub weight_apart : (weight : ℕ → ℕ) (n : ℕ) (one two : ℕ → Bool) → ((m : ℕ) → m < n → one m ≡ true → two m ≡ false) →
    weight_below weight n (λ m. one m || two m) ≡ weight_below weight n one + weight_below weight n two
weight_apart weight n one two apart =
    let none = weight_below_none weight n (λ m. one m && two m)
    (λ m h both. (let parts = and_parts (one m) (two m) both in both_ways (two m) (apart m h parts.0) parts.1)) in
    omega (arith, none, weight_below_both weight n one two)

module _ (n : Stakes) (L : List Link) (branches makers ends : List ℕ) (held : HoldsBranches n L branches makers ends) (counts : List (List ℕ)) (rows : HoldsCounts n L branches makers counts)
    (x y : ℕ) (hx : x < length L) (free : has_fork_below L x (creator L y) ≡ false) (k : LandmarkView) (holds : HoldsFirsts n L branches makers k) (is : k.end ≡ y + 1) where
  abbrev count : ℕ → ℕ
  count = count_in counts x

  -- a member's own branch passes by its first descendant, any other one by its last counted row
  passes : ℕ → Bool
  passes b = cond (nat_lt b (member_count n)) (nat_le (slice_index k.firsts b) (count b)) (sees_on L (get_or counts x []) y b)

  passes_own : (b : ℕ) → b < member_count n → passes b ≡ nat_le (slice_index k.firsts b) (count b)
  unfolding passes
  passes_own b h = ap (λ c. cond c (nat_le (slice_index k.firsts b) (count b)) (sees_on L (get_or counts x []) y b)) (lt-ltb b (member_count n) h)

  passes_other : (b : ℕ) → member_count n ≤ b → passes b ≡ sees_on L (get_or counts x []) y b
  unfolding passes
  passes_other b h = ap (λ c. cond c (nat_le (slice_index k.firsts b) (count b)) (sees_on L (get_or counts x []) y b))
      (false_from_ne_true (nat_lt b (member_count n)) (λ t. absurd (omega (arith, ltb-true b (member_count n) t))))

  low : length L < k.none
  low = holds.short

  through_passes : (m : ℕ) → by_branches (length makers) (branching_of branches makers) passes m ≡ sees_through L x y m
  through_passes m =
      let same : k.end - 1 ≡ y = omega arith in
      let firsts = subst (λ z. FirstDescendants (member_count n) k.none L (branching_of branches makers) z (slice_index k.firsts)) same holds.told in
      seen_by_branches L held.shaped.earlier (branching_of branches makers) held.lines (length makers) held.known x y hx passes
      (λ b h p. elim (cases_lt b (member_count n)) [
        | inl own ↦ counted_sound L held.shaped.earlier (branching_of branches makers) held.lines (length makers) held.known (member_count n) k.none x y count (slice_index k.firsts) hx (rows.row x hx) firsts low
            free b own (sym (passes_own b own) ∙ p)
        | inr other ↦ sound_on n L branches makers ends held counts rows x y b hx (sym (passes_other b other) ∙ p)
      ])
      (λ z hz up seen. elim (cases_lt (get_or branches z 0) (member_count n)) [
        | inl own ↦ passes_own (get_or branches z 0) own
            ∙ counted_complete L held.shaped.earlier (branching_of branches makers) held.lines (length makers) held.known (member_count n) k.none x y count (slice_index k.firsts) hx (rows.row x hx) firsts low z own up seen
        | inr other ↦ passes_other (get_or branches z 0) other ∙ complete_on n L branches makers ends held counts rows x y z hx hz up seen
      ])
      m

  -- member m is seen through its own branch
  abbrev pub on_own : ℕ → Bool
  on_own m = own_sees k.firsts (get_or counts x []) m

  -- member m is not, and is seen through another one
  abbrev pub on_other : ℕ → Bool
  on_other m = some_below (length makers) (λ b. (nat_le (member_count n) b && not (on_own (get_or makers b 0)) && sees_on L (get_or counts x []) y b) && eqb (get_or makers b 0) m)

  other_found : (m : ℕ) → on_other m ≡ true → (b : ℕ) × (b < length makers) × (member_count n ≤ b) × (on_own m ≡ false) × (sees_on L (get_or counts x []) y b ≡ true) × (get_or makers b 0 ≡ m)
  other_found m h =
      let b = some_below_found (length makers) (λ b. (nat_le (member_count n) b && not (on_own (get_or makers b 0)) && sees_on L (get_or counts x []) y b) && eqb (get_or makers b 0) m) h in
      let one = and_parts (nat_le (member_count n) b.0 && not (on_own (get_or makers b.0 0)) && sees_on L (get_or counts x []) y b.0) (eqb (get_or makers b.0 0) m) b.2 in
      let two = and_parts (nat_le (member_count n) b.0 && not (on_own (get_or makers b.0 0))) (sees_on L (get_or counts x []) y b.0) one.0 in
      let three = and_parts (nat_le (member_count n) b.0) (not (on_own (get_or makers b.0 0))) two.0 in
      let by_m = eqb-true (get_or makers b.0 0) m one.1 in
      (b.0, b.1, leb-true (member_count n) b.0 three.0, subst (λ j. on_own j ≡ false) by_m (not-true (on_own (get_or makers b.0 0)) three.1), two.1, by_m)

  pub split_told : (m : ℕ) → m < member_count n → (on_own m || on_other m) ≡ sees_through L x y m
  split_told m hm =
      let all = held.all in
      bool_iff (on_own m || on_other m) (by_branches (length makers) (branching_of branches makers) passes m)
      (λ h. elim (or_cases (on_own m) (on_other m) h) [
        | inl own ↦ some_below_from (length makers) (λ b. passes b && eqb (get_or makers b 0) m) m (omega arith)
            (and_from (passes m) (eqb (get_or makers m 0) m) (passes_own m hm ∙ own) (eq-eqb (get_or makers m 0) m (held.own m hm)))
        | inr other ↦ (let b = other_found m other in
            some_below_from (length makers) (λ b. passes b && eqb (get_or makers b 0) m) b.0 b.1
            (and_from (passes b.0) (eqb (get_or makers b.0 0) m) (passes_other b.0 b.2 ∙ b.4) (eq-eqb (get_or makers b.0 0) m b.5)))
      ])
      (λ h.
      let b = some_below_found (length makers) (λ b. passes b && eqb (get_or makers b 0) m) h in
      let parts = and_parts (passes b.0) (eqb (get_or makers b.0 0) m) b.2 in
      let by_m = eqb-true (get_or makers b.0 0) m parts.1 in
      elim (cases_lt b.0 (member_count n)) [
        | inl own ↦ or_left (on_own m) (on_other m) (subst (λ j. on_own j ≡ true) (sym (held.own b.0 own) ∙ by_m) (sym (passes_own b.0 own) ∙ parts.0))
        | inr other ↦ elim (cases_Bool (on_own m)) [
          | inl is_own ↦ or_left (on_own m) (on_other m) is_own
          | inr not_own ↦ or_right (on_own m) (on_other m)
              (some_below_from (length makers) (λ b. (nat_le (member_count n) b && not (on_own (get_or makers b 0)) && sees_on L (get_or counts x []) y b) && eqb (get_or makers b 0) m) b.0 b.1
              (and_from (nat_le (member_count n) b.0 && not (on_own (get_or makers b.0 0)) && sees_on L (get_or counts x []) y b.0) (eqb (get_or makers b.0 0) m)
              (and_from (nat_le (member_count n) b.0 && not (on_own (get_or makers b.0 0))) (sees_on L (get_or counts x []) y b.0)
              (and_from (nat_le (member_count n) b.0) (not (on_own (get_or makers b.0 0))) (le-leb (member_count n) b.0 other)
              (not_from_false (on_own (get_or makers b.0 0)) (subst (λ j. on_own j ≡ false) (sym by_m) not_own)))
              (sym (passes_other b.0 other) ∙ parts.0)) parts.1))
        ]
      ])
      ∙ through_passes m

  -- both stakes together tell whether x strongly sees y
  pub strong_by_firsts : is_supermajority (total n) (stake_where n on_own + stake_where n on_other) ≡ strongly_sees n L x y
  unfolding strongly_sees
  strong_by_firsts =
      let apart = weight_apart (stake_of n) (member_count n) on_own on_other
      (λ m h own. false_from_ne_true (on_other m) (λ h. both_ways (on_own m) (other_found m h).3 own)) in
      ap (is_supermajority (total n))
      (sym apart ∙ weight_below-same (stake_of n) (member_count n) (λ m. on_own m || on_other m) (sees_through L x y) split_told)

  pub on_other_is : (m : ℕ) → others_see L makers k.firsts (get_or counts x []) y m ≡ on_other m
  on_other_is m = ap (λ j. some_below (length makers) (λ b. (nat_le j b && not (on_own (get_or makers b 0)) && sees_on L (get_or counts x []) y b) && eqb (get_or makers b 0) m)) holds.long

  -- the members' own branches alone tell it, where x counts no others
  pub strong_alone : ((b : ℕ) → member_count n ≤ b → b < length makers → count b ≡ 0) → is_supermajority (total n) (stake_where n on_own) ≡ strongly_sees n L x y
  strong_alone alone =
      let none : stake_where n on_other ≡ 0 = weight_below_none (stake_of n) (member_count n) on_other (λ m below h. (let b = other_found m h in
      both_ways (sees_on L (get_or counts x []) y b.0) (none_on L (get_or counts x []) y b.0 (alone b.0 b.2 b.1)) b.4)) in
      let sum : stake_where n on_own ≡ stake_where n on_own + stake_where n on_other = omega (arith, none) in
      ap (is_supermajority (total n)) sum ∙ strong_by_firsts
