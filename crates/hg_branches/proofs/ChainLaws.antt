-- The landmarks of each branch, when one more is landmarks, and when the next row is noted
use Rattle.std.proofs.Common.{◌≡◌, ℕ, ◌+◌, ◌-◌, ◌<◌, ◌≤◌, List, [], ◌∷◌, ◌++◌, length, get_or, replicate, slice_index, slice_set, take, drop, sym, ap, ◌∙◌, subst, refl, inl, inr, arith}
use Rattle.std.proofs.Math.Seq.{take-append_seam}
use Rattle.std.proofs.lemmas.Bool.{cases_eq, cases_lt}
use Rattle.std.proofs.lemmas.List.{length_push, length-replicate, get_or-replicate, get_or-set_same, get_or-set_other, get_or_append_left, get_or_push, get_or_past}
use Rattle.hg_branches.specs.declared.landmarks.NextRow.{NextRow}
use Rattle.hg_branches.specs.Landmarks.{LandmarkView, landmark_at, no_landmark, noted_once, AreFreshOn, AreNotedOn, NotesBy, IsLastOn, HoldsChains, HoldsNewest, HoldsTops, HoldsNumbers}

-- a zero behind a list changes nothing that is read
pub zero_behind : (xs : List ℕ) (i : ℕ) → get_or (xs ++ 0 ∷ []) i 0 ≡ get_or xs i 0
zero_behind xs i = elim (cases_lt i (length xs)) [
  | inl before ↦ get_or_append_left xs (0 ∷ []) 0 i before
  | inr past ↦ elim (cases_eq i (length xs)) [
    | inl here ↦ get_or_push xs 0 0 i (sym here) ∙ sym (get_or_past xs i 0 past)
    | inr other ↦ get_or_past (xs ++ 0 ∷ []) i 0 (omega (arith, length_push xs 0)) ∙ sym (get_or_past xs i 0 past)
  ]
]

-- zeros read as 0
pub read_zeros : (xs : List ℕ) (many i : ℕ) → xs ≡ replicate many 0 → get_or xs i 0 ≡ 0
read_zeros xs many i are = elim (cases_lt i many) [
  | inl before ↦ ap (λ ys. get_or ys i 0) are ∙ get_or-replicate many i 0 0 before
  | inr past ↦ get_or_past xs i 0 (let long = ap length are ∙ length-replicate many 0 in omega arith)
]

-- both are of one row, and name one landmark before it
abbrev pub StandsAs : LandmarkView → LandmarkView → Type 0
StandsAs k other = (k.end ≡ other.end) × (k.branch ≡ other.branch) × (k.before ≡ other.before)

-- rows that stand as they stood
module _ (old new : List LandmarkView) (same : (i : ℕ) → i < length old → StandsAs (landmark_at new i) (landmark_at old i)) where
  pub last_same : (many c number : ℕ) → many ≤ length old → IsLastOn old many c number → IsLastOn new many c number
  last_same many c number le last = record {
    inside = last.inside;
    on = λ some. (let inside = last.inside in (same (number - 1) (omega arith)).1 ∙ last.on some);
    none_later = λ i from below on. last.none_later i from below (sym (same i (omega arith)).1 ∙ on);
  }

  pub before_same : (j : ℕ) → j < length old → HoldsChains old → IsLastOn new j (landmark_at new j).branch (landmark_at new j).before
  before_same j h chains =
      subst (λ number. IsLastOn new j (landmark_at new j).branch number) (sym (same j h).2)
      (subst (λ c. IsLastOn new j c (landmark_at old j).before) (sym (same j h).1)
      (last_same j (landmark_at old j).branch (landmark_at old j).before (omega arith) (chains.before j h)))

  pub chains_noted : length new ≡ length old → HoldsChains old → HoldsChains new
  chains_noted long chains = record {
    low = λ i h. (let is = (same i (omega arith)).0 in let was = chains.low i (omega arith) in omega arith);
    rise = λ i j le h. (let is_i = (same i (omega arith)).0 in let is_j = (same j (omega arith)).0 in let was = chains.rise i j le (omega arith) in omega arith);
    before = λ j h. before_same j (omega arith) chains;
  }

  pub newest_noted : length new ≡ length old → (newest : List ℕ) → HoldsNewest old newest → HoldsNewest new newest
  newest_noted long newest last c =
      subst (λ many. IsLastOn new many c (slice_index newest c)) (sym long) (last_same (length old) c (slice_index newest c) (omega arith) (last c))

  pub numbers_noted : length old ≤ length new → (numbers : List ℕ) → HoldsNumbers old numbers → HoldsNumbers new numbers
  numbers_noted long numbers holds y some = (let was = holds y some in
      let le : slice_index numbers y ≤ length old = was.0 in
      (omega arith, (same (slice_index numbers y - 1) (omega arith)).0 ∙ was.1))

-- landmarks of which those of the first branches are noted stand as they stood
pub stands_noted : (counts : List ℕ) (next : NextRow) (old new : List LandmarkView) → ((c : ℕ) → c < length counts → NotesBy counts next old new c) →
    ((i : ℕ) → length counts ≤ (landmark_at old i).branch → landmark_at new i ≡ landmark_at old i) → (i : ℕ) → i < length old → StandsAs (landmark_at new i) (landmark_at old i)
stands_noted counts next old new done left i h = elim (cases_lt (landmark_at old i).branch (length counts)) [
  | inl own ↦ (let is = done (landmark_at old i).branch own i h refl in (ap (λ (k : LandmarkView). k.end) is, ap (λ (k : LandmarkView). k.branch) is, ap (λ (k : LandmarkView). k.before) is))
  | inr other ↦ (let is = left i other in (ap (λ (k : LandmarkView). k.end) is, ap (λ (k : LandmarkView). k.branch) is, ap (λ (k : LandmarkView). k.before) is))
]

-- what needed no note needs none while it stands
pub left_noted : (known count : ℕ) (next : NextRow) (c : ℕ) (old new : List LandmarkView) → ((i : ℕ) → i < length old → StandsAs (landmark_at new i) (landmark_at old i)) → length new ≡ length old →
    ((i : ℕ) → (landmark_at old i).branch ≡ c → landmark_at new i ≡ landmark_at old i) → AreNotedOn c known count next old → AreNotedOn c known count next new
left_noted known count next c old new same long left noted i h on le =
    let low : i < length old = omega arith in
    let was : (landmark_at old i).branch ≡ c = sym (same i low).1 ∙ on in
    let end_is = (same i low).0 in
    subst (λ (k : LandmarkView). noted_once count next k ≡ k) (sym (left i was)) (noted i low was (omega arith))

-- and what had no descendant has none while it stands
pub left_fresh : (known : ℕ) (next : NextRow) (c : ℕ) (old new : List LandmarkView) → ((i : ℕ) → i < length old → StandsAs (landmark_at new i) (landmark_at old i)) → length new ≡ length old →
    ((i : ℕ) → (landmark_at old i).branch ≡ c → landmark_at new i ≡ landmark_at old i) → AreFreshOn c known next old → AreFreshOn c known next new
left_fresh known next c old new same long left fresh i h on less =
    let low : i < length old = omega arith in
    let was : (landmark_at old i).branch ≡ c = sym (same i low).1 ∙ on in
    let end_is = (same i low).0 in
    subst (λ (k : LandmarkView). (next.end < k.none) × (next.branch < length k.firsts → next.end < slice_index k.firsts next.branch)) (sym (left i was)) (fresh i low was (omega arith))

-- one more landmark, later than the others
module _ (old : List LandmarkView) (k : LandmarkView) (chains : HoldsChains old) where
  stays : (i : ℕ) → i < length old → StandsAs (landmark_at (old ++ k ∷ []) i) (landmark_at old i)
  stays i h =
      let is : landmark_at (old ++ k ∷ []) i ≡ landmark_at old i = get_or_append_left old (k ∷ []) no_landmark i h in
      (ap (λ (k : LandmarkView). k.end) is, ap (λ (k : LandmarkView). k.branch) is, ap (λ (k : LandmarkView). k.before) is)

  pub begun_last : (i : ℕ) → i ≡ length old → landmark_at (old ++ k ∷ []) i ≡ k
  begun_last i is = get_or_push old k no_landmark i (sym is)

  module _ (some : 0 < k.end) (later : 0 < length old → (landmark_at old (length old - 1)).end < k.end) where
    all_before : (i : ℕ) → i < length old → (landmark_at old i).end < k.end
    all_before i h = (let le = chains.rise i (length old - 1) (omega arith) (omega arith) in let less = later (omega arith) in omega arith)

    -- there are fewer landmarks than rows
    pub few_kept : length old < k.end
    few_kept = elim (cases_lt 0 (length old)) [
      | inl one ↦ (let low = chains.low (length old - 1) (omega arith) in let less = later one in omega arith)
      | inr none ↦ omega arith
    ]

    pub chains_begun : IsLastOn old (length old) k.branch k.before → HoldsChains (old ++ k ∷ [])
    chains_begun last = record {
      low = λ i h. elim (cases_lt i (length old)) [
        | inl before ↦ (let is = (stays i before).0 in let was = chains.low i before in omega arith)
        | inr past ↦ (let is : (landmark_at (old ++ k ∷ []) i).end ≡ k.end = ap (λ (k : LandmarkView). k.end) (begun_last i (omega (arith, length_push old k))) in let few = few_kept in omega (arith, length_push old k))
      ];
      rise = λ i j le h. elim (cases_lt j (length old)) [
        | inl before ↦ (let is_i = (stays i (omega arith)).0 in let is_j = (stays j before).0 in let was = chains.rise i j le before in omega arith)
        | inr past ↦
            (let is_j : (landmark_at (old ++ k ∷ []) j).end ≡ k.end = ap (λ (k : LandmarkView). k.end) (begun_last j (omega (arith, length_push old k))) in
            elim (cases_lt i (length old)) [
              | inl before ↦ (let is_i = (stays i before).0 in let less = all_before i before in omega arith)
              | inr past_i ↦ (let is_i : (landmark_at (old ++ k ∷ []) i).end ≡ k.end = ap (λ (k : LandmarkView). k.end) (begun_last i (omega (arith, length_push old k))) in omega arith)
            ])
      ];
      before = λ j h. elim (cases_lt j (length old)) [
        | inl before ↦ before_same old (old ++ k ∷ []) stays j before chains
        | inr past ↦
            (let at_end : j ≡ length old = omega (arith, length_push old k) in
            let is = begun_last j at_end in
            subst (λ (other : LandmarkView). IsLastOn (old ++ k ∷ []) j other.branch other.before) (sym is)
            (subst (λ many. IsLastOn (old ++ k ∷ []) many k.branch k.before) (sym at_end)
            (last_same old (old ++ k ∷ []) stays (length old) k.branch k.before (omega arith) last)))
      ];
    }

    pub tops_begun : (tops : List ℕ) → HoldsTops old tops → k.branch < length tops → HoldsTops (old ++ k ∷ []) (slice_set tops k.branch k.end)
    tops_begun tops holds inside i h =
        let c : ℕ = (landmark_at (old ++ k ∷ []) i).branch in
        let end_low : (landmark_at (old ++ k ∷ []) i).end ≤ k.end = elim (cases_lt i (length old)) [
          | inl before ↦ (let is = (stays i before).0 in let less = all_before i before in omega arith)
          | inr past ↦ (let is : (landmark_at (old ++ k ∷ []) i).end ≡ k.end = ap (λ (k : LandmarkView). k.end) (begun_last i (omega (arith, length_push old k))) in omega arith)
        ] in
        elim (cases_eq c k.branch) [
          | inl here ↦ (let top : slice_index (slice_set tops k.branch k.end) c ≡ k.end =
              ap (slice_index (slice_set tops k.branch k.end)) here ∙ get_or-set_same tops k.branch k.end 0 inside in omega arith)
          | inr other ↦ elim (cases_lt i (length old)) [
            | inl before ↦ (let is = (stays i before).0 in
                let branch_is : slice_index tops c ≡ slice_index tops (landmark_at old i).branch = ap (slice_index tops) (stays i before).1 in
                let top : slice_index (slice_set tops k.branch k.end) c ≡ slice_index tops c = get_or-set_other tops k.branch c k.end 0 other in
                let was = holds i before in
                omega arith)
            | inr past ↦ absurd (other (ap (λ (k : LandmarkView). k.branch) (begun_last i (omega (arith, length_push old k)))))
          ]
        ]

  pub newest_begun : (newest : List ℕ) → HoldsNewest old newest → k.branch < length newest → HoldsNewest (old ++ k ∷ []) (slice_set newest k.branch (length old + 1))
  newest_begun newest last inside c = elim (cases_eq c k.branch) [
    | inl here ↦
        (let is : slice_index (slice_set newest k.branch (length old + 1)) c ≡ length old + 1 =
        ap (slice_index (slice_set newest k.branch (length old + 1))) here ∙ get_or-set_same newest k.branch (length old + 1) 0 inside in
        record {
          inside = omega (arith, length_push old k);
          on = λ some. ap (λ (k : LandmarkView). k.branch) (begun_last (slice_index (slice_set newest k.branch (length old + 1)) c - 1) (omega arith)) ∙ sym here;
          none_later = λ i from below on. absurd (omega (arith, length_push old k));
        })
    | inr other ↦
        (let was = last_same old (old ++ k ∷ []) stays (length old) c (slice_index newest c) (omega arith) (last c) in
        subst (IsLastOn (old ++ k ∷ []) (length (old ++ k ∷ [])) c) (sym (get_or-set_other newest k.branch c (length old + 1) 0 other)) (record {
          inside = (let le = was.inside in omega (arith, length_push old k));
          on = was.on;
          none_later = λ i from below on. elim (cases_lt i (length old)) [
            | inl before ↦ was.none_later i from before on
            | inr past ↦ other (sym on ∙ ap (λ (k : LandmarkView). k.branch) (begun_last i (omega (arith, length_push old k))))
          ];
        }))
  ]

  pub numbers_begun : (numbers : List ℕ) (y : ℕ) → HoldsNumbers old numbers → k.end ≡ y + 1 → y < length numbers → HoldsNumbers (old ++ k ∷ []) (slice_set numbers y (length old + 1))
  numbers_begun numbers y holds end inside z some = elim (cases_eq z y) [
    | inl here ↦
        (let is : slice_index (slice_set numbers y (length old + 1)) z ≡ length old + 1 =
        ap (slice_index (slice_set numbers y (length old + 1))) here ∙ get_or-set_same numbers y (length old + 1) 0 inside in
        (omega (arith, length_push old k), ap (λ (k : LandmarkView). k.end) (begun_last (slice_index (slice_set numbers y (length old + 1)) z - 1) (omega arith)) ∙ (end ∙ ap (λ (j : ℕ). j + 1) (sym here))))
    | inr other ↦
        (let is : slice_index (slice_set numbers y (length old + 1)) z ≡ slice_index numbers z = get_or-set_other numbers y z (length old + 1) 0 other in
        let was = numbers_noted old (old ++ k ∷ []) stays (omega (arith, length_push old k)) numbers holds z (omega arith) in
        (subst (λ j. j ≤ length (old ++ k ∷ [])) (sym is) was.0, subst (λ j. (landmark_at (old ++ k ∷ []) (j - 1)).end ≡ z + 1) (sym is) was.1))
  ]

-- a list of which each place was written
pub refilled : (n : ℕ) (new old : List LandmarkView) → length new ≡ n → take n (new ++ drop (length new) old) ≡ new
refilled n new old long = ap (λ k. take k (new ++ drop (length new) old)) (sym long) ∙ take-append_seam new (drop (length new) old)
