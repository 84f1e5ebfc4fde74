-- The columns of branches once a row has come
use Rattle.std.proofs.Common.{◌≡◌, ◌≢◌, ℕ, ◌+◌, ◌-◌, ◌<◌, ◌≤◌, ◌^◌, eqb, true, cond, List, [], ◌∷◌, ◌++◌, length, get_or, sym, ap, ◌∙◌, subst, inl, inr, ◌⊎◌, arith}
use Rattle.std.proofs.lemmas.Bool.{cases_eq, cases_lt, eqb-true, cases_Bool}
use Rattle.std.proofs.lemmas.List.{length_push, get_or_append_left, get_or_past, get_or_push}
use Rattle.hg_model.specs.Places.{has_place}
use Rattle.hg_model.specs.Links.{Link, first_place}
use Rattle.hg_model.specs.Ancestry.{is_self_ancestor}
use Rattle.hg_model.specs.Shape.{FitsLink, link_of}
use Rattle.hg_model.specs.Stakes.{Stakes, member_count, stake_of}
use Rattle.hg_model.proofs.ReachLaws.{has_place_first}
use Rattle.hg_model.proofs.PushLaws.{shape-push}
use Rattle.hg_branches.specs.Branches.{Branching, CountsAncestors, TakesRow, greatest_count}
use Rattle.hg_branches.specs.Columns.{branching_of, count_in, next_branch, put_at, with_branch, HoldsBranches, HoldsCounts}
use Rattle.hg_branches.proofs.BranchLaws.{lines_grown, counts_kept, counts_new}
use Rattle.hg_branches.proofs.PutLaws.{put_here, put_other, made_new, made_none, maker_before, maker_last, makers_long, makers_more, makers_over}

-- b can be the branch of the next row: it is a new one or by the row's creator, and the rows on it are self-ancestors of
-- the row's self-parent
pub record Serves (L : List Link) (branches makers : List ℕ) (link : Link) (b : ℕ) : Type 0 where
  pub there : (b ≡ length makers) ⊎ ((b < length makers) × (get_or makers b 0 ≡ link.creator))
  pub on_line : (z : ℕ) → z < length L → get_or branches z 0 ≡ b →
      (p : ℕ) × (has_place (first_place link.parents) p ≡ true) × (is_self_ancestor L p z ≡ true)

module _ (n : Stakes) (L : List Link) (branches makers ends : List ℕ) (held : HoldsBranches n L branches makers ends) where
  -- the member of a branch weighs no more than the branch's maker: it is its own, or none is
  pub own_stake : (b : ℕ) → stake_of n b ≤ stake_of n (get_or makers b 0)
  own_stake b = elim (cases_lt b (member_count n)) [
    | inl own ↦ omega (arith, ap (stake_of n) (held.own b own))
    | inr past ↦ omega (arith, get_or_past n b 0 past)
  ]

  serves_new : (link : Link) → Serves L branches makers link (length ends)
  serves_new link = record {
    there = inl held.ends_all;
    on_line = λ z hz on. (let known = held.known z hz in let all = held.ends_all in absurd (omega arith));
  }

  pub next_serves : (on : List ℕ) (by : ℕ) → FitsLink n L (link_of by on) → Serves L branches makers (link_of by on) (next_branch branches ends on by)
  next_serves [] by fits = elim (cases_Bool (eqb (get_or ends by 0) 0)) [
    | inl empty ↦ subst (λ c. Serves L branches makers (link_of by []) (cond c by (length ends))) (sym empty) (record {
      there = (let member : by < member_count n = fits.member in let all = held.all in inr (omega arith, held.own by fits.member));
      on_line = λ z hz on.
          let end : z < get_or ends (get_or branches z 0) 0 = held.end z hz in
          let is : get_or ends (get_or branches z 0) 0 ≡ 0 = ap (λ b. get_or ends b 0) on ∙ eqb-true (get_or ends by 0) 0 empty in
          absurd (omega arith);
    })
    | inr some ↦ subst (λ c. Serves L branches makers (link_of by []) (cond c by (length ends))) (sym some) (serves_new (link_of by []))
  ]
  next_serves (p ∷ ps) by fits =
      let b : ℕ = get_or branches p 0 in
      let below : p < length L = fits.earlier p (has_place_first p ps) in
      elim (cases_Bool (eqb (get_or ends b 0) (p + 1))) [
        | inl last ↦ subst (λ c. Serves L branches makers (link_of by (p ∷ ps)) (cond c b (length ends))) (sym last) (record {
          there = inr (held.known p below, sym (held.lines.made p below) ∙ fits.self_by_same p (has_place_first p []));
          on_line = λ z hz on.
              let end : z < get_or ends (get_or branches z 0) 0 = held.end z hz in
              let is : get_or ends (get_or branches z 0) 0 ≡ p + 1 = ap (λ b. get_or ends b 0) on ∙ eqb-true (get_or ends b 0) (p + 1) last in
              (p, has_place_first p [], held.lines.line p z below (omega arith) (sym on));
        })
        | inr not_last ↦ subst (λ c. Serves L branches makers (link_of by (p ∷ ps)) (cond c b (length ends))) (sym not_last) (serves_new (link_of by (p ∷ ps)))
      ]

  module _ (link : Link) (fits : FitsLink n L link) (b : ℕ) (serves : Serves L branches makers link b) where
    abbrev pub grown : List Link
    grown = L ++ link ∷ []

    abbrev pub branches_grown : List ℕ
    branches_grown = branches ++ b ∷ []

    abbrev pub makers_grown : List ℕ
    makers_grown = with_branch makers b link.creator

    abbrev pub ends_grown : List ℕ
    ends_grown = put_at ends b (length L + 1)

    pub in_reach : b ≤ length makers
    in_reach = elim serves.there [ inl is ↦ omega arith | inr known ↦ (let low : b < length makers = known.0 in omega arith) ]

    branch_before : (x : ℕ) → x < length L → get_or branches_grown x 0 ≡ get_or branches x 0
    branch_before x h = (let rows = held.rows in get_or_append_left branches (b ∷ []) 0 x (omega arith))

    pub branch_last : get_or branches_grown (length L) 0 ≡ b
    branch_last = get_or_push branches b 0 (length L) held.rows

    pub maker_of_last : get_or makers_grown b 0 ≡ link.creator
    maker_of_last = elim serves.there [
      | inl is ↦ maker_last makers b link.creator in_reach is
      | inr known ↦ maker_before makers b link.creator in_reach b known.0 ∙ known.1
    ]

    pub row_taken : TakesRow L (branching_of branches makers) link (branching_of branches_grown makers_grown)
    row_taken = record {
      branch = branch_before;
      maker = λ x h. maker_before makers b link.creator in_reach (get_or branches x 0) (held.known x h);
      made = ap (λ k. get_or makers_grown k 0) branch_last ∙ maker_of_last;
      on_line = λ z h on. serves.on_line z h (on ∙ branch_last);
    }

    pub branches_hold : length L + 1 < 2 ^ 32 - 1 → HoldsBranches n grown branches_grown makers_grown ends_grown
    branches_hold short =
        let len : length grown ≡ length L + 1 = length_push L link in
        let more = makers_more makers b link.creator in_reach in
        let over = makers_over makers b link.creator in_reach in
        let reach : b ≤ length ends = (let all = held.ends_all in let low = in_reach in omega arith) in
        record {
          shaped = shape-push n L link held.shaped fits;
          few = held.few;
          short = omega arith;
          rows = length_push branches b ∙ (ap (λ (k : ℕ). k + 1) held.rows ∙ sym len);
          own = λ m h. (let all = held.all in maker_before makers b link.creator in_reach m (omega arith) ∙ held.own m h);
          all = (let all = held.all in omega arith);
          ends_all = makers_long makers b link.creator in_reach ends (length L + 1) held.ends_all;
          members = λ i h. elim (cases_lt i (length makers)) [
            | inl before ↦ subst (λ k. k < member_count n) (sym (maker_before makers b link.creator in_reach i before)) (held.members i before)
            | inr past ↦ elim (cases_eq b (length makers)) [
              | inl is ↦
                  (let long : length makers_grown ≡ length makers + 1 = ap length (made_new makers b link.creator in_reach is) ∙ length_push makers link.creator in
                  let same : i ≡ b = omega arith in
                  subst (λ k. k < member_count n) (sym (ap (λ j. get_or makers_grown j 0) same ∙ maker_of_last)) fits.member)
              | inr is_not ↦ (let long : length makers_grown ≡ length makers = ap length (made_none makers b link.creator in_reach is_not) in absurd (omega arith))
            ]
          ];
          known = λ x h. elim (cases_lt x (length L)) [
            | inl before ↦ (let is = branch_before x before in let low = held.known x before in omega arith)
            | inr past ↦ (let same : x ≡ length L = omega arith in let is : get_or branches_grown x 0 ≡ b = ap (λ k. get_or branches_grown k 0) same ∙ branch_last in omega arith)
          ];
          lines = lines_grown n L link held.shaped fits (branching_of branches makers) (branching_of branches_grown makers_grown) held.lines row_taken;
          end = λ x h. elim (cases_lt x (length L)) [
            | inl before ↦
                (let is : get_or ends_grown (get_or branches_grown x 0) 0 ≡ get_or ends_grown (get_or branches x 0) 0 = ap (λ k. get_or ends_grown k 0) (branch_before x before) in
                elim (cases_eq (get_or branches x 0) b) [
                  | inl on ↦ (let new : get_or ends_grown (get_or branches x 0) 0 ≡ length L + 1 = ap (λ k. get_or ends_grown k 0) on ∙ put_here ends b (length L + 1) reach in omega arith)
                  | inr off ↦ (let old = put_other ends b (length L + 1) reach (get_or branches x 0) off in let low = held.end x before in omega arith)
                ])
            | inr past ↦
                (let same : x ≡ length L = omega arith in
                let is : get_or ends_grown (get_or branches_grown x 0) 0 ≡ length L + 1 =
                ap (λ k. get_or ends_grown (get_or branches_grown k 0) 0) same ∙ (ap (λ k. get_or ends_grown k 0) branch_last ∙ put_here ends b (length L + 1) reach) in
                omega arith)
          ];
          sparse = elim (cases_eq b (length makers)) [
            | inl is ↦ (let long = ap length (made_new makers b link.creator in_reach is) ∙ length_push makers link.creator in let was = held.sparse in omega arith)
            | inr is_not ↦ (let long = ap length (made_none makers b link.creator in_reach is_not) in let was = held.sparse in omega arith)
          ];
          early = λ x h. elim (cases_lt x (length L)) [
            | inl before ↦ (let is = branch_before x before in let low = held.early x before in omega arith)
            | inr past ↦
                (let same : x ≡ length L = omega arith in
                let is : get_or branches_grown x 0 ≡ b = ap (λ k. get_or branches_grown k 0) same ∙ branch_last in
                let low = in_reach in
                let was = held.sparse in
                omega arith)
          ];
        }

    -- the counts of the new row are right
    pub counts_last : (counts : List (List ℕ)) (row : List ℕ) → HoldsCounts n L branches makers counts → get_or row b 0 ≡ length L + 1 →
        ((i : ℕ) → i ≢ b → get_or row i 0 ≡ greatest_count (count_in counts) link.parents i) → CountsAncestors grown (branching_of branches_grown makers_grown) (length L) (λ i. get_or row i 0)
    counts_last counts row rows own others =
        counts_new n L link held.shaped fits (branching_of branches makers) (branching_of branches_grown makers_grown) held.lines row_taken (count_in counts) (λ i. get_or row i 0) rows.row
        (ap (λ k. get_or row k 0) branch_last ∙ own) (λ i off. others i (λ e. off (e ∙ sym branch_last)))

    pub counts_hold : (counts : List (List ℕ)) (row : List ℕ) → HoldsCounts n L branches makers counts → member_count n ≤ length row →
        get_or row b 0 ≡ length L + 1 → ((i : ℕ) → i ≢ b → get_or row i 0 ≡ greatest_count (count_in counts) link.parents i) →
        HoldsCounts n grown branches_grown makers_grown (counts ++ row ∷ [])
    counts_hold counts row rows wide own others =
        let B : Branching = branching_of branches makers in
        let C : Branching = branching_of branches_grown makers_grown in
        let len : length grown ≡ length L + 1 = length_push L link in
        let before : (x : ℕ) → x < length L → get_or (counts ++ row ∷ []) x [] ≡ get_or counts x [] =
        λ x h. (let rows_len = rows.len in get_or_append_left counts (row ∷ []) [] x (omega arith)) in
        let last : get_or (counts ++ row ∷ []) (length L) [] ≡ row = get_or_push counts row [] (length L) rows.len in
        record {
          len = length_push counts row ∙ (ap (λ (k : ℕ). k + 1) rows.len ∙ sym len);
          row = λ x h. elim (cases_lt x (length L)) [
            | inl earlier ↦ subst (λ r. CountsAncestors grown C x (λ i. get_or r i 0)) (sym (before x earlier))
                (counts_kept n L link held.shaped fits B C held.lines row_taken x (count_in counts x) earlier (rows.row x earlier))
            | inr past ↦
                (let same : x ≡ length L = omega arith in
                subst (λ k. CountsAncestors grown C k (count_in (counts ++ row ∷ []) k)) (sym same)
                (subst (λ r. CountsAncestors grown C (length L) (λ i. get_or r i 0)) (sym last)
                (counts_last counts row rows own others)))
          ];
          wide = λ x h. elim (cases_lt x (length L)) [
            | inl earlier ↦ subst (λ r. member_count n ≤ length r) (sym (before x earlier)) (rows.wide x earlier)
            | inr past ↦ (let same : x ≡ length L = omega arith in subst (λ r. member_count n ≤ length r) (sym (ap (λ k. get_or (counts ++ row ∷ []) k []) same ∙ last)) wide)
          ];
        }
