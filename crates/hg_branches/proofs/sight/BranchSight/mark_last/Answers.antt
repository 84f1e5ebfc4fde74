use Rattle.std.proofs.Common.{◌≡◌, ◌<◌, ◌≤◌, ◌-◌, ◌+◌, ◌∙◌, ℕ, nat_lt, cond, List, [], ◌∷◌, ◌++◌, sym, ap, subst, length, slice_index, slice_set, inl, inr, arith}
use Rattle.std.proofs.lemmas.Bool.{cases_lt, lt-ltb}
use Rattle.std.proofs.lemmas.List.{get_or_append_left, get_or_past, get_or_read, length-set, length_push}
use Rattle.hg_model.specs.Stakes.{Stakes, member_count, stake_of}
use Rattle.hg_branches.specs.Firsts.{none_by}
use Rattle.hg_branches.specs.Landmarks.{LandmarkView, landmark_at, no_landmark, HoldsFirsts, HoldsLandmarks, HoldsTops, IsSpareLandmark, spare_room}
use Rattle.hg_branches.proofs.LandmarkLaws.{landmarks_begun, holds_begun}
use Rattle.hg_branches.proofs.ChainLaws.{begun_last, tops_begun}
use Rattle.hg_branches.proofs.HeldLaws.{own_stake}
use Rattle.hg_branches.proofs.sight.BranchSight.mark_last.Goals as goal

-- a member's own branch is there, and has its stake
reached_begun : (n : Stakes) (b stake long reached : ℕ) → long ≡ member_count n → reached ≡ cond (nat_lt b long) stake 0 → stake_of n b ≤ stake → stake_of n b ≤ reached
reached_begun n b stake long reached is told enough = elim (cases_lt b long) [
  | inl own ↦ (let all : reached ≡ stake = told ∙ ap (λ t. cond t stake 0) (lt-ltb b long own) in omega arith)
  | inr past ↦ (let none : stake_of n b ≡ 0 = get_or_past n b 0 (omega arith) in omega arith)
]

pub at-stake-requires : goal.at-stake-requires
at-stake-requires c =
    let s = c.self.inside in
    let makers = s.makers.items in
    let held = c.self.invariant in
    let end : ℕ = c.len-end.result in
    let y : ℕ = end - 1 in
    let some : 0 < end = (let less = c.if-last_end-end.true in omega arith) in
    let last : length s.links.items ≡ end = omega arith in
    let rows = held.branches.rows in
    let branch : ℕ = c.index-branch.result.now in
    let on : branch ≡ slice_index s.branches.items y = get_or_read s.branches.items y branch (omega arith) c.index-branch.ensures 0 in
    let known : slice_index s.branches.items y < length makers = held.branches.known y (omega arith) in
    let maker : c.index-maker.result.now ≡ slice_index makers branch = get_or_read makers branch c.index-maker.result.now (omega arith) c.index-maker.ensures 0 in
    let member : slice_index makers branch < member_count s.stakes = held.branches.members branch (omega arith) in
    omega arith

pub begin-requires : goal.begin-requires
begin-requires c =
    let s = c.self.inside in
    let held = c.self.invariant in
    let spare = subst (IsSpareLandmark (member_count s.stakes) (none_by s.wide)) (sym c.take.ensures.value ∙ c.in-Some.is) held.spare in
    let none_high : none_by s.wide ≤ c.in-Some.landmark.none = spare.1 in
    let room = held.rows_room in
    let last : length s.links.items ≡ c.len-end.result = omega arith in
    omega arith

pub invariant_of-self : goal.invariant_of-self
invariant_of-self c =
    let s = c.self.inside in
    let n = s.stakes in
    let L = s.links.items in
    let branches = s.branches.items in
    let makers = s.makers.items in
    let landmarks = s.landmarks.items in
    let held = c.self.invariant in
    let end : ℕ = c.len-end.result in
    let y : ℕ = end - 1 in
    let k = c.begin.new.self in
    let some : 0 < end = (let less = c.if-last_end-end.true in omega arith) in
    let last : length L ≡ end = omega arith in
    let end_is : k.end ≡ end = c.begin.ensures.end in
    let rows = held.branches.rows in
    let branch : ℕ = c.index-branch.result.now in
    let branch_is : k.branch ≡ branch = c.begin.ensures.branch in
    let on : branch ≡ slice_index branches y = get_or_read branches y branch (omega arith) c.index-branch.ensures 0 in
    let known : slice_index branches y < length makers = held.branches.known y (omega arith) in
    let newest_all = held.landmarks.newest_all in
    let before : c.index.result.now ≡ slice_index s.newest.items branch = get_or_read s.newest.items branch c.index.result.now (omega arith) c.index.ensures 0 in
    let spare = subst (IsSpareLandmark (member_count n) (none_by s.wide)) (sym c.take.ensures.value ∙ c.in-Some.is) held.spare in
    let row_long : length c.in-Some.landmark.firsts ≡ member_count n = spare.0 in
    let none_high : none_by s.wide ≤ c.in-Some.landmark.none = spare.1 in
    let none_is : k.none ≡ c.in-Some.landmark.none = c.begin.ensures.none in
    let room = held.rows_room in
    let one : spare_room s.spare ≡ 1 = ap spare_room (sym c.take.ensures.value ∙ c.in-Some.is) in
    let none : spare_room c.take.new.self ≡ 0 = ap spare_room c.take.ensures.after in
    let entries : length s.numbers.items ≡ k.end = omega arith in
    let number : c.len-number.result ≡ length landmarks + 1 = omega arith in
    let maker : c.index-maker.result.now ≡ slice_index makers branch = get_or_read makers branch c.index-maker.result.now (omega arith) c.index-maker.ensures 0 in
    let weighed : stake_of n k.branch ≤ k.reached = subst (λ b. stake_of n b ≤ k.reached) (sym branch_is)
    (reached_begun n branch c.at-stake.result (length c.in-Some.landmark.firsts) k.reached row_long c.begin.ensures.reached
    (subst (λ w. stake_of n branch ≤ w) (sym (c.at-stake.ensures ∙ ap (stake_of n) maker)) (own_stake n L branches makers s.ends.items held.branches branch))) in
    let first : HoldsFirsts n L branches makers k = holds_begun n L branches makers s.ends.items held.branches k (omega arith) (omega arith) (c.begin.ensures.long ∙ row_long)
    (ap (λ e. slice_index branches (e - 1)) end_is ∙ (sym on ∙ sym branch_is))
    (λ low. ap (slice_index k.firsts) branch_is ∙ (c.begin.ensures.itself (omega (arith, row_long, branch_is, low)) ∙ sym end_is))
    (λ b low other. c.begin.ensures.others b (omega (arith, row_long, low)) (λ e. other (e ∙ sym branch_is)) ∙ sym none_is) weighed (omega arith) in
    let later : 0 < length landmarks → (landmark_at landmarks (length landmarks - 1)).end < k.end = λ some.
    let kept_is = c.deref.ensures.value in
    let less = c.if-last_end-end.true in
    let is : c.last_end.result ≡ (landmark_at landmarks (length landmarks - 1)).end = subst (λ (ks : List LandmarkView). 0 < length ks → c.last_end.result ≡ (landmark_at ks (length ks - 1)).end) kept_is c.last_end.ensures.last some in
    omega arith in
    let begun = landmarks_begun n L branches makers landmarks s.newest.items s.numbers.items held.landmarks k first (omega arith) entries (omega arith) later
    (c.begin.ensures.before ∙ (before ∙ ap (slice_index s.newest.items) (sym branch_is))) in
    record {
      branches = held.branches;
      several = held.several;
      counts = held.counts;
      forks = held.forks;
      landmarks = subst (λ (items : List LandmarkView). HoldsLandmarks n L branches makers items (slice_set s.newest.items branch c.len-number.result) (slice_set s.numbers.items y c.len-number.result)) (sym c.push_reserved.ensures.items)
          (subst (λ j. HoldsLandmarks n L branches makers (landmarks ++ k ∷ []) (slice_set s.newest.items branch j) (slice_set s.numbers.items y j)) (sym number)
          (subst (λ b. HoldsLandmarks n L branches makers (landmarks ++ k ∷ []) (slice_set s.newest.items b (length landmarks + 1)) (slice_set s.numbers.items y (length landmarks + 1))) branch_is
          (subst (λ e. HoldsLandmarks n L branches makers (landmarks ++ k ∷ []) (slice_set s.newest.items k.branch (length landmarks + 1)) (slice_set s.numbers.items (e - 1) (length landmarks + 1))) end_is begun)));
      tops = subst (λ (items : List LandmarkView). HoldsTops items c.raise.new.self.ends) (sym c.push_reserved.ensures.items)
          (subst (HoldsTops (landmarks ++ k ∷ [])) (sym c.raise.ensures.ends)
          (subst (λ b. HoldsTops (landmarks ++ k ∷ []) (slice_set s.tops.ends b end)) branch_is
          (subst (λ e. HoldsTops (landmarks ++ k ∷ []) (slice_set s.tops.ends k.branch e)) end_is
          (tops_begun landmarks k held.landmarks.chains first.some later s.tops.ends held.tops (let tops_all = held.tops_all in omega arith)))));
      tops_all = ap length c.raise.ensures.ends ∙ (length-set s.tops.ends branch end ∙ held.tops_all);
      counts_members = held.counts_members;
      spare = subst (IsSpareLandmark (member_count n) (none_by s.wide)) (sym c.take.ensures.after) tt;
      widths = λ i h. elim (cases_lt i (length landmarks)) [
        | inl earlier ↦ (let was = held.widths i earlier in
            let is : (landmark_at (landmarks ++ k ∷ []) i).none ≡ (landmark_at landmarks i).none = ap (λ (k : LandmarkView). k.none) (get_or_append_left landmarks (k ∷ []) no_landmark i earlier) in
            rw c.push_reserved.ensures.items (omega arith))
        | inr past ↦ (let is : (landmark_at (landmarks ++ k ∷ []) i).none ≡ k.none =
            ap (λ (k : LandmarkView). k.none) (begun_last landmarks k held.landmarks.chains i (omega (arith, ap length c.push_reserved.ensures.items, length_push landmarks k))) in
            rw c.push_reserved.ensures.items (omega arith))
      ];
      rows_room = held.rows_room;
      links_room = held.links_room;
      branches_room = held.branches_room;
      makers_room = held.makers_room;
      ends_room = held.ends_room;
      counts_room = held.counts_room;
      forked_room = held.forked_room;
      newest_room = held.newest_room;
      tops_room = omega (arith, c.raise.ensures.room, held.tops_room);
      numbers_room = held.numbers_room;
      landmarks_room = omega (arith, none, one);
    }
