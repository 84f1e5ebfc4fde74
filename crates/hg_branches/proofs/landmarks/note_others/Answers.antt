use Rattle.std.proofs.Common.{◌≡◌, ◌≤◌, ◌<◌, ◌∙◌, ap, sym, subst, inl, inr, slice_index, arith}
use Rattle.std.proofs.lemmas.Bool.{cases_eq, cases_lt}
use Rattle.std.proofs.lemmas.List.{get_or_past}
use Rattle.hg_branches.specs.Landmarks.{LandmarkView, landmark_at, noted_once}
use Rattle.hg_branches.proofs.LandmarkLaws.{not_counted}
use Rattle.hg_branches.proofs.landmarks.note_others.Goals as goal

-- the landmarks of the branches that are passed over stay, as they count nothing
pub loop-c-preserved : goal.loop-c-preserved
loop-c-preserved c =
    let old = c.args.landmarks.now in
    let row = c.args.counts.now.row in
    record {
      len = c.note_more.ensures.len ∙ c.loop-c.invariant.len;
      done = λ i h past before. elim (cases_lt (landmark_at old i).branch c.loop-c.c) [
        | inl earlier ↦ c.note_more.ensures.off i (λ same. absurd (omega (arith, earlier, same, ap (λ (k : LandmarkView). k.branch) (c.loop-c.invariant.done i h past earlier)))) ∙ c.loop-c.invariant.done i h past earlier
        | inr not_before ↦ elim (cases_eq (landmark_at old i).branch c.loop-c.c) [
          | inl here ↦
              (let was = c.loop-c.invariant.left i (omega (arith, here)) in
              c.note_more.ensures.on i (omega (arith, h, c.loop-c.invariant.len)) (ap (λ (k : LandmarkView). k.branch) was ∙ here)
              ∙ (ap (noted_once c.at-in-loop-c.result c.args.next) was
              ∙ (ap (λ n. noted_once n c.args.next (landmark_at old i)) c.at-in-loop-c.ensures ∙ ap (λ j. noted_once (slice_index row j) c.args.next (landmark_at old i)) (sym here))))
          | inr other ↦
              (let was = c.loop-c.invariant.left i (omega (arith, not_before)) in
              let none : slice_index row (landmark_at old i).branch ≡ 0 = c.next_after-c.ensures.between (landmark_at old i).branch (omega (arith, not_before, other)) before in
              let some = c.requires.chains.low i h in
              c.note_more.ensures.off i (λ same. absurd (other (sym (ap (λ (k : LandmarkView). k.branch) was) ∙ same)))
              ∙ (was ∙ sym (not_counted (slice_index row (landmark_at old i).branch) c.args.next (landmark_at old i) (omega (arith, none, some)))))
        ]
      ];
      left = λ i past. (let was = c.loop-c.invariant.left i (omega (arith, past, c.next_after-c.ensures.later)) in
          c.note_more.ensures.off i (λ same. absurd (omega (arith, past, c.next_after-c.ensures.later, ap (λ (k : LandmarkView). k.branch) was, same))) ∙ was);
      own = λ i own. (let was = c.loop-c.invariant.own i own in
          c.note_more.ensures.off i (λ same. absurd (omega (arith, own, ap (λ (k : LandmarkView). k.branch) was, same, c.loop-c.invariant.past))) ∙ was);
      past = omega (arith, c.loop-c.invariant.past, c.next_after-c.ensures.later);
    }

-- each landmark stands on a branch that has a number
pub returns-clause-done : goal.returns-clause-done
returns-clause-done c = λ b past i h on.
    elim (cases_lt b c.loop-c.c) [
      | inl before ↦ c.loop-c.invariant.done i h (subst (λ j. c.args.counts.now.members ≤ j) (sym on) past) (subst (λ j. j < c.loop-c.c) (sym on) before)
          ∙ ap (λ j. noted_once (slice_index c.args.counts.now.row j) c.args.next (landmark_at c.args.landmarks.now i)) on
      | inr later ↦
          (let none : slice_index c.args.newest.now b ≡ 0 = get_or_past c.args.newest.now b 0 (omega (arith, later, c.loop-c-test.false)) in
          absurd ((c.requires.newest b).none_later i (omega arith) h on))
    ]
