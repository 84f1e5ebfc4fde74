use Rattle.std.proofs.Common.{◌≡◌, ◌∙◌, ap, inl, inr, slice_index, List, ℕ, refl, arith}
use Rattle.std.proofs.lemmas.Bool.{cases_lt}
use Rattle.std.proofs.lemmas.List.{get_or-take}
use Rattle.hg_model.specs.Counts.{numbers_of}
use Rattle.hg_branches.specs.Landmarks.{landmark_at, noted_once}
use Rattle.hg_branches.proofs.ChainLaws.{stands_noted, left_fresh, left_noted, chains_noted, newest_noted}
use Rattle.hg_branches.proofs.landmarks.note_all.Goals as goal

pub note_others-requires-clause-chains : goal.note_others-requires-clause-chains
note_others-requires-clause-chains c =
    let same = stands_noted (numbers_of c.own-2.result) c.args.next c.args.landmarks.now c.note_own.new.landmarks c.note_own.ensures.done c.note_own.ensures.left in
    chains_noted c.args.landmarks.now c.note_own.new.landmarks same c.note_own.ensures.len c.requires.chains

pub note_others-requires-clause-newest : goal.note_others-requires-clause-newest
note_others-requires-clause-newest c =
    let same = stands_noted (numbers_of c.own-2.result) c.args.next c.args.landmarks.now c.note_own.new.landmarks c.note_own.ensures.done c.note_own.ensures.left in
    newest_noted c.args.landmarks.now c.note_own.new.landmarks same c.note_own.ensures.len c.args.newest.now c.requires.newest

pub note_others-requires-clause-noted : goal.note_others-requires-clause-noted
note_others-requires-clause-noted c = λ b past.
    let same = stands_noted (numbers_of c.own-2.result) c.args.next c.args.landmarks.now c.note_own.new.landmarks c.note_own.ensures.done c.note_own.ensures.left in
    left_noted (slice_index c.args.known.now.row b) (slice_index c.args.counts.now.row b) c.args.next b c.args.landmarks.now c.note_own.new.landmarks same c.note_own.ensures.len
    (λ i on. c.note_own.ensures.left i (omega (arith, on, past, c.own-2.ensures.len))) (c.requires.noted b)

pub note_others-requires-clause-fresh : goal.note_others-requires-clause-fresh
note_others-requires-clause-fresh c = λ b past.
    let same = stands_noted (numbers_of c.own-2.result) c.args.next c.args.landmarks.now c.note_own.new.landmarks c.note_own.ensures.done c.note_own.ensures.left in
    left_fresh (slice_index c.args.known.now.row b) c.args.next b c.args.landmarks.now c.note_own.new.landmarks same c.note_own.ensures.len
    (λ i on. c.note_own.ensures.left i (omega (arith, on, past, c.own-2.ensures.len))) (c.requires.fresh b)

-- a member's own branch was noted first, and any other one after it
pub returns-clause-each : goal.returns-clause-each
returns-clause-each c = λ i h.
    let old = landmark_at c.args.landmarks.now i in
    let mid = landmark_at c.note_own.new.landmarks i in
    let members = c.args.counts.now.members in
    let row = c.args.counts.now.row in
    let same = stands_noted (numbers_of c.own-2.result) c.args.next c.args.landmarks.now c.note_own.new.landmarks c.note_own.ensures.done c.note_own.ensures.left i h in
    let on : mid.branch ≡ old.branch = same.1 in
    elim (cases_lt old.branch members) [
      | inl own ↦
          (let taken : slice_index (numbers_of c.own-2.result) old.branch ≡ slice_index row old.branch =
          ap (λ (r : List ℕ). slice_index r old.branch) c.own-2.ensures.value ∙ get_or-take members row old.branch 0 own in
          c.note_others.ensures.left i (omega (arith, on, own))
          ∙ (c.note_own.ensures.done old.branch (omega (arith, own, c.own-2.ensures.len)) i h refl
          ∙ ap (λ n. noted_once n c.args.next old) taken))
      | inr other ↦
          c.note_others.ensures.done old.branch other i (omega (arith, h, c.note_own.ensures.len)) on
          ∙ ap (noted_once (slice_index row old.branch) c.args.next) (c.note_own.ensures.left i (omega (arith, other, c.own-2.ensures.len)))
    ]
