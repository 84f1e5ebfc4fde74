use Rattle.std.proofs.Common.{sym, inl, inr, arith}
use Rattle.std.proofs.lemmas.Bool.{cases_lt}
use Rattle.hg_branches.specs.Landmarks.{landmark_at}
use Rattle.hg_branches.proofs.LandmarkLaws.{not_counted}
use Rattle.hg_branches.proofs.landmarks.note_more.Goals as goal

-- what is not counted more needs no note
pub returns-else-least-count-clause-on : goal.returns-else-least-count-clause-on
returns-else-least-count-clause-on c = λ i h on. elim (cases_lt c.args.least (landmark_at c.args.landmarks.now i).end) [
  | inl later ↦ sym (not_counted c.args.count c.args.next (landmark_at c.args.landmarks.now i) (omega (arith, later, c.if-least-count.false)))
  | inr known ↦ sym (c.requires.noted i h on known)
]
