use Rattle.std.proofs.Common.{◌≡◌, take}
use Rattle.hg_history.specs.Adding.{add_marks}
use Rattle.hg_kept.proofs.marking.add_marks.Given as goal

abbrev pub invariant-loop-place : goal.invariant-loop-place
invariant-loop-place l = record { marks = l.marks; count = l.count } ≡ add_marks l.fn.marks (take l.place-index l.found)
