use Rattle.std.proofs.Common.{◌<◌, ℕ}
use Rattle.check_threads.specs.Rows.{IsSpelledAlike}
use Rattle.check_threads.proofs.players.have_same_rows.Given as goal

abbrev pub invariant-loop-place : goal.invariant-loop-place
invariant-loop-place l = (x : ℕ) → x < l.place → IsSpelledAlike l.one l.other x
