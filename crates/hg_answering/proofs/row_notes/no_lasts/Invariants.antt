use Rattle.std.proofs.Common.{◌≡◌, None}
use Rattle.hg_model.specs.Places.{table}
use Rattle.hg_answering.proofs.row_notes.no_lasts.Given as goal

abbrev pub invariant-loop : goal.invariant-loop
invariant-loop l = l.lasts.items ≡ table (λ _. None) l.counter
