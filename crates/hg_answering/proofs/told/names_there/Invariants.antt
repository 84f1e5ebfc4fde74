use Rattle.std.proofs.Common.{◌≡◌, [], None, get_or, is_some}
use Rattle.std.specs.Prelude.{unwrap_or}
use Rattle.hg_model.specs.Places.{list_below}
use Rattle.hg_answering.proofs.told.names_there.Given as goal

abbrev pub invariant-loop-m : goal.invariant-loop-m
invariant-loop-m l = l.found.items ≡ list_below (λ m. unwrap_or (get_or l.names m None) []) l.m (λ m. is_some (get_or l.names m None))
