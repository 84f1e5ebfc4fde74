use Rattle.std.proofs.Common.{◌≡◌, false, get_or}
use Rattle.hg_model.specs.Places.{list_below}
use Rattle.hg_answering.proofs.told.members_flagged.Given as goal

abbrev pub invariant-loop-m : goal.invariant-loop-m
invariant-loop-m l = l.members.items ≡ list_below (λ m. m) l.m (λ m. get_or l.flags m false)
