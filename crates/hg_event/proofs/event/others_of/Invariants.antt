use Rattle.std.proofs.Common.{◌≡◌, length, take}
use Rattle.hg_event.specs.Names.{lent_names}
use Rattle.hg_event.proofs.event.others_of.Given as goal

abbrev pub invariant-loop-place : goal.invariant-loop-place
invariant-loop-place l = record {
  same : lent_names (take l.place l.lent) ≡ take l.place l.names;
  size : length l.lent ≡ 4;
}
