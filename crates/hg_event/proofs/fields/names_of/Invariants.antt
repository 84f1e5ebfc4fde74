use Rattle.std.proofs.Common.{◌≡◌, length, take}
use Rattle.hg_event.specs.Names.{lent_names}
use Rattle.hg_event.proofs.NameLists.{IsReadTo}
use Rattle.hg_event.proofs.fields.names_of.Given as goal

abbrev pub invariant-loop-place : goal.invariant-loop-place
invariant-loop-place l = record {
  read : IsReadTo l.size l.len l.bytes l.place (lent_names (take l.place l.names)) l.rest;
  size : length l.names ≡ 4;
}
