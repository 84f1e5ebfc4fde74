use Rattle.std.proofs.Common.{◌≡◌, ◌++◌, take}
use Rattle.std.specs.List.{AllByRecursion}
use Rattle.hg_proof.specs.Certificate.{IsEntry, entries_bytes}
use Rattle.hg_proof.proofs.writing.push_entries.Given as goal

abbrev pub invariant-loop-p : goal.invariant-loop-p
invariant-loop-p l = record {
  bytes : l.bytes.items ≡ l.initial.bytes.items ++ entries_bytes (take l.p-index l.order);
  sized : AllByRecursion IsEntry (take l.p-index l.order);
}
