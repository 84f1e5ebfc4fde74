use Rattle.std.proofs.Common.{take}
use Rattle.hg_service.specs.Binding.{entry_lines}
use Rattle.hg_telling.specs.Hashing.{Hashes}
use Rattle.hg_telling.proofs.digest.hash_entries.Given as goal

abbrev pub invariant-loop-entry : goal.invariant-loop-entry
invariant-loop-entry l = Hashes l.initial.hasher l.hasher (entry_lines (take l.entry-index l.entries))
