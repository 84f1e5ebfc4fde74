use Rattle.std.proofs.Common.{◌≡◌, ◌-◌}
use Rattle.hg_proof.specs.Reading.{entries_part}
use Rattle.hg_proof.proofs.PartLaws.{after}
use Rattle.hg_proof.proofs.reading.entries_part.Given as goal

abbrev pub invariant-loop : goal.invariant-loop
invariant-loop l = entries_part l.size l.count l.bytes ≡ after l.entries.items (entries_part l.size (l.count - l.counter) l.left)
