use Rattle.std.proofs.Common.{List, ℕ, codes, subst, take, ◌++◌}
use Rattle.hg_service.specs.Binding.{entry_lines, entry_text}
use Rattle.hg_telling.proofs.HashLaws.{entries_more, hashes_then}
use Rattle.hg_telling.specs.Hashing.{Hashes}
use Rattle.hg_telling.proofs.digest.hash_entries.Goals as goal

pub loop-entry-preserved : goal.loop-entry-preserved
loop-entry-preserved c =
    let entries = c.args.entries.now in
    let i = c.loop-entry.entry-index in
    let entry = c.entry-item.result in
    subst (λ (t : List ℕ). Hashes c.args.hasher.now c.hash_entry.new.hasher t) (entries_more entries i entry c.entry-item.is c.loop-entry-test.true)
    (hashes_then _ _ _ (entry_lines (take i entries)) (entry_text entry ++ codes "\n") c.loop-entry.invariant c.hash_entry.ensures)
