use Rattle.std.proofs.Common.{rules, ◌≡◌, ◌+◌, ◌++◌, ◌∷◌, [], ℕ, length, subst, arith}
use Rattle.hg_journal.specs.Stored.{IsStored}
use Rattle.hg_journal.proofs.Steps.{append_stops, appended_stored}
use Rattle.hg_journal.proofs.tail.Tail.store_batch.Goals as goal

pub returns-in_err-stored-clause-keeps : goal.returns-in_err-stored-clause-keeps
returns-in_err-stored-clause-keeps g c v w leads stored =
    let piece : c.deref.result.now ≡ c.args.self.now.records ++ 0 ∷ [] = search rules in
    append_stops g.V.Verifier.accepts v w c.args.self.now.records leads c.deref.result.now piece c.args.self.now.gate _ _ stored (search rules) (search rules)

pub returns-clause-stored : goal.returns-clause-stored
returns-clause-stored g c v w leads stored =
    let piece : c.deref.result.now ≡ c.args.self.now.records ++ 0 ∷ [] = search rules in
    let next : c.args.self.now.gate + 1 + length c.args.self.now.records ≡ c.self.inside.gate + c.len-count.result = search (rules, arith) in
    subst (λ (k : ℕ). IsStored g.V.Verifier.accepts (g.D.Disk.file c.append-stored.new.disk) w k) next
    (appended_stored g.V.Verifier.accepts v w c.args.self.now.records leads c.deref.result.now piece c.args.self.now.gate _ _ stored (search rules) (search rules))

pub returns-clause-keeps : goal.returns-clause-keeps
returns-clause-keeps g c v w leads stored =
    let piece : c.deref.result.now ≡ c.args.self.now.records ++ 0 ∷ [] = search rules in
    append_stops g.V.Verifier.accepts v w c.args.self.now.records leads c.deref.result.now piece c.args.self.now.gate _ _ stored (search rules) (search rules)
