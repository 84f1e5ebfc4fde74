use Rattle.std.proofs.Common.{rules, ◌≡◌, length, arith}
use Rattle.hg_journal.proofs.BatchLaws.{none_keeps}
use Rattle.hg_journal.proofs.tail.Tail.store.Goals as goal

pub returns-then-is_empty-clause-keeps : goal.returns-then-is_empty-clause-keeps
returns-then-is_empty-clause-keeps g c =
    let none : length c.args.self.now.records ≡ 0 = search (rules, arith) in
    none_keeps g.V.Verifier.accepts (g.D.Disk.file c.args.disk.now) c.args.self.now.gate c.args.self.now.records none
