use Rattle.std.proofs.Common.{rules}
use Rattle.hg_journal.proofs.StagingLaws.{gate_within, staged_small, stops_staged}
use Rattle.hg_journal.proofs.stored.Stored.commit.Goals as goal

pub store-requires-clause-near : goal.store-requires-clause-near
store-requires-clause-near g c =
    staged_small g.V.Verifier.accepts c.in-Some.node c.self.inside.written c.self.inside.tail.gate c.self.inside.tail.records (c.self.invariant.0 c.in-Some.node c.in-Some.is) c.is_node.ensures

pub store-requires-clause-within : goal.store-requires-clause-within
store-requires-clause-within g c =
    gate_within g.V.Verifier.accepts (g.D.Disk.file c.args.disk.now) c.args.self.now c.in-Some.node c.self.inside.written c.self.inside.tail.gate c.self.inside.tail.records (search rules) (search rules)
    (c.self.invariant.0 c.in-Some.node c.in-Some.is) c.requires.written

pub returns-in-Ok-clause-stops : goal.returns-in-Ok-clause-stops
returns-in-Ok-clause-stops g c =
    stops_staged g.V.Verifier.accepts (g.D.Disk.file c.args.disk.now) c.args.self.now c.in-Some.node c.self.inside.written c.self.inside.tail.gate c.self.inside.tail.records (search rules) (search rules)
    (c.self.invariant.0 c.in-Some.node c.in-Some.is) c.requires.written (g.D.Disk.file c.store.new.disk) (search rules) c.store.ensures.keeps

pub returns-in-Err-clause-stops : goal.returns-in-Err-clause-stops
returns-in-Err-clause-stops g c =
    stops_staged g.V.Verifier.accepts (g.D.Disk.file c.args.disk.now) c.args.self.now c.in-Some.node c.self.inside.written c.self.inside.tail.gate c.self.inside.tail.records (search rules) (search rules)
    (c.self.invariant.0 c.in-Some.node c.in-Some.is) c.requires.written (g.D.Disk.file c.store.new.disk) (search rules) c.store.ensures.keeps
