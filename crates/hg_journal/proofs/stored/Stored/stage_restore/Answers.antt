use Rattle.std.proofs.Common.{rules, ◌≤◌, length, sym, ◌∙◌, arith}
use Rattle.hg_node.specs.Restore.{restore_changes}
use Rattle.hg_journal.specs.Records.{spelled}
use Rattle.hg_journal.specs.Staging.{IsStaged}
use Rattle.hg_journal.proofs.BatchLaws.{length-joined}
use Rattle.hg_journal.proofs.RestoreLaws.{restore_next, restore_none, restored_short}
use Rattle.hg_journal.proofs.StagingLaws.{staged_more, staged_same, there_is, written_front}
use Rattle.hg_journal.proofs.stored.Stored.stage_restore.Goals as goal

pub add-requires-clause-small : goal.add-requires-clause-small
add-requires-clause-small g c =
    let accepts = g.V.Verifier.accepts in
    omega (arith, restored_short accepts c.in-Some.node c.args.bytes.now c.in-Accepted.field-0 c.restores_are_makes.ensures.one c.histories_are_short.ensures.short (λ i. omega (arith, c.type_inv.bytes i)) (sym c.in_ok-answer.ensures.answer ∙ c.in-Accepted.is))

pub add-requires-clause-room : goal.add-requires-clause-room
add-requires-clause-room g c =
    let accepts = g.V.Verifier.accepts in
    let room : length c.self.inside.tail.records ≤ 64000 = search rules in
    omega (arith, room, restored_short accepts c.in-Some.node c.args.bytes.now c.in-Accepted.field-0 c.restores_are_makes.ensures.one c.histories_are_short.ensures.short (λ i. omega (arith, c.type_inv.bytes i)) (sym c.in_ok-answer.ensures.answer ∙ c.in-Accepted.is))

pub invariant_of-self-in-Accepted : goal.invariant_of-self-in-Accepted
invariant_of-self-in-Accepted g c =
    let accepts = g.V.Verifier.accepts in
    let room : length c.self.inside.tail.records ≤ 64000 = search rules in
    let staged : IsStaged accepts c.self.inside.written c.self.inside.tail.gate c.self.inside.tail.records c.in-Some.node = search rules in
    let short = restored_short accepts c.in-Some.node c.args.bytes.now c.in-Accepted.field-0 c.restores_are_makes.ensures.one c.histories_are_short.ensures.short (λ i. omega (arith, c.type_inv.bytes i)) (sym c.in_ok-answer.ensures.answer ∙ c.in-Accepted.is) in
    let leads = restore_next accepts c.in-Some.node c.restore.new.self c.args.bytes.now c.in-Accepted.field-0 c.restores_are_makes.ensures.one (λ i. omega (arith, c.type_inv.bytes i)) (sym c.in_ok-answer.ensures.answer ∙ c.in-Accepted.is) c.in_ok-answer.ensures.ok in
    rw c.add.ensures (
      there_is _ c.restore.new.self (staged_more accepts c.in-Some.node c.restore.new.self c.self.inside.written c.self.inside.tail.gate c.self.inside.tail.records staged
          (restore_changes accepts c.in-Some.node c.args.bytes.now) 2 c.args.bytes.now c.in_ok-answer.ensures.ok leads short room),
      λ closed. absurd cc,
    )

pub invariant_of-self-in_default-answer : goal.invariant_of-self-in_default-answer
invariant_of-self-in_default-answer g c =
    let accepts = g.V.Verifier.accepts in
    let staged : IsStaged accepts c.self.inside.written c.self.inside.tail.gate c.self.inside.tail.records c.in-Some.node = search rules in
    let none = restore_none accepts c.in-Some.node c.restore.new.self c.args.bytes.now (λ place is. c.in_default-answer.not-Accepted place (c.in_ok-answer.ensures.answer ∙ is)) c.in_ok-answer.ensures.ok in
    (there_is _ c.restore.new.self (staged_same accepts c.in-Some.node c.restore.new.self c.self.inside.written c.self.inside.tail.gate c.self.inside.tail.records staged none), λ closed. absurd cc)

pub returns-in-Accepted-clause-frame : goal.returns-in-Accepted-clause-frame
returns-in-Accepted-clause-frame g c =
    let accepts = g.V.Verifier.accepts in
    let staged : IsStaged accepts c.self.inside.written c.self.inside.tail.gate c.self.inside.tail.records c.in-Some.node = search rules in
    let short = restored_short accepts c.in-Some.node c.args.bytes.now c.in-Accepted.field-0 c.restores_are_makes.ensures.one c.histories_are_short.ensures.short (λ i. omega (arith, c.type_inv.bytes i)) (sym c.in_ok-answer.ensures.answer ∙ c.in-Accepted.is) in
    let same = written_front c.self.inside.written c.in-Some.node c.restore.new.self (restore_changes accepts c.in-Some.node c.args.bytes.now) c.in_ok-answer.ensures.ok staged.within in
    record {
      closed = search rules;
      never = search rules;
      shut = search rules;
      written = search (rules, same);
      few = search (rules, arith, short, length-joined c.self.inside.tail.records (spelled 2 c.args.bytes.now));
      name = search rules;
      gate = search rules;
    }
