use Rattle.std.proofs.Common.{rules, ◌≤◌, length, refl, subst, arith}
use Rattle.std.proofs.lemmas.Option.{slice_get_within}
use Rattle.hg_life.specs.Calls.{IsMaking, make_changes}
use Rattle.hg_life.specs.NodeView.{node_rows}
use Rattle.hg_life.specs.Spelling.{spelling}
use Rattle.hg_life.specs.declared.answers.MakeAnswer.TheVariants.{Made}
use Rattle.hg_journal.specs.Staging.{IsStaged}
use Rattle.hg_journal.proofs.StagingLaws.{is_same, staged_more, staged_same, there_is}
use Rattle.hg_journal.proofs.StoredLaws.{made_next, make_none}
use Rattle.hg_journal.proofs.stored.Stored.stage_make.Goals as goal

pub add_made-requires-clause-place : goal.add_made-requires-clause-place
add_made-requires-clause-place g c =
    let accepts = g.V.Verifier.accepts in
    let making : IsMaking accepts c.in-Some.node c.args.others.now c.args.time c.args.payload.now (Made c.in-Made.place) c.make.new.self = rw c.in-Made.is at c.in_ok-answer.ensures.ok in
    let law = c.stored_changes_replay.ensures.made accepts c.in-Some.node c.make.new.self c.args.others.now c.args.time c.args.payload.now c.in-Made.place c.is_node.ensures c.requires.few (omega (arith, c.ranges.time)) making in
    slice_get_within (node_rows c.make.new.self) c.in-Made.place law.0 law.1

pub invariant_of-self-in-Made : goal.invariant_of-self-in-Made
invariant_of-self-in-Made g c =
    let accepts = g.V.Verifier.accepts in
    let room : length c.self.inside.tail.records ≤ 64000 = search rules in
    let staged : IsStaged accepts c.self.inside.written c.self.inside.tail.gate c.self.inside.tail.records c.in-Some.node = search rules in
    let making : IsMaking accepts c.in-Some.node c.args.others.now c.args.time c.args.payload.now (Made c.in-Made.place) c.make.new.self = rw c.in-Made.is at c.in_ok-answer.ensures.ok in
    let law = c.stored_changes_replay.ensures.made accepts c.in-Some.node c.make.new.self c.args.others.now c.args.time c.args.payload.now c.in-Made.place c.is_node.ensures c.requires.few (omega (arith, c.ranges.time)) making in
    let adds = c.add_made.ensures.records law.0 law.1 in
    rw (adds.1, c.add_made.ensures.gate) (
      there_is _ c.make.new.self (staged_more accepts c.in-Some.node c.make.new.self c.self.inside.written c.self.inside.tail.gate c.self.inside.tail.records staged
          (make_changes c.in-Some.node c.args.others.now c.args.time c.args.payload.now making.sig) 2 (spelling law.0) making.grown
          (made_next accepts c.in-Some.node c.make.new.self c.in-Made.place law.0 (law.1, law.2)) adds.0 room),
      λ closed. absurd cc,
    )

pub invariant_of-self-in_default-answer : goal.invariant_of-self-in_default-answer
invariant_of-self-in_default-answer g c =
    let accepts = g.V.Verifier.accepts in
    let staged : IsStaged accepts c.self.inside.written c.self.inside.tail.gate c.self.inside.tail.records c.in-Some.node = search rules in
    let none = make_none accepts c.in-Some.node c.make.new.self c.args.others.now c.args.time c.args.payload.now c.in_ok-answer.answer c.in_default-answer.not-Made c.in_ok-answer.ensures.ok in
    (there_is _ c.make.new.self (staged_same accepts c.in-Some.node c.make.new.self c.self.inside.written c.self.inside.tail.gate c.self.inside.tail.records staged none), λ closed. absurd cc)

pub returns-in-Made-clause-ok : goal.returns-in-Made-clause-ok
returns-in-Made-clause-ok g c v is =
    let accepts = g.V.Verifier.accepts in
    let making : IsMaking accepts c.in-Some.node c.args.others.now c.args.time c.args.payload.now (Made c.in-Made.place) c.make.new.self = rw c.in-Made.is at c.in_ok-answer.ensures.ok in
    let same = is_same c.args.self.now.node c.in-Some.node v (search rules) is in
    (c.make.new.self, refl, subst (λ x. IsMaking accepts x c.args.others.now c.args.time c.args.payload.now (Made c.in-Made.place) c.make.new.self) same making)

pub returns-in_default-answer-clause-ok : goal.returns-in_default-answer-clause-ok
returns-in_default-answer-clause-ok g c v is =
    let same = is_same c.args.self.now.node c.in-Some.node v (search rules) is in
    (c.make.new.self, refl, subst (λ x. IsMaking g.V.Verifier.accepts x c.args.others.now c.args.time c.args.payload.now c.in_ok-answer.answer c.make.new.self) same c.in_ok-answer.ensures.ok)
