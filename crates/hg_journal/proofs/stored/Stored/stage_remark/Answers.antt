use Rattle.std.proofs.Common.{rules, ◌≡◌, ◌<◌, ◌≤◌, ◌^◌, length, Some, sym, ◌∙◌, ap, arith}
use Rattle.hg_life.specs.Calls.{publish_changes}
use Rattle.hg_journal.specs.Staging.{IsStaged}
use Rattle.hg_journal.proofs.StagingLaws.{staged_more, staged_same, there_is}
use Rattle.hg_journal.proofs.StoredLaws.{remark_next, remark_none, rows_fit}
use Rattle.hg_journal.proofs.stored.Stored.stage_remark.Goals as goal

pub overflow_cast-len : goal.overflow_cast-len
overflow_cast-len g c =
    let there : c.args.self.now.node ≡ Some c.in-Some.node = search rules in
    omega (arith, rows_fit g.V.Verifier.accepts c.in-Some.node c.args.len c.is_node.ensures (c.requires.len c.in-Some.node there))

pub invariant_of-self-then-count-ne0 : goal.invariant_of-self-then-count-ne0
invariant_of-self-then-count-ne0 g c =
    let accepts = g.V.Verifier.accepts in
    let there : c.args.self.now.node ≡ Some c.in-Some.node = search rules in
    let within = c.requires.len c.in-Some.node there in
    let few : c.args.share.of < 2 ^ 32 = omega (arith, c.of.type_inv, c.of.ensures.value) in
    let marked : c.in_ok-count.count ≡ 0 → ⊥ = c.if-count-ne0.true in
    let leads = remark_next accepts c.in-Some.node c.remark.new.self c.args.len c.args.share c.marked_bytes-body.result c.stored_changes_replay.ensures.marked within
    (rows_fit accepts c.in-Some.node c.args.len c.is_node.ensures within) c.k.ensures.lawful few (omega (arith, marked, c.in_ok-count.ensures.answer)) c.marked_bytes-body.ensures c.in_ok-count.ensures.ok in
    let room : length c.self.inside.tail.records ≤ 64000 = search rules in
    let staged : IsStaged accepts c.self.inside.written c.self.inside.tail.gate c.self.inside.tail.records c.in-Some.node = search rules in
    rw c.add.ensures (
      there_is _ c.remark.new.self (staged_more accepts c.in-Some.node c.remark.new.self c.self.inside.written c.self.inside.tail.gate c.self.inside.tail.records staged
          (publish_changes c.in-Some.node c.args.len c.args.share) 3 c.marked_bytes-body.result c.in_ok-count.ensures.ok leads (omega (arith, ap length c.marked_bytes-body.ensures)) room),
      λ closed. absurd cc,
    )

pub invariant_of-self-else-count-ne0 : goal.invariant_of-self-else-count-ne0
invariant_of-self-else-count-ne0 g c =
    let accepts = g.V.Verifier.accepts in
    let staged : IsStaged accepts c.self.inside.written c.self.inside.tail.gate c.self.inside.tail.records c.in-Some.node = search rules in
    let none = remark_none accepts c.in-Some.node c.remark.new.self c.args.len c.args.share (sym c.in_ok-count.ensures.answer ∙ c.if-count-ne0.false) c.in_ok-count.ensures.ok in
    (there_is _ c.remark.new.self (staged_same accepts c.in-Some.node c.remark.new.self c.self.inside.written c.self.inside.tail.gate c.self.inside.tail.records staged none), λ closed. absurd cc)
