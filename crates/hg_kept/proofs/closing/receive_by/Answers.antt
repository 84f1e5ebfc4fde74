use Rattle.std.proofs.Common.{◌∙◌, ◌+◌, length, ap, sym, arith}
use Rattle.std.proofs.lemmas.Bool.{eqb-true, eqb-false}
use Rattle.hg_model.proofs.LinkLaws.{length-links}
use Rattle.hg_kept.proofs.ReceiveLaws.{has_waiting, keeps_none, fresh_are, fresh_below, order_fits, keeps_next}
use Rattle.hg_kept.proofs.closing.receive_by.Goals as goal

pub returns-then-is_empty-clause-keeps : goal.returns-then-is_empty-clause-keeps
returns-then-is_empty-clause-keeps g c =
    let none = eqb-true (length c.args.famous.now) 0 (sym c.is_empty.ensures ∙ c.if-is_empty.true) in
    keeps_none _ c.args.marks.now c.args.closed c.args.order.now.items c.args.pending.now c.requires.keeps c.requires.next (ap length (sym c.requires.famous) ∙ none)

pub receive-requires-clause-waiting : goal.receive-requires-clause-waiting
receive-requires-clause-waiting g c = has_waiting _ c.args.marks.now c.args.closed c.args.order.now.items c.args.pending.now c.requires.keeps

pub receive-requires-clause-room : goal.receive-requires-clause-room
receive-requires-clause-room g c = (let graph = g.P.Prefix.graph c.args.p.now in omega (arith, length-links graph.rows, c.requires.pending_room))

pub append_round-requires-clause-received : goal.append_round-requires-clause-received
append_round-requires-clause-received g c =
    let graph = g.P.Prefix.graph c.args.p.now in
    let ne = eqb-false (length c.args.famous.now) 0 (sym c.is_empty.ensures ∙ c.if-is_empty.false) in
    fresh_below graph c.args.marks.now c.args.closed c.args.order.now.items c.args.pending.now c.requires.keeps c.requires.next c.args.famous.now c.requires.famous (omega (arith, ne))
    c.receive.new.self c.receive.ensures.parted

pub append_round-requires-clause-room : goal.append_round-requires-clause-room
append_round-requires-clause-room g c =
    let graph = g.P.Prefix.graph c.args.p.now in
    let ne = eqb-false (length c.args.famous.now) 0 (sym c.is_empty.ensures ∙ c.if-is_empty.false) in
    let fits = order_fits graph c.args.marks.now c.args.closed c.args.order.now.items c.args.pending.now c.requires.keeps c.requires.next c.args.famous.now c.requires.famous (omega (arith, ne))
    c.receive.new.self c.receive.ensures.parted in
    omega (arith, length-links graph.rows, c.requires.order_room)

pub returns-clause-keeps : goal.returns-clause-keeps
returns-clause-keeps g c =
    let graph = g.P.Prefix.graph c.args.p.now in
    let ne = eqb-false (length c.args.famous.now) 0 (sym c.is_empty.ensures ∙ c.if-is_empty.false) in
    let fresh = fresh_are graph c.args.marks.now c.args.closed c.args.order.now.items c.args.pending.now c.requires.keeps c.requires.next c.args.famous.now c.requires.famous (omega (arith, ne))
    c.receive.new.self c.receive.ensures.parted in
    rw c.append_round.ensures.same
    (keeps_next graph c.args.marks.now c.args.closed c.args.order.now.items c.args.pending.now c.requires.keeps c.requires.next c.args.famous.now c.requires.famous (omega (arith, ne))
    c.receive.new.self c.receive.ensures.parted c.append_round.new.order.items
    (c.append_round.ensures.order c.args.marks.now (c.args.closed + 1) c.requires.famous fresh))
