use Rattle.std.proofs.Common.{◌<◌, ◌≤◌, ◌+◌, ◌-◌, length, sym, refl, subst, arith, List, ℕ}
use Rattle.hg_model.specs.declared.row.Placed.{Placed}
use Rattle.hg_model.specs.Prefix.{links_of}
use Rattle.hg_life.specs.Kept.{kept_up_to}
use Rattle.hg_model.specs.Orders.{IsPrefix}
use Rattle.hg_life.specs.StateWords.{state_by}
use Rattle.hg_model.proofs.LinkLaws.{length-links}
use Rattle.hg_prefix.proofs.FamousLaws.{closed_bounds}
use Rattle.hg_kept.proofs.NextLaws.{reached_low}
use Rattle.hg_kept.proofs.PublishLaws.{keeps_all, order_grows}
use Rattle.hg_kept.proofs.closing.close_rounds.Goals as goal

one_less : (N k : ℕ) → k + 1 ≤ N → N - (k + 1) < N - k
one_less N k h = omega arith

pub rounds-init : goal.rounds-init
rounds-init g c = (c.requires.keeps, omega arith, refl, refl)

pub is_next_closed-requires-clause-marked : goal.is_next_closed-requires-clause-marked
is_next_closed-requires-clause-marked g c = c.rounds.invariant.0.even

pub is_next_closed-requires-clause-reached : goal.is_next_closed-requires-clause-reached
is_next_closed-requires-clause-reached g c = c.rounds.invariant.0.reached

pub is_next_closed-requires-clause-short : goal.is_next_closed-requires-clause-short
is_next_closed-requires-clause-short g c =
    let graph = g.P.Prefix.graph c.args.p.now in
    let low = reached_low graph c.args.marks.now c.rounds.invariant.0.graph.shaped.earlier c.rounds.last c.rounds.invariant.0.reached in
    omega (arith, length-links graph.rows, c.is_of_graph.ensures.short)

pub receive_round-requires-clause-short : goal.receive_round-requires-clause-short
receive_round-requires-clause-short g c =
    let graph = g.P.Prefix.graph c.args.p.now in
    let low = reached_low graph c.args.marks.now c.rounds.invariant.0.graph.shaped.earlier c.rounds.last c.rounds.invariant.0.reached in
    omega (arith, length-links graph.rows, c.is_of_graph.ensures.short)

pub overflow_add-last : goal.overflow_add-last
overflow_add-last g c =
    let graph = g.P.Prefix.graph c.args.p.now in
    let low = reached_low graph c.args.marks.now c.rounds.invariant.0.graph.shaped.earlier c.rounds.last c.rounds.invariant.0.reached in
    omega (arith, length-links graph.rows, c.is_of_graph.ensures.short)

pub rounds-smaller : goal.rounds-smaller
rounds-smaller g c =
    let graph = g.P.Prefix.graph c.args.p.now in
    let next = closed_bounds graph.members (links_of graph) c.args.marks.now c.rounds.invariant.0.graph.shaped.earlier (c.rounds.last + 1) (sym c.rounds-test.ensures) in
    let low = next.1 in
    one_less (length graph.rows) c.rounds.last (omega (arith, length-links graph.rows))

pub returns-clause-keeps : goal.returns-clause-keeps
returns-clause-keeps g c = keeps_all (g.P.Prefix.graph c.args.p.now) _ c.rounds.invariant.0 (sym c.rounds-test.ensures)

pub returns-clause-grows : goal.returns-clause-grows
returns-clause-grows g c =
    let graph = g.P.Prefix.graph c.args.p.now in
    let s = state_by graph c.args.marks.now in
    let more = order_grows graph.members s c.args.closed c.rounds.last c.rounds.invariant.1 in
    subst (IsPrefix c.args.order.now.items) (sym c.rounds.invariant.0.order)
    (subst (λ (xs : List Placed). IsPrefix xs (kept_up_to graph.members s c.rounds.last)) (sym c.requires.keeps.order) more)
