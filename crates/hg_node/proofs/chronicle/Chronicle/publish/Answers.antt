use Rattle.std.proofs.Common.{◌<◌, ◌≤◌, All, List, length, ap, subst, sym, arith}
use Rattle.std.specs.Vec.{vec_capacity}
use Rattle.hg_model.specs.declared.row.Placed.{Placed}
use Rattle.hg_node.specs.ChronicleView.{ChronicleView}
use Rattle.hg_node.proofs.BookLaws.{kept_within, fits, few_paid, book_paid}
use Rattle.hg_node.proofs.KeepLaws.{log_has_room, record_same, record_marked}
use Rattle.hg_node.proofs.chronicle.Chronicle.publish.Goals as goal

pub pay-requires-clause-paid : goal.pay-requires-clause-paid
pay-requires-clause-paid c =
    let few = few_paid c.self.inside.graph.graph.rows c.self.inside.kept.published.order c.publish-count.new.self.published.order c.self.inside.ledger c.self.invariant.1 c.publish-count.ensures.grows in
    omega (arith, few, ap length c.order.ensures)

pub pay-requires-clause-room : goal.pay-requires-clause-room
pay-requires-clause-room c =
    let fit = fits c.self.inside.graph.graph c.publish-count.new.self.published c.publish-count.ensures.keeps c.self.inside.kept.published.order c.self.inside.ledger c.self.invariant.1 in
    omega (arith, fit, ap length c.order.ensures)

pub pay-requires-clause-places : goal.pay-requires-clause-places
pay-requires-clause-places c =
    subst (λ (order : List Placed). All (λ (p : Placed). p.place < length c.self.inside.graph.graph.rows) order) (sym c.order.ensures)
    (kept_within c.self.inside.graph.graph c.publish-count.new.self.published c.publish-count.ensures.keeps)

pub push_reserved-requires : goal.push_reserved-requires
push_reserved-requires c =
    let within = subst (λ (r : ChronicleView). c.args.found.now.len ≤ length r.graph.rows) (sym c.self.view_is) c.requires.within in
    let room = log_has_room c.self.inside.own c.self.inside.graph.graph c.self.inside.log.items c.self.inside.kept.published c.self.inside.last_own (vec_capacity c.self.inside.log) c.self.invariant.0
    c.args.found.now.len c.args.found.now.share within c.publish-count.new.self.published c.publish-count.ensures.marks c.publish-count.ensures.keeps
    (omega (arith, c.if-count-gt0.true, c.publish-count.ensures.count)) in
    omega (arith, room, c.self.inside.log.ok)

pub invariant_of-self : goal.invariant_of-self
invariant_of-self c =
    let within = subst (λ (r : ChronicleView). c.args.found.now.len ≤ length r.graph.rows) (sym c.self.view_is) c.requires.within in
    rw c.push_reserved.ensures.items (
      record_marked c.self.inside.own c.self.inside.graph.graph c.self.inside.log.items c.self.inside.kept.published c.self.inside.last_own (vec_capacity c.self.inside.log) c.self.invariant.0
          c.args.found.now.len c.args.found.now.share within c.publish-count.new.self.published c.publish-count.ensures.marks c.publish-count.ensures.keeps
          _ (vec_capacity c.push_reserved.new.self) (omega (arith, c.if-count-gt0.true, c.publish-count.ensures.count)) (omega (arith, c.push_reserved.ensures.capacity)),
      book_paid c.self.inside.graph.graph.rows c.self.inside.kept.published.order c.publish-count.new.self.published.order c.order.result.now c.self.inside.ledger c.pay.new.self
          c.self.invariant.1 c.publish-count.ensures.grows c.order.ensures c.pay.ensures,
      c.self.invariant.2,
      c.self.invariant.3,
    )

pub invariant_of-self-else-count-gt0 : goal.invariant_of-self-else-count-gt0
invariant_of-self-else-count-gt0 c =
    let within = subst (λ (r : ChronicleView). c.args.found.now.len ≤ length r.graph.rows) (sym c.self.view_is) c.requires.within in (
      record_same c.self.inside.own c.self.inside.graph.graph c.self.inside.log.items c.self.inside.kept.published c.self.inside.last_own (vec_capacity c.self.inside.log) c.self.invariant.0
          c.args.found.now.len c.args.found.now.share within c.publish-count.new.self.published c.publish-count.ensures.marks c.publish-count.ensures.keeps,
      book_paid c.self.inside.graph.graph.rows c.self.inside.kept.published.order c.publish-count.new.self.published.order c.order.result.now c.self.inside.ledger c.pay.new.self
          c.self.invariant.1 c.publish-count.ensures.grows c.order.ensures c.pay.ensures,
      c.self.invariant.2,
      c.self.invariant.3,
    )
