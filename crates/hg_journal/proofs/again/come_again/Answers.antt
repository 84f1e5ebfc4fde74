use Rattle.std.proofs.Common.{rules, ◌≡◌, ℕ, IfOk, Option, sym, ◌∙◌, ap, subst}
use Rattle.hg_life.specs.NodeView.{NodeView}
use Rattle.hg_journal.specs.Journal.{next_node, node_if}
use Rattle.hg_journal.proofs.NodeLaws.{made_is, no_kind, took_is}
use Rattle.hg_journal.proofs.again.come_again.Goals as goal

pub returns-in-1-clause-came : goal.returns-in-1-clause-came
returns-in-1-clause-came g c =
    let is = ap (λ (kind : ℕ). next_node g.V.Verifier.accepts c.args.node.now kind c.args.body.now) c.in-1.is ∙ took_is g.V.Verifier.accepts c.args.node.now c.args.body.now in
    subst (λ (o : Option (NodeView _)). IfOk c.put_again.result (λ came. o ≡ node_if came c.put_again.new.node)) (sym is) c.put_again.ensures.came

pub returns-in-2-clause-came : goal.returns-in-2-clause-came
returns-in-2-clause-came g c =
    let is = ap (λ (kind : ℕ). next_node g.V.Verifier.accepts c.args.node.now kind c.args.body.now) c.in-2.is ∙ made_is g.V.Verifier.accepts c.args.node.now c.args.body.now in
    subst (λ (o : Option (NodeView _)). IfOk c.restore_again.result (λ came. o ≡ node_if came c.restore_again.new.node)) (sym is) c.restore_again.ensures.came

pub returns-in_default-clause-came : goal.returns-in_default-clause-came
returns-in_default-clause-came g c = no_kind g.V.Verifier.accepts c.args.node.now c.args.kind c.args.body.now (search rules) (search rules) (search rules)
