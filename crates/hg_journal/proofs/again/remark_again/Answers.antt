use Rattle.std.proofs.Common.{rules, ◌≡◌, IfOk, Option, sym, ◌∙◌, ap, subst}
use Rattle.hg_model.specs.Shares.{Share}
use Rattle.hg_life.specs.NodeView.{NodeView}
use Rattle.hg_node.specs.Replay.{replay_one}
use Rattle.hg_node.specs.Replay.StoredChange.{StoredMarked}
use Rattle.hg_node.proofs.CheckLaws.{errs}
use Rattle.hg_journal.specs.Journal.{node_if}
use Rattle.hg_journal.proofs.NodeLaws.{can_mark, marked_none, marked_some, marked_unfit, no_rows, no_share}
use Rattle.hg_journal.proofs.again.remark_again.Goals as goal

pub returns-in_default-clause-came : goal.returns-in_default-clause-came
returns-in_default-clause-came g c = marked_none g.V.Verifier.accepts c.args.node.now c.args.body.now c.in_default.ensures

pub returns-then-rows-len-clause-came : goal.returns-then-rows-len-clause-came
returns-then-rows-len-clause-came g c =
    marked_unfit g.V.Verifier.accepts c.args.node.now c.args.body.now c.in-Some.len c.in-Some.k c.in-Some.of (search rules) (no_rows c.args.node.now c.in-Some.len c.in-Some.k c.in-Some.of (search rules))

pub returns-then-of-k-clause-came : goal.returns-then-of-k-clause-came
returns-then-of-k-clause-came g c =
    marked_unfit g.V.Verifier.accepts c.args.node.now c.args.body.now c.in-Some.len c.in-Some.k c.in-Some.of (search rules) (no_share c.args.node.now c.in-Some.len c.in-Some.k c.in-Some.of (search rules))

pub returns-clause-came : goal.returns-clause-came
returns-clause-came g c =
    let is = marked_some g.V.Verifier.accepts c.args.node.now c.args.body.now c.in-Some.len c.in-Some.k c.in-Some.of (search rules)
    ∙ ap (λ (share : Share). replay_one g.V.Verifier.accepts c.args.node.now (StoredMarked c.in-Some.len share.k share.of)) (sym c.new.ensures) in
    subst (λ (o : Option (NodeView _)). IfOk c.mark_again.result (λ came. o ≡ node_if came c.mark_again.new.node)) (sym is) c.mark_again.ensures

pub returns-clause-free : goal.returns-clause-free
returns-clause-free g c =
    errs c.mark_again.result (can_mark g.V.Verifier.accepts c.args.node.now c.args.body.now c.in-Some.len c.in-Some.k c.in-Some.of (search rules) (search rules) (search rules))
