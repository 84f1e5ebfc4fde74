use Rattle.std.proofs.Common.{ap, length, subst, sym, ◌∙◌, arith}
use Rattle.hg_life.specs.NodeView.{node_rows}
use Rattle.hg_storm.specs.Mails.{IsOfRow}
use Rattle.hg_storm.proofs.MailLaws.{told_all, told_more, told_same}
use Rattle.hg_storm.proofs.mails.names_of.Goals as goal
use Rattle.hg_storm.proofs.mails.names_of.Goals.{then-message-from+in_ok-push, else-message-from}

pub row-requires : goal.row-requires
row-requires c =
    subst (IsOfRow c.args.from (length (node_rows c.args.node.now))) (sym c.message-item.is)
    (c.requires c.loop-message.message-index c.message-item.result c.loop-message-test.true) c.if-message-from.true

pub loop-message-preserved : goal.loop-message-preserved
loop-message-preserved c = elim c.if-message-from.branch [
  | then-message-from+in_ok-push w ↦
      told_more c.args.node.now c.args.from c.args.messages.now c.loop-message.message-index c.message-item.result c.loop-message-test.true c.message-item.is c.loop-message.names.items c.loop-message.invariant
      w.row.result.now c.if-message-from.names.items w.if-message-from.true w.row.ensures (ap (λ v. v.items) w.names-is ∙ w.in_ok-push.ensures.items)
  | else-message-from w ↦
      told_same c.args.node.now c.args.from c.args.messages.now c.loop-message.message-index c.message-item.result c.loop-message-test.true c.message-item.is c.loop-message.names.items c.loop-message.invariant
      c.if-message-from.names.items w.if-message-from.false (ap (λ v. v.items) w.names-is)
]

pub returns : goal.returns
returns c = told_all c.args.node.now c.args.from c.args.messages.now c.loop-message.message-index c.loop-message.names.items (omega arith) c.loop-message.invariant
