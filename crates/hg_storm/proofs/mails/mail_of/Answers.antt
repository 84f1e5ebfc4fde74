use Rattle.std.proofs.Common.{◌≤◌, List, All, ap, length, subst, sym, take, ◌∙◌}
use Rattle.hg_life.specs.NodeView.{node_rows}
use Rattle.hg_mail.specs.declared.message.Message.{Message}
use Rattle.hg_mail.specs.Messages.{messages_of}
use Rattle.hg_storm.specs.declared.sending.Dispatch.{Dispatch}
use Rattle.hg_storm.specs.Mails.{IsOfRow, names_in, names_told}
use Rattle.hg_storm.proofs.MailLaws.{is_mail, left_rows, sent_within, taken_rows}
use Rattle.hg_storm.proofs.mails.mail_of.Goals as goal

pub first_names-requires : goal.first_names-requires
first_names-requires c =
    subst (λ (d : Dispatch). d.sent ≤ length (node_rows c.index-node.result.now)) (sym c.dispatch_of-dispatch.ensures)
    (sent_within c.requires.told.0 c.requires.told.1 c.args.joined.now.nodes.items c.args.joined.now.logs.items c.args.joined.now.left.items c.requires.told.2 c.args.from c.args.to c.requires.from c.requires.to
    c.index-node.result.now c.index.result.now c.index-2.result.now c.index-3.result.now c.index-node.ensures c.index.ensures c.index-2.ensures c.index-3.ensures)

pub names_of-requires : goal.names_of-requires
names_of-requires c =
    subst (All (IsOfRow c.args.from (length (node_rows c.index-node.result.now)))) (sym c.as_slice-taken.ensures.value)
    (taken_rows c.requires.told.0 c.requires.told.1 c.args.joined.now.nodes.items c.args.joined.now.logs.items c.args.joined.now.left.items c.requires.told.2 c.args.from c.args.to c.requires.from c.requires.to
    c.index-node.result.now c.index.result.now c.index-2.result.now c.index-3.result.now c.index-node.ensures c.index.ensures c.index-2.ensures c.index-3.ensures)

pub names_of-requires-2 : goal.names_of-requires-2
names_of-requires-2 c =
    subst (All (IsOfRow c.args.from (length (node_rows c.index-node.result.now)))) (sym c.as_slice-left.ensures.value)
    (left_rows c.requires.told.0 c.requires.told.1 c.args.joined.now.nodes.items c.args.joined.now.logs.items c.args.joined.now.left.items c.requires.told.2 c.args.from c.args.to c.requires.from c.requires.to
    c.index-node.result.now c.index.result.now c.index-2.result.now c.index-3.result.now c.index-node.ensures c.index.ensures c.index-2.ensures c.index-3.ensures)

pub returns-clause-mail : goal.returns-clause-mail
returns-clause-mail c =
    let names = names_in c.index-node.result.now in
    let told : List Message → List _ = λ ms. names_told names (messages_of c.args.from ms) in
    is_mail c.requires.told.0 c.requires.told.1 c.args.joined.now c.requires.told.2
    (record {
      from = c.args.from;
      to = c.args.to;
      sent = c.in_ok-first_names.field-0;
      taken = c.in_ok-names_of.field-0;
      left = c.in_ok-names_of-2.field-0;
      full = c.dispatch_of-dispatch.result.full;
      due = c.dispatch_of-dispatch.result.due;
    }) c.requires.from c.requires.to
    c.index-node.result.now c.index.result.now c.index-2.result.now c.index-3.result.now c.index-node.ensures c.index.ensures c.index-2.ensures c.index-3.ensures
    c.is_node.ensures (c.in_ok-first_names.ensures ∙ ap (λ (d : Dispatch). take d.sent names) c.dispatch_of-dispatch.ensures)
    (c.in_ok-names_of.ensures ∙ ap told c.as_slice-taken.ensures.value) (c.in_ok-names_of-2.ensures ∙ ap told c.as_slice-left.ensures.value)
    (ap (λ (d : Dispatch). d.full) c.dispatch_of-dispatch.ensures) (ap (λ (d : Dispatch). d.due) c.dispatch_of-dispatch.ensures)
