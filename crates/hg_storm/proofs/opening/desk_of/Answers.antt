use Rattle.std.proofs.Common.{refl, arith}
use Rattle.hg_storm.proofs.OpenLaws.{hand_all, hand_of, hand_parts, hand_takes, new_receiver}
use Rattle.hg_storm.proofs.opening.desk_of.Goals as goal

pub hand-inbox-requires-clause-of : goal.hand-inbox-requires-clause-of
hand-inbox-requires-clause-of c =
    hand_of c.args.me c.args.mailboxes.now c.issue_all.new.masters.items c.index-mailboxes-me.result c.index_mut.result.now c.in_ok-ports.ensures.issued c.requires.me c.requires.few c.index-mailboxes-me.is
    c.index_mut.ensures.value

pub hand-inbox-requires-clause-takes : goal.hand-inbox-requires-clause-takes
hand-inbox-requires-clause-takes c =
    hand_takes c.args.me c.args.mailboxes.now c.issue_all.new.masters.items c.index-mailboxes-me.result c.index_mut.result.now c.in_ok-ports.ensures.issued c.requires.me c.requires.few c.index-mailboxes-me.is
    c.index_mut.ensures.value

pub hand-inbox-requires-clause-parts : goal.hand-inbox-requires-clause-parts
hand-inbox-requires-clause-parts c =
    hand_parts c.args.me c.args.mailboxes.now c.issue_all.new.masters.items c.index-mailboxes-me.result c.index_mut.result.now c.in_ok-ports.ensures.issued c.requires.me c.requires.few c.index-mailboxes-me.is
    c.index_mut.ensures.value

pub returns-clause-opened : goal.returns-clause-opened
returns-clause-opened c =
    hand_all c.args.me c.args.mailboxes.now c.issue_all.new.masters.items c.index-mailboxes-me.result c.index_mut.result.now c.in_ok-ports.ensures.issued c.requires.me c.requires.few c.index-mailboxes-me.is
    c.index_mut.ensures.value c.hand-inbox.new.port c.hand-inbox.ensures.port

pub returns-clause-desk : goal.returns-clause-desk
returns-clause-desk c = record {
  me = omega arith;
  seat = refl;
  draws = c.new-2.ensures;
  log = record {
    dispatches = c.in_ok-dispatches.ensures.items_if_clones_equal (λ y e. e);
    taken = c.new.ensures.taken;
    refused = c.new.ensures.refused;
    idle = refl;
  };
  ports = c.in_ok-ports.ensures.senders;
  inbox = new_receiver c.args.me c.args.mailboxes.now c.issue_all.new.masters.items c.index-mailboxes-me.result c.index_mut.result.now c.in_ok-ports.ensures.issued c.requires.me c.requires.few c.index-mailboxes-me.is
      c.index_mut.ensures.value c.hand-inbox.result c.hand-inbox.ensures.receiver;
}
