use Rattle.std.proofs.Common.{◌≡◌, ◌<◌, length, arith}
use Rattle.hg_storm.proofs.CloseLaws.{emptied_all, emptied_ports, emptying_one}
use Rattle.hg_storm.proofs.closing.empty_all.Goals as goal

pub mailboxes-preserved : goal.mailboxes-preserved
mailboxes-preserved g c =
    let olds = c.args.masters.now.items in
    let news = c.mailboxes.masters.items in
    let inside : c.mailboxes.k < length olds = omega (arith, c.mailboxes-test.true, c.requires.count) in
    rw c.in_ok-push.ensures.items
    (emptying_one c.mailboxes.k c.args.mailboxes.now olds news c.mailboxes.left.items c.index-mailboxes-k.result c.index_mut.result.now c.empty.new.port c.in_ok-rest.rest c.mailboxes.invariant c.mailboxes-test.true inside c.index-mailboxes-k.is c.index_mut.ensures.value c.in_ok-rest.ensures.ok c.in_ok-rest.ensures.port)

pub returns-clause-left : goal.returns-clause-left
returns-clause-left g c =
    let all : c.mailboxes.k ≡ length c.args.mailboxes.now = omega (arith, c.mailboxes-test.false, c.mailboxes.auto.k-end) in
    emptied_all c.mailboxes.k c.args.mailboxes.now c.args.masters.now.items c.mailboxes.masters.items c.mailboxes.left.items c.mailboxes.invariant all c.requires.count

pub returns-clause-ports : goal.returns-clause-ports
returns-clause-ports g c =
    let all : c.mailboxes.k ≡ length c.args.mailboxes.now = omega (arith, c.mailboxes-test.false, c.mailboxes.auto.k-end) in
    emptied_ports c.mailboxes.k c.args.mailboxes.now c.args.masters.now.items c.mailboxes.masters.items c.mailboxes.left.items c.mailboxes.invariant all c.requires.count
