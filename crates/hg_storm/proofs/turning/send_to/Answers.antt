use Rattle.std.proofs.Common.{arith, refl}
use Rattle.hg_life.specs.Signing.{accepts_by}
use Rattle.hg_storm.specs.Sending.{bytes_seen}
use Rattle.hg_storm.proofs.KeepLaws.{still_keeps}
use Rattle.hg_storm.proofs.StopLaws.{quiet_none, stops_sending}
use Rattle.hg_storm.proofs.TakeLaws.{on_err}
use Rattle.hg_storm.proofs.TurnLaws.{served_read, serves_more, times_most}
use Rattle.hg_storm.proofs.turning.send_to.Goals as goal

pub send_rows-requires-clause-sent : goal.send_rows-requires-clause-sent
send_rows-requires-clause-sent g c =
    let at = c.requires.at.1 in
    (served_read at.plan c.args.desk.now.me at.place at.drawn (bytes_seen c.args.shared.now c.args.desk.now.seat) c.args.mailboxes.now c.args.desk.now.log.dispatches.items c.args.desk.now.ports.items c.args.peer
    c.index-mailboxes-to.result c.index.result.now c.index_mut.result.now at.stands.served c.requires.peer c.index-mailboxes-to.is c.index.ensures c.index_mut.ensures.value).sent

pub send_rows-requires-clause-few : goal.send_rows-requires-clause-few
send_rows-requires-clause-few g c =
    let at = c.requires.at.1 in
    let served = served_read at.plan c.args.desk.now.me at.place at.drawn (bytes_seen c.args.shared.now c.args.desk.now.seat) c.args.mailboxes.now c.args.desk.now.log.dispatches.items c.args.desk.now.ports.items c.args.peer
    c.index-mailboxes-to.result c.index.result.now c.index_mut.result.now at.stands.served c.requires.peer c.index-mailboxes-to.is c.index.ensures c.index_mut.ensures.value in
    omega (arith, served.counted.few, at.few, times_most at.plan c.args.desk.now.me at.place at.drawn c.args.peer)

pub returns-clause-serves : goal.returns-clause-serves
returns-clause-serves g c plan place drawn draws stands =
    let e = c.in_ok-dispatch.ensures in
    serves_more plan place c.args.mailboxes.now c.args.shared.now drawn c.args.desk.now.me c.args.desk.now.log _ c.args.desk.now.seat c.send_rows.new.seat c.args.desk.now.ports.items c.args.desk.now.inbox stands
    c.args.peer draws c.requires.peer c.index-mailboxes-to.result c.index.result.now c.in_ok-dispatch.dispatch c.index_mut.result.now c.send_rows.new.port c.index-mailboxes-to.is c.index.ensures
    c.index_mut.ensures.value e.still e.seat e.mine e.sent e.due e.rest e.seen refl refl refl

pub returns-in_err-dispatch-clause-stopped : goal.returns-in_err-dispatch-clause-stopped
returns-in_err-dispatch-clause-stopped g c = on_err c.from_residual.result _ (λ made at.
    let e = c.send_rows.ensures in
    let p = c.args.shared.now in
    let old = c.args.desk.now in
    let taken = old.log.intake.taken.items in
    let refused = old.log.intake.refused.items in
    let t = c.send_rows.new.seat in
    stops_sending at.plan at.place c.args.mailboxes.now p at.drawn made old _ at.stands refl e.still.seen (e.seat at.stands.seat) (quiet_none p old.seat t taken refused at.stands.fates e.still.seen e.mine) refl refl
    (still_keeps accepts_by p old.seat t e.still.seen e.mine taken refused at.stands.fates) c.args.peer c.requires.peer c.index-mailboxes-to.result c.index.result.now c.index_mut.result.now c.send_rows.new.port
    c.index-mailboxes-to.is c.index.ensures c.index_mut.ensures.value e.counted e.more c.in_err-dispatch.ensures.none refl refl refl)
