use Rattle.std.proofs.Common.{ℕ, ◌≡◌, ◌+◌, Bool, cond, true, sym, ap, ◌∙◌, subst, refl, arith}
use Rattle.hg_storm.specs.Turning.{HasMade}
use Rattle.hg_mail.specs.Mailboxes.{IsPortOf, MailboxView}
use Rattle.hg_mail.specs.declared.view.View.{View}
use Rattle.hg_storm.specs.Receiving.{IsInbox}
use Rattle.hg_storm.proofs.StopLaws.{stops_making, stops_taking, waited_fates, waited_first, waited_none, waited_seat}
use Rattle.hg_storm.proofs.TakeLaws.{on_err}
use Rattle.hg_storm.proofs.TurnLaws.{inbox_on, makes_more}
use Rattle.hg_storm.proofs.turning.take_and_make.Goals as goal

pub receive-requires-clause-inbox : goal.receive-requires-clause-inbox
receive-requires-clause-inbox g c =
    let m = c.index-mailboxes-desk.result in
    subst (λ (x : MailboxView). IsPortOf x c.args.desk.now.inbox) (sym c.index-mailboxes-desk.is) (c.requires.at.stands.inbox m).of

pub receive-requires-clause-takes : goal.receive-requires-clause-takes
receive-requires-clause-takes g c = ap (λ (v : View). v.takes) (c.requires.at.stands.inbox c.index-mailboxes-desk.result).view

pub returns-then-not-made-clause-makes : goal.returns-then-not-made-clause-makes
returns-then-not-made-clause-makes g c plan place drawn stands =
    let e = c.in_ok-receive.ensures in
    let p = c.args.shared.now in
    let m = c.index-mailboxes-desk.result in
    let was = subst (λ (x : MailboxView). IsInbox x c.args.desk.now.log.intake.taken.items c.args.desk.now.inbox) (sym c.index-mailboxes-desk.is) (stands.inbox m) in
    let box = inbox_on m c.args.desk.now.log.intake.taken.items c.receive.new.intake.taken.items c.args.desk.now.inbox c.receive.new.inbox was e.more in
    let has = subst (λ (n : ℕ). HasMade p c.receive.new.seat (n + 1) c.make_row.new.seat c.in_ok-made.made) c.from.ensures c.in_ok-made.ensures.made in
    let idle = ap (λ (b : Bool). c.args.desk.now.log.idle + cond b 0 1) (sym c.if-not-made.true) in
    makes_more plan place c.args.mailboxes.now p drawn c.args.t c.args.desk.now.me c.args.desk.now.log _ c.args.desk.now.seat c.receive.new.seat c.make_row.new.seat c.args.desk.now.ports.items c.args.desk.now.inbox c.receive.new.inbox
    stands c.index-mailboxes-desk.result c.index-mailboxes-desk.is e.still e.seat e.made box e.more.more e.more.collects e.fates c.make_row.ensures.stays c.in_ok-made.made has refl idle

pub returns-else-not-made-clause-makes : goal.returns-else-not-made-clause-makes
returns-else-not-made-clause-makes g c plan place drawn stands =
    let e = c.in_ok-receive.ensures in
    let p = c.args.shared.now in
    let m = c.index-mailboxes-desk.result in
    let was = subst (λ (x : MailboxView). IsInbox x c.args.desk.now.log.intake.taken.items c.args.desk.now.inbox) (sym c.index-mailboxes-desk.is) (stands.inbox m) in
    let box = inbox_on m c.args.desk.now.log.intake.taken.items c.receive.new.intake.taken.items c.args.desk.now.inbox c.receive.new.inbox was e.more in
    let n : ℕ = c.args.desk.now.log.idle in
    let has = subst (λ (k : ℕ). HasMade p c.receive.new.seat (k + 1) c.make_row.new.seat c.in_ok-made.made) c.from.ensures c.in_ok-made.ensures.made in
    let none : n ≡ n + cond true 0 1 = omega arith in
    let idle = none ∙ ap (λ (b : Bool). n + cond b 0 1) (sym c.if-not-made.false) in
    makes_more plan place c.args.mailboxes.now p drawn c.args.t c.args.desk.now.me c.args.desk.now.log _ c.args.desk.now.seat c.receive.new.seat c.make_row.new.seat c.args.desk.now.ports.items c.args.desk.now.inbox c.receive.new.inbox
    stands c.index-mailboxes-desk.result c.index-mailboxes-desk.is e.still e.seat e.made box e.more.more e.more.collects e.fates c.make_row.ensures.stays c.in_ok-made.made has refl idle

pub returns-in_err-receive-clause-stopped : goal.returns-in_err-receive-clause-stopped
returns-in_err-receive-clause-stopped g c =
    let at = c.requires.at in
    let e = c.receive.ensures in
    on_err c.from_residual.result _
    (stops_taking at.plan at.place c.args.mailboxes.now c.args.shared.now at.drawn c.args.t c.args.desk.now _ at.stands refl e.still.seen (e.seat at.stands.seat) e.made refl refl e.fates
    c.index-mailboxes-desk.result c.index-mailboxes-desk.is refl c.in_err-receive.ensures.lost)

pub returns-in_err-made-clause-stopped : goal.returns-in_err-made-clause-stopped
returns-in_err-made-clause-stopped g c =
    let at = c.requires.at in
    let e = c.in_ok-receive.ensures in
    let p = c.args.shared.now in
    let s = c.args.desk.now.seat in
    let t = c.receive.new.seat in
    let u = c.make_row.new.seat in
    let taken = c.receive.new.intake.taken.items in
    let refused = c.receive.new.intake.refused.items in
    let stays = c.make_row.ensures.stays in
    let waits = c.in_err-made.ensures.waits in
    on_err c.from_residual-in_err-made.result _
    (stops_making at.plan at.place c.args.mailboxes.now p at.drawn c.args.t c.args.desk.now _ at.stands refl (waited_first p s t u taken refused e.still e.made e.fates stays waits)
    (waited_seat p s t u taken refused e.still e.made e.fates stays waits) (waited_none p s t u taken refused e.still e.made e.fates stays waits) refl refl
    (waited_fates p s t u taken refused e.still e.made e.fates stays waits) c.index-mailboxes-desk.result c.index-mailboxes-desk.is refl e.more)
