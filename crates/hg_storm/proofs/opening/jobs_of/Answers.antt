use Rattle.std.proofs.Common.{rules, ◌≡◌, length, refl, subst, arith}
use Rattle.hg_storm.proofs.OpenLaws.{Seating, seated_all, seated_masters, seating_inside, seating_none, seating_one, seating_opened, seating_parts, seating_seat}
use Rattle.hg_storm.proofs.opening.jobs_of.Goals as goal

pub seats-init : goal.seats-init
seats-init c =
    seating_none c.args.mailboxes.now c.args.seed c.args.seats.items c.args.masters.now.items c.new-jobs.result.items c.into_iter-first-iterator.result.rest.items c.requires.opened c.new-jobs.ensures.items
    (search rules)

pub split-own-requires-clause-seat : goal.split-own-requires-clause-seat
split-own-requires-clause-seat c =
    let so = subst (λ l. Seating c.args.mailboxes.now c.args.seed c.args.seats.items c.seats.masters.items c.seats.jobs.items l) c.in-Some.ensures.steps.0 c.seats.invariant in
    let at : c.len-me.result ≡ length c.seats.jobs.items = omega (arith, c.len-me.ensures, c.seats.jobs.ok) in
    seating_seat c.args.mailboxes.now c.args.seed c.args.seats.items c.seats.masters.items c.seats.jobs.items c.in-Some.first c.next.new.self.rest.items so c.len-me.result at c.args.places.now
    c.index-places-me.result c.requires.seats c.index-places-me.is

pub split-own-requires-clause-parts : goal.split-own-requires-clause-parts
split-own-requires-clause-parts c =
    let so = subst (λ l. Seating c.args.mailboxes.now c.args.seed c.args.seats.items c.seats.masters.items c.seats.jobs.items l) c.in-Some.ensures.steps.0 c.seats.invariant in
    let at : c.len-me.result ≡ length c.seats.jobs.items = omega (arith, c.len-me.ensures, c.seats.jobs.ok) in
    seating_parts c.args.mailboxes.now c.args.seed c.args.seats.items c.seats.masters.items c.seats.jobs.items c.in-Some.first c.next.new.self.rest.items so c.len-me.result at c.requires.parts

pub desk_of-requires-clause-opened : goal.desk_of-requires-clause-opened
desk_of-requires-clause-opened c =
    let so = subst (λ l. Seating c.args.mailboxes.now c.args.seed c.args.seats.items c.seats.masters.items c.seats.jobs.items l) c.in-Some.ensures.steps.0 c.seats.invariant in
    let at : c.len-me.result ≡ length c.seats.jobs.items = omega (arith, c.len-me.ensures, c.seats.jobs.ok) in
    seating_opened c.args.mailboxes.now c.args.seed c.args.seats.items c.seats.masters.items c.seats.jobs.items c.in-Some.first c.next.new.self.rest.items so c.len-me.result at

pub desk_of-requires-clause-me : goal.desk_of-requires-clause-me
desk_of-requires-clause-me c =
    let so = subst (λ l. Seating c.args.mailboxes.now c.args.seed c.args.seats.items c.seats.masters.items c.seats.jobs.items l) c.in-Some.ensures.steps.0 c.seats.invariant in
    let at : c.len-me.result ≡ length c.seats.jobs.items = omega (arith, c.len-me.ensures, c.seats.jobs.ok) in
    seating_inside c.args.mailboxes.now c.args.seed c.args.seats.items c.seats.masters.items c.seats.jobs.items c.in-Some.first c.next.new.self.rest.items so c.len-me.result at c.requires.count

pub seats-preserved : goal.seats-preserved
seats-preserved c =
    let so = subst (λ l. Seating c.args.mailboxes.now c.args.seed c.args.seats.items c.seats.masters.items c.seats.jobs.items l) c.in-Some.ensures.steps.0 c.seats.invariant in
    let at : c.len-me.result ≡ length c.seats.jobs.items = omega (arith, c.len-me.ensures, c.seats.jobs.ok) in
    seating_one c.args.mailboxes.now c.args.seed c.args.seats.items c.seats.masters.items c.seats.jobs.items c.in-Some.first c.next.new.self.rest.items so c.len-me.result at c.split-own.new.seat
    c.split-own.result c.desk_of.new.masters.items c.in_ok-desk.desk (record { desk = c.in_ok-desk.desk; seat = c.split-own.new.seat }) c.push.new.self.items c.split-own.ensures.old c.split-own.ensures.new
    c.in_ok-desk.ensures.opened c.in_ok-desk.ensures.desk refl refl c.in_ok-push.ensures.items

pub returns-clause-opened : goal.returns-clause-opened
returns-clause-opened c =
    let short : c.seats.first-iterator.rest.len ≡ 0 = search rules in
    seated_masters c.args.mailboxes.now c.args.seed c.args.seats.items c.seats.masters.items c.seats.jobs.items c.seats.first-iterator.rest.items c.seats.invariant
    (omega (arith, short, c.seats.first-iterator.rest.ok.0)) c.requires.count

pub returns-clause-jobs : goal.returns-clause-jobs
returns-clause-jobs c =
    let short : c.seats.first-iterator.rest.len ≡ 0 = search rules in
    seated_all c.args.mailboxes.now c.args.seed c.args.seats.items c.seats.masters.items c.seats.jobs.items c.seats.first-iterator.rest.items c.seats.invariant
    (omega (arith, short, c.seats.first-iterator.rest.ok.0))
