use Rattle.std.proofs.Common.{◌≡◌, ◌+◌, ℕ, List, length, drop, sym, ap, ◌∙◌, subst, arith, rules}
use Rattle.std.proofs.lemmas.List.{length_push}
use Rattle.hg_board.specs.Seats.{SeatView}
use Rattle.hg_storm.specs.declared.desk.Log.{Log}
use Rattle.hg_storm.specs.declared.desk.Job.{Job}
use Rattle.hg_storm.specs.Keeping.{Secrets}
use Rattle.hg_storm.proofs.BackLaws.{drop_rest, turned_inbox, turned_ports}
use Rattle.hg_storm.proofs.CloseLaws.{Closing, closed, closed_take_out, closing_none, closing_one, job_turned}
use Rattle.hg_storm.proofs.closing.absorb_all.Goals as goal

pub jobs-init : goal.jobs-init
jobs-init c =
    let mails = c.args.mailboxes.now in
    let jobs = c.args.jobs.items in
    let none = c.new-logs.ensures.items in
    let no_seats = c.new-seats.ensures.items in
    let start : c.into_iter-job-iterator.result.rest.items ≡ jobs = search rules in
    record {
      rest = start ∙ ap (λ (l : List Log). drop (length l) jobs) (sym none);
      closing = subst (λ (x : List Job × List (SeatView Secrets) × List Log). Closing mails c.args.places.now jobs x.0 c.args.masters.now.items x.1 x.2) (λ i. (sym start i, sym no_seats i, sym none i))
          (closing_none mails c.args.places.now jobs c.args.masters.now.items c.requires.opened);
    }

pub absorb-requires-clause-seat : goal.absorb-requires-clause-seat
absorb-requires-clause-seat c =
    let next = sym c.jobs.invariant.rest ∙ c.in-Some.ensures.steps.0 in
    (job_turned c.args.mailboxes.now c.args.places.now c.args.jobs.items c.requires.jobs c.jobs.logs.items c.len-me.result c.in-Some.job c.next.new.self.rest.items c.index-places-me.result
    (omega (arith, c.len-me.ensures, c.jobs.logs.ok)) next c.index-places-me.is).seat

pub absorb-requires-clause-other : goal.absorb-requires-clause-other
absorb-requires-clause-other c =
    let next = sym c.jobs.invariant.rest ∙ c.in-Some.ensures.steps.0 in
    (job_turned c.args.mailboxes.now c.args.places.now c.args.jobs.items c.requires.jobs c.jobs.logs.items c.len-me.result c.in-Some.job c.next.new.self.rest.items c.index-places-me.result
    (omega (arith, c.len-me.ensures, c.jobs.logs.ok)) next c.index-places-me.is).stands.seat.of

pub absorb_ports-requires-clause-ports : goal.absorb_ports-requires-clause-ports
absorb_ports-requires-clause-ports c =
    let next = sym c.jobs.invariant.rest ∙ c.in-Some.ensures.steps.0 in
    turned_ports c.requires.jobs.plan c.args.mailboxes.now c.index-places-me.result c.len-me.result c.in-Some.job
    (job_turned c.args.mailboxes.now c.args.places.now c.args.jobs.items c.requires.jobs c.jobs.logs.items c.len-me.result c.in-Some.job c.next.new.self.rest.items c.index-places-me.result
    (omega (arith, c.len-me.ensures, c.jobs.logs.ok)) next c.index-places-me.is)

pub absorb_ports-requires-clause-inbox : goal.absorb_ports-requires-clause-inbox
absorb_ports-requires-clause-inbox c =
    let next = sym c.jobs.invariant.rest ∙ c.in-Some.ensures.steps.0 in
    turned_inbox c.requires.jobs.plan c.args.mailboxes.now c.index-places-me.result c.len-me.result c.in-Some.job
    (job_turned c.args.mailboxes.now c.args.places.now c.args.jobs.items c.requires.jobs c.jobs.logs.items c.len-me.result c.in-Some.job c.next.new.self.rest.items c.index-places-me.result
    (omega (arith, c.len-me.ensures, c.jobs.logs.ok)) next c.index-places-me.is)

pub jobs-preserved : goal.jobs-preserved
jobs-preserved c =
    let mails = c.args.mailboxes.now in
    let jobs = c.args.jobs.items in
    let job = c.in-Some.job in
    let told = c.jobs.logs.items in
    let later = c.next.new.self.rest.items in
    let step = c.in-Some.ensures.steps.0 in
    let next = sym c.jobs.invariant.rest ∙ step in
    let logs = c.in_ok-push-2.ensures.items in
    let seats = c.in_ok-push.ensures.items in
    let here = subst (λ (rest : List Job). Closing mails c.args.places.now jobs rest c.jobs.masters.items c.jobs.seats.items told) step c.jobs.invariant.closing in
    let long : length told + 1 ≡ length c.push-in-jobs.new.self.items = omega (arith, ap length logs, length_push told job.desk.log) in
    record {
      rest = (drop_rest (length told) jobs job later next).1 ∙ ap (λ (z : ℕ). drop z jobs) long;
      closing = subst (λ (x : List (SeatView Secrets) × List Log). Closing mails c.args.places.now jobs later c.absorb_ports.new.masters.items x.0 x.1) (λ i. (sym seats i, sym logs i))
          (closing_one mails c.args.places.now jobs c.requires.jobs told c.len-me.result job later c.index-places-me.result (omega (arith, c.len-me.ensures, c.jobs.logs.ok)) next c.index-places-me.is
          c.jobs.masters.items c.absorb_ports.new.masters.items c.jobs.seats.items c.absorb.new.seat here c.absorb_ports.ensures c.absorb.ensures);
    }

pub returns-clause-back : goal.returns-clause-back
returns-clause-back c =
    closed c.args.mailboxes.now c.args.places.now c.args.jobs.items c.jobs.job-iterator.rest.items c.requires.jobs c.jobs.masters.items c.jobs.seats.items c.jobs.logs.items
    (omega (arith, c.in-None.ensures.steps, c.jobs.job-iterator.rest.ok)) c.jobs.invariant.closing

pub returns-clause-takes : goal.returns-clause-takes
returns-clause-takes c =
    closed_take_out c.args.mailboxes.now c.args.places.now c.args.jobs.items c.jobs.job-iterator.rest.items c.requires.jobs c.jobs.masters.items c.jobs.seats.items c.jobs.logs.items
    (omega (arith, c.in-None.ensures.steps, c.jobs.job-iterator.rest.ok)) c.jobs.invariant.closing
