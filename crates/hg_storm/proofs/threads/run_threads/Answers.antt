use Rattle.std.proofs.Common.{◌≡◌, ℕ, ◌<◌, get_or, List, length, sym, ap, ◌∙◌, subst, arith}
use Rattle.hg_crowd.proofs.ListLaws.{some_of}
use Rattle.hg_life.specs.NodeView.{NodeView}
use Rattle.hg_life.specs.Signing.{accepts_by}
use Rattle.hg_mail.specs.Mailboxes.{MailboxView}
use Rattle.hg_board.specs.Seats.{SeatView, SharedNode}
use Rattle.hg_crowd.specs.Workers.{AreStarted, AreWhole}
use Rattle.hg_crowd.specs.Crowd.{AreSeats}
use Rattle.hg_crowd.proofs.CrowdLaws.{all_started, seats_started}
use Rattle.hg_storm.specs.Drawing.{IsCircle}
use Rattle.hg_storm.specs.Keeping.{Secrets}
use Rattle.hg_storm.specs.Threads.{AreOpened, HaveRoom}
use Rattle.hg_storm.proofs.OpenLaws.{new_jobs_may_run}
use Rattle.hg_storm.proofs.ThreadLaws.{are_joined, have_turned, lasts_are_seats, lasts_have_all, more_of_all, session_of}
use Rattle.hg_storm.proofs.ToldLaws.{are_told, have_collected}
use Rattle.hg_storm.proofs.threads.run_threads.Goals as goal

pub jobs_of-requires-clause-opened : goal.jobs_of-requires-clause-opened
jobs_of-requires-clause-opened g c =
    subst (λ (mails : List MailboxView). AreOpened 0 mails c.in_ok-mailboxes.masters.items) (sym c.as_slice-boxes.ensures.value) c.in_ok-mailboxes.ensures.opened

pub jobs_of-requires-clause-seats : goal.jobs_of-requires-clause-seats
jobs_of-requires-clause-seats g c =
    let nodes = c.args.nodes.items in
    let places = c.as_slice-places.result.now in
    let firsts = c.in_ok-shared.seats.items in
    let started = subst (λ (l : List (SharedNode Secrets)). AreStarted accepts_by nodes l firsts) (sym c.as_slice-places.ensures.value) c.in_ok-shared.ensures in
    seats_started accepts_by nodes places firsts started

pub jobs_of-requires-clause-parts : goal.jobs_of-requires-clause-parts
jobs_of-requires-clause-parts g c =
    let firsts = c.in_ok-shared.seats.items in
    more_of_all firsts (all_started accepts_by c.args.nodes.items c.in_ok-shared.shared.items firsts c.in_ok-shared.ensures)

pub jobs_of-requires-clause-count : goal.jobs_of-requires-clause-count
jobs_of-requires-clause-count g c =
    omega (arith, c.in_ok-shared.ensures.seats_count, ap length c.as_slice-boxes.ensures.value, c.in_ok-mailboxes.ensures.count, c.len.ensures)

pub jobs_of-requires-clause-few : goal.jobs_of-requires-clause-few
jobs_of-requires-clause-few g c =
    omega (arith, c.requires.few, ap length c.as_slice-boxes.ensures.value, c.in_ok-mailboxes.ensures.count, c.len.ensures)

pub take_all_turns-requires-clause-run : goal.take_all_turns-requires-clause-run
take_all_turns-requires-clause-run g c κs within =
    let nodes = c.args.nodes.items in
    let boxes = c.as_slice-boxes.result.now in
    let places = c.as_slice-places.result.now in
    let firsts = c.in_ok-shared.seats.items in
    let started = subst (λ (l : List (SharedNode Secrets)). AreStarted accepts_by nodes l firsts) (sym c.as_slice-places.ensures.value) c.in_ok-shared.ensures in
    let count : length boxes ≡ length nodes = omega (arith, ap length c.as_slice-boxes.ensures.value, c.in_ok-mailboxes.ensures.count, c.len.ensures) in
    let rooms : (k : ℕ) (p : SharedNode Secrets) → k < length places → 0 < (get_or places k p).start.start.limit = λ k p low.
    let inside : k < length nodes = omega (arith, low, started.shared_count) in
    let v : NodeView Secrets = some_of nodes k inside in
    let s : SeatView Secrets = some_of firsts k (omega (arith, inside, started.seats_count)) in
    subst (λ (x : NodeView Secrets). 0 < x.start.limit) (sym (started.each k v p s inside).start) (c.requires.limits k v inside)
    in
    new_jobs_may_run c.args.plan.now boxes places firsts c.in_ok-jobs.jobs.items (started.shared_count ∙ sym count) rooms (seats_started accepts_by nodes places firsts started) c.in_ok-jobs.ensures.jobs

pub take_all_turns-requires-clause-circle : goal.take_all_turns-requires-clause-circle
take_all_turns-requires-clause-circle g c κs within =
    let count : length c.as_slice-boxes.result.now ≡ length c.args.nodes.items = omega (arith, ap length c.as_slice-boxes.ensures.value, c.in_ok-mailboxes.ensures.count, c.len.ensures) in
    subst (λ (n : ℕ). IsCircle n c.args.plan.now) (sym count) c.requires.circle

pub absorb_all-requires-clause-jobs : goal.absorb_all-requires-clause-jobs
absorb_all-requires-clause-jobs g c =
    let nodes = c.args.nodes.items in
    let boxes = c.as_slice-boxes.result.now in
    let places = c.as_slice-places.result.now in
    let firsts = c.in_ok-shared.seats.items in
    let olds = c.in_ok-jobs.jobs.items in
    let news = c.in_ok-jobs-2.jobs.items in
    let started = subst (λ (l : List (SharedNode Secrets)). AreStarted accepts_by nodes l firsts) (sym c.as_slice-places.ensures.value) c.in_ok-shared.ensures in
    let count : length boxes ≡ length nodes = omega (arith, ap length c.as_slice-boxes.ensures.value, c.in_ok-mailboxes.ensures.count, c.len.ensures) in
    have_turned c.args.plan.now boxes nodes places firsts olds news
    (are_joined c.args.plan.now boxes nodes places firsts olds news c.in_ok-ended.ended.items started count c.in_ok-jobs.ensures.jobs c.in_ok-ended.ensures c.in_ok-jobs-2.ensures)

pub finish_all-requires-clause-seats : goal.finish_all-requires-clause-seats
finish_all-requires-clause-seats g c =
    let nodes = c.args.nodes.items in
    let boxes = c.as_slice-boxes.result.now in
    let places = c.as_slice-places.result.now in
    let firsts = c.in_ok-shared.seats.items in
    let olds = c.in_ok-jobs.jobs.items in
    let news = c.in_ok-jobs-2.jobs.items in
    let lasts = c.in_ok-seats.seats.items in
    let started = subst (λ (l : List (SharedNode Secrets)). AreStarted accepts_by nodes l firsts) (sym c.as_slice-places.ensures.value) c.in_ok-shared.ensures in
    let count : length boxes ≡ length nodes = omega (arith, ap length c.as_slice-boxes.ensures.value, c.in_ok-mailboxes.ensures.count, c.len.ensures) in
    let joined = are_joined c.args.plan.now boxes nodes places firsts olds news c.in_ok-ended.ended.items started count c.in_ok-jobs.ensures.jobs c.in_ok-ended.ensures c.in_ok-jobs-2.ensures in
    subst (λ (l : List (SharedNode Secrets)). AreSeats accepts_by l lasts) c.as_slice-places.ensures.value
    (lasts_are_seats c.args.plan.now boxes nodes places firsts olds news joined lasts c.in_ok-seats.ensures.back.seats)

pub finish_all-requires-clause-parts : goal.finish_all-requires-clause-parts
finish_all-requires-clause-parts g c =
    let nodes = c.args.nodes.items in
    let boxes = c.as_slice-boxes.result.now in
    let places = c.as_slice-places.result.now in
    let firsts = c.in_ok-shared.seats.items in
    let olds = c.in_ok-jobs.jobs.items in
    let news = c.in_ok-jobs-2.jobs.items in
    let lasts = c.in_ok-seats.seats.items in
    let started = subst (λ (l : List (SharedNode Secrets)). AreStarted accepts_by nodes l firsts) (sym c.as_slice-places.ensures.value) c.in_ok-shared.ensures in
    let count : length boxes ≡ length nodes = omega (arith, ap length c.as_slice-boxes.ensures.value, c.in_ok-mailboxes.ensures.count, c.len.ensures) in
    let joined = are_joined c.args.plan.now boxes nodes places firsts olds news c.in_ok-ended.ended.items started count c.in_ok-jobs.ensures.jobs c.in_ok-ended.ensures c.in_ok-jobs-2.ensures in
    lasts_have_all c.args.plan.now boxes nodes places firsts olds news joined lasts c.in_ok-seats.ensures.back.seats

pub returns-clause-session : goal.returns-clause-session
returns-clause-session g c =
    let nodes = c.args.nodes.items in
    let boxes = c.as_slice-boxes.result.now in
    let places = c.as_slice-places.result.now in
    let firsts = c.in_ok-shared.seats.items in
    let olds = c.in_ok-jobs.jobs.items in
    let news = c.in_ok-jobs-2.jobs.items in
    let lasts = c.in_ok-seats.seats.items in
    let ends = c.in_ok-nodes.nodes.items in
    let started = subst (λ (l : List (SharedNode Secrets)). AreStarted accepts_by nodes l firsts) (sym c.as_slice-places.ensures.value) c.in_ok-shared.ensures in
    let count : length boxes ≡ length nodes = omega (arith, ap length c.as_slice-boxes.ensures.value, c.in_ok-mailboxes.ensures.count, c.len.ensures) in
    let joined = are_joined c.args.plan.now boxes nodes places firsts olds news c.in_ok-ended.ended.items started count c.in_ok-jobs.ensures.jobs c.in_ok-ended.ensures c.in_ok-jobs-2.ensures in
    let whole = subst (λ (l : List (SharedNode Secrets)). AreWhole l lasts ends) (sym c.as_slice-places.ensures.value) c.in_ok-nodes.ensures in
    session_of c.args.plan.now boxes nodes places firsts olds news joined lasts c.in_ok-seats.ensures.back.seats ends whole

pub returns-clause-told : goal.returns-clause-told
returns-clause-told g c =
    let nodes = c.args.nodes.items in
    let boxes = c.as_slice-boxes.result.now in
    let places = c.as_slice-places.result.now in
    let firsts = c.in_ok-shared.seats.items in
    let olds = c.in_ok-jobs.jobs.items in
    let news = c.in_ok-jobs-2.jobs.items in
    let lasts = c.in_ok-seats.seats.items in
    let ends = c.in_ok-nodes.nodes.items in
    let started = subst (λ (l : List (SharedNode Secrets)). AreStarted accepts_by nodes l firsts) (sym c.as_slice-places.ensures.value) c.in_ok-shared.ensures in
    let count : length boxes ≡ length nodes = omega (arith, ap length c.as_slice-boxes.ensures.value, c.in_ok-mailboxes.ensures.count, c.len.ensures) in
    let joined = are_joined c.args.plan.now boxes nodes places firsts olds news c.in_ok-ended.ended.items started count c.in_ok-jobs.ensures.jobs c.in_ok-ended.ensures c.in_ok-jobs-2.ensures in
    let whole = subst (λ (l : List (SharedNode Secrets)). AreWhole l lasts ends) (sym c.as_slice-places.ensures.value) c.in_ok-nodes.ensures in
    let rooms = subst (HaveRoom c.args.room) (sym c.as_slice-boxes.ensures.value) c.in_ok-mailboxes.ensures.room in
    are_told c.args.plan.now c.args.room boxes nodes ends places firsts lasts olds news c.absorb_all.new.masters.items c.in_ok-seats.logs.items c.in_ok-left.left.items c.requires.new rooms
    joined c.in_ok-seats.ensures.back c.in_ok-seats.ensures.takes c.in_ok-left.ensures.left whole

pub returns-clause-collected : goal.returns-clause-collected
returns-clause-collected g c =
    let nodes = c.args.nodes.items in
    let boxes = c.as_slice-boxes.result.now in
    let places = c.as_slice-places.result.now in
    let firsts = c.in_ok-shared.seats.items in
    let olds = c.in_ok-jobs.jobs.items in
    let news = c.in_ok-jobs-2.jobs.items in
    let lasts = c.in_ok-seats.seats.items in
    let ends = c.in_ok-nodes.nodes.items in
    let started = subst (λ (l : List (SharedNode Secrets)). AreStarted accepts_by nodes l firsts) (sym c.as_slice-places.ensures.value) c.in_ok-shared.ensures in
    let count : length boxes ≡ length nodes = omega (arith, ap length c.as_slice-boxes.ensures.value, c.in_ok-mailboxes.ensures.count, c.len.ensures) in
    let joined = are_joined c.args.plan.now boxes nodes places firsts olds news c.in_ok-ended.ended.items started count c.in_ok-jobs.ensures.jobs c.in_ok-ended.ensures c.in_ok-jobs-2.ensures in
    let whole = subst (λ (l : List (SharedNode Secrets)). AreWhole l lasts ends) (sym c.as_slice-places.ensures.value) c.in_ok-nodes.ensures in
    let rooms = subst (HaveRoom c.args.room) (sym c.as_slice-boxes.ensures.value) c.in_ok-mailboxes.ensures.room in
    have_collected c.args.plan.now c.args.room boxes nodes ends places firsts lasts olds news c.absorb_all.new.masters.items c.in_ok-seats.logs.items c.in_ok-left.left.items c.requires.new rooms
    joined c.in_ok-seats.ensures.back c.in_ok-seats.ensures.takes c.in_ok-left.ensures.left whole c.empty_all.new.masters.items c.in_ok-left.ensures.ports
