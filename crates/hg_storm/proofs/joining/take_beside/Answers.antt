use Rattle.std.proofs.Common.{◌≡◌, ◌<◌, ℕ, List, length, Some, None, subst}
use Rattle.std.specs.Prelude.{IfOk, OnOk}
use Rattle.hg_model.specs.Shares.{whole}
use Rattle.hg_board.specs.Crews.{MarksAll}
use Rattle.hg_storm.specs.Drawing.{place_in}
use Rattle.hg_storm.specs.Turning.{GoesOn, Stands}
use Rattle.hg_storm.proofs.RunLaws.{rests, runs, runs_seat, runs_stands}
use Rattle.hg_storm.proofs.joining.take_beside.Goals as goal

pub returns-in_default : goal.returns-in_default
returns-in_default g c =
    rests c.args.plan.now c.args.mailboxes.now c.args.places.now c.args.job c.requires.run
    (subst (λ (l : List ℕ). None ≡ place_in l c.args.job.desk.me) c.as_slice.ensures.value c.in_default.ensures.place)

pub join-ended-requires-after_bounds : goal.join-ended-requires-after_bounds
join-ended-requires-after_bounds g c κs within =
    let plan = c.args.plan.now in
    let shared = c.index-places-job.result in
    let inside = subst (λ (l : List ℕ). c.in-Some.place < length l) c.as_slice.ensures.value c.in-Some.ensures.inside in (
      (
        runs_stands plan c.args.mailboxes.now c.args.places.now c.args.job c.requires.run shared c.index-places-job.is c.in-Some.place,
        (c.requires.run.draws, (inside, c.requires.circle)),
      ),
      runs_seat plan c.args.mailboxes.now c.args.places.now c.args.job c.requires.run shared c.index-places-job.is,
    )

pub returns : goal.returns
returns g c =
    let plan = c.args.plan.now in
    let shared = c.index-places-job.result in
    let some = subst (λ (l : List ℕ). Some c.in-Some.place ≡ place_in l c.args.job.desk.me) c.as_slice.ensures.value c.in-Some.ensures.place in
    let on = subst (λ r. IfOk r (GoesOn c.args.job.desk)) c.in_ok-desk.was c.join-ended.ensures.first.0 in
    let marked = subst (λ r. OnOk r (0 < plan.turns → MarksAll shared whole c.args.job.seat c.join-ended.result.1.0)) c.in_ok-done.was c.join-ended.ensures.second.1 in
    let stands = subst (λ r. IfOk r (Stands plan c.in-Some.place c.args.mailboxes.now shared plan.turns plan.turns)) c.in_ok-desk.was c.join-ended.ensures.first.1 in
    runs plan c.args.mailboxes.now c.args.places.now c.args.job c.requires.run shared c.index-places-job.is c.in-Some.place (record { desk = c.in_ok-desk.desk; seat = c.join-ended.result.1.0 }) some on
    c.join-ended.ensures.second.0 marked stands
