-- The threads, and their joins: where every one came to its end, all members took their turns
use Rattle.std.proofs.Common.{◌≡◌, ℕ, ◌<◌, List, length, map, get_or, Result, Ok, Option, Some, None, refl, sym, ap, ◌∙◌, subst, arith}
use Rattle.std.specs.Prelude.{unwrap_or}
use Rattle.std.proofs.lemmas.List.{get_or-map, get_or_default, length-map}
use Rattle.hg_model.specs.Shares.{Share, whole}
use Rattle.hg_life.specs.Signing.{Accepts}
use Rattle.hg_mail.specs.Mailboxes.{MailboxView}
use Rattle.hg_board.specs.Seats.{IsOf, SharedNode, SeatView}
use Rattle.hg_board.specs.Calls.{Stays}
use Rattle.hg_board.specs.Crews.{MarksAll, OnlyMarks}
use Rattle.hg_crowd.specs.Workers.{Worked}
use Rattle.hg_crowd.proofs.MarkLaws.{marks_of_share}
use Rattle.hg_crowd.proofs.WorkLaws.{still_self, worked_none}
use Rattle.hg_storm.specs.declared.plan.Plan.{Plan}
use Rattle.hg_storm.specs.declared.desk.Job.{Job}
use Rattle.hg_storm.specs.Keeping.{Secrets}
use Rattle.hg_storm.specs.Drawing.{place_in}
use Rattle.hg_storm.specs.Turning.{GoesOn, Stands}
use Rattle.hg_storm.specs.Threads.{AllCome, AreDoneJobs, AreNewJobs, ComesOf, IsDoneJob, MayRun, turns_at}
use Rattle.hg_storm.proofs.OpenLaws.{new_job_me}

-- a crew's call adds marks alone
pub worked_by : {V : Type 0} (accepts : V → Accepts) (p : SharedNode V) (s t : SeatView V) (share : Share) → IsOf p s → Stays accepts p s t → OnlyMarks share s t → Worked s t
worked_by accepts p s t share of stays marks = record {
  still = record { same = stays.of.table ∙ sym of.table; start = stays.of.start ∙ sym of.start; parts = stays.parts; seen = stays.seen };
  more = marks.more;
  mine = marks.mine;
  marks = marks_of_share share t.seen marks.more marks.marks;
}

-- ---- the thread of one member

module _ (plan : Plan) (mails : List MailboxView) (places : List (SharedNode Secrets)) (job : Job) (run : MayRun mails places plan job) where
  -- a member without a node does nothing
  pub rests : None ≡ place_in plan.circle.items job.desk.me → (p : SharedNode Secrets) → IsDoneJob plan mails (get_or places job.desk.me p) job job
  rests none p = record {
    on = record { me = refl; still = still_self job.desk.seat };
    worked = worked_none job.seat;
    marked = subst (λ (o : Option ℕ). 0 < turns_at plan o → MarksAll (get_or places job.desk.me p) whole job.seat job.seat) none (λ low. absurd (omega (arith, low)));
    stands = subst (λ (o : Option ℕ). Stands plan (unwrap_or o 0) mails (get_or places job.desk.me p) (turns_at plan o) (turns_at plan o) job.desk) none (run.stands 0 p);
  }

  module _ (shared : SharedNode Secrets) (is : shared ≡ get_or places job.desk.me shared) where
    -- what its turns and the crew are asked
    pub runs_stands : (place : ℕ) → Stands plan place mails shared 0 0 job.desk
    runs_stands place = subst (λ (p : SharedNode Secrets). Stands plan place mails p 0 0 job.desk) (sym is) (run.stands place shared)

    pub runs_seat : IsOf shared job.seat
    runs_seat = subst (λ (p : SharedNode Secrets). IsOf p job.seat) (sym is) (run.seat shared).of

    -- what it did
    pub runs : (place : ℕ) (new : Job) → Some place ≡ place_in plan.circle.items job.desk.me → GoesOn job.desk new.desk → Worked job.seat new.seat →
        (0 < plan.turns → MarksAll shared whole job.seat new.seat) → Stands plan place mails shared plan.turns plan.turns new.desk → (p : SharedNode Secrets) → IsDoneJob plan mails (get_or places job.desk.me p) job new
    runs place new some on worked marked stands p =
        let here : shared ≡ get_or places job.desk.me p = is ∙ get_or_default places job.desk.me shared p (omega (arith, run.me, run.count)) in
        record {
          on = on;
          worked = worked;
          marked = subst (λ (x : Option ℕ × SharedNode Secrets). 0 < turns_at plan x.0 → MarksAll x.1 whole job.seat new.seat) (λ i. (some i, here i)) marked;
          stands = subst (λ (x : Option ℕ × SharedNode Secrets). Stands plan (unwrap_or x.0 0) mails x.1 (turns_at plan x.0) (turns_at plan x.0) new.desk) (λ i. (some i, here i)) stands;
        }

-- ---- all threads

-- what came of each job is what came of the one at its place
pub all_come : {E : Type 0} (plan : Plan) (mails : List MailboxView) (places : List (SharedNode Secrets)) (olds : List Job) (ended : List (Result Job E)) → length ended ≡ length olds →
    ((k : ℕ) (r : Result Job E) → k < length olds → (job : Job) × ((d : Job) → get_or olds k d ≡ job) × ((p : SharedNode Secrets) → ComesOf plan mails (get_or places job.desk.me p) job (get_or ended k r))) →
    AllCome plan mails places olds ended
all_come plan mails places olds ended count each = record {
  count = count;
  each = λ k p a r inside.
      let one = each k r inside in
      subst (λ (j : Job). ComesOf plan mails (get_or places j.desk.me p) j (get_or ended k r)) (sym (one.1 a)) (one.2 p);
}

-- where each thread's result is Ok, these are the jobs that came back
pub all_are_done : {E : Type 0} (plan : Plan) (mails : List MailboxView) (places : List (SharedNode Secrets)) (firsts : List (SeatView Secrets)) (olds news : List Job) (ended : List (Result Job E)) →
    AreNewJobs mails plan.seed firsts olds → AllCome plan mails places olds ended → map Ok news ≡ ended → AreDoneJobs plan mails places olds news
all_are_done {E} plan mails places firsts olds news ended new come all =
    let same : length news ≡ length olds = sym (length-map news Ok) ∙ (ap length all ∙ come.count) in
    record {
      count = same;
      each = λ k p a b inside.
          let low : k < length news = omega (arith, inside, same) in
          let is : get_or ended k (Ok b) ≡ Ok (get_or news k b) = sym (ap (λ (l : List (Result Job E)). get_or l k (Ok b)) all) ∙ get_or-map Ok news k b (Ok b) low in
          let here = subst (ComesOf plan mails (get_or places (get_or olds k a).desk.me p) (get_or olds k a)) is (come.each k p a (Ok b) inside) in
          subst (λ (n : ℕ). IsDoneJob plan mails (get_or places n p) (get_or olds k a) (get_or news k b)) (new_job_me mails plan.seed firsts olds k a new inside) here;
    }
