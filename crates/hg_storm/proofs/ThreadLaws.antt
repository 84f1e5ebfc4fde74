-- The threads as a session: the seats that members had before their turns, what they did, and what comes back
use Rattle.std.proofs.Common.{◌≡◌, ℕ, ◌<◌, List, length, map, get_or, Result, Ok, refl, sym, ◌∙◌, subst, arith}
use Rattle.std.specs.Prelude.{All}
use Rattle.std.proofs.lemmas.List.{get_or_default, get_or-map, length-map}
use Rattle.hg_life.specs.Signing.{accepts_by}
use Rattle.hg_life.specs.NodeView.{NodeView}
use Rattle.hg_history.proofs.StateLaws.{prefix_more}
use Rattle.hg_mail.specs.Mailboxes.{MailboxView}
use Rattle.hg_board.specs.Seats.{SharedNode, SeatView}
use Rattle.hg_board.specs.Calls.{Absorbs, after_split, split_off}
use Rattle.hg_crowd.specs.Crowd.{AreSeats, AreStill, Each, IsSeat, IsStill}
use Rattle.hg_crowd.specs.Workers.{AllAbsorb, AreStarted, AreWhole, HasAll, HasMore, Worked}
use Rattle.hg_crowd.proofs.CrowdLaws.{all_back, all_started, seats_started}
use Rattle.hg_crowd.proofs.ListLaws.{some_of}
use Rattle.hg_crowd.proofs.WorkLaws.{worked_none}
use Rattle.hg_storm.specs.declared.plan.Plan.{Plan}
use Rattle.hg_storm.specs.declared.desk.Job.{Job}
use Rattle.hg_storm.specs.Keeping.{Secrets}
use Rattle.hg_storm.specs.Turning.{Stands}
use Rattle.hg_storm.specs.Threads.{AllCome, AreDoneJobs, AreNewJobs, place_of, turns_of}
use Rattle.hg_storm.specs.Joins.{HasSession, HaveTurned}
use Rattle.hg_storm.proofs.RunLaws.{all_are_done}

abbrev pub seats_called : List Job → List (SeatView Secrets)
seats_called jobs = map (λ (j : Job). j.desk.seat) jobs

abbrev pub seats_beside : List Job → List (SeatView Secrets)
seats_beside jobs = map (λ (j : Job). j.seat) jobs

-- of seats with all parts one can be split off
pub more_of_all : (seats : List (SeatView Secrets)) → All HasAll seats → All (HasMore 1) seats
more_of_all seats all = λ k s inside. omega (arith, all k s inside)

-- a member took its turns through a seat that was split off the first one of its node, and others marked with that
pub record IsDone (plan : Plan) (mails : List MailboxView) (p : SharedNode Secrets) (first : SeatView Secrets) (k : ℕ) (j : Job) : Type 0 where
  pub me : j.desk.me ≡ k
  pub still : IsStill (split_off first) j.desk.seat
  pub worked : Worked (after_split first) j.seat
  pub stands : Stands plan (place_of plan k) mails p (turns_of plan k) (turns_of plan k) j.desk

-- nodes that were shared, a job for each, and what it was after its turns
pub record AreJoined (plan : Plan) (mails : List MailboxView) (nodes : List (NodeView Secrets)) (places : List (SharedNode Secrets)) (firsts : List (SeatView Secrets)) (olds news : List Job) : Type 0 where
  pub started : AreStarted accepts_by nodes places firsts
  pub seats : AreSeats accepts_by places firsts
  pub count : length mails ≡ length nodes
  pub fresh : AreNewJobs mails plan.seed firsts olds
  pub done : AreDoneJobs plan mails places olds news

pub are_joined : {E : Type 0} (plan : Plan) (mails : List MailboxView) (nodes : List (NodeView Secrets)) (places : List (SharedNode Secrets)) (firsts : List (SeatView Secrets)) (olds news : List Job) (ended : List (Result Job E)) →
    AreStarted accepts_by nodes places firsts → length mails ≡ length nodes → AreNewJobs mails plan.seed firsts olds → AllCome plan mails places olds ended → map Ok news ≡ ended →
    AreJoined plan mails nodes places firsts olds news
are_joined plan mails nodes places firsts olds news ended started count fresh come all = record {
  started = started;
  seats = seats_started accepts_by nodes places firsts started;
  count = count;
  fresh = fresh;
  done = all_are_done plan mails places firsts olds news ended fresh come all;
}

module _ (plan : Plan) (mails : List MailboxView) (nodes : List (NodeView Secrets)) (places : List (SharedNode Secrets)) (firsts : List (SeatView Secrets)) (olds news : List Job)
    (joined : AreJoined plan mails nodes places firsts olds news) where
  pub done_at : (k : ℕ) (p : SharedNode Secrets) (s : SeatView Secrets) (j : Job) → k < length firsts → IsDone plan mails (get_or places k p) (get_or firsts k s) k (get_or news k j)
  done_at k p s j inside =
      let there : k < length olds = omega (arith, inside, joined.fresh.count) in
      let o : Job = some_of olds k there in
      let new = joined.fresh.each k s o inside in
      let did = joined.done.each k p o j there in
      record {
        me = did.on.me ∙ new.desk.me;
        still = subst (λ (t : SeatView Secrets). IsStill t (get_or news k j).desk.seat) new.desk.seat did.on.still;
        worked = subst (λ (t : SeatView Secrets). Worked t (get_or news k j).seat) new.seat did.worked;
        stands = subst (λ (m : ℕ). Stands plan (place_of plan m) mails (get_or places k p) (turns_of plan m) (turns_of plan m) (get_or news k j).desk) new.desk.me did.stands;
      }

  pub news_count : length news ≡ length firsts
  news_count = joined.done.count ∙ joined.fresh.count

  pub called_count : length (seats_called news) ≡ length firsts
  called_count = length-map news (λ (j : Job). j.desk.seat) ∙ news_count

  pub beside_count : length (seats_beside news) ≡ length firsts
  beside_count = length-map news (λ (j : Job). j.seat) ∙ news_count

  pub called_is : (k : ℕ) (s : SeatView Secrets) (j : Job) → k < length firsts → get_or (seats_called news) k s ≡ (get_or news k j).desk.seat
  called_is k s j inside = get_or-map (λ (d : Job). d.desk.seat) news k j s (omega (arith, inside, news_count))

  pub beside_is : (k : ℕ) (s : SeatView Secrets) (j : Job) → k < length firsts → get_or (seats_beside news) k s ≡ (get_or news k j).seat
  beside_is k s j inside = get_or-map (λ (d : Job). d.seat) news k j s (omega (arith, inside, news_count))

  -- some job and some node, where there are any
  some_job : (k : ℕ) → k < length firsts → Job
  some_job k inside = some_of news k (omega (arith, inside, news_count))

  some_place : (k : ℕ) → k < length firsts → SharedNode Secrets
  some_place k inside = some_of places k (omega (arith, inside, joined.seats.count))

  all_still : AreStill (map split_off firsts) (seats_called news)
  all_still = record {
    count = called_count ∙ sym (length-map firsts split_off);
    each = λ k a b inside.
        let there : k < length firsts = omega (arith, inside, length-map firsts split_off) in
        let j : Job = some_job k there in
        subst (λ (x : SeatView Secrets × SeatView Secrets). IsStill x.0 x.1)
        (λ i. (sym (get_or-map split_off firsts k a a there) i, sym (called_is k b j there) i)) (done_at k (some_place k there) a j there).still;
  }

  all_have_worked : Each Worked (map after_split firsts) (seats_beside news)
  all_have_worked = record {
    count = beside_count ∙ sym (length-map firsts after_split);
    each = λ k a b inside.
        let there : k < length firsts = omega (arith, inside, length-map firsts after_split) in
        let j : Job = some_job k there in
        subst (λ (x : SeatView Secrets × SeatView Secrets). Worked x.0 x.1)
        (λ i. (sym (get_or-map after_split firsts k a a there) i, sym (beside_is k b j there) i)) (done_at k (some_place k there) a j there).worked;
  }

  all_called : AreSeats accepts_by places (seats_called news)
  all_called = record {
    count = called_count ∙ joined.seats.count;
    each = λ k p s inside.
        let there : k < length firsts = omega (arith, inside, joined.seats.count) in
        let j : Job = some_job k there in
        subst (λ (t : SeatView Secrets). IsSeat accepts_by (get_or places k p) t) (sym (called_is k s j there)) (done_at k p s j there).stands.seat;
  }

  -- so their ports and seats can come back
  pub have_turned : HaveTurned mails places news
  have_turned = record {
    plan = plan;
    jobs_count = omega (arith, news_count, joined.count, joined.started.seats_count);
    places_count = omega (arith, joined.count, joined.started.shared_count);
    each = λ k p d inside.
        let there : k < length firsts = omega (arith, inside, news_count) in
        let s : SeatView Secrets = some_of firsts k there in
        let one = done_at k p s d there in
        let first = joined.seats.each k p s (omega (arith, there, joined.seats.count)) in
        record {
          me = one.me;
          seat = record { table = one.worked.still.same ∙ first.of.table; start = one.worked.still.start ∙ first.of.start };
          place = place_of plan k;
          turns = turns_of plan k;
          stands = one.stands;
        };
  }

  module _ (lasts : List (SeatView Secrets)) (absorbed : AllAbsorb accepts_by places (seats_beside news) (seats_called news) lasts) where
    pub absorbed_at : (k : ℕ) (p : SharedNode Secrets) (s : SeatView Secrets) (j : Job) → k < length firsts →
        Absorbs accepts_by (get_or places k p) (get_or news k j).seat (get_or news k j).desk.seat (get_or lasts k s)
    absorbed_at k p s j inside =
        subst (λ (x : SeatView Secrets × SeatView Secrets). Absorbs accepts_by (get_or places k p) x.0 x.1 (get_or lasts k s))
        (λ i. (beside_is k s j inside i, called_is k s j inside i)) (absorbed.each k p s s s (omega (arith, inside, beside_count)))

    lasts_count : length lasts ≡ length firsts
    lasts_count = absorbed.count ∙ beside_count

    -- the seats that come back are seats of their nodes
    pub lasts_are_seats : AreSeats accepts_by places lasts
    lasts_are_seats = record {
      count = lasts_count ∙ joined.seats.count;
      each = λ k p s inside.
          let there : k < length firsts = omega (arith, inside, joined.seats.count) in
          let j : Job = some_job k there in
          let P : SharedNode Secrets = get_or places k p in
          let called : SeatView Secrets = (get_or news k j).desk.seat in
          let absorbs = absorbed_at k p s j there in
          record {
            of = absorbs.of;
            begun = prefix_more P.start.history called.seen (get_or lasts k s).seen (done_at k p s j there).stands.seat.begun absorbs.ends;
            within = absorbs.within;
            node = absorbs.node;
          };
    }

    -- and have all parts again
    pub lasts_have_all : All HasAll lasts
    lasts_have_all =
        all_back accepts_by places firsts (seats_beside news) (seats_called news) lasts joined.seats.count (all_started accepts_by nodes places firsts joined.started) all_still all_have_worked absorbed

    pub session_of : (ends : List (NodeView Secrets)) → AreWhole places lasts ends → HasSession nodes ends
    session_of ends whole = record {
      places = places;
      called = seats_called news;
      run = record {
        firsts = firsts;
        lasts = lasts;
        started = joined.started;
        calls = record {
          beside = seats_beside news;
          back = lasts;
          still = all_still;
          seats = all_called;
          worked = all_have_worked;
          absorbed = absorbed;
          again = record { count = refl; each = λ k a b inside. subst (Worked (get_or lasts k a)) (get_or_default lasts k a b inside) (worked_none (get_or lasts k a)) };
        };
        whole = whole;
      };
    }
