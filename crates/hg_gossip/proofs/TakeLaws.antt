-- Events that are put one after the other
use Rattle.std.proofs.Common.{◌≡◌, inl, inr, ℕ, suc, ◌+◌, ◌<◌, ◌≤◌, List, [], ◌∷◌, ◌++◌, length, take, drop, get_or, Result, Ok, Err, sym, refl, ap, ◌∙◌, subst, add-one, arith}
use Rattle.std.specs.Prelude.{IfOk, OnErr}
use Rattle.std.proofs.lemmas.List.{take-append-drop}
use Rattle.std.proofs.Math.Seq.{drop-cons, take-suc}
use Rattle.hg_life.specs.declared.answers.PutAnswer.{PutAnswer}
use Rattle.hg_life.specs.declared.answers.PutAnswer.TheVariants.{Accepted, Known, Refused}
use Rattle.hg_life.specs.declared.answers.SyncMade.{SyncMade}
use Rattle.hg_life.specs.declared.gossip.Parcel.{Parcel}
use Rattle.hg_gossip.specs.declared.gossip.Taken.{Taken}
use Rattle.hg_gossip.specs.Holding.{PutsBytes, Rules, Seen, Waits, WouldTake, names_in, parcel_beyond}
use Rattle.hg_gossip.specs.Gossip.{MakesAfter, MakesNone, Pulls, PullsSome, Syncs, Takes, TakesAll, TakesSome, WouldMakeAfter, none_taken, with_answer}

module _ {K : Type 0} (rules : Rules K) where
  -- one more
  pub takes_push : (events : List (List ℕ)) (old mid new : Seen K) (before counts : Taken) (bytes : List ℕ) (answer : PutAnswer) →
      Takes rules old before events mid counts → PutsBytes rules mid bytes new answer → Takes rules old before (events ++ bytes ∷ []) new (with_answer counts answer)
  takes_push [] old mid new before counts bytes answer none put = (
    new,
    answer,
    subst (λ (s : Seen K). PutsBytes rules s bytes new answer) none.0 put,
    (refl, ap (λ (t : Taken). with_answer t answer) none.1),
  )
  takes_push (first ∷ events) old mid new before counts bytes answer some put =
      (some.0, some.1, some.2, takes_push events some.0 mid new (with_answer before some.1) counts bytes answer some.3 put)

  -- the first of them, and there was no memory to accept the next one
  pub takes_first : (events : List (List ℕ)) (i : ℕ) (item bytes : List ℕ) (old mid new : Seen K) (counts : Taken) → i < length events → item ≡ get_or events i item → bytes ≡ item →
      TakesAll rules old (take i events) mid counts → Waits rules mid new → WouldTake rules new bytes → TakesSome rules old events new
  takes_first events i item bytes old mid new counts within is same takes waits full = record {
    first = take i events;
    next = bytes;
    rest = drop (suc i) events;
    whole =
        sym (take-append-drop i events)
        ∙ ap (λ (es : List (List ℕ)). take i events ++ es) (drop-cons events i item within ∙ ap (λ (b : List ℕ). b ∷ drop (suc i) events) (sym is ∙ sym same));
    reached = mid;
    taken = counts;
    takes = takes;
    waits = waits;
    full = full;
  }

  -- the next of them
  pub takes_next : (events : List (List ℕ)) (i : ℕ) (item bytes : List ℕ) (old mid new : Seen K) (counts more : Taken) (answer : PutAnswer) → i < length events → item ≡ get_or events i item → bytes ≡ item →
      more ≡ with_answer counts answer → TakesAll rules old (take i events) mid counts → PutsBytes rules mid bytes new answer → TakesAll rules old (take (i + 1) events) new more
  takes_next events i item bytes old mid new counts more answer within is same counted takes put =
      let next : take (i + 1) events ≡ take i events ++ bytes ∷ [] =
      ap (λ (n : ℕ). take n events) (add-one i) ∙ (take-suc events i item within ∙ ap (λ (b : List ℕ). take i events ++ b ∷ []) (sym is ∙ sym same)) in
      subst (λ (t : Taken). TakesAll rules old (take (i + 1) events) new t) (sym counted)
      (subst (λ (es : List (List ℕ)). TakesAll rules old es new (with_answer counts answer)) (sym next)
      (takes_push (take i events) old mid new none_taken counts bytes answer takes put))

  -- there was no memory to hand them over
  pub pulls_none : {L : Type 0} (old reached : Seen K) (peer : Seen L) → Waits rules old reached → PullsSome rules old peer reached
  pulls_none old reached peer waits = record {
    reached = reached;
    waits = waits;
    stops = inl refl;
  }

  pub pulls_some : {L : Type 0} (old reached new : Seen K) (peer : Seen L) (parcel : Parcel) (events : List (List ℕ)) → parcel ≡ parcel_beyond (names_in reached) peer → events ≡ parcel.rows →
      Waits rules old reached → TakesSome rules reached events new → PullsSome rules old peer new
  pulls_some old reached new peer parcel events is rows waits takes = record {
    reached = reached;
    waits = waits;
    stops = inr (subst (λ (es : List (List ℕ)). TakesSome rules reached es new) (rows ∙ ap (λ (p : Parcel). p.rows) is) takes);
  }

  pub pulls_all : {L : Type 0} (old reached new : Seen K) (peer : Seen L) (parcel : Parcel) (events : List (List ℕ)) (taken : Taken) → parcel ≡ parcel_beyond (names_in reached) peer → events ≡ parcel.rows →
      Waits rules old reached → TakesAll rules reached events new taken → Pulls rules old peer new taken
  pulls_all old reached new peer parcel events taken is rows waits takes = record {
    reached = reached;
    waits = waits;
    takes = subst (λ (es : List (List ℕ)). TakesAll rules reached es new taken) (rows ∙ ap (λ (p : Parcel). p.rows) is) takes;
  }

  pub pull_ended : {L E : Type 0} (old reached new : Seen K) (peer : Seen L) (parcel : Parcel) (events : List (List ℕ)) (result : Result Taken E) → parcel ≡ parcel_beyond (names_in reached) peer → events ≡ parcel.rows →
      Waits rules old reached → IfOk result (TakesAll rules reached events new) → IfOk result (Pulls rules old peer new)
  pull_ended old reached new peer parcel events (Ok taken) is rows waits takes = pulls_all old reached new peer parcel events taken is rows waits takes
  pull_ended old reached new peer parcel events (Err e) is rows waits takes = tt

  pub pull_stopped : {L E : Type 0} (old reached new : Seen K) (peer : Seen L) (parcel : Parcel) (events : List (List ℕ)) (result : Result Taken E) → parcel ≡ parcel_beyond (names_in reached) peer → events ≡ parcel.rows →
      Waits rules old reached → OnErr result (TakesSome rules reached events new) → OnErr result (PullsSome rules old peer new)
  pull_stopped old reached new peer parcel events (Ok taken) is rows waits takes = tt
  pull_stopped old reached new peer parcel events (Err e) is rows waits takes = pulls_some old reached new peer parcel events is rows waits takes

  -- there was none to make the event
  pub makes_none : {L : Type 0} (old reached full new : Seen K) (peer : Seen L) (parcel : Parcel) (events : List (List ℕ)) (payload : List ℕ) (taken : Taken) →
      parcel ≡ parcel_beyond (names_in reached) peer → events ≡ parcel.rows → Waits rules old reached → TakesAll rules reached events full taken → Waits rules full new → WouldMakeAfter new parcel.last payload →
      MakesNone rules old peer payload new
  makes_none old reached full new peer parcel events payload taken is rows waits takes later signs = record {
    full = full;
    taken = taken;
    pulled = pulls_all old reached full peer parcel events taken is rows waits takes;
    waits = later;
    signs = subst (λ (p : Parcel). WouldMakeAfter new p.last payload) is signs;
  }

  pub syncs_all : {L : Type 0} (old reached full new : Seen K) (peer : Seen L) (parcel : Parcel) (events : List (List ℕ)) (time : ℕ) (payload : List ℕ) (taken : Taken) (made : SyncMade) →
      parcel ≡ parcel_beyond (names_in reached) peer → events ≡ parcel.rows → Waits rules old reached → TakesAll rules reached events full taken → MakesAfter rules full parcel.last time payload new made →
      Syncs rules old peer time payload new (record { taken = taken.taken; refused = taken.refused; made = made })
  syncs_all old reached full new peer parcel events time payload taken made is rows waits takes makes = record {
    full = full;
    taken = taken;
    pulled = pulls_all old reached full peer parcel events taken is rows waits takes;
    counts = (refl, refl);
    made = subst (λ (p : Parcel). MakesAfter rules full p.last time payload new made) is makes;
  }

-- memory ran out
pub errs : {A E : Type 0} (result : Result A E) (P : Type 0) → P → OnErr result P
errs (Ok a) P p = tt
errs (Err e) P p = p

-- an answer counts once at most
pub few_more : (counts more : Taken) (answer : PutAnswer) (i : ℕ) → more ≡ with_answer counts answer → counts.taken + counts.refused ≤ i → more.taken + more.refused ≤ i + 1
few_more counts more answer i is few = subst (λ (t : Taken). t.taken + t.refused ≤ i + 1) (sym is) (by answer)
  where
    by : (a : PutAnswer) → (with_answer counts a).taken + (with_answer counts a).refused ≤ i + 1
    by (Accepted p) = omega arith
    by (Known p) = omega arith
    by (Refused f) = omega arith
