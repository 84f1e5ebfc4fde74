-- What a holder takes from another, and the event that it makes then. SWIRLDS-TR-2016-01, section 3
use Rattle.std.specs.Prelude.{ℕ, ◌≡◌, ◌+◌, ◌⊎◌, List, [], ◌∷◌, ◌++◌, Option, Some, None}
use Rattle.hg_life.specs.declared.answers.PutAnswer.{PutAnswer}
use Rattle.hg_life.specs.declared.answers.MakeAnswer.{MakeAnswer}
use Rattle.hg_life.specs.declared.answers.SyncMade.{SyncMade}
use Rattle.hg_life.specs.declared.answers.SyncMade.TheVariants as sync_made
use Rattle.hg_life.specs.declared.answers.SyncReport.{SyncReport}
use Rattle.hg_life.specs.Gossip.{count_refused, count_taken, made_in_sync}
use Rattle.hg_gossip.specs.declared.gossip.Taken.{Taken}
use Rattle.hg_gossip.specs.Holding.{Makes, PutsBytes, Rules, Seen, Waits, WouldSign, WouldTake, names_in, parcel_beyond}

abbrev pub none_taken : Taken
none_taken = record { taken = 0; refused = 0 }

-- the counts with one answer more
abbrev pub with_answer : Taken → PutAnswer → Taken
with_answer t answer = record { taken = t.taken + count_taken answer; refused = t.refused + count_refused answer }

-- these bytes were put one after the other, each at the history then reached: the counts before and after
abbrev pub Takes : {K : Type 0} → Rules K → Seen K → Taken → List (List ℕ) → Seen K → Taken → Type 0
Takes rules old before [] new after = (new ≡ old) × (after ≡ before)
Takes {K} rules old before (bytes ∷ events) new after =
    (next : Seen K) × (answer : PutAnswer) × PutsBytes rules old bytes next answer × Takes rules next (with_answer before answer) events new after

-- the same, from no counts
abbrev pub TakesAll : {K : Type 0} → Rules K → Seen K → List (List ℕ) → Seen K → Taken → Type 0
TakesAll rules old events new taken = Takes rules old none_taken events new taken

-- some of the first of these were, and there was no memory to accept the next one
pub record TakesSome {K : Type 0} (rules : Rules K) (old : Seen K) (events : List (List ℕ)) (new : Seen K) : Type 0 where
  pub first : List (List ℕ)
  pub next : List ℕ
  pub rest : List (List ℕ)
  pub whole : events ≡ first ++ next ∷ rest
  pub reached : Seen K
  pub taken : Taken
  pub takes : TakesAll rules old first reached taken
  pub waits : Waits rules reached new
  pub full : WouldTake rules new next

-- the rows of the peer whose names were not among the holder's when it read them were put, in the peer's order
pub record Pulls {K L : Type 0} (rules : Rules K) (old : Seen K) (peer : Seen L) (new : Seen K) (taken : Taken) : Type 0 where
  pub reached : Seen K
  pub waits : Waits rules old reached
  pub takes : TakesAll rules reached (parcel_beyond (names_in reached) peer).rows new taken

-- none of them was, for want of memory to hand them over, or some of the first of them were, and then there was none to
-- accept the next one
pub record PullsSome {K L : Type 0} (rules : Rules K) (old : Seen K) (peer : Seen L) (new : Seen K) : Type 0 where
  pub reached : Seen K
  pub waits : Waits rules old reached
  pub stops : (new ≡ reached) ⊎ TakesSome rules reached (parcel_beyond (names_in reached) peer).rows new

-- an event on this other-parent was made, or refused; none where there is no name
abbrev pub MakesAfter : {K : Type 0} → Rules K → Seen K → Option (List ℕ) → ℕ → List ℕ → Seen K → SyncMade → Type 0
MakesAfter rules old None time payload new made = (new ≡ old) × (made ≡ sync_made.PeerBare)
MakesAfter rules old (Some other) time payload new made =
    (answer : MakeAnswer) × Makes rules old (other ∷ []) time payload new answer × (made ≡ made_in_sync answer)

-- such an event would be signed
abbrev pub WouldMakeAfter : {K : Type 0} → Seen K → Option (List ℕ) → List ℕ → Type 0
WouldMakeAfter s None payload = ⊥
WouldMakeAfter s (Some other) payload = WouldSign s (other ∷ []) payload

-- all of them were, and there was no memory to make an event on the peer's last own row
pub record MakesNone {K L : Type 0} (rules : Rules K) (old : Seen K) (peer : Seen L) (payload : List ℕ) (new : Seen K) : Type 0 where
  pub full : Seen K
  pub taken : Taken
  pub pulled : Pulls rules old peer full taken
  pub waits : Waits rules full new
  pub signs : WouldMakeAfter new (parcel_beyond [] peer).last payload

-- a sync for which there was no memory: in the pull, or for its event
abbrev pub SyncsSome : {K L : Type 0} → Rules K → Seen K → Seen L → List ℕ → Seen K → Type 0
SyncsSome rules old peer payload new = PullsSome rules old peer new ⊎ MakesNone rules old peer payload new

-- the holder pulled from the peer, and made an event on the peer's last own row
pub record Syncs {K L : Type 0} (rules : Rules K) (old : Seen K) (peer : Seen L) (time : ℕ) (payload : List ℕ) (new : Seen K) (report : SyncReport) : Type 0 where
  pub full : Seen K
  pub taken : Taken
  pub pulled : Pulls rules old peer full taken
  pub counts : (report.taken ≡ taken.taken) × (report.refused ≡ taken.refused)
  pub made : MakesAfter rules full (parcel_beyond [] peer).last time payload new report.made
