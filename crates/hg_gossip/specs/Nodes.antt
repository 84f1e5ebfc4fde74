-- Gossip of nodes that have one holder each: what it leaves is a function of both, but for the signature of what is made.
-- SWIRLDS-TR-2016-01, section 3
use Rattle.std.specs.Prelude.{ℕ, ◌≡◌, List, [], ◌∷◌, fold, map, Option, Some, None}
use Rattle.hg_model.specs.declared.row.Row.{Row}
use Rattle.hg_life.specs.declared.answers.MakeAnswer.{MakeAnswer}
use Rattle.hg_life.specs.declared.answers.SyncMade.{SyncMade}
use Rattle.hg_life.specs.declared.answers.SyncMade.TheVariants as sync_made
use Rattle.hg_life.specs.declared.answers.SyncReport.{SyncReport}
use Rattle.hg_life.specs.Signing.{Accepts}
use Rattle.hg_life.specs.Spelling.{spelling}
use Rattle.hg_life.specs.Verdict.{last_name}
use Rattle.hg_life.specs.NodeView.{NodeView, node_rows, with_changes}
use Rattle.hg_life.specs.Calls.{IsMaking, put_answer, put_changes}
use Rattle.hg_model.specs.Held.{lacking}
use Rattle.hg_life.specs.Gossip.{made_in_sync}
use Rattle.hg_gossip.specs.declared.gossip.Taken.{Taken}
use Rattle.hg_gossip.specs.Holding.{Waits, row_names, rules_alone, seen_whole, unnamed}
use Rattle.hg_gossip.specs.Gossip.{MakesAfter, Pulls, Syncs, none_taken, with_answer}

-- a node that takes events, and what came of them so far
pub record Taking (K : Type 0) : Type 0 where
  pub node : NodeView K
  pub counts : Taken

abbrev pub taking_of : {K : Type 0} → NodeView K → Taken → Taking K
taking_of v counts = record { node = v; counts = counts }

-- one event more
abbrev pub take_event : {K : Type 0} → (K → Accepts) → Taking K → List ℕ → Taking K
take_event accepts t bytes =
    taking_of (with_changes t.node (put_changes accepts t.node bytes)) (with_answer t.counts (put_answer accepts t.node bytes))

-- these events, one after the other
abbrev pub taking : {K : Type 0} → (K → Accepts) → NodeView K → List (List ℕ) → Taking K
taking accepts v events = fold (take_event accepts) (taking_of v none_taken) events

-- the bytes of the peer's rows whose names the node lacks
abbrev pub lacked : {K L : Type 0} → NodeView K → NodeView L → List (List ℕ)
lacked v peer = map spelling (lacking (node_rows v) (node_rows peer))

-- a pull from the peer
abbrev pub pulling : {K L : Type 0} → (K → Accepts) → NodeView K → NodeView L → Taking K
pulling accepts v peer = taking accepts v (lacked v peer)

-- an event on this other-parent was made, or refused; none where there is no name
abbrev pub MakesOn : {K : Type 0} → (K → Accepts) → NodeView K → Option (List ℕ) → ℕ → List ℕ → NodeView K → SyncMade → Type 0
MakesOn accepts old None time payload new made = (new ≡ old) × (made ≡ sync_made.PeerBare)
MakesOn accepts old (Some other) time payload new made =
    (answer : MakeAnswer) × IsMaking accepts old (other ∷ []) time payload answer new × (made ≡ made_in_sync answer)

-- what a sync with the peer leaves and reports
pub record IsSynced {K L : Type 0} (accepts : K → Accepts) (old : NodeView K) (peer : NodeView L) (time : ℕ) (payload : List ℕ) (new : NodeView K) (report : SyncReport) : Type 0 where
  pub taken : report.taken ≡ (pulling accepts old peer).counts.taken
  pub refused : report.refused ≡ (pulling accepts old peer).counts.refused
  pub made : MakesOn accepts (pulling accepts old peer).node (last_name peer.start.own (node_rows peer)) time payload new report.made

-- nothing comes between the calls
abbrev pub WaitsAlone : (K : Type 0) → Type 0
WaitsAlone K = (accepts : K → Accepts) (old new : NodeView K) → Waits (rules_alone accepts) (seen_whole old) (seen_whole new) → new ≡ old

abbrev pub PullsAlone : (K L : Type 0) → Type 0
PullsAlone K L = (accepts : K → Accepts) (old new : NodeView K) (peer : NodeView L) (taken : Taken) →
    Pulls (rules_alone accepts) (seen_whole old) (seen_whole peer) (seen_whole new) taken → taking_of new taken ≡ pulling accepts old peer

abbrev pub SyncsAlone : (K L : Type 0) → Type 0
SyncsAlone K L = (accepts : K → Accepts) (old new : NodeView K) (peer : NodeView L) (time : ℕ) (payload : List ℕ) (report : SyncReport) →
    Syncs (rules_alone accepts) (seen_whole old) (seen_whole peer) time payload (seen_whole new) report → IsSynced accepts old peer time payload new report

abbrev pub MakesAlone : (K : Type 0) → Type 0
MakesAlone K = (accepts : K → Accepts) (old new : NodeView K) (other : Option (List ℕ)) (time : ℕ) (payload : List ℕ) (made : SyncMade) →
    MakesAfter (rules_alone accepts) (seen_whole old) other time payload (seen_whole new) made → MakesOn accepts old other time payload new made

-- the rows without the names of these are those whose names these lack
abbrev pub UnnamedAreLacking : Type 0
UnnamedAreLacking = (G H : List Row) → unnamed (row_names G) H ≡ lacking G H
