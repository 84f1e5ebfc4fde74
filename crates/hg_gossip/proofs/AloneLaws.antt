-- Gossip of nodes that have one holder each
use Rattle.std.proofs.Common.{◌≡◌, ℕ, List, [], ◌∷◌, map, fold, Option, Some, None, Result, Ok, Err, sym, refl, ap, ap₂, ◌∙◌, subst}
use Rattle.hg_life.specs.declared.answers.PutAnswer.{PutAnswer}
use Rattle.hg_life.specs.declared.answers.SyncMade.{SyncMade}
use Rattle.hg_life.specs.Signing.{Accepts}
use Rattle.hg_life.specs.Spelling.{spelling}
use Rattle.hg_life.specs.Verdict.{last_name}
use Rattle.hg_life.specs.NodeView.{NodeView, node_rows, with_changes}
use Rattle.hg_life.specs.Calls.{IsMaking, put_answer, put_changes}
use Rattle.hg_gossip.specs.declared.gossip.Taken.{Taken}
use Rattle.hg_gossip.specs.Holding.{PutsBytes, Seen, Waits, names_in, parcel_beyond, rules_alone, seen_whole, with_others, with_own}
use Rattle.std.specs.Prelude.{IfOk}
use Rattle.hg_gossip.specs.Gossip.{Pulls, MakesAfter, Takes, TakesAll, none_taken, with_answer}
use Rattle.hg_gossip.specs.Nodes.{MakesOn, PullsAlone, SyncsAlone, WaitsAlone, lacked, pulling, take_event, taking_of}
use Rattle.hg_gossip.proofs.SeenLaws.{others_none, whole_grown}
use Rattle.hg_gossip.proofs.RowLaws.{unnamed_lacks}

module _ {K : Type 0} (accepts : K → Accepts) where
  nothing_came : (old new : Seen K) → Waits (rules_alone accepts) old new → new ≡ old
  nothing_came old new waits = waits.later ∙ (ap (with_others old) (waits.alone refl) ∙ others_none old)

  -- the node and the counts after these events
  takes_alone : (events : List (List ℕ)) (v : NodeView K) (before : Taken) (new : Seen K) (after : Taken) → Takes (rules_alone accepts) (seen_whole v) before events new after →
      (new ≡ seen_whole (fold (take_event accepts) (taking_of v before) events).node) × (after ≡ (fold (take_event accepts) (taking_of v before) events).counts)
  takes_alone [] v before new after none = none
  takes_alone (bytes ∷ events) v before new after some =
      let w : NodeView K = with_changes v (put_changes accepts v bytes) in
      let put : PutsBytes (rules_alone accepts) (seen_whole v) bytes some.0 some.1 = some.2 in
      let same : put.reached ≡ seen_whole v = nothing_came (seen_whole v) put.reached put.waits in
      let next : some.0 ≡ seen_whole w =
      put.grown ∙ (ap (λ (s : Seen K). with_own s (put_changes accepts s.node bytes)) same ∙ sym (whole_grown accepts v w (put_changes accepts v bytes) refl)) in
      let answer : some.1 ≡ put_answer accepts v bytes = put.answers ∙ ap (λ (s : Seen K). put_answer accepts s.node bytes) same in
      takes_alone events w (with_answer before (put_answer accepts v bytes)) new after
      (subst (λ (s : Seen K). Takes (rules_alone accepts) s (with_answer before (put_answer accepts v bytes)) events new after) next
      (subst (λ (a : PutAnswer). Takes (rules_alone accepts) some.0 (with_answer before a) events new after) answer some.3))

  pub pulled_alone : {L : Type 0} (old : NodeView K) (reached new : Seen K) (peer : NodeView L) (taken : Taken) → Waits (rules_alone accepts) (seen_whole old) reached →
      TakesAll (rules_alone accepts) reached (parcel_beyond (names_in reached) (seen_whole peer)).rows new taken →
      (new ≡ seen_whole (pulling accepts old peer).node) × (taken ≡ (pulling accepts old peer).counts)
  pulled_alone old reached new peer taken waits takes =
      let same : reached ≡ seen_whole old = nothing_came (seen_whole old) reached waits in
      let rows : (parcel_beyond (names_in (seen_whole old)) (seen_whole peer)).rows ≡ lacked old peer = ap (map spelling) (unnamed_lacks (node_rows old) (node_rows peer)) in
      takes_alone (lacked old peer) old none_taken new taken
      (subst (λ (events : List (List ℕ)). TakesAll (rules_alone accepts) (seen_whole old) events new taken) rows
      (subst (λ (s : Seen K). TakesAll (rules_alone accepts) s (parcel_beyond (names_in s) (seen_whole peer)).rows new taken) same takes))

  pub made_alone : (v new : NodeView K) (other : Option (List ℕ)) (time : ℕ) (payload : List ℕ) (made : SyncMade) → MakesAfter (rules_alone accepts) (seen_whole v) other time payload (seen_whole new) made →
      MakesOn accepts v other time payload new made
  made_alone v new None time payload made is = (ap (λ (s : Seen K). s.node) is.0, is.1)
  made_alone v new (Some other) time payload made is = (
    is.0,
    subst (λ (s : Seen K). IsMaking accepts s.node (other ∷ []) time payload is.0 new) (nothing_came (seen_whole v) is.1.reached is.1.waits) is.1.making,
    is.2,
  )

pub waits_alone : (K : Type 0) → WaitsAlone K
waits_alone K accepts old new waits = ap (λ (s : Seen K). s.node) (nothing_came accepts (seen_whole old) (seen_whole new) waits)

pub pulls_alone : (K L : Type 0) → PullsAlone K L
pulls_alone K L accepts old new peer taken pulls =
    let is = pulled_alone accepts old pulls.reached (seen_whole new) peer taken pulls.waits pulls.takes in
    ap₂ (λ (v : NodeView K) (t : Taken). taking_of v t) (ap (λ (s : Seen K). s.node) is.0) is.1

pub syncs_alone : (K L : Type 0) → SyncsAlone K L
syncs_alone K L accepts old new peer time payload report syncs =
    let is = pulled_alone accepts old syncs.pulled.reached syncs.full peer syncs.taken syncs.pulled.waits syncs.pulled.takes in
    let last = last_name peer.start.own (node_rows peer) in
    record {
      taken = syncs.counts.0 ∙ ap (λ (t : Taken). t.taken) is.1;
      refused = syncs.counts.1 ∙ ap (λ (t : Taken). t.refused) is.1;
      made = made_alone accepts (pulling accepts old peer).node new last time payload report.made
          (subst (λ (s : Seen K). MakesAfter (rules_alone accepts) s last time payload (seen_whole new) report.made) is.0 syncs.made);
    }

-- a call that pulls, with its answer
pub pull_is_alone : {K L E : Type 0} (accepts : K → Accepts) (others : L → Accepts) (old new : NodeView K) (before peer : NodeView L) (result : Result Taken E) →
    Waits (rules_alone others) (seen_whole before) (seen_whole peer) → IfOk result (Pulls (rules_alone accepts) (seen_whole old) (seen_whole peer) (seen_whole new)) →
    IfOk result (λ taken. taking_of new taken ≡ pulling accepts old before)
pull_is_alone {K} {L} accepts others old new before peer (Ok taken) waits pulls =
    pulls_alone K L accepts old new peer taken pulls ∙ ap (pulling accepts old) (waits_alone L others before peer waits)
pull_is_alone {K} {L} accepts others old new before peer (Err e) waits pulls = tt
