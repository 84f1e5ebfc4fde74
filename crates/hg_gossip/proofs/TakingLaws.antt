-- Events that come to a node one after the other
use Rattle.std.proofs.Common.{◌≡◌, ℕ, zero, suc, ◌+◌, ◌<◌, List, [], ◌∷◌, ◌++◌, length, fold, take, drop, get_or, sym, refl, ap, ap₂, ◌∙◌, subst, add-one, append_assoc, arith}
use Rattle.std.specs.declared.sync.Arc.{Arc}
use Rattle.std.proofs.lemmas.List.{append-nil, get_or-map, length-map, take-append-drop}
use Rattle.std.proofs.lemmas.List.Sums.{fold-append}
use Rattle.std.proofs.Math.Seq.{drop-cons, take-suc}
use Rattle.hg_model.specs.declared.row.Row.{Row}
use Rattle.hg_life.specs.declared.answers.PutAnswer.{PutAnswer}
use Rattle.hg_life.specs.History.{Change}
use Rattle.hg_life.specs.Signing.{Accepts}
use Rattle.hg_life.specs.Spelling.{spelling}
use Rattle.hg_life.specs.NodeView.{NodeView, Start, with_changes}
use Rattle.hg_life.specs.Calls.{put_answer, put_changes}
use Rattle.hg_graph.specs.RowsWithRoom.{rows_of}
use Rattle.hg_node.specs.Puts.{WouldAccept}
use Rattle.hg_gossip.specs.declared.gossip.Taken.{Taken}
use Rattle.hg_gossip.specs.Gossip.{none_taken, with_answer}
use Rattle.hg_gossip.specs.Nodes.{Taking, take_event, taking, taking_of}
use Rattle.hg_gossip.specs.Taking.{AreSigned, IsSigned, TookSome, bytes_of}

module _ {K : Type 0} (accepts : K → Accepts) where
  -- what began the node stays
  pub start_kept : (events : List (List ℕ)) (t : Taking K) → (fold (take_event accepts) t events).node.start ≡ t.node.start
  start_kept [] t = refl
  start_kept (bytes ∷ events) t = start_kept events (take_event accepts t bytes)

  -- the node then is the one before with some changes
  pub takes_change : (events : List (List ℕ)) (t : Taking K) → (es : List Change) × ((fold (take_event accepts) t events).node ≡ with_changes t.node es)
  takes_change [] t = ([], ap at (sym (append-nil t.node.history)))
    where
      at : List Change → NodeView K
      at h = record { start = t.node.start; history = h }
  takes_change (bytes ∷ events) t =
      let next = take_event accepts t bytes in
      let more = takes_change events next in
      let at : List Change → NodeView K = λ h. record { start = t.node.start; history = h } in
      (put_changes accepts t.node bytes ++ more.0, more.1 ∙ ap at (append_assoc t.node.history (put_changes accepts t.node bytes) more.0))

  -- one event more
  pub takes_one : (v now new : NodeView K) (events : List (List ℕ)) (i : ℕ) (bytes : List ℕ) (before after : Taken) (answer : PutAnswer) → i < length events → bytes ≡ get_or events i bytes →
      taking_of now before ≡ taking accepts v (take i events) → answer ≡ put_answer accepts now bytes → new ≡ with_changes now (put_changes accepts now bytes) → after ≡ with_answer before answer →
      taking_of new after ≡ taking accepts v (take (i + 1) events)
  takes_one v now new events i bytes before after answer low is taken answers put counted =
      let all : take (i + 1) events ≡ take i events ++ bytes ∷ [] =
      ap (λ (n : ℕ). take n events) (add-one i) ∙ (take-suc events i bytes low ∙ ap (λ (b : List ℕ). take i events ++ b ∷ []) (sym is)) in
      ap₂ (λ (u : NodeView K) (t : Taken). taking_of u t) put (counted ∙ ap (with_answer before) answers)
      ∙ (ap (λ (t : Taking K). take_event accepts t bytes) taken
      ∙ (sym (fold-append (take_event accepts) (taking_of v none_taken) (take i events) (bytes ∷ [])) ∙ ap (taking accepts v) (sym all)))

  -- there was no memory to accept the next one
  pub took_first : (v now new : NodeView K) (events : List (List ℕ)) (i : ℕ) (bytes : List ℕ) (counts : Taken) → i < length events → bytes ≡ get_or events i bytes →
      taking_of now counts ≡ taking accepts v (take i events) → new ≡ now → WouldAccept accepts now bytes → TookSome accepts v events new
  took_first v now new events i bytes counts low is taken same full = record {
    first = take i events;
    next = bytes;
    rest = drop (suc i) events;
    whole =
        sym (take-append-drop i events)
        ∙ ap (λ (es : List (List ℕ)). take i events ++ es) (drop-cons events i bytes low ∙ ap (λ (b : List ℕ). b ∷ drop (suc i) events) (sym is));
    after = same ∙ ap (λ (t : Taking K). t.node) taken;
    full = subst (λ (u : NodeView K). WouldAccept accepts u bytes) (sym same) full;
  }

  module _ {A : Type 0} where
    signed_in : (start : Start K) (events : List (Arc Row A)) (i : ℕ) (d : Arc Row A) → AreSigned accepts start (rows_of events) → i < length events → IsSigned accepts start (get_or events i d).value
    signed_in start [] i d all low = absurd (omega (arith, low))
    signed_in start (event ∷ events) zero d all low = all.0
    signed_in start (event ∷ events) (suc i) d all low = signed_in start events i d all.1 (omega (arith, low))

    -- the next one is signed for the node still
    pub signed_at : (v now : NodeView K) (events : List (Arc Row A)) (i : ℕ) (event : Arc Row A) (first : List (List ℕ)) (counts : Taken) → AreSigned accepts v.start (rows_of events) →
        i < length events → event ≡ get_or events i event → taking_of now counts ≡ taking accepts v first → IsSigned accepts now.start event.value
    signed_at v now events i event first counts all low is taken =
        subst (λ (start : Start K). IsSigned accepts start event.value)
        (sym (ap (λ (t : Taking K). t.node.start) taken ∙ start_kept first (taking_of v none_taken)))
        (subst (λ (e : Arc Row A). IsSigned accepts v.start e.value) (sym is) (signed_in v.start events i event all low))

module _ {A : Type 0} where
  pub bytes_length : (events : List (Arc Row A)) → length (bytes_of events) ≡ length events
  bytes_length events = length-map (rows_of events) spelling ∙ length-map events (λ (e : Arc Row A). e.value)

  -- the bytes of one event
  pub bytes_at : (events : List (Arc Row A)) (i : ℕ) (event : Arc Row A) → i < length events → event ≡ get_or events i event → spelling event.value ≡ get_or (bytes_of events) i (spelling event.value)
  bytes_at events i event low is =
      sym (get_or-map spelling (rows_of events) i event.value (spelling event.value) (omega (arith, low, length-map events (λ (e : Arc Row A). e.value)))
      ∙ ap spelling (get_or-map (λ (e : Arc Row A). e.value) events i event event.value low ∙ ap (λ (e : Arc Row A). e.value) (sym is)))
