-- Pulls, syncs and last events over nodes between threads, by the calls that they are made of
use Rattle.std.proofs.Common.{◌≡◌, ℕ, ◌<◌, List, [], ◌∷◌, length, map, take, Option, Some, Result, Ok, Err, sym, refl, ap, ap₂, ◌∙◌, subst}
use Rattle.std.specs.declared.sync.Arc.{Arc}
use Rattle.std.specs.Prelude.{IfOk}
use Rattle.hg_model.specs.declared.row.Row.{Row}
use Rattle.hg_life.specs.declared.answers.MakeAnswer.{MakeAnswer}
use Rattle.hg_life.specs.declared.answers.SyncMade.{SyncMade}
use Rattle.hg_model.specs.Held.{lacking}
use Rattle.hg_life.specs.Gossip.{made_in_sync}
use Rattle.hg_life.specs.Members.{MemberList}
use Rattle.hg_life.specs.Spelling.{spelling}
use Rattle.hg_life.specs.Verdict.{last_name}
use Rattle.hg_graph.specs.RowsWithRoom.{rows_of}
use Rattle.hg_gossip.specs.declared.gossip.Taken.{Taken}
use Rattle.hg_world.specs.World.{Secrets, WorldView, node_at, rows_at}
use Rattle.hg_world.specs.Parts.{nth_node}
use Rattle.hg_world.specs.Steps.{after_steps}
use Rattle.hg_world.specs.Syncs.{HasPulled, deliver_steps, make_steps, pull_steps}
use Rattle.hg_world.proofs.PullLaws.{pull_ended, syncs}
use Rattle.hg_board.specs.Seats.{SeatView}
use Rattle.hg_crowd.specs.Party.{PartyView, party_view}
use Rattle.hg_script.specs.declared.line.Line.{Line}
use Rattle.hg_play.specs.declared.handing.Handed.{Handed}
use Rattle.hg_play.specs.Heard.{IsHanded, nodes_seen}
use Rattle.hg_play.specs.Labels.{bytes_of_event}
use Rattle.hg_play.specs.Nodes.{NodesView, MatchesLast, MatchesMaking, MatchesPulling, MatchesSyncing}
use Rattle.hg_play.specs.Tape.{TapeView}
use Rattle.hg_play.specs.Through.{AllOthersMark, AreNodes, AreSeen, MatchesLastEvent, MatchesMade, MatchesNone, MatchesParts, MatchesPulled, MatchesTaken, MatchesThrough, lacking_at, seen_shared}
use Rattle.hg_play.proofs.AlikeLaws.{same_of}
use Rattle.hg_play.proofs.HeardLaws.{node_agrees, rows_agree}

-- of the bytes of the last event
pub last_told : {N A E : Type 0} (old new : NodesView N) (m : ℕ) (event : Option (Arc Row A)) (result : Result (List ℕ) E) → IfOk result (λ bytes. bytes ≡ bytes_of_event event) → MatchesLastEvent old new m event → IfOk result (MatchesLast old new m)
last_told old new m event (Err e) is last = tt
last_told old new m event (Ok bytes) is last = λ alone w agrees.
    let a = last alone w agrees in
    (is ∙ a.0, a.1)

-- what a pull leaves and counts
pub pulled_told : (v0 v1 v2 : PartyView Secrets) (taker peer : ℕ) (handed : Handed) (counts : Taken) (last : Option (List ℕ)) → AreNodes v1.places v1.seats → taker < length v1.seats → peer < length v1.seats → last ≡ handed.last →
    IsHanded v1 taker peer handed → (AllOthersMark v2.places v2.seats → AllOthersMark v1.places v1.seats) → MatchesNone (seen_shared v0) (seen_shared v1) →
    MatchesTaken (seen_shared v1) (seen_shared v2) taker (rows_of handed.events.items) counts → MatchesPulled (seen_shared v0) (seen_shared v2) taker peer counts last
pulled_told v0 v1 v2 taker peer handed counts last are low_x low_y last_is is back none took = λ alone w agrees.
    let here = none (back alone) w agrees in
    let rows : List Row = rows_of handed.events.items in
    let G = rows_agree v1 are w taker here low_x in
    let H = rows_agree v1 are w peer here low_y in
    let lacks : lacking (rows_at w taker) rows ≡ lacking (rows_at w taker) (rows_at w peer) =
    ap (λ (G : List Row). lacking G rows) G ∙ (sym is.rest.lacks ∙ ap₂ (λ (G H : List Row). lacking G H) (sym G) (sym H)) in
    let events : List (List ℕ) = lacking_at w taker rows in
    let b = took alone w here in
    let answer : Result Taken Unit = Ok counts in
    let pulled : HasPulled w taker peer counts (after_steps w (deliver_steps taker events)) =
    pull_ended w (after_steps w (deliver_steps taker events)) taker peer events events answer (ap (map spelling) lacks) refl b.0 in
    let node = node_agrees v1 are w peer here low_y in (
      (
        subst (λ (v : WorldView). HasPulled w taker peer counts v) pulled.after pulled,
        last_is ∙ (is.last ∙ sym (same_of (λ s G. last_name s.own G) (node_at w peer) (nth_node (nodes_seen v1) peer) node)),
      ),
      subst (AreSeen v2.places v2.seats) pulled.after b.1,
    )

pub pull_told : {N : Type 0} (old new : NodesView N) (taker peer : ℕ) (counts : Taken) (last : Option (List ℕ)) → MatchesPulled old new taker peer counts last → MatchesPulling old new taker peer counts
pull_told old new taker peer counts last pulled = λ alone w agrees.
    let a = pulled alone w agrees in
    (a.0.0.counts, a.1)

-- what a sync leaves and reports
pub sync_told : {N : Type 0} (old full new : NodesView N) (taker peer : ℕ) (last : Option (List ℕ)) (time : ℕ) (payload : List ℕ) (counts : Taken) (made : SyncMade) → (new.Alone → full.Alone) →
    MatchesPulled old full taker peer counts last → MatchesMade full new taker last time payload made →
    MatchesSyncing old new taker peer time payload (record { taken = counts.taken; refused = counts.refused; made = made })
sync_told old full new taker peer last time payload counts made back pull makes = λ alone w agrees.
    let a = pull (back alone) w agrees in
    let u : WorldView = after_steps w (pull_steps w taker peer) in
    let c = makes alone u a.1 in
    let v : WorldView = after_steps u (make_steps taker last time payload) in
    let synced = syncs w u v taker peer last time payload counts made a.0.1 a.0.0 (c.0, refl) in
    (synced.0, subst new.Agrees synced.1 c.1)

-- what came of an event
pub made_told : {N : Type 0} (old new : NodesView N) (m : ℕ) (name : List ℕ) (time : ℕ) (payload : List ℕ) (answer : MakeAnswer) (made : SyncMade) → made ≡ made_in_sync answer →
    MatchesMaking old new m (name ∷ []) time payload answer → MatchesMade old new m (Some name) time payload made
made_told old new m name time payload answer made is makes = λ alone w agrees.
    let a = makes alone w agrees in
    (is ∙ ap made_in_sync a.0, a.1)

-- lines that were played from these seats on
pub through_told : {E : Type 0} (members : MemberList) (lines : List Line) (old new : PartyView Secrets) (seats : List (SeatView Secrets)) (t : TapeView) (result : Result (TapeView × ℕ) E) → new ≡ party_view old.places seats →
    IfOk result (λ r. MatchesParts members (take r.1 lines) (seen_shared old) t (seen_shared new) r.0) → IfOk result (λ r. MatchesThrough members (take r.1 lines) old.places old.seats t seats r.0)
through_told members lines old new seats t (Err e) is told = tt
through_told members lines old new seats t (Ok r) is told = subst (λ (v : PartyView Secrets). MatchesParts members (take r.1 lines) (seen_shared old) t (seen_shared v) r.0) is told
