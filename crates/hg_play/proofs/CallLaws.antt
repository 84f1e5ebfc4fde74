-- What each call through one seat of many owes
use Rattle.std.proofs.Common.{◌≡◌, ℕ, ◌<◌, List, [], ◌∷◌, length, map, get_or, set, slice_get, Option, Some, None, option_map, unwrap_or, Result, Ok, Err, sym, refl, ap, ap₂, ◌∙◌, subst, arith}
use Rattle.std.specs.Prelude.{IfOk, OnErr}
use Rattle.std.specs.Option.{option_and_then}
use Rattle.std.specs.declared.sync.Arc.{Arc}
use Rattle.std.proofs.lemmas.List.{get_or-set_same, length-set}
use Rattle.hg_model.specs.declared.row.Row.{Row}
use Rattle.hg_life.specs.declared.answers.PutAnswer.{PutAnswer}
use Rattle.hg_life.specs.declared.answers.MakeAnswer.{MakeAnswer}
use Rattle.hg_model.specs.Held.{lacking}
use Rattle.hg_model.specs.Links.{place_of}
use Rattle.hg_life.specs.Signing.{accepts_by}
use Rattle.hg_life.specs.Spelling.{spelling}
use Rattle.hg_life.specs.Verdict.{last_name}
use Rattle.hg_life.specs.NodeView.{NodeView, node_rows}
use Rattle.hg_gossip.specs.declared.gossip.Taken.{Taken}
use Rattle.hg_gossip.specs.Gossip.{none_taken}
use Rattle.hg_gossip.specs.Nodes.{taking, taking_of}
use Rattle.hg_board.specs.Copies.{IsLastRow}
use Rattle.hg_board.specs.Taking.{SeatTakes, SeatTakesFirst}
use Rattle.hg_board.specs.Seats.{SharedNode, SeatView, seen_by}
use Rattle.hg_board.specs.Calls.{SeatMakes, SeatPuts, SeatWaits, Stays}
use Rattle.hg_world.specs.declared.step.Step.TheVariants.{Deliver, Make}
use Rattle.hg_world.specs.World.{Secrets, Site, WorldView, no_site, node_at, site_at, site_of}
use Rattle.hg_world.specs.Steps.{after_steps, making_at, node_made, node_put, putting_at}
use Rattle.hg_world.specs.Syncs.{HasTaken, deliver_steps}
use Rattle.hg_world.proofs.PullLaws.{puts_set}
use Rattle.hg_play.specs.Alike.{AreAlike}
use Rattle.hg_play.specs.Labels.{bytes_named, bytes_of_event, last_bytes}
use Rattle.hg_play.specs.Nodes.{IsKept, MatchesMaking, MatchesPutting}
use Rattle.hg_crowd.specs.Party.{Makes, MovesOne, PartyView, Puts, Reads, Takes, party_view}
use Rattle.hg_gossip.specs.Handing.{AreKnown}
use Rattle.hg_gossip.specs.Known.{nth_rows}
use Rattle.hg_world.specs.Parts.{nth_node}
use Rattle.hg_play.specs.Heard.{IsRead, TakesRows, nodes_seen, rows_seen}
use Rattle.hg_play.specs.Through.{AreHanded, AreNodes, MatchesLastEvent, MatchesTaken, lacking_at, node_seen, seen_shared}
use Rattle.hg_play.proofs.AlikeLaws.{same_of, stay_alike}
use Rattle.hg_play.proofs.OthersLaws.{IsAfter, alike_back, alike_both, make_after, make_told, put_after, put_told, take_after, take_told, wait_after, wait_told}
use Rattle.hg_play.proofs.HeardLaws.{node_by, rows_here, rows_others}
use Rattle.hg_play.proofs.HeldLaws.{took_known}
use Rattle.hg_play.proofs.SharedLaws.{kept_after, seat_of, seats_after, told_change, told_same}

-- the bytes of the last event that a node made
spelled_of : {A : Type 0} (event : Option (Arc Row A)) → bytes_of_event event ≡ unwrap_or (option_map spelling (option_map (λ (e : Arc Row A). e.value) event)) []
spelled_of None = refl
spelled_of (Some e) = refl

spelled_named : (G : List Row) (last : Option (List ℕ)) → unwrap_or (option_map spelling (option_and_then (slice_get G) (option_map (place_of G) last))) [] ≡ unwrap_or (option_map (bytes_named G) last) []
spelled_named G None = refl
spelled_named G (Some name) = refl

last_spelled : {A : Type 0} (v : NodeView Secrets) (event : Option (Arc Row A)) → IsLastRow v event → bytes_of_event event ≡ last_bytes v
last_spelled v event is =
    spelled_of event ∙ (ap (λ (row : Option Row). unwrap_or (option_map spelling row) []) is ∙ spelled_named (node_rows v) (last_name v.start.own (node_rows v)))

last_alike : (v u : NodeView Secrets) → AreAlike v u → last_bytes v ≡ last_bytes u
last_alike v u alike = same_of (λ s G. unwrap_or (option_map (bytes_named G) (last_name s.own G)) []) v u alike

-- what a call owes, whatever it answers
pub record IsDone {A E : Type 0} (old new : PartyView Secrets) (result : Result A E) (Matches : A → Type 0) : Type 0 where
  pub nodes : AreNodes new.places new.seats
  pub kept : IsKept (seen_shared old) (seen_shared new)
  pub told : IfOk result Matches

module _ (places : List (SharedNode Secrets)) (seats : List (SeatView Secrets)) (x : ℕ) (p : SharedNode Secrets) (m n : SeatView Secrets)
    (are : AreNodes places seats) (low : x < length seats) (p_is : p ≡ get_or places x p) (m_is : m ≡ get_or seats x m) (stays : Stays accepts_by p m n) where
  abbrev was : PartyView Secrets
  was = party_view places seats

  abbrev now : PartyView Secrets
  now = party_view places (set seats x n)

  -- the node at the place, as its seat has seen it then
  node_now : nth_node (nodes_seen now) x ≡ node_seen p n
  node_now =
      let inside : x < length places = omega (arith, low, are.seated.count) in
      node_by places (set seats x n) x p n inside (omega (arith, low, length-set seats x n))
      ∙ ap₂ (λ (q : SharedNode Secrets) (s : SeatView Secrets). node_seen q s) (sym p_is) (get_or-set_same seats x n n low)

  done : {A E : Type 0} (result : Result A E) (Matches : A → Type 0) → IsAfter p m n → IfOk result Matches → IsDone was now result Matches
  done result Matches call told = record {
    nodes = seats_after places seats x p m n are low p_is m_is call;
    kept = kept_after places seats x p m n are low p_is m_is call;
    told = told;
  }

  put_done : {E : Type 0} (bytes : List ℕ) (result : Result PutAnswer E) → IfOk result (SeatPuts accepts_by p m bytes n) → OnErr result (SeatWaits accepts_by p m n) →
      IsDone was now result (MatchesPutting (seen_shared was) (seen_shared now) x bytes)
  put_done bytes (Err e) puts waits = done (Err e) _ (wait_after p m n waits (seat_of places seats x p m n are low p_is m_is) stays) tt
  put_done bytes (Ok answer) puts waits =
      let seat = seat_of places seats x p m n are low p_is m_is in
      let call = put_after p m n bytes answer puts seat stays in
      done (Ok answer) _ call
      (told_change places seats x p m n are low p_is m_is (λ w. Deliver x bytes ∷ []) (λ v. node_put v bytes) (λ w. answer ≡ putting_at (node_at w x) bytes) call (λ w here. refl)
      (λ mark w here alike.
      let told = put_told p m n bytes answer puts seat mark in
      let same = (stay_alike (node_at w x) (node_seen p m) alike).put bytes in (
        told.0 ∙ sym same.0,
        alike_both (node_put (node_at w x) bytes) (node_put (node_seen p m) bytes) (node_seen p n) same.1 (alike_back (node_seen p n) (node_put (node_seen p m) bytes) told.1),
      )))

  make_done : {E : Type 0} (others : List (List ℕ)) (time : ℕ) (payload : List ℕ) (result : Result MakeAnswer E) → IfOk result (SeatMakes accepts_by p m others time payload n) →
      OnErr result (SeatWaits accepts_by p m n) → IsDone was now result (MatchesMaking (seen_shared was) (seen_shared now) x others time payload)
  make_done others time payload (Err e) made waits = done (Err e) _ (wait_after p m n waits (seat_of places seats x p m n are low p_is m_is) stays) tt
  make_done others time payload (Ok answer) made waits =
      let seat = seat_of places seats x p m n are low p_is m_is in
      let call = make_after p m n others time payload answer made seat stays in
      done (Ok answer) _ call
      (told_change places seats x p m n are low p_is m_is (λ w. Make x others time payload ∷ []) (λ v. node_made v others time payload) (λ w. answer ≡ making_at (node_at w x) others time payload) call (λ w here. refl)
      (λ mark w here alike.
      let told = make_told p m n others time payload answer made seat mark in
      let same = (stay_alike (node_at w x) (node_seen p m) alike).made others time payload in (
        told.0 ∙ sym same.0,
        alike_both (node_made (node_at w x) others time payload) (node_made (node_seen p m) others time payload) (node_seen p n) same.1
            (alike_back (node_seen p n) (node_made (node_seen p m) others time payload) told.1),
      )))

  -- what was read is that of a node alike
  read_alike : SeatWaits accepts_by p m n → (w : WorldView) → AreAlike (node_at w x) (node_seen p m) → AreAlike (node_seen p n) (node_seen p m) → AreAlike (node_at w x) (node_seen p n)
  read_alike waits w alike told = alike_both (node_at w x) (node_seen p m) (node_seen p n) alike (alike_back (node_seen p n) (node_seen p m) told)

  -- the node at the place was read
  read_done : (IsFound : NodeView Secrets → Type 0) → SeatWaits accepts_by p m n → IsFound (node_seen p n) → IsRead x IsFound was now
  read_done IsFound waits found =
      let seat = seat_of places seats x p m n are low p_is m_is in
      let call = wait_after p m n waits seat stays in
      let told = told_same places seats x p m n are low p_is m_is (λ w. Unit) call (λ mark w alike. (tt, read_alike waits w alike (wait_told p m n waits seat mark))) in
      record {
        nodes = seats_after places seats x p m n are low p_is m_is call;
        kept = kept_after places seats x p m n are low p_is m_is call;
        none = λ alone w agrees. (told alone w agrees).1;
        found = subst IsFound (sym node_now) found;
      }

  -- events came to it
  take_done : {E : Type 0} (rows : List Row) (result : Result Taken E) → AreHanded places rows → IfOk result (SeatTakes accepts_by p m rows n) → OnErr result (SeatTakesFirst accepts_by p m rows n) →
      IsDone was now result (MatchesTaken (seen_shared was) (seen_shared now) x rows)
  take_done rows (Err e) given takes first = done (Err e) _ (take_after p m n first.first first.counts first.takes (seat_of places seats x p m n are low p_is m_is) stays) tt
  take_done rows (Ok counts) given takes first =
      let seat = seat_of places seats x p m n are low p_is m_is in
      let call = take_after p m n rows counts takes seat stays in
      done (Ok counts) _ call
      (told_change places seats x p m n are low p_is m_is (λ w. deliver_steps x (lacking_at w x rows)) (λ v. (taking accepts_by v (map spelling (lacking (node_rows v) rows))).node)
      (λ w. HasTaken w x (lacking_at w x rows) counts (after_steps w (deliver_steps x (lacking_at w x rows)))) call (λ w here. puts_set (lacking_at w x rows) w x none_taken here)
      (λ mark w here alike.
      let told = take_told p m n rows counts takes given.distinct given.spelled seat mark (node_at w x) alike in
      let v : NodeView Secrets = (taking accepts_by (node_at w x) (lacking_at w x rows)).node in
      let node : node_at (after_steps w (deliver_steps x (lacking_at w x rows))) x ≡ v =
      ap (λ (u : WorldView). node_at u x) (puts_set (lacking_at w x rows) w x none_taken here) ∙ ap (λ (s : Site). s.node) (get_or-set_same w.sites x (site_of v (site_at w x).frozen) no_site here) in
      (record { after = refl; counted = ap₂ (λ (u : NodeView Secrets) (t : Taken). taking_of u t) node told.0 }, told.1)))

  -- its last event was read
  last_done : {A E : Type 0} (result : Result (Option (Arc Row A)) E) → SeatWaits accepts_by p m n → IfOk result (IsLastRow (seen_by p n).node) →
      IsDone was now result (MatchesLastEvent (seen_shared was) (seen_shared now) x)
  last_done (Err e) waits is = done (Err e) _ (wait_after p m n waits (seat_of places seats x p m n are low p_is m_is) stays) tt
  last_done (Ok event) waits is =
      let seat = seat_of places seats x p m n are low p_is m_is in
      let call = wait_after p m n waits seat stays in
      done (Ok event) _ call
      (told_same places seats x p m n are low p_is m_is _ call
      (λ mark w alike.
      let same = read_alike waits w alike (wait_told p m n waits seat mark) in
      (last_spelled (node_seen p n) event is ∙ sym (last_alike (node_at w x) (node_seen p n) same), same)))

  -- the rows that came to it
  rows_done : {E : Type 0} (rows : List Row) (result : Result Taken E) → AreHanded places rows → IfOk result (SeatTakes accepts_by p m rows n) → OnErr result (SeatTakesFirst accepts_by p m rows n) →
      TakesRows x rows result was now
  rows_done {E} rows result given takes first =
      let is = take_done rows result given takes first in
      let here : nth_rows (rows_seen now) x ≡ node_rows (node_seen p n) =
      rows_here now is.nodes x (omega (arith, low, length-set seats x n)) ∙ ap (λ (v : NodeView Secrets). node_rows v) node_now in
      record {
        nodes = is.nodes;
        kept = is.kept;
        others = rows_others places seats x n;
        all = by result takes here;
        told = is.told;
      }
    where
      by : (r : Result Taken E) → IfOk r (SeatTakes accepts_by p m rows n) → nth_rows (rows_seen now) x ≡ node_rows (node_seen p n) → IfOk r (λ counts. counts.refused ≡ 0 → AreKnown (nth_rows (rows_seen now) x) rows)
      by (Err e) takes here = tt
      by (Ok counts) takes here = λ none. subst (λ (G : List Row). AreKnown G rows) (sym here) (took_known p m n rows counts takes given.spelled none)

-- the same of a call of one node of a party
module _ (old new : PartyView Secrets) (x : ℕ) (are : AreNodes old.places old.seats) (low : x < length old.seats) where
  pub put_moved : {E : Type 0} (bytes : List ℕ) (result : Result PutAnswer E) → MovesOne accepts_by (Puts accepts_by bytes result) x old new → IsDone old new result (MatchesPutting (seen_shared old) (seen_shared new) x bytes)
  put_moved bytes result t =
      subst (λ (v : PartyView Secrets). IsDone old v result (MatchesPutting (seen_shared old) (seen_shared v) x bytes)) (sym t.moved)
      (put_done old.places old.seats x t.place t.before t.after are low t.is_place t.is_before t.told.stays bytes result t.told.ok t.told.err)

  pub make_moved : {E : Type 0} (others : List (List ℕ)) (time : ℕ) (payload : List ℕ) (result : Result MakeAnswer E) → MovesOne accepts_by (Makes accepts_by others time payload result) x old new →
      IsDone old new result (MatchesMaking (seen_shared old) (seen_shared new) x others time payload)
  make_moved others time payload result t =
      subst (λ (v : PartyView Secrets). IsDone old v result (MatchesMaking (seen_shared old) (seen_shared v) x others time payload)) (sym t.moved)
      (make_done old.places old.seats x t.place t.before t.after are low t.is_place t.is_before t.told.stays others time payload result t.told.ok t.told.err)

  pub last_moved : {A E : Type 0} (result : Result (Option (Arc Row A)) E) → MovesOne accepts_by (Reads accepts_by (λ v. IfOk result (IsLastRow v))) x old new →
      IsDone old new result (MatchesLastEvent (seen_shared old) (seen_shared new) x)
  last_moved result t =
      subst (λ (v : PartyView Secrets). IsDone old v result (MatchesLastEvent (seen_shared old) (seen_shared v) x)) (sym t.moved)
      (last_done old.places old.seats x t.place t.before t.after are low t.is_place t.is_before t.told.stays result t.told.waits t.told.found)

  pub read_moved : (IsFound : NodeView Secrets → Type 0) → MovesOne accepts_by (Reads accepts_by IsFound) x old new → IsRead x IsFound old new
  read_moved IsFound t =
      subst (λ (v : PartyView Secrets). IsRead x IsFound old v) (sym t.moved)
      (read_done old.places old.seats x t.place t.before t.after are low t.is_place t.is_before t.told.stays IsFound t.told.waits t.told.found)

  pub take_moved : {E : Type 0} (rows : List Row) (result : Result Taken E) → AreHanded old.places rows → MovesOne accepts_by (Takes accepts_by rows result) x old new → TakesRows x rows result old new
  take_moved rows result given t =
      subst (λ (v : PartyView Secrets). TakesRows x rows result old v) (sym t.moved)
      (rows_done old.places old.seats x t.place t.before t.after are low t.is_place t.is_before t.told.stays rows result given t.told.ok t.told.err)
