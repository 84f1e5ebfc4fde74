-- Steps leave a lawful world, once it is known that all rows of its nodes are events, or that what the steps bring is
-- within its range
use Rattle.std.proofs.Common.{◌≡◌, zero, suc, inl, inr, ℕ, ◌<◌, true, List, [], ◌∷◌, ◌++◌, length, Some, slice_get, Result, Ok, Err, sym, refl, ap, ◌∙◌, subst, arith}
use Rattle.std.specs.List.{AllByRecursion}
use Rattle.std.proofs.lemmas.Bool.{cases_eq}
use Rattle.std.proofs.lemmas.List.{append-nil, length-set, get_or-set_same, get_or-set_other}
use Rattle.std.proofs.lemmas.Option.{slice_get_within}
use Rattle.std.proofs.lemmas.Slice.Eq.{bytes_eq-Decides}
use Rattle.sha2.proofs.Facts512.{length-sha512}
use Rattle.hg_model.specs.declared.row.Row.{Row}
use Rattle.hg_life.specs.declared.answers.ByteFault.{ByteFault}
use Rattle.hg_life.specs.declared.answers.PutAnswer.{PutAnswer}
use Rattle.hg_life.specs.declared.answers.PutAnswer.TheVariants.{Accepted, Known, Refused}
use Rattle.hg_life.specs.declared.answers.MakeAnswer.{MakeAnswer}
use Rattle.hg_life.specs.declared.answers.MakeAnswer.TheVariants as answer
use Rattle.hg_model.specs.Orders.{IsPrefix}
use Rattle.hg_life.specs.Reading.{read_event}
use Rattle.hg_life.specs.Spelling.{Spells, body_of, spelling}
use Rattle.hg_life.specs.Signing.{Accepts, accepts_by, hmac_sha512, signature_by}
use Rattle.hg_life.specs.Verdict.{made_row, row_verdict}
use Rattle.hg_life.specs.History.{Change}
use Rattle.hg_life.specs.History.Change.{Took, Made}
use Rattle.hg_life.specs.NodeView.{NodeView, IsNode, node_rows, with_changes, terms_of}
use Rattle.hg_life.specs.Calls.{make_answer, make_body, make_changes, made_by, put_changes, taken_by, taken_from}
use Rattle.hg_model.proofs.LongerLaws.{slice_get-append}
use Rattle.hg_model.proofs.PushLaws.{slice_get-last}
use Rattle.hg_history.proofs.RuleLaws.{accepted_place, made_place}
use Rattle.hg_history.specs.Laws.{IsEvent}
use Rattle.hg_history.proofs.SoundLaws.{sound}
use Rattle.hg_history.proofs.StateLaws.{prefix_more, replay-push, rows_grow}
use Rattle.hg_history.proofs.CallLaws.{node_with, publishes_leave_a_node, puts_leave_a_node, with_none}
use Rattle.hg_history.proofs.MakeLaws.{makes_leave_a_node}
use Rattle.hg_graph.specs.Held.{AreEvents}
use Rattle.hg_world.specs.declared.step.Step.{Step}
use Rattle.hg_world.specs.declared.step.Step.TheVariants.{Make, Deliver, Freeze, Publish}
use Rattle.hg_world.specs.World.{Secrets, Site, WorldView, no_site, node_at, rows_at, site_at, site_of, with_site}
use Rattle.hg_world.specs.Steps.{IsStepOf, after_step, after_steps, node_made, node_put, own_signature}
use Rattle.hg_world.specs.Parts.{HaveEvents, IsWorld, KeepsSite}
use Rattle.hg_world.specs.Laws.{HasRange, StepsStayLawful}
use Rattle.hg_world.proofs.StepLaws.{step_sites, steps_sites}
use Rattle.hg_world.proofs.WorldLaws.{changed_site, frozen_site, set_site}

-- rows of which all are events, and the first of them
last_event : (G : List Row) (row : Row) → AreEvents (G ++ row ∷ []) → Spells (spelling row) row
last_event G row events = events (length G) row (slice_get-last G row)

first_events : (G H : List Row) → IsPrefix G H → AreEvents H → AreEvents G
first_events G H more events = λ x row is.
    events x row (ap (λ (rows : List Row). slice_get rows x) more.1 ∙ (slice_get-append G more.0 row x (slice_get_within G x row is) ∙ is))

module _ (v : NodeView Secrets) where
  -- one change more
  rows_took : (row : Row) → node_rows (with_changes v (Took row ∷ [])) ≡ node_rows v ++ row ∷ []
  rows_took row = ap (λ s. s.rows) (replay-push v.start.members v.start.coin v.history (Took row))

  rows_made : (row : Row) → node_rows (with_changes v (Made row ∷ [])) ≡ node_rows v ++ row ∷ []
  rows_made row = ap (λ s. s.rows) (replay-push v.start.members v.start.coin v.history (Made row))

  module _ (node : IsNode accepts_by v) where
    abbrev here : Row → PutAnswer
    here row = row_verdict (terms_of accepts_by v.start) v.start.members v.start.own (node_rows v) row

    same_node : IsNode accepts_by (with_changes v [])
    same_node = subst (IsNode accepts_by) (sym (with_none v [] refl)) node

    put_by : (row : Row) (a : PutAnswer) → here row ≡ a → AreEvents (node_rows (with_changes v (taken_by a row))) → IsNode accepts_by (with_changes v (taken_by a row))
    put_by row (Known p) is events = same_node
    put_by row (Refused f) is events = same_node
    put_by row (Accepted p) is events = node_with accepts_by v (Took row) node (record {
      spelled = last_event (node_rows v) row (subst AreEvents (rows_took row) events);
      accepted = is ∙ ap (λ (k : ℕ). Accepted k) (accepted_place (terms_of accepts_by v.start) v.start.members v.start.own (node_rows v) row p is);
    })

    put_read : (read : Result Row ByteFault) → AreEvents (node_rows (with_changes v (taken_from accepts_by v read))) → IsNode accepts_by (with_changes v (taken_from accepts_by v read))
    put_read (Err e) events = same_node
    put_read (Ok row) events = put_by row (here row) refl events

    put_lawful : (bytes : List ℕ) → AreEvents (node_rows (node_put v bytes)) → IsNode accepts_by (node_put v bytes)
    unfolding put_changes
    put_lawful bytes events = put_read (read_event bytes) events

    module _ (others : List (List ℕ)) (time : ℕ) (payload : List ℕ) where
      abbrev sig : List ℕ
      sig = own_signature v others time payload

      abbrev row : Row
      row = made_row v.start.own (node_rows v) others time payload sig

      signed_so : accepts_by v.start.keys v.start.own (body_of row) sig ≡ true
      unfolding make_body body_of
      signed_so = (bytes_eq-Decides sig sig).1 refl

      make_by : (a : MakeAnswer) → make_answer v others time payload sig ≡ a → AreEvents (node_rows (with_changes v (made_by a row))) → IsNode accepts_by (with_changes v (made_by a row))
      unfolding make_answer
      make_by (answer.Refused f) is events = same_node
      make_by (answer.Made p) is events = node_with accepts_by v (Made row) node (record {
        others = others;
        time = time;
        payload = payload;
        sig = sig;
        fields = refl;
        spelled = last_event (node_rows v) row (subst AreEvents (rows_made row) events);
        signed = signed_so;
        made = is ∙ ap (λ (k : ℕ). answer.Made k) (made_place _ (length (node_rows v)) p is);
      })

      make_lawful : AreEvents (node_rows (node_made v others time payload)) → IsNode accepts_by (node_made v others time payload)
      unfolding make_changes
      make_lawful events = make_by (make_answer v others time payload sig) refl events

module _ (w : WorldView) (m : ℕ) (is : IsWorld w) (low : m < length w.sites) where
  keeps : KeepsSite w is.keys m (site_at w m)
  keeps = is.sites m low

  -- a world with another site, of which the rows are events
  set_events : (s : Site) → HaveEvents (with_site w m s) → AreEvents (node_rows s.node)
  set_events s events =
      subst (λ (t : Site). AreEvents (node_rows t.node)) (get_or-set_same w.sites m s no_site low) (events m (omega (arith, low, length-set w.sites m s)))

  changed_lawful : (es : List Change) → IsNode accepts_by (with_changes (node_at w m) es) → IsWorld (with_site w m (site_of (with_changes (node_at w m) es) (site_at w m).frozen))
  changed_lawful es node =
      set_site w m (site_of (with_changes (node_at w m) es) (site_at w m).frozen) is low (changed_site w is.keys m (node_at w m) (site_at w m).frozen es keeps node)

pub step_lawful : (w : WorldView) (step : Step) → IsWorld w → IsStepOf w step → HaveEvents (after_step w step) → IsWorld (after_step w step)
step_lawful w (Make m others time payload) is of events =
    changed_lawful w m is of.0 _ (make_lawful (node_at w m) (is.sites m of.0).node others time payload (set_events w m is of.0 _ events))
step_lawful w (Deliver m bytes) is of events =
    changed_lawful w m is of.0 _ (put_lawful (node_at w m) (is.sites m of.0).node bytes (set_events w m is of.0 _ events))
step_lawful w (Freeze m worker) is of events =
    set_site w m _ is of.0 (frozen_site w is.keys m (node_at w m) (site_at w m).frozen worker (length (rows_at w m)) (is.sites m of.0) (omega arith))
step_lawful w (Publish m worker share) is of events =
    changed_lawful w m is of.0 _ (publishes_leave_a_node Secrets accepts_by (node_at w m) _ share ((is.sites m of.0).frozen worker) (is.sites m of.0).node)

-- so they do where the numbers and bytes of the steps are within their ranges

length_signature : (secrets : Secrets) (m : ℕ) (body : List ℕ) → length (signature_by secrets m body) ≡ 64
unfolding hmac_sha512
length_signature secrets m body = length-sha512 _

step_in_range : (w : WorldView) (step : Step) → IsWorld w → IsStepOf w step → HasRange step → IsWorld (after_step w step)
step_in_range w (Make m others time payload) is of early =
    let v = node_at w m in
    let sig = own_signature v others time payload in
    changed_lawful w m is of.0 _
    (makes_leave_a_node Secrets accepts_by v others time payload sig of.1 early (length_signature v.start.keys v.start.own (make_body v others time payload)) (λ none. (bytes_eq-Decides sig sig).1 refl) (is.sites m of.0).node)
step_in_range w (Deliver m bytes) is of fit =
    changed_lawful w m is of.0 _ (puts_leave_a_node Secrets accepts_by (node_at w m) bytes fit (is.sites m of.0).node)
step_in_range w (Freeze m worker) is of range =
    set_site w m _ is of.0 (frozen_site w is.keys m (node_at w m) (site_at w m).frozen worker (length (rows_at w m)) (is.sites m of.0) (omega arith))
step_in_range w (Publish m worker share) is of range =
    changed_lawful w m is of.0 _ (publishes_leave_a_node Secrets accepts_by (node_at w m) _ share ((is.sites m of.0).frozen worker) (is.sites m of.0).node)

-- the rows of each node only get more

pub rows_set : (w : WorldView) (m k : ℕ) (es : List Change) (lens : List ℕ) → m < length w.sites → IsPrefix (rows_at w k) (rows_at (with_site w m (site_of (with_changes (node_at w m) es) lens)) k)
rows_set w m k es lens low = elim (cases_eq k m) [
  | inl here ↦
      let v = node_at w m in
      rw here (subst (λ (t : Site). IsPrefix (rows_at w m) (node_rows t.node)) (sym (get_or-set_same w.sites m (site_of (with_changes v es) lens) no_site low))
      (rows_grow v.start.members v.start.coin v.history es))
  | inr other ↦
      subst (λ (t : Site). IsPrefix (rows_at w k) (node_rows t.node)) (sym (get_or-set_other w.sites m k (site_of (with_changes (node_at w m) es) lens) no_site other))
      ([], sym (append-nil (rows_at w k)))
]

rows_frozen : (w : WorldView) (m k : ℕ) (lens : List ℕ) → m < length w.sites → rows_at (with_site w m (site_of (node_at w m) lens)) k ≡ rows_at w k
rows_frozen w m k lens low = elim (cases_eq k m) [
  | inl here ↦ rw here (ap (λ (t : Site). node_rows t.node) (get_or-set_same w.sites m (site_of (node_at w m) lens) no_site low))
  | inr other ↦ ap (λ (t : Site). node_rows t.node) (get_or-set_other w.sites m k (site_of (node_at w m) lens) no_site other)
]

step_rows : (w : WorldView) (step : Step) (k : ℕ) → IsStepOf w step → IsPrefix (rows_at w k) (rows_at (after_step w step) k)
step_rows w (Make m others time payload) k of = rows_set w m k _ _ of.0
step_rows w (Deliver m bytes) k of = rows_set w m k _ _ of.0
step_rows w (Freeze m worker) k of = ([], rows_frozen w m k _ of.0 ∙ sym (append-nil (rows_at w k)))
step_rows w (Publish m worker share) k of = rows_set w m k _ _ of.0

-- what were steps of the world are so still
still_steps : (w : WorldView) (step : Step) (steps : List Step) → AllByRecursion (IsStepOf w) steps → AllByRecursion (IsStepOf (after_step w step)) steps
still_steps w step [] of = tt
still_steps w step (s ∷ steps) of = ((omega (arith, of.0.0, step_sites w step), of.0.1), still_steps w step steps of.1)

steps_rows : (w : WorldView) (steps : List Step) (k : ℕ) → AllByRecursion (IsStepOf w) steps → IsPrefix (rows_at w k) (rows_at (after_steps w steps) k)
steps_rows w [] k of = ([], sym (append-nil (rows_at w k)))
steps_rows w (step ∷ steps) k of =
    prefix_more (rows_at w k) (rows_at (after_step w step) k) (rows_at (after_steps (after_step w step) steps) k) (step_rows w step k of.0) (steps_rows (after_step w step) steps k (still_steps w step steps of.1))

-- a lawful world is left lawful by steps, if its rows are events then
pub steps_lawful : (w : WorldView) (steps : List Step) → IsWorld w → AllByRecursion (IsStepOf w) steps → HaveEvents (after_steps w steps) → IsWorld (after_steps w steps)
steps_lawful w [] is of events = is
steps_lawful w (step ∷ steps) is of events =
    let next = after_step w step in
    let more = still_steps w step steps of.1 in
    let low : (m : ℕ) → m < length next.sites → m < length (after_steps next steps).sites = λ m inside. omega (arith, inside, steps_sites next steps) in
    let here : HaveEvents next = λ m inside. first_events (rows_at next m) (rows_at (after_steps next steps) m) (steps_rows next steps m more) (events m (low m inside)) in
    steps_lawful next steps (step_lawful w step is of.0 here) more events

pub stay_lawful : StepsStayLawful
stay_lawful w [] is of ranges = is
stay_lawful w (step ∷ steps) is of ranges =
    stay_lawful (after_step w step) steps (step_in_range w step is of.0 ranges.0) (still_steps w step steps of.1) ranges.1

first_is : (first row : Row) → Some first ≡ Some row → first ≡ row
first_is first row is = cc

-- the rows of a node are events
spelled_at : (accepts : Accepts) (G : List Row) → AllByRecursion (IsEvent accepts) G → AreEvents G
spelled_at accepts [] all x row is = absurd (omega (arith, slice_get_within [] x row is))
spelled_at accepts (first ∷ G) all zero row is = subst (λ (r : Row). Spells (spelling r) r) (first_is first row is) all.0.spelled
spelled_at accepts (first ∷ G) all (suc x) row is = spelled_at accepts G all.1 x row is

pub worlds_have_events : (w : WorldView) → IsWorld w → HaveEvents w
worlds_have_events w is m low =
    let v = node_at w m in
    let node = (is.sites m low).node in
    spelled_at (accepts_by v.start.keys) (node_rows v) (sound (terms_of accepts_by v.start) v.start.members v.start.coin v.start.own v.history node.coin node.history).events
