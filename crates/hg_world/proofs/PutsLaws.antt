-- The names of rows whose events were all taken are known
use Rattle.std.proofs.Common.{◌≡◌, ◌≢◌, inl, inr, ℕ, ◌+◌, ◌<◌, ◌≤◌, true, List, [], ◌∷◌, ◌++◌, length, map, fold, not, Result, Ok, sym, refl, ap, ◌∙◌, subst, arith}
use Rattle.std.specs.List.{AllByRecursion}
use Rattle.std.proofs.lemmas.Bool.{cases_eq}
use Rattle.std.proofs.lemmas.List.{get_or-set_other, length-map}
use Rattle.hg_model.specs.declared.row.Row.{Row}
use Rattle.hg_life.specs.declared.answers.ByteFault.{ByteFault}
use Rattle.hg_life.specs.declared.answers.PutAnswer.{PutAnswer}
use Rattle.hg_life.specs.declared.answers.PutAnswer.TheVariants.{Accepted, Known, Refused}
use Rattle.hg_life.specs.Gossip.{count_taken}
use Rattle.hg_model.specs.Held.{lacking, is_held}
use Rattle.hg_model.specs.Orders.{IsPrefix}
use Rattle.hg_life.specs.Signing.{Accepts, accepts_by}
use Rattle.hg_life.specs.Spelling.{Spells, spelling}
use Rattle.hg_life.specs.Reading.{read_event}
use Rattle.hg_life.specs.History.{Change, State}
use Rattle.hg_life.specs.History.Change.{Took}
use Rattle.hg_life.specs.NodeView.{NodeView, IsNode, node_rows, with_changes, terms_of}
use Rattle.hg_life.specs.Calls.{put_answer, put_changes}
use Rattle.hg_event.proofs.Spells.{Spells-read_event}
use Rattle.hg_history.specs.Laws.{IsEvent}
use Rattle.hg_history.proofs.CallLaws.{puts_add_one}
use Rattle.hg_history.proofs.SoundLaws.{sound}
use Rattle.hg_history.proofs.StateLaws.{prefix_more, prefix_same, replay-push, rows_grow}
use Rattle.hg_gossip.specs.declared.gossip.Taken.{Taken}
use Rattle.hg_gossip.specs.Gossip.{none_taken}
use Rattle.hg_gossip.specs.Nodes.{Taking, lacked, take_event, taking, taking_of}
use Rattle.hg_world.specs.declared.step.Step.TheVariants.{Deliver}
use Rattle.hg_world.specs.World.{Secrets, Site, WorldView, no_site, node_at, rows_at, site_at, site_of}
use Rattle.hg_world.specs.Steps.{after_step, after_steps, node_put}
use Rattle.hg_world.specs.Syncs.{HasTaken, deliver_steps}
use Rattle.hg_world.specs.Parts.{IsWorld}
use Rattle.hg_gossip.specs.Handing.{AreKnown, LacksOf}
use Rattle.hg_gossip.proofs.HandLaws.{held_last, held_more, known_all, known_lacks, known_own, lacks_again}
use Rattle.hg_world.proofs.SignedLaws.{all_filtered}

-- the rows are events
abbrev AreEvents : Accepts → List Row → Type 0
AreEvents accepts rows = AllByRecursion (IsEvent accepts) rows

abbrev result_of : Row → Result Row ByteFault
result_of row = Ok row

ok_same : (a b : Row) (read : Result Row ByteFault) → read ≡ Ok a → read ≡ Ok b → a ≡ b
ok_same a b read one other = (let same : result_of a ≡ result_of b = sym one ∙ other in cc)

-- the name of a row that is accepted is held then
pub accepted_held : (v : NodeView Secrets) (row : Row) (place : ℕ) → Spells (spelling row) row → put_answer accepts_by v (spelling row) ≡ Accepted place →
    is_held (node_rows (with_changes v (put_changes accepts_by v (spelling row)))) row.name ≡ true
accepted_held v row place spells accepted =
    let one = puts_add_one Secrets accepts_by v (spelling row) place accepted in
    let same : one.1.0 ≡ row = ok_same one.1.0 row (read_event (spelling row)) one.1.1 (Spells-read_event (spelling row) row spells) in
    let rows : node_rows (with_changes v (put_changes accepts_by v (spelling row))) ≡ node_rows v ++ row ∷ [] =
    ap (λ (es : List Change). node_rows (with_changes v es)) (one.1.2 ∙ ap (λ (r : Row). Took r ∷ []) same)
    ∙ ap (λ (s : State). s.rows) (replay-push v.start.members v.start.coin v.history (Took row)) in
    subst (λ (G : List Row). is_held G row.name ≡ true) (sym rows) (held_last (node_rows v) row)

-- events one after the other

pub rows_more : (events : List (List ℕ)) (t : Taking Secrets) → IsPrefix (node_rows t.node) (node_rows (fold (take_event accepts_by) t events).node)
rows_more [] t = prefix_same (node_rows t.node) (node_rows t.node) refl
rows_more (bytes ∷ events) t =
    let next = take_event accepts_by t bytes in
    prefix_more (node_rows t.node) (node_rows next.node) (node_rows (fold (take_event accepts_by) next events).node)
    (rows_grow t.node.start.members t.node.start.coin t.node.history (put_changes accepts_by t.node bytes)) (rows_more events next)

one_at_most : (answer : PutAnswer) → count_taken answer ≤ 1
one_at_most (Accepted p) = omega arith
one_at_most (Known p) = omega arith
one_at_most (Refused f) = omega arith

taken_few : (events : List (List ℕ)) (t : Taking Secrets) → (fold (take_event accepts_by) t events).counts.taken ≤ t.counts.taken + length events
taken_few [] t = omega arith
taken_few (bytes ∷ events) t =
    let next = take_event accepts_by t bytes in
    omega (arith, taken_few events next, one_at_most (put_answer accepts_by t.node bytes))

all_taken : (rows : List Row) (accepts : Accepts) (t : Taking Secrets) → AreEvents accepts rows → (fold (take_event accepts_by) t (map spelling rows)).counts.taken ≡ t.counts.taken + length rows →
    AreKnown (node_rows (fold (take_event accepts_by) t (map spelling rows)).node) rows
all_taken [] accepts t events all = tt
all_taken (row ∷ rows) accepts t events all = by (put_answer accepts_by t.node (spelling row)) refl (all_taken rows accepts (take_event accepts_by t (spelling row)) events.1)
  where
    next : Taking Secrets
    next = take_event accepts_by t (spelling row)

    end : Taking Secrets
    end = fold (take_event accepts_by) next (map spelling rows)

    few : end.counts.taken ≤ next.counts.taken + length rows
    few = subst (λ (k : ℕ). end.counts.taken ≤ next.counts.taken + k) (length-map rows spelling) (taken_few (map spelling rows) next)

    some : (answer : PutAnswer) → put_answer accepts_by t.node (spelling row) ≡ answer → next.counts.taken ≡ t.counts.taken + count_taken answer
    some answer is = ap (λ (a : PutAnswer). t.counts.taken + count_taken a) is

    by : (answer : PutAnswer) → put_answer accepts_by t.node (spelling row) ≡ answer → (end.counts.taken ≡ next.counts.taken + length rows → AreKnown (node_rows end.node) rows) → AreKnown (node_rows end.node) (row ∷ rows)
    by (Accepted p) is then = (
      held_more (node_rows next.node) (node_rows end.node) row.name (rows_more (map spelling rows) next) (accepted_held t.node row p events.0.spelled is),
      then (omega (arith, all, some (Accepted p) is)),
    )
    by (Known p) is then = absurd (omega (arith, all, few, some (Known p) is))
    by (Refused f) is then = absurd (omega (arith, all, few, some (Refused f) is))

-- a pull of which all events were taken: the names of all rows of the peer are known then
pub pulled_all : (v peer : NodeView Secrets) (events : List (List ℕ)) (now : NodeView Secrets) (counts : Taken) → IsNode accepts_by peer → events ≡ lacked v peer → taking_of now counts ≡ taking accepts_by v events →
    counts.taken ≡ length events → AreKnown (node_rows now) (node_rows peer)
pulled_all v peer events now counts node is counted all =
    let accepts = accepts_by peer.start.keys in
    let missing = lacking (node_rows v) (node_rows peer) in
    let start : Taking Secrets = taking_of v none_taken in
    let end : taking_of now counts ≡ fold (take_event accepts_by) start (map spelling missing) = counted ∙ ap (taking accepts_by v) is in
    let node_is : now ≡ (fold (take_event accepts_by) start (map spelling missing)).node = ap (λ (t : Taking Secrets). t.node) end in
    let counted_all : (fold (take_event accepts_by) start (map spelling missing)).counts.taken ≡ length missing =
    sym (ap (λ (t : Taking Secrets). t.counts.taken) end) ∙ (all ∙ (ap length is ∙ length-map missing spelling)) in
    let number : (fold (take_event accepts_by) start (map spelling missing)).counts.taken ≡ 0 + length missing = omega (arith, counted_all) in
    let rows = (sound (terms_of accepts_by peer.start) peer.start.members peer.start.coin peer.start.own peer.history node.coin node.history).events in
    subst (λ (u : NodeView Secrets). AreKnown (node_rows u) (node_rows peer)) (sym node_is)
    (known_all (node_rows v) (node_rows (fold (take_event accepts_by) start (map spelling missing)).node) (node_rows peer) (rows_more (map spelling missing) start)
    (all_taken missing accepts start (all_filtered (IsEvent accepts) (λ (row : Row). not (is_held (node_rows v) row.name)) (node_rows peer) rows) number))

-- the nodes of others stay
others_stay : (w : WorldView) (m k : ℕ) (events : List (List ℕ)) → k ≢ m → node_at (after_steps w (deliver_steps m events)) k ≡ node_at w k
others_stay w m k [] other = refl
others_stay w m k (bytes ∷ events) other =
    others_stay (after_step w (Deliver m bytes)) m k events other
    ∙ ap (λ (s : Site). s.node) (get_or-set_other w.sites m k (site_of (node_put (node_at w m) bytes) (site_at w m).frozen) no_site other)

pub noted : (old new : WorldView) (taker peer : ℕ) (events put : List (List ℕ)) (counts : Taken) → IsWorld old → peer < length old.sites → events ≡ lacked (node_at old taker) (node_at old peer) → put ≡ events →
    HasTaken old taker put counts new → counts.taken ≡ length events → AreKnown (rows_at new taker) (rows_at new peer)
noted old new taker peer events put counts world low is same taken all = elim (cases_eq peer taker) [
  | inl here ↦ subst (λ (k : ℕ). AreKnown (rows_at new taker) (rows_at new k)) (sym here) (known_own (rows_at new taker))
  | inr other ↦ subst (λ (v : NodeView Secrets). AreKnown (rows_at new taker) (node_rows v))
      (sym (ap (λ (w : WorldView). node_at w peer) taken.after ∙ others_stay old taker peer put other))
      (pulled_all (node_at old taker) (node_at old peer) put (node_at new taker) counts (world.sites peer low).node (same ∙ is) taken.counted (all ∙ ap length (sym same)))
]

-- a pull of whatever events: what is lacking then was lacking before
pub rest_noted : (old new : WorldView) (taker peer : ℕ) (rows : List Row) (put : List (List ℕ)) (counts : Taken) → rows ≡ lacking (rows_at old taker) (rows_at old peer) → HasTaken old taker put counts new →
    LacksOf (rows_at new taker) (rows_at new peer) rows
rest_noted old new taker peer rows put counts is taken = elim (cases_eq peer taker) [
  | inl here ↦
      let own : lacking (rows_at old taker) (rows_at old peer) ≡ [] = rw here (known_lacks (rows_at old taker) (rows_at old taker) (known_own (rows_at old taker))) in
      subst (λ (k : ℕ). LacksOf (rows_at new taker) (rows_at new k) rows) (sym here)
      (known_lacks (rows_at new taker) (rows_at new taker) (known_own (rows_at new taker)) ∙ sym (ap (lacking (rows_at new taker)) (is ∙ own)))
  | inr other ↦
      let later : node_at new taker ≡ (taking accepts_by (node_at old taker) put).node = ap (λ (t : Taking Secrets). t.node) taken.counted in
      let grown : IsPrefix (rows_at old taker) (rows_at new taker) = subst (λ (v : NodeView Secrets). IsPrefix (rows_at old taker) (node_rows v)) (sym later) (rows_more put (taking_of (node_at old taker) none_taken)) in
      subst (λ (v : NodeView Secrets). LacksOf (rows_at new taker) (node_rows v) rows)
      (sym (ap (λ (w : WorldView). node_at w peer) taken.after ∙ others_stay old taker peer put other))
      (sym (lacks_again (rows_at old taker) (rows_at new taker) (rows_at old peer) grown) ∙ sym (ap (lacking (rows_at new taker)) is))
]
