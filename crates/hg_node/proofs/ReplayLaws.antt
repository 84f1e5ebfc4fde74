-- What is stored of a node's changes comes again
use Rattle.std.proofs.Common.{◌≡◌, ℕ, ◌<◌, ◌≤◌, Bool, true, false, cond, eqb, List, [], ◌∷◌, ◌++◌, length, map, fold, Option, Some, None, Result, Ok, Err, sym, refl, ap, ap₂, ◌∙◌, subst, append_assoc, arith}
use Rattle.std.specs.Prelude.{nat_le, nat_lt, slice_get}
use Rattle.std.specs.List.{AllByRecursion}
use Rattle.std.proofs.lemmas.Bool.{and_parts, and_from, eqb-true, lt-ltb, false_from_ne_true}
use Rattle.std.proofs.lemmas.Bool.Decides.{nat_tests}
use Rattle.hg_model.specs.declared.row.Row.{Row}
use Rattle.hg_life.specs.declared.answers.PutAnswer.{PutAnswer}
use Rattle.hg_life.specs.declared.answers.PutAnswer.TheVariants.{Accepted, Known, Refused}
use Rattle.hg_life.specs.declared.answers.ByteFault.{ByteFault}
use Rattle.hg_life.specs.Reading.{read_event}
use Rattle.hg_life.specs.Spelling.{Spells, spelling}
use Rattle.hg_model.specs.Shares.{Share}
use Rattle.hg_life.specs.Signing.{Accepts}
use Rattle.hg_model.specs.Stakes.{Stakes}
use Rattle.hg_life.specs.Verdict.{made_row}
use Rattle.hg_life.specs.History.{Change, State, IsTaken, IsMade, IsStep}
use Rattle.hg_life.specs.History.Change.{Took, Made, Marked}
use Rattle.hg_life.specs.NodeView.{NodeView, with_changes, node_rows, node_state, IsNode, terms_of}
use Rattle.hg_life.specs.Calls.{put_changes, taken_from, taken_by, publish_answer, publish_changes, make_answer}
use Rattle.hg_life.specs.Terms.{Terms}
use Rattle.std.proofs.lemmas.List.{append-nil}
use Rattle.hg_model.proofs.PushLaws.{slice_get-last}
use Rattle.hg_event.proofs.Reading.{AreBytes}
use Rattle.hg_event.proofs.Spells.{Spells-read_event, read_event-Spells}
use Rattle.hg_history.proofs.StateLaws.{replay-push}
use Rattle.hg_history.proofs.RuleLaws.{made_is, rule_accepts_none}
use Rattle.hg_history.proofs.CallLaws.{puts_add_one, makes_add_one, node_with, with_none, puts_leave_a_node, publishes_leave_a_node}
use Rattle.hg_history.proofs.MakeLaws.{makes_leave_a_node}
use Rattle.hg_history.proofs.SoundLaws.{sound, sound_made, rest, moment}
use Rattle.hg_node.specs.Restore.{restore_answer, restore_changes, restored_from, restored_by, restore_verdict_of, is_next_own, restore_rules, restore_verdict}
use Rattle.hg_node.specs.Replay.{stored_of, HasLawfulShare, grown_by, may_mark, replay_one, replay_after, replay_all}
use Rattle.hg_node.specs.Replay.StoredChange.{StoredTook, StoredMade, StoredMarked}
use Rattle.hg_node.specs.ReplayLaws.{PutsReplay, MarksReplay, ChangesReplay, MakesReplay, HistoriesReplay, RestoresLeaveANode, RestoresAddOne, ReplaysAreNodes}
use Rattle.hg_node.proofs.RestoreLaws.{made_comes_back, other_than, rules_of_put}
use Rattle.hg_node.proofs.NextOwnLaws.{restored_is_made, restored_place}

-- one change is enough
grown_by_one : {K : Type 0} (v : NodeView K) (es : List Change) (e : Change) → es ≡ e ∷ [] → grown_by v es ≡ Some (with_changes v (e ∷ []))
grown_by_one v es e one = ap (grown_by v) one

-- bytes that were put

pub puts_replay : (K : Type 0) → PutsReplay K
unfolding replay_one
puts_replay K accepts v bytes place accepted =
    let one = puts_add_one K accepts v bytes place accepted in
    let row : Row = one.1.0 in
    grown_by_one v (put_changes accepts v bytes) (Took row) one.1.2 ∙ ap (λ (es : List Change). Some (with_changes v es)) (sym one.1.2)

-- a row that was taken

took_replays : {K : Type 0} (accepts : K → Accepts) (v : NodeView K) (row : Row) → IsTaken (terms_of accepts v.start) v.start.members v.start.own (node_rows v) row →
    replay_one accepts v (StoredTook (spelling row)) ≡ Some (with_changes v (Took row ∷ []))
unfolding replay_one put_changes
took_replays {K} accepts v row taken =
    grown_by_one v (put_changes accepts v (spelling row)) (Took row)
    (ap (taken_from accepts v) (Spells-read_event (spelling row) row taken.spelled) ∙ ap (λ (a : PutAnswer). taken_by a row) taken.accepted)

-- a row that was made

-- of a node whose history may go on so
restored_where_made : {K : Type 0} (accepts : K → Accepts) (v : NodeView K) (row : Row) → IsNode accepts v → IsMade (terms_of accepts v.start) v.start.own (node_rows v) row →
    restore_verdict (terms_of accepts v.start) v.start.members v.start.own (node_rows v) row ≡ Accepted (length (node_rows v))
restored_where_made accepts v row node made =
    let terms = terms_of accepts v.start in
    let n = v.start.members in
    let s = sound terms n v.start.coin v.start.own v.history node.coin node.history in
    let later = sound_made terms n v.start.coin v.start.own node.history.member node.coin (node_state v) row s made in
    made_comes_back terms n v.start.own (node_rows v) row (made_is terms n v.start.own (node_rows v) row node.history.member s.graph.distinct made) later.graph.few_forkers

pub made_replays : {K : Type 0} (accepts : K → Accepts) (v : NodeView K) (row : Row) → IsNode accepts v → IsMade (terms_of accepts v.start) v.start.own (node_rows v) row →
    replay_one accepts v (StoredMade (spelling row)) ≡ Some (with_changes v (Made row ∷ []))
unfolding replay_one restore_changes
made_replays accepts v row node made =
    grown_by_one v (restore_changes accepts v (spelling row)) (Made row)
    (ap (restored_from accepts v) (Spells-read_event (spelling row) row made.spelled) ∙ ap (λ (a : PutAnswer). restored_by a row) (restored_where_made accepts v row node made))

-- a mark

le-nat_le : (a b : ℕ) → a ≤ b → nat_le a b ≡ true
le-nat_le a b le = grind (arith, nat_tests)

nat_le-le : (a b : ℕ) → nat_le a b ≡ true → a ≤ b
nat_le-le a b is = grind (arith, nat_tests)

published_one : {K : Type 0} (v : NodeView K) (len : ℕ) (share : Share) → 0 < publish_answer v len share → publish_changes v len share ≡ Marked len share ∷ []
unfolding publish_changes
published_one v len share some =
    ap (λ (b : Bool). cond b [] (Marked len share ∷ [])) (false_from_ne_true (eqb (publish_answer v len share) 0) (λ h. (let none = eqb-true (publish_answer v len share) 0 h in omega arith)))

mark_replays : {K : Type 0} (accepts : K → Accepts) (v : NodeView K) (len : ℕ) (share : Share) → len ≤ length (node_rows v) → share.k < share.of → 0 < publish_answer v len share →
    replay_one accepts v (StoredMarked len share.k share.of) ≡ Some (with_changes v (Marked len share ∷ []))
unfolding replay_one
mark_replays accepts v len share le lawful some =
    let may : may_mark v len share.k share.of ≡ true = and_from (nat_le len (length (node_rows v))) (nat_lt share.k share.of) (le-nat_le len (length (node_rows v)) le) (lt-ltb share.k share.of lawful) in
    ap (λ (b : Bool). cond b (grown_by v (publish_changes v len share)) None) may
    ∙ grown_by_one v (publish_changes v len share) (Marked len share) (published_one v len share some)

pub marks_replay : (K : Type 0) → MarksReplay K
marks_replay K accepts v len share le lawful some =
    mark_replays accepts v len share le lawful some ∙ ap (λ (es : List Change). Some (with_changes v es)) (sym (published_one v len share some))

-- each change

pub steps_replay : (K : Type 0) (accepts : K → Accepts) (v : NodeView K) (e : Change) → IsNode accepts v → HasLawfulShare e →
    IsStep (terms_of accepts v.start) v.start.members v.start.coin v.start.own (node_state v) e → replay_one accepts v (stored_of e) ≡ Some (with_changes v (e ∷ []))
unfolding publish_answer
steps_replay K accepts v (Took row) node lawful may = took_replays accepts v row may
steps_replay K accepts v (Made row) node lawful may = made_replays accepts v row node may
steps_replay K accepts v (Marked len share) node lawful may = mark_replays accepts v len share may.within lawful may.some

-- a node that goes on by one change

step_of : {K : Type 0} (accepts : K → Accepts) (v : NodeView K) (e : Change) → IsNode accepts (with_changes v (e ∷ [])) →
    IsStep (terms_of accepts v.start) v.start.members v.start.coin v.start.own (node_state v) e
step_of accepts v e left = (rest (terms_of accepts v.start) v.start.members v.start.coin v.start.own v.history (e ∷ []) left.history).0

node_before : {K : Type 0} (accepts : K → Accepts) (v : NodeView K) (es : List Change) → IsNode accepts (with_changes v es) → IsNode accepts v
node_before accepts v es left = record {
  few_members = left.few_members;
  coin = left.coin;
  balances = left.balances;
  limit = left.limit;
  history = moment (terms_of accepts v.start) v.start.members v.start.coin v.start.own v.history es left.history;
}

pub changes_replay : (K : Type 0) → ChangesReplay K
changes_replay K accepts v e lawful left = steps_replay K accepts v e (node_before accepts v (e ∷ []) left) lawful (step_of accepts v e left)

-- making

pub makes_replay : (K : Type 0) → MakesReplay K
unfolding make_answer
makes_replay K accepts v w others time payload place node few early making =
    let one = makes_add_one K v others time payload making.sig place (sym making.answers) in
    let row : Row = made_row v.start.own (node_rows v) others time payload making.sig in
    let grows : w ≡ with_changes v (Made row ∷ []) = making.grown ∙ ap (with_changes v) one.1 in
    let left = subst (λ (es : List Change). IsNode accepts (with_changes v es)) one.1 (makes_leave_a_node K accepts v others time payload making.sig few early making.sized making.signed node) in
    let rows : node_rows w ≡ node_rows v ++ row ∷ [] = ap (λ (u : NodeView K). node_rows u) grows ∙ ap (λ (s : State). s.rows) (replay-push v.start.members v.start.coin v.history (Made row)) in (
      row,
      ap₂ (λ (G : List Row) (k : ℕ). slice_get G k) rows one.0 ∙ slice_get-last (node_rows v) row,
      changes_replay K accepts v (Made row) tt left ∙ ap (λ (u : NodeView K). Some u) (sym grows),
    )

-- histories

pub histories_replay : (K : Type 0) → HistoriesReplay K
unfolding replay_all
histories_replay K accepts v node lawful = from [] v.history node lawful
  where
    at : List Change → NodeView K
    at h = record { start = v.start; history = h }

    from : (a b : List Change) → IsNode accepts (at (a ++ b)) → AllByRecursion HasLawfulShare b → fold (replay_after accepts) (Some (at a)) (map stored_of b) ≡ Some (at (a ++ b))
    from a [] is all = ap (λ (h : List Change). Some (at h)) (sym (append-nil a))
    from a (e ∷ b) is all =
        let assoc : (a ++ e ∷ []) ++ b ≡ a ++ e ∷ b = append_assoc a (e ∷ []) b in
        let later = subst (λ (h : List Change). IsNode accepts (at h)) (sym assoc) is in
        ap (λ (o : Option (NodeView K)). fold (replay_after accepts) o (map stored_of b)) (changes_replay K accepts (at a) e all.0 (node_before accepts (at (a ++ e ∷ [])) b later))
        ∙ (from (a ++ e ∷ []) b later all.1 ∙ ap (λ (h : List Change). Some (at h)) assoc)

-- what comes again is a node

module _ (K : Type 0) (accepts : K → Accepts) (v : NodeView K) (bytes : List ℕ) where
  abbrev here : Row → PutAnswer
  here row = restore_verdict (terms_of accepts v.start) v.start.members v.start.own (node_rows v) row

  one_of_read : (read : Result Row ByteFault) → read_event bytes ≡ read → (place : ℕ) → restore_answer accepts v bytes ≡ Accepted place →
      (row : Row) × (read_event bytes ≡ Ok row) × (here row ≡ Accepted place)
  unfolding restore_answer
  one_of_read (Err e) is place accepted =
      (let no_row : Refused _ ≡ Accepted place = sym (ap (λ (r : Result Row ByteFault). restore_verdict_of (terms_of accepts v.start) v.start.members v.start.own (node_rows v) r) is) ∙ accepted in cc)
  one_of_read (Ok row) is place accepted = (row, is, sym (ap (λ (r : Result Row ByteFault). restore_verdict_of (terms_of accepts v.start) v.start.members v.start.own (node_rows v) r) is) ∙ accepted)

  module _ (fit : AreBytes bytes) (node : IsNode accepts v) where
    node_of_answer : (row : Row) → read_event bytes ≡ Ok row → (answer : PutAnswer) → here row ≡ answer → IsNode accepts (with_changes v (restored_by answer row))
    node_of_answer row is (Known p) answer_is = subst (IsNode accepts) (sym (with_none v [] refl)) node
    node_of_answer row is (Refused f) answer_is = subst (IsNode accepts) (sym (with_none v [] refl)) node
    node_of_answer row is (Accepted p) answer_is =
        let spells = read_event-Spells bytes row fit is in
        node_with accepts v (Made row) node
        (restored_is_made (terms_of accepts v.start) v.start.members v.start.own (node_rows v) row (subst (λ (bs : List ℕ). Spells bs row) spells.spelled spells) p answer_is)

    node_of_read : (read : Result Row ByteFault) → read_event bytes ≡ read → IsNode accepts (with_changes v (restore_changes accepts v bytes))
    unfolding restore_changes
    node_of_read (Err e) is = subst (IsNode accepts) (sym (with_none v (restore_changes accepts v bytes) (ap (restored_from accepts v) is))) node
    node_of_read (Ok row) is = subst (λ (r : Result Row ByteFault). IsNode accepts (with_changes v (restored_from accepts v r))) (sym is) (node_of_answer row is (here row) refl)

pub restores_leave_a_node : (K : Type 0) → RestoresLeaveANode K
restores_leave_a_node K accepts v bytes fit node = node_of_read K accepts v bytes fit node (read_event bytes) refl

pub restores_add_one : (K : Type 0) → RestoresAddOne K
unfolding restore_changes
restores_add_one K accepts v bytes fit place accepted =
    let one = one_of_read K accepts v bytes (read_event bytes) refl place accepted in
    let row : Row = one.0 in
    let spells = read_event-Spells bytes row fit one.1 in (
      restored_place (terms_of accepts v.start) v.start.members v.start.own (node_rows v) row (subst (λ (bs : List ℕ). Spells bs row) spells.spelled spells) place one.2,
      (row, one.1, ap (restored_from accepts v) one.1 ∙ ap (λ (a : PutAnswer). restored_by a row) one.2),
    )

grown_is : {K : Type 0} (v w : NodeView K) (es : List Change) → grown_by v es ≡ Some w → with_changes v es ≡ w
grown_is v w [] is = cc
grown_is v w (e ∷ es) is = cc

marks_if : {K : Type 0} (v w : NodeView K) (b : Bool) (es : List Change) → cond b (grown_by v es) None ≡ Some w → (b ≡ true) × (with_changes v es ≡ w)
marks_if v w true es is = (refl, grown_is v w es is)
marks_if v w false es is = cc

pub replays_are_nodes : (K : Type 0) → ReplaysAreNodes K
unfolding replay_one
replays_are_nodes K accepts v w (StoredTook bytes) fit node is = subst (IsNode accepts) (grown_is v w (put_changes accepts v bytes) is) (puts_leave_a_node K accepts v bytes fit node)
replays_are_nodes K accepts v w (StoredMade bytes) fit node is = subst (IsNode accepts) (grown_is v w (restore_changes accepts v bytes) is) (restores_leave_a_node K accepts v bytes fit node)
replays_are_nodes K accepts v w (StoredMarked len k m) fit node is =
    let share : Share = record { k = k; «of» = m } in
    let marks = marks_if v w (may_mark v len k m) (publish_changes v len share) is in
    let le : len ≤ length (node_rows v) = nat_le-le len (length (node_rows v)) (and_parts (nat_le len (length (node_rows v))) (nat_lt k m) marks.0).0 in
    subst (IsNode accepts) marks.1 (publishes_leave_a_node K accepts v len share le node)

-- what a rule of restoring answers adds nothing
pub restored_other : (terms : Terms) (n : Stakes) (own : ℕ) (G : List Row) (row : Row) (a : PutAnswer) → restore_rules terms n own G row ≡ Some a → restored_by a row ≡ []
restored_other terms n own G row (Accepted p) speaks =
    absurd (rule_accepts_none terms n (other_than (is_next_own own G row) row.creator) G row (Accepted p) p (sym (rules_of_put terms n own G row) ∙ speaks) refl)
restored_other terms n own G row (Known p) speaks = refl
restored_other terms n own G row (Refused f) speaks = refl
