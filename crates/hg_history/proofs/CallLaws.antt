-- Each call of a node adds at most one change, and leaves a node
use Rattle.std.proofs.Common.{◌≡◌, inl, inr, ℕ, ◌<◌, Bool, cond, eqb, List, [], ◌∷◌, ◌++◌, length, Result, Ok, Err, sym, refl, ap, ◌∙◌, subst, arith}
use Rattle.std.proofs.lemmas.Bool.{cases_Bool, eqb-false}
use Rattle.std.proofs.lemmas.List.{append-nil}
use Rattle.hg_model.specs.declared.row.Row.{Row}
use Rattle.hg_life.specs.declared.answers.ByteFault.{ByteFault}
use Rattle.hg_life.specs.declared.answers.PutAnswer.{PutAnswer}
use Rattle.hg_life.specs.declared.answers.PutAnswer.TheVariants.{Accepted, Known, Refused}
use Rattle.hg_life.specs.declared.answers.MakeAnswer.{MakeAnswer}
use Rattle.hg_life.specs.declared.answers.MakeAnswer.TheVariants as answer
use Rattle.hg_life.specs.Reading.{read_event}
use Rattle.hg_life.specs.Spelling.{Spells}
use Rattle.hg_life.specs.Verdict.{arrival_rule, forkers_rule, full_rule, row_verdict, made_row, making, made_or}
use Rattle.hg_life.specs.History.{Change, IsStep}
use Rattle.hg_life.specs.History.Change.{Took, Marked}
use Rattle.hg_life.specs.NodeView.{NodeView, with_changes, node_rows, node_state, IsNode, terms_of}
use Rattle.hg_life.specs.Calls.{put_answer, put_changes, taken_by, taken_from, make_answer, make_changes, made_by, publish_answer, publish_changes}
use Rattle.hg_life.specs.Signing.{Accepts}
use Rattle.hg_event.proofs.Reading.{AreBytes}
use Rattle.hg_event.proofs.Spells.{read_event-Spells}
use Rattle.hg_history.specs.Laws.{PutsAddOne, OtherPutsAddNone, PutsLeaveANode, MakesAddOne, OtherMakesAddNone, PublishesLeaveANode}
use Rattle.hg_history.proofs.RuleLaws.{accepted_place, made_place}
use Rattle.hg_history.proofs.SoundLaws.{history_push}

-- no change, and one that may come

pub with_none : {K : Type 0} (v : NodeView K) (es : List Change) → es ≡ [] → with_changes v es ≡ v
with_none {K} v es none = ap (λ (h : List Change). at h) (ap (λ (more : List Change). v.history ++ more) none ∙ append-nil v.history)
  where
    at : List Change → NodeView K
    at h = record { start = v.start; history = h }

pub node_with : {K : Type 0} (accepts : K → Accepts) (v : NodeView K) (e : Change) → IsNode accepts v →
    IsStep (terms_of accepts v.start) v.start.members v.start.coin v.start.own (node_state v) e → IsNode accepts (with_changes v (e ∷ []))
node_with accepts v e node may = record {
  few_members = node.few_members;
  coin = node.coin;
  balances = node.balances;
  limit = node.limit;
  history = history_push (terms_of accepts v.start) v.start.members v.start.coin v.start.own v.history e node.history may;
}

module _ (K : Type 0) (accepts : K → Accepts) (v : NodeView K) (bytes : List ℕ) where
  abbrev here : Row → PutAnswer
  here row = row_verdict (terms_of accepts v.start) v.start.members v.start.own (node_rows v) row

  taken_accepted : (answer : PutAnswer) (row : Row) (place : ℕ) → answer ≡ Accepted place → taken_by answer row ≡ Took row ∷ []
  taken_accepted answer row place is = ap (λ (a : PutAnswer). taken_by a row) is

  taken_other : (answer : PutAnswer) (row : Row) → ((place : ℕ) → answer ≡ Accepted place → ⊥) → taken_by answer row ≡ []
  taken_other (Accepted p) row other = absurd (other p refl)
  taken_other (Known p) row other = refl
  taken_other (Refused f) row other = refl

  one_of_read : (read : Result Row ByteFault) → read_event bytes ≡ read → (place : ℕ) → put_answer accepts v bytes ≡ Accepted place →
      (place ≡ length (node_rows v)) × ((row : Row) × (read_event bytes ≡ Ok row) × (put_changes accepts v bytes ≡ Took row ∷ []))
  unfolding put_answer put_changes
  one_of_read (Err e) is place accepted =
      (let no_row : Refused _ ≡ Accepted place = sym (ap (λ (r : Result Row ByteFault). Rattle.hg_life.specs.Verdict.verdict_of (terms_of accepts v.start) v.start.members v.start.own (node_rows v) r) is) ∙ accepted in cc)
  one_of_read (Ok row) is place accepted =
      let row_is : here row ≡ Accepted place = sym (ap (λ (r : Result Row ByteFault). Rattle.hg_life.specs.Verdict.verdict_of (terms_of accepts v.start) v.start.members v.start.own (node_rows v) r) is) ∙ accepted in (
        accepted_place (terms_of accepts v.start) v.start.members v.start.own (node_rows v) row place row_is,
        (row, is, ap (taken_from accepts v) is ∙ taken_accepted (here row) row place row_is),
      )

  none_of_read : (read : Result Row ByteFault) → read_event bytes ≡ read → ((place : ℕ) → put_answer accepts v bytes ≡ Accepted place → ⊥) → put_changes accepts v bytes ≡ []
  unfolding put_answer put_changes
  none_of_read (Err e) is other = ap (taken_from accepts v) is
  none_of_read (Ok row) is other =
      ap (taken_from accepts v) is
      ∙ taken_other (here row) row (λ place row_is. other place (ap (λ (r : Result Row ByteFault). Rattle.hg_life.specs.Verdict.verdict_of (terms_of accepts v.start) v.start.members v.start.own (node_rows v) r) is ∙ row_is))

  module _ (fit : AreBytes bytes) (node : IsNode accepts v) where
    node_of_answer : (row : Row) → read_event bytes ≡ Ok row → (answer : PutAnswer) → here row ≡ answer → IsNode accepts (with_changes v (taken_by answer row))
    node_of_answer row is (Known p) row_is = subst (IsNode accepts) (sym (with_none v [] refl)) node
    node_of_answer row is (Refused f) row_is = subst (IsNode accepts) (sym (with_none v [] refl)) node
    node_of_answer row is (Accepted p) row_is =
        let spells = read_event-Spells bytes row fit is in
        let place = accepted_place (terms_of accepts v.start) v.start.members v.start.own (node_rows v) row p row_is in
        node_with accepts v (Took row) node (record {
          spelled = subst (λ (bs : List ℕ). Spells bs row) spells.spelled spells;
          accepted = row_is ∙ ap (λ (k : ℕ). Accepted k) place;
        })

    node_of_read : (read : Result Row ByteFault) → read_event bytes ≡ read → IsNode accepts (with_changes v (put_changes accepts v bytes))
    unfolding put_changes
    node_of_read (Err e) is = subst (IsNode accepts) (sym (with_none v (put_changes accepts v bytes) (ap (taken_from accepts v) is))) node
    node_of_read (Ok row) is = subst (λ (r : Result Row ByteFault). IsNode accepts (with_changes v (taken_from accepts v r))) (sym is) (node_of_answer row is (here row) refl)

pub puts_add_one : (K : Type 0) → PutsAddOne K
puts_add_one K accepts v bytes place accepted = one_of_read K accepts v bytes (read_event bytes) refl place accepted

pub other_puts_add_none : (K : Type 0) → OtherPutsAddNone K
other_puts_add_none K accepts v bytes other = none_of_read K accepts v bytes (read_event bytes) refl other

pub puts_leave_a_node : (K : Type 0) → PutsLeaveANode K
puts_leave_a_node K accepts v bytes fit node = node_of_read K accepts v bytes fit node (read_event bytes) refl

-- making

made_other : (a : MakeAnswer) (row : Row) → ((place : ℕ) → a ≡ answer.Made place → ⊥) → made_by a row ≡ []
made_other (answer.Made p) row other = absurd (other p refl)
made_other (answer.Refused f) row other = refl

pub makes_add_one : (K : Type 0) → MakesAddOne K
unfolding make_answer make_changes
makes_add_one K v others time payload sig place is = (
  made_place _ (length (node_rows v)) place is,
  ap (λ (a : MakeAnswer). made_by a (made_row v.start.own (node_rows v) others time payload sig)) is,
)

pub other_makes_add_none : (K : Type 0) → OtherMakesAddNone K
unfolding make_changes
other_makes_add_none K v others time payload sig none = made_other (make_answer v others time payload sig) (made_row v.start.own (node_rows v) others time payload sig) none

-- publishing

pub publishes_leave_a_node : (K : Type 0) → PublishesLeaveANode K
unfolding publish_changes publish_answer
publishes_leave_a_node K accepts v len share le node = elim (cases_Bool (eqb (publish_answer v len share) 0)) [
  | inl none ↦ subst (IsNode accepts) (sym (with_none v (publish_changes v len share) (ap (λ (b : Bool). cond b [] (Marked len share ∷ [])) none))) node
  | inr some ↦ (
      let more : 0 < publish_answer v len share = (let ne = eqb-false (publish_answer v len share) 0 some in omega (arith, ne)) in
      subst (λ (es : List Change). IsNode accepts (with_changes v es)) (sym (ap (λ (b : Bool). cond b [] (Marked len share ∷ [])) some))
      (node_with accepts v (Marked len share) node (record { within = le; some = more })))
]
