-- Which node the record of a change leads to.
use Rattle.std.proofs.Common.{◌≡◌, ℕ, ◌+◌, ◌^◌, ◌<◌, ◌≤◌, eqb, cond, List, [], ◌∷◌, length, Some, sym, ◌∙◌, ap, arith}
use Rattle.std.specs.Prelude.{slice_get}
use Rattle.hg_model.specs.declared.row.Row.{Row}
use Rattle.hg_model.specs.Shares.{Share}
use Rattle.hg_life.specs.Calls.{IsMaking, publish_answer, publish_changes, put_answer, put_changes, make_changes}
use Rattle.hg_life.specs.History.Change.{Marked}
use Rattle.hg_life.specs.NodeView.{NodeView, IsNode, node_rows, with_changes}
use Rattle.hg_life.specs.Signing.{Accepts}
use Rattle.hg_life.specs.Spelling.{spelling}
use Rattle.hg_life.specs.declared.answers.MakeAnswer.{MakeAnswer}
use Rattle.hg_life.specs.declared.answers.MakeAnswer.TheVariants as made
use Rattle.hg_life.specs.declared.answers.PutAnswer.TheVariants.{Accepted}
use Rattle.hg_history.proofs.CallLaws.{other_makes_add_none, other_puts_add_none, with_none}
use Rattle.hg_node.specs.Puts.{after_put}
use Rattle.hg_node.specs.Replay.{replay_one}
use Rattle.hg_node.specs.Replay.StoredChange.{StoredMade, StoredMarked}
use Rattle.hg_node.specs.ReplayLaws.{MarksReplay, PutsReplay}
use Rattle.hg_journal.specs.Journal.{marked_body, marked_in, next_node}
use Rattle.hg_journal.specs.Stored.{IsNear}
use Rattle.hg_journal.proofs.NodeLaws.{changes_few, made_is, marked_body_in, marked_some, next_more, rows_few, took_is}

module _ {K : Type 0} (accepts : K → Accepts) where
  -- ---- which node a record leads to

  pub put_next : (v w : NodeView K) (bytes : List ℕ) (place : ℕ) → PutsReplay K → put_answer accepts v bytes ≡ Accepted place → w ≡ after_put accepts v bytes
      → next_node accepts v 1 bytes ≡ Some w
  put_next v w bytes place law accepted is = took_is accepts v bytes ∙ law accepts v bytes place accepted ∙ ap (λ (x : NodeView K). Some x) (sym is)

  pub put_none : (v w : NodeView K) (bytes : List ℕ) → ((place : ℕ) → put_answer accepts v bytes ≡ Accepted place → ⊥) → w ≡ after_put accepts v bytes → w ≡ v
  put_none v w bytes other is = is ∙ with_none v (put_changes accepts v bytes) (other_puts_add_none K accepts v bytes other)

  -- the row at this place, that was made, leads from v to w
  abbrev pub MadeHere : NodeView K → NodeView K → ℕ → Row → Type 0
  MadeHere v w place row = (slice_get (node_rows w) place ≡ Some row) × (replay_one accepts v (StoredMade (spelling row)) ≡ Some w)

  pub made_next : (v w : NodeView K) (place : ℕ) (row : Row) → MadeHere v w place row → next_node accepts v 2 (spelling row) ≡ Some w
  made_next v w place row here = made_is accepts v (spelling row) ∙ here.1

  pub make_none : (v w : NodeView K) (others : List (List ℕ)) (time : ℕ) (payload : List ℕ) (answer : MakeAnswer) → ((place : ℕ) → answer ≡ made.Made place → ⊥)
      → IsMaking accepts v others time payload answer w → w ≡ v
  make_none v w others time payload answer other making =
      making.grown ∙ with_none v (make_changes v others time payload making.sig) (other_makes_add_none K v others time payload making.sig (λ place is. other place (making.answers ∙ is)))

  marks_next : (v w : NodeView K) (len : ℕ) (share : Share) (body : List ℕ) → marked_in body ≡ Some (StoredMarked len share.k share.of)
      → replay_one accepts v (StoredMarked len share.k share.of) ≡ Some (with_changes v (publish_changes v len share)) → w ≡ with_changes v (publish_changes v len share)
      → next_node accepts v 3 body ≡ Some w
  marks_next v w len share body tells comes is = marked_some accepts v body len share.k share.of tells ∙ comes ∙ ap (λ (x : NodeView K). Some x) (sym is)

  pub remark_next : (v w : NodeView K) (len : ℕ) (share : Share) (body : List ℕ) → MarksReplay K → len ≤ length (node_rows v) → len < 2 ^ 32 → share.k < share.of → share.of < 2 ^ 32
      → 0 < publish_answer v len share → body ≡ marked_body len share.k share.of → w ≡ with_changes v (publish_changes v len share) → next_node accepts v 3 body ≡ Some w
  remark_next v w len share body law within small lawful few some spelled is =
      marks_next v w len share body (ap marked_in spelled ∙ marked_body_in accepts v len share.k share.of small (omega (arith, lawful, few)) few)
      (law accepts v len share within lawful some) is

  pub remark_none : (v w : NodeView K) (len : ℕ) (share : Share) → publish_answer v len share ≡ 0 → w ≡ with_changes v (publish_changes v len share) → w ≡ v
  unfolding publish_changes
  remark_none v w len share none is = is ∙ with_none v (publish_changes v len share) (ap (λ (n : ℕ). cond (eqb n 0) [] (Marked len share ∷ [])) none)

  pub rows_fit : (v : NodeView K) (len : ℕ) → IsNode accepts v → len ≤ length (node_rows v) → len < 2 ^ 32
  rows_fit v len node within = omega (arith, rows_few accepts v node, within)

  -- ---- the end of its journal

  pub gate_small : (v : NodeView K) (gate : ℕ) → IsNode accepts v → IsNear gate v → gate < 2 ^ 62
  gate_small v gate node near = omega (arith, near, changes_few accepts v node)

  pub near_next : (v w : NodeView K) (kind : ℕ) (body : List ℕ) (gate next : ℕ) → length body < 65536 → next_node accepts v kind body ≡ Some w → next ≡ gate + 4 + length body
      → IsNear gate v → IsNear next w
  near_next v w kind body gate next small leads goes near = omega (arith, near, small, goes, (next_more v w accepts kind body leads).1)
