-- An own event that comes back, and the record that tells it.
use Rattle.std.proofs.Common.{◌≡◌, ℕ, ◌≤◌, List, [], length, Some, refl, sym, ◌∙◌, ap}
use Rattle.std.specs.Prelude.{Result, Ok, Err}
use Rattle.hg_event.proofs.Reading.{AreBytes}
use Rattle.hg_event.proofs.Spells.{read_event-Spells}
use Rattle.hg_history.proofs.CallLaws.{with_none}
use Rattle.hg_life.specs.NodeView.{NodeView, node_rows, terms_of, with_changes}
use Rattle.hg_life.specs.Reading.{read_event}
use Rattle.hg_life.specs.Signing.{Accepts}
use Rattle.hg_life.specs.declared.answers.ByteFault.{ByteFault}
use Rattle.hg_life.specs.declared.answers.PutAnswer.{PutAnswer}
use Rattle.hg_life.specs.declared.answers.PutAnswer.TheVariants.{Accepted, Known, Refused}
use Rattle.hg_model.specs.declared.row.Row.{Row}
use Rattle.hg_node.specs.Replay.{grown_by, replay_one}
use Rattle.hg_node.specs.Replay.StoredChange.{StoredMade}
use Rattle.hg_node.specs.ReplayLaws.{RestoresAddOne, SpellingsAreShort}
use Rattle.hg_node.specs.Restore.{after_restore, restore_answer, restore_changes, restore_verdict, restore_verdict_of, restored_by, restored_from}
use Rattle.hg_journal.specs.Journal.{next_node}
use Rattle.hg_journal.proofs.NodeLaws.{made_is}

-- what is not accepted changes nothing
other_by : (a : PutAnswer) (row : Row) → ((place : ℕ) → a ≡ Accepted place → ⊥) → restored_by a row ≡ []
other_by (Accepted place) row other = absurd (other place refl)
other_by (Known place) row other = refl
other_by (Refused fault) row other = refl

module _ {K : Type 0} (accepts : K → Accepts) (v : NodeView K) where
  other_from : (read : Result Row ByteFault) → ((place : ℕ) → restore_verdict_of (terms_of accepts v.start) v.start.members v.start.own (node_rows v) read ≡ Accepted place → ⊥)
      → restored_from accepts v read ≡ []
  other_from (Err e) other = refl
  other_from (Ok row) other = other_by (restore_verdict (terms_of accepts v.start) v.start.members v.start.own (node_rows v) row) row other

  other_bytes : (bytes : List ℕ) → ((place : ℕ) → restore_answer accepts v bytes ≡ Accepted place → ⊥) → restore_changes accepts v bytes ≡ []
  unfolding restore_answer restore_changes
  other_bytes bytes other = other_from (read_event bytes) other

  pub restore_none : (w : NodeView K) (bytes : List ℕ) → ((place : ℕ) → restore_answer accepts v bytes ≡ Accepted place → ⊥) → w ≡ after_restore accepts v bytes → w ≡ v
  restore_none w bytes other is = is ∙ with_none v (restore_changes accepts v bytes) (other_bytes bytes other)

  back_is : (bytes : List ℕ) → replay_one accepts v (StoredMade bytes) ≡ grown_by v (restore_changes accepts v bytes)
  unfolding replay_one
  back_is bytes = refl

  pub restore_next : (w : NodeView K) (bytes : List ℕ) (place : ℕ) → RestoresAddOne K → AreBytes bytes → restore_answer accepts v bytes ≡ Accepted place → w ≡ after_restore accepts v bytes
      → next_node accepts v 2 bytes ≡ Some w
  restore_next w bytes place law fit accepted is =
      let adds = (law accepts v bytes fit place accepted).1.2 in
      made_is accepts v bytes ∙ back_is bytes ∙ ap (grown_by v) adds ∙ ap (λ (x : NodeView K). Some x) (sym (is ∙ ap (with_changes v) adds))

  pub restored_short : (bytes : List ℕ) (place : ℕ) → RestoresAddOne K → SpellingsAreShort → AreBytes bytes → restore_answer accepts v bytes ≡ Accepted place → length bytes ≤ 1345
  restored_short bytes place law short fit accepted =
      let one = law accepts v bytes fit place accepted in
      short bytes one.1.0 (read_event-Spells bytes one.1.0 fit one.1.1)
