-- What the bytes of a file are to a node that is opened.
use Rattle.std.proofs.Common.{◌≡◌, ℕ, List, ◌∷◌, length, take, Some, Result, Ok, Err, IfOk, OnOk, refl, sym, ◌∙◌, ap, subst}
use Rattle.std.specs.Option.{ForSome}
use Rattle.hg_io.specs.FileView.{FileView, IsSynced, Leaves, Stays}
use Rattle.hg_io.proofs.Going.{goes_on, nothing_else, stays_synced, weaker}
use Rattle.hg_life.specs.NodeView.{NodeView, Start}
use Rattle.hg_life.specs.Signing.{Accepts}
use Rattle.hg_node.specs.Replay.{new_node}
use Rattle.hg_journal.specs.Journal.{head_of, journal, next_node, reading_of}
use Rattle.hg_journal.specs.Opening.{LeavesNode}
use Rattle.hg_journal.specs.Places.{IsAt}
use Rattle.hg_journal.specs.Reading as R
use Rattle.hg_journal.specs.Stored.{IsStored}
use Rattle.hg_journal.specs.Writing.{AnewCases, IsEmpty, empty_file}
use Rattle.hg_journal.specs.declared.errors.OpenError.{OpenError}
use Rattle.hg_journal.proofs.Fresh.{anew_state, empty_at, empty_state, foreign_read}
use Rattle.hg_journal.proofs.Steps.{stored_at}

module _ {K : Type 0} (accepts : K → Accepts) (start : Start K) (head : List ℕ) (is : head ≡ head_of start) where
  pub eight : length head ≡ 8
  eight = ap length is

  pub anew_is : (bytes : List ℕ) → AnewCases head bytes → journal accepts start bytes ≡ Some (new_node start)
  anew_is bytes cases = anew_state (next_node accepts) (new_node start) (head_of start) bytes (subst (λ (h : List ℕ). AnewCases h bytes) is cases)

  empty_is : (left : List ℕ) → IsEmpty head left → journal accepts start left ≡ Some (new_node start)
  empty_is left empty = empty_state (next_node accepts) (new_node start) (head_of start) refl left (subst (λ (h : List ℕ). IsEmpty h left) is empty)

  -- while it is made anew
  pub anew_leaves : (old mid new : FileView) (bytes : List ℕ) → Stays old mid → AnewCases head bytes → Leaves mid new (IsEmpty head) → LeavesNode accepts start old new bytes
  anew_leaves old mid new bytes stays cases leaves v keeps =
      goes_on (nothing_else _ stays) (weaker leaves (λ left empty. empty_is left empty ∙ sym (anew_is bytes cases) ∙ keeps))

  pub made_stored : (file : FileView) (v : NodeView K) → v ≡ new_node start → IsSynced file → ForSome file.reads (λ bytes. bytes ≡ empty_file head) → IsStored accepts file v 9
  made_stored file v first synced made =
      stored_at accepts file v 9 synced (
      λ bytes told.
      subst (λ (w : NodeView K). IsAt (next_node accepts) (new_node w.start) (head_of w.start) w 9 bytes) (sym first)
      (empty_at (next_node accepts) (new_node start) (head_of start) refl bytes (made bytes told ∙ ap empty_file is)))

  pub foreign_is : (bytes : List ℕ) → (AnewCases head bytes → ⊥) → (take 9 bytes ≡ 1 ∷ head → ⊥) → reading_of accepts start bytes ≡ R.Foreign
  foreign_is bytes old other =
      foreign_read (next_node accepts) (new_node start) (head_of start) bytes (λ cases. old (subst (λ (h : List ℕ). AnewCases h bytes) (sym is) cases)) (λ ours. other (ours ∙ ap (λ (h : List ℕ). 1 ∷ h) (sym is)))

module _ {K : Type 0} (accepts : K → Accepts) (start : Start K) (old new : FileView) (stays : Stays old new) where
  pub still_leaves : (bytes : List ℕ) → LeavesNode accepts start old new bytes
  still_leaves bytes v keeps = nothing_else _ stays

  -- a node that came again
  pub replayed_stored : (w : NodeView K) (r : Result ℕ OpenError) → IsSynced old → OnOk r (w.start ≡ start)
      → IfOk r (λ gate. ForSome old.reads (IsAt (next_node accepts) (new_node start) (head_of start) w gate)) → IfOk r (λ gate. IsStored accepts new w gate)
  replayed_stored w (Ok gate) synced begins place =
      stored_at accepts new w gate (stays_synced stays synced) (
      λ bytes told.
      subst (λ (s : Start K). IsAt (next_node accepts) (new_node s) (head_of s) w gate bytes) (sym begins) (place bytes (sym stays.reads ∙ told)))
  replayed_stored w (Err e) synced begins place = tt
