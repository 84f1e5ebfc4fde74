-- What a batch that is appended makes of a stored node.
use Rattle.std.proofs.Common.{◌≡◌, inl, inr, ⊎_elim, ℕ, ◌+◌, ◌<◌, List, [], ◌∷◌, ◌++◌, length, Option, Some, None, option_map, sym, subst, arith}
use Rattle.std.specs.Prelude.{IsSome}
use Rattle.std.specs.Option.{ForSome}
use Rattle.hg_io.specs.FileView.{FileView, IsSynced, Leaves}
use Rattle.hg_io.proofs.Going.{nothing_else, stays_same, told_before, weaker}
use Rattle.hg_life.specs.NodeView.{NodeView, Start}
use Rattle.hg_life.specs.Signing.{Accepts}
use Rattle.hg_node.specs.Replay.{new_node}
use Rattle.hg_journal.specs.Batches.{BatchLeads}
use Rattle.hg_journal.specs.Journal.{Keeps, KeepsEither, head_of, journal, next_node}
use Rattle.hg_journal.specs.Places.{IsAt}
use Rattle.hg_journal.specs.Stored.{IsNear, IsStored, StopsKeep}
use Rattle.hg_journal.specs.Writing.{IsCutShort, LeavesOnly, appended}
use Rattle.hg_journal.proofs.Gates.{appended_at, at_state, at_within, cut_short_keeps}

pub told_bytes : (o : Option (List ℕ)) → IsSome o → (bytes : List ℕ) × (o ≡ Some bytes)
told_bytes None some = absurd cc
told_bytes (Some bytes) some = (bytes, cc)

module _ {K : Type 0} (accepts : K → Accepts) where
  -- a node that is stored at a closed gate
  pub stored_at : (file : FileView) (v : NodeView K) (gate : ℕ) → IsSynced file → ForSome file.reads (IsAt (next_node accepts) (new_node v.start) (head_of v.start) v gate) → IsStored accepts file v gate
  stored_at file v gate synced place = record {
    synced = synced;
    keeps = λ bytes told. at_state (next_node accepts) (new_node v.start) (head_of v.start) v gate bytes (place bytes told);
    place = place;
  }

  pub gate_in_file : (file : FileView) (v : NodeView K) (gate : ℕ) → IsStored accepts file v gate → ForSome file.reads (λ bytes. gate < length bytes)
  gate_in_file file v gate stored bytes told = at_within (next_node accepts) (new_node v.start) (head_of v.start) v gate bytes (stored.place bytes told)

  -- where nothing is written
  pub still_keeps : (file : FileView) (v w : NodeView K) (gate : ℕ) → IsStored accepts file v gate → IsSome file.reads → StopsKeep accepts file file v w
  still_keeps file v w gate stored some =
      let told = told_bytes file.reads some in
      record {
        meanwhile = nothing_else _ (stays_same file);
        now = λ left may. inl (subst (Keeps accepts v) (sym (stored.synced told.0 told.1 left may)) (stored.keeps told.0 told.1));
      }

  module _ (v w : NodeView K) (records : List ℕ) (leads : BatchLeads accepts v records w)
      (piece : List ℕ) (is : piece ≡ records ++ 0 ∷ []) (gate : ℕ) (old new : FileView) (stored : IsStored accepts old v gate) where
    begins : w.start ≡ v.start
    begins = leads.begins

    pub appended_stored : IsSynced new → new.reads ≡ option_map (appended gate piece) old.reads → IsStored accepts new w (gate + 1 + length records)
    appended_stored synced reads =
        stored_at new w (gate + 1 + length records) synced (
        λ now told.
        let was = told_before (appended gate piece) _ _ now reads told in
        let at = appended_at (next_node accepts) (new_node v.start) (head_of v.start) v gate was.0 (stored.place was.0 was.1) w records leads.batch piece is in
        subst (λ (start : Start K). IsAt (next_node accepts) (new_node start) (head_of start) w (gate + 1 + length records) now) (sym begins)
        (subst (IsAt (next_node accepts) (new_node v.start) (head_of v.start) w (gate + 1 + length records)) (sym was.2) at))

    one_of : (bytes left : List ℕ) → old.reads ≡ Some bytes → IsCutShort gate piece bytes left → KeepsEither accepts v w left
    one_of bytes left told cut =
        ⊎_elim (λ before. inl before) (λ after. inr (subst (λ (start : Start K). journal accepts start left ≡ Some w) (sym begins) after))
        (cut_short_keeps (next_node accepts) (new_node v.start) (head_of v.start) v gate bytes (stored.place bytes told) w records leads.batch piece is left cut)

    pub append_stops : ForSome old.reads (λ bytes. LeavesOnly new (IsCutShort gate piece bytes)) → ForSome old.reads (λ bytes. Leaves old new (IsCutShort gate piece bytes))
        → IsSome old.reads → StopsKeep accepts old new v w
    append_stops now leaves some =
        let told = told_bytes old.reads some in
        record {
          meanwhile = weaker (leaves told.0 told.1) (λ left. one_of told.0 left told.1);
          now = λ left may. one_of told.0 left told.1 (now told.0 told.1 left may);
        }

  pub near_then : (v w : NodeView K) (gate : ℕ) (records : List ℕ) → BatchLeads accepts v records w → IsNear gate v → IsNear (gate + 1 + length records) w
  near_then v w gate records leads near = omega (arith, near, leads.grown)
