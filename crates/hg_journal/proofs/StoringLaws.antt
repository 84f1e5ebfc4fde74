-- What a stop leaves while a change is staged and then stored.
use Rattle.std.proofs.Common.{◌≡◌, Some, None, Result, Ok, Err, OnOk, refl, ◌∙◌}
use Rattle.std.specs.Option.{ForSome}
use Rattle.hg_io.specs.FileView.{FileView}
use Rattle.hg_io.specs.declared.disk.Disk as disk
use Rattle.hg_life.specs.NodeView.{NodeView}
use Rattle.hg_life.specs.Signing.{Accepts}
use Rattle.hg_journal.specs.Staging.{StopsKeepStaged, StoreFrame}
use Rattle.hg_journal.specs.Stored.{StopsKeepOne, StoredView, StoresNode}
use Rattle.hg_journal.specs.declared.errors.StoreError.{StoreError}
use Rattle.hg_journal.specs.declared.errors.StoreError.TheVariants as error
use Rattle.hg_journal.proofs.StagingLaws.{is_same}
use Rattle.hg_journal.proofs.Steps.{still_keeps}

module _ {K : Type 0} (accepts : K → Accepts) (before : FileView) (old : StoredView K) (kept : StoresNode accepts before old) where
  -- where nothing is stored
  pub stops_idle : (comes : NodeView K → NodeView K → Type 0) → ((v : NodeView K) → old.node ≡ Some v → (w : NodeView K) × comes v w) → StopsKeepOne accepts before before old.node comes
  stops_idle comes tells v is told =
      let one = tells v is in
      (one.0, one.1, still_keeps accepts before v one.0 old.gate (kept.kept v is) told)

  -- what is staged is stored
  pub stops_stored : (after : FileView) (mid : StoredView K) (comes : NodeView K → NodeView K → Type 0) → mid.written ≡ old.written
      → ((v w : NodeView K) → old.node ≡ Some v → mid.node ≡ Some w → comes v w) → StopsKeepStaged accepts before after mid → StopsKeepOne accepts before after old.node comes
  stops_stored after mid comes same tells stops v is told =
      let keeps = stops v (same ∙ kept.all ∙ is) told in
      (keeps.0, tells v keeps.0 is keeps.1, keeps.2)

module _ {K A : Type 0} (accepts : K → Accepts) (D : disk.Ghosts A) (before after : A) (mid new : StoredView K) where
  -- the node that is there once it was to be stored is the one that was staged
  pub node_then : (r : Result (Unit {0}) StoreError) → OnOk r (new.node ≡ mid.node) → (r ≡ Err error.Memory → ⊥) → StoreFrame accepts D r mid new before after
      → (w : NodeView K) → mid.node ≡ Some w → ForSome new.node (λ x. x ≡ w)
  node_then (Ok u) stays never frame w is x there = is_same new.node x w there (stays ∙ is)
  node_then (Err error.Disk) stays never frame w is x there =
      let none : new.node ≡ None = (frame.closes.0 refl).1 in
      absurd cc
  node_then (Err error.Closed) stays never frame w is x there =
      let none : mid.node ≡ None = frame.closed.0 refl in
      absurd cc
  node_then (Err error.Memory) stays never frame w is x there = absurd (never refl)
