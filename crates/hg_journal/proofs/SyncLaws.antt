-- What a first sync, and calls after it, leave of a file.
use Rattle.std.proofs.Common.{◌≡◌, inr, ⊎_elim, ℕ, List, Some, sym, subst, arith}
use Rattle.hg_io.specs.FileView.{FileView, IsFile, IsSynced, Leaves, Stays}
use Rattle.hg_io.proofs.Going.{goes_on, nothing_else, weaker}
use Rattle.hg_journal.specs.Opening.{SyncsFirst}

pub synced_then : {old mid new : FileView} (P : List ℕ → Type 0) (bytes : List ℕ) → Stays old mid → IsFile mid → IsSynced mid → mid.reads ≡ Some bytes → P bytes → Leaves mid new P → SyncsFirst old new P
synced_then {old} {mid} {new} P bytes stays file synced told holds rest = record {
  since = mid.age;
  from = stays.leaves.older;
  to = rest.older;
  after = λ left since.
      ⊎_elim (λ was. subst P (sym (synced bytes told left (file.last left was))) holds) (λ here. here) (rest.only mid.age left (omega arith) since);
  before = goes_on (nothing_else _ stays) (weaker rest (λ left here. inr here));
}
