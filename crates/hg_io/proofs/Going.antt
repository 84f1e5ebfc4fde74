-- What stops leave of a file through one call after another.
use Rattle.std.proofs.Common.{◌≡◌, sym, inl, inr, ⊎_elim, ℕ, List, Option, Some, None, option_map, refl, ◌∙◌, ap, subst, arith}
use Rattle.hg_io.specs.FileView.{FileView, IsSynced, Leaves, Stays, Torn}

pub goes_on : {a b c : FileView} {P : List ℕ → Type 0} → Leaves a b P → Leaves b c P → Leaves a c P
goes_on {a} {b} first second = record {
  older = omega (arith, first.older, second.older);
  still = λ age left before since. second.still age left (omega (arith, before, first.older)) (first.still age left before since);
  only = λ age left before since. ⊎_elim (first.only age left before) (λ has. inr has) (second.only age left (omega (arith, before, first.older)) since);
}

pub weaker : {a b : FileView} {P Q : List ℕ → Type 0} → Leaves a b P → ((left : List ℕ) → P left → Q left) → Leaves a b Q
weaker leaves then_has = record {
  older = leaves.older;
  still = leaves.still;
  only = λ age left before since. ⊎_elim (λ was. inl was) (λ has. inr (then_has left has)) (leaves.only age left before since);
}

-- what stays leaves nothing, so nothing that lacks any property
pub nothing_else : {a b : FileView} (P : List ℕ → Type 0) → Stays a b → Leaves a b P
nothing_else P stays = weaker stays.leaves (λ left none. absurd none)

pub stays_same : (a : FileView) → Stays a a
stays_same a = record {
  reads = refl;
  fewer = λ left may. may;
  leaves = record { older = omega arith; still = λ age left before since. since; only = λ age left before since. inl since };
}

pub stays_on : {a b c : FileView} → Stays a b → Stays b c → Stays a c
stays_on first second = record {
  reads = second.reads ∙ first.reads;
  fewer = λ left may. first.fewer left (second.fewer left may);
  leaves = goes_on first.leaves second.leaves;
}

-- a synced file stays so
pub stays_synced : {a b : FileView} → Stays a b → IsSynced a → IsSynced b
stays_synced stays synced bytes told left may = synced bytes (sym stays.reads ∙ told) left (stays.fewer left may)

-- what a write may leave of a synced file is torn from its bytes
pub synced_torn : {at n : ℕ} {old new : List ℕ → Type 0} {bytes : List ℕ} → ((left : List ℕ) → old left → left ≡ bytes)
    → ((left : List ℕ) → new left → (before : List ℕ) × old before × Torn at n before left) → (left : List ℕ) → new left → Torn at n bytes left
synced_torn {at} {n} only from left may =
    let was = from left may in
    subst (λ (before : List ℕ). Torn at n before left) (only was.0 was.1) was.2

-- what a disk told before a call that changes it by a function, and what it tells after
pub told_after : (f : List ℕ → List ℕ) (old new : Option (List ℕ)) (bytes : List ℕ) → new ≡ option_map f old → old ≡ Some bytes → new ≡ Some (f bytes)
told_after f old new bytes is told = is ∙ ap (option_map f) told

pub told_before : (f : List ℕ → List ℕ) (old new : Option (List ℕ)) (bytes : List ℕ) → new ≡ option_map f old → new ≡ Some bytes
    → (was : List ℕ) × (old ≡ Some was) × (bytes ≡ f was)
told_before f None new bytes is told = absurd cc
told_before f (Some was) new bytes is told = (was, refl, cc)
