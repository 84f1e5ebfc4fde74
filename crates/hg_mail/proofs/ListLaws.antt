-- Views of which one changes, sums over them, and the messages of a sender
use Rattle.std.proofs.Common.{◌≡◌, ◌≢◌, ℕ, zero, suc, ◌+◌, ◌<◌, ◌≤◌, Bool, cond, eqb, eq-eqb, ne_eqb, List, [], ◌∷◌, ◌++◌, length, set, sum_by, refl, sym, ap, ◌∙◌, subst, ◌⊎◌, inl, inr, ⊎_elim, arith}
use Rattle.std.specs.List.{AllByRecursion}
use Rattle.std.proofs.lemmas.List.{append-nil}
use Rattle.std.proofs.lemmas.List.Elements.{filter-append}
use Rattle.std.proofs.lemmas.List.Sums.{sum_by-append, sum_by-cons}
use mathlib.Core.Option.{some, some-injective, some-ne-none}
use lib.ListN.{get_elem?}
use Rattle.atomic_table.proofs.Lists.{at_set}
use Rattle.hg_mail.specs.declared.message.Message.{Message}
use Rattle.hg_mail.specs.Messages.{messages_of}

-- one more message is one of its sender's, and of nobody else's
pub of_its_sender : (from : ℕ) (put : List Message) (m : Message) → m.from ≡ from → messages_of from (put ++ m ∷ []) ≡ messages_of from put ++ m ∷ []
of_its_sender from put m is =
    filter-append (λ n. eqb n.from from) put (m ∷ []) ∙ ap (λ (b : Bool). messages_of from put ++ cond b (m ∷ []) []) (eq-eqb m.from from is)

pub of_another : (from : ℕ) (put : List Message) (m : Message) → m.from ≢ from → messages_of from (put ++ m ∷ []) ≡ messages_of from put
of_another from put m apart =
    filter-append (λ n. eqb n.from from) put (m ∷ [])
    ∙ (ap (λ (b : Bool). messages_of from put ++ cond b (m ∷ []) []) (ne_eqb m.from from apart) ∙ append-nil (messages_of from put))

module _ {A : Type 0} where
  pub all_append : (P : A → Type 0) (xs ys : List A) → AllByRecursion P xs → AllByRecursion P ys → AllByRecursion P (xs ++ ys)
  all_append P [] ys all more = more
  all_append P (x ∷ xs) ys all more = (all.0, all_append P xs ys all.1 more)

  pub all_map : (P Q : A → Type 0) → ((x : A) → P x → Q x) → (xs : List A) → AllByRecursion P xs → AllByRecursion Q xs
  all_map P Q f [] all = tt
  all_map P Q f (x ∷ xs) all = (f x all.0, all_map P Q f xs all.1)

  -- where the element comes from, and its place
  pub at_end : (xs : List A) (last x : A) (j : ℕ) → get_elem? (xs ++ last ∷ []) j ≡ some x → ((j < length xs) × (get_elem? xs j ≡ some x)) ⊎ ((j ≡ length xs) × (last ≡ x))
  at_end [] last x zero at = inr (refl, some-injective last x at)
  at_end [] last x (suc j) at = absurd (some-ne-none x (sym at))
  at_end (y ∷ xs) last x zero at = inl (omega arith, at)
  at_end (y ∷ xs) last x (suc j) at = ⊎_elim (λ t. inl (omega (arith, t.0), t.1)) (λ t. inr (ap suc t.0, t.1)) (at_end xs last x j at)

  pub at_below : (xs : List A) (j : ℕ) (x : A) → get_elem? xs j ≡ some x → j < length xs
  at_below [] j x at = absurd (some-ne-none x (sym at))
  at_below (y ∷ xs) zero x at = omega arith
  at_below (y ∷ xs) (suc j) x at = omega (arith, at_below xs j x at)

  pub length-set : (xs : List A) (j : ℕ) (x : A) → length (set xs j x) ≡ length xs
  length-set [] j x = refl
  length-set (y ∷ xs) zero x = refl
  length-set (y ∷ xs) (suc j) x = ap suc (length-set xs j x)

  -- of each element with its place
  abbrev pub Each : (ℕ → A → Type 0) → List A → Type 0
  Each P xs = (j : ℕ) (x : A) → get_elem? xs j ≡ some x → P j x

  pub each_set : (P : ℕ → A → Type 0) (xs : List A) (j : ℕ) (new : A) → P j new → ((k : ℕ) (x : A) → k ≢ j → get_elem? xs k ≡ some x → P k x) → Each P (set xs j new)
  each_set P xs j new here others k x at = ⊎_elim
      (λ (t : (k ≡ j) × (new ≡ x)). subst (λ (y : ℕ × A). P y.0 y.1) (λ i. (sym t.0 i, t.1 i)) here)
      (λ (t : (k ≢ j) × (get_elem? xs k ≡ some x)). others k x t.0 t.1) (at_set xs j k new x at)

  pub each_push : (P : ℕ → A → Type 0) (xs : List A) (last : A) → Each P xs → P (length xs) last → Each P (xs ++ last ∷ [])
  each_push P xs last each here j x at = ⊎_elim
      (λ (t : (j < length xs) × (get_elem? xs j ≡ some x)). each j x t.1)
      (λ (t : (j ≡ length xs) × (last ≡ x)). subst (λ (y : ℕ × A). P y.0 y.1) (λ i. (sym t.0 i, t.1 i)) here) (at_end xs last x j at)

  pub each_one : (P : ℕ → A → Type 0) (x : A) → P 0 x → Each P (x ∷ [])
  each_one P x here = each_push P [] x (λ j y at. absurd (some-ne-none y (sym at))) here

module _ {A : Type 0} (weight : A → ℕ) where
  pub sum_set : (xs : List A) (j : ℕ) (old new : A) → get_elem? xs j ≡ some old → sum_by weight (set xs j new) + weight old ≡ sum_by weight xs + weight new
  sum_set [] j old new at = absurd (some-ne-none old (sym at))
  sum_set (x ∷ xs) zero old new at = omega (arith, sum_by-cons weight new xs, sum_by-cons weight x xs, ap weight (some-injective x old at))
  sum_set (x ∷ xs) (suc j) old new at = omega (arith, sum_by-cons weight x (set xs j new), sum_by-cons weight x xs, sum_set xs j old new at)

  pub sum_push : (xs : List A) (x : A) → sum_by weight (xs ++ x ∷ []) ≡ sum_by weight xs + weight x
  sum_push xs x = omega (arith, sum_by-append weight xs (x ∷ []), sum_by-cons weight x [])

  pub one_in_sum : (xs : List A) (j : ℕ) (x : A) → get_elem? xs j ≡ some x → weight x ≤ sum_by weight xs
  one_in_sum [] j x at = absurd (some-ne-none x (sym at))
  one_in_sum (y ∷ xs) zero x at = omega (arith, sum_by-cons weight y xs, ap weight (some-injective y x at))
  one_in_sum (y ∷ xs) (suc j) x at = omega (arith, sum_by-cons weight y xs, one_in_sum xs j x at)

module _ {A : Type 0} (weight other : A → ℕ) where
  -- where all weigh nothing, they weigh nothing by what is nothing for each
  none_in_sum : (xs : List A) → sum_by weight xs ≡ 0 → Each (λ _ x. weight x ≡ 0 → other x ≡ 0) xs → sum_by other xs ≡ 0
  none_in_sum [] none each = refl
  none_in_sum (x ∷ xs) none each =
      let parts = sum_by-cons weight x xs in
      omega (arith, sum_by-cons other x xs, each 0 x refl (omega (arith, none, parts)), none_in_sum xs (omega (arith, none, parts)) (λ j y. each (suc j) y))

  -- where one weighs as much as all, it does so by the other too
  pub alone_in_sum : (xs : List A) (j : ℕ) (x : A) → get_elem? xs j ≡ some x → sum_by weight xs ≡ weight x → Each (λ _ y. weight y ≡ 0 → other y ≡ 0) xs → sum_by other xs ≡ other x
  alone_in_sum [] j x at all each = absurd (some-ne-none x (sym at))
  alone_in_sum (y ∷ xs) zero x at all each =
      let same : y ≡ x = some-injective y x at in
      omega (arith, sum_by-cons other y xs, ap other same, none_in_sum xs (omega (arith, sum_by-cons weight y xs, ap weight same, all)) (λ k z. each (suc k) z))
  alone_in_sum (y ∷ xs) (suc j) x at all each =
      let within = one_in_sum weight xs j x at in
      let parts = sum_by-cons weight y xs in
      omega (arith, sum_by-cons other y xs, each 0 y refl (omega (arith, within, parts, all)), alone_in_sum xs j x at (omega (arith, within, parts, all)) (λ k z. each (suc k) z))
