-- Lists of orders, one more compared
use Rattle.std.proofs.Common.{◌<◌, ◌+◌, ◌≡◌, inl, inr, ◌∙◌, ℕ, List, [], length, get_or, subst, arith}
use Rattle.std.proofs.lemmas.Bool.{cases_lt}
use Rattle.std.proofs.lemmas.List.{get_or_default}
use Rattle.hg_model.specs.Order as order
use Rattle.hg_runs.specs.Safety.{IsOnePrefix}
use Rattle.check_graphs.specs.Orders.{AreOneOrder}

-- what holds below a number, and of it, holds below the next
pub below_next : (P : ℕ → Type 0) (n : ℕ) → ((k : ℕ) → k < n → P k) → P n → (k : ℕ) → k < n + 1 → P k
below_next P n before last k lt = elim (cases_lt k n) [
  | inl below ↦ before k below
  | inr above ↦ let same : n ≡ k = omega (arith, lt, above) in subst P same last
]

-- what two orders that were read are, is said of their places
pub at_places : (orders : List (List order.Ordered)) (i j : ℕ) (one other d e : List order.Ordered) → i < length orders → j < length orders →
    one ≡ get_or orders i d → other ≡ get_or orders j e → IsOnePrefix one other → IsOnePrefix (get_or orders i []) (get_or orders j [])
at_places orders i j one other d e low high first second holds =
    let left : one ≡ get_or orders i [] = first ∙ get_or_default orders i d [] low in
    let right : other ≡ get_or orders j [] = second ∙ get_or_default orders j e [] high in
    subst (λ (xs : List order.Ordered). IsOnePrefix xs (get_or orders j [])) left (subst (λ (ys : List order.Ordered). IsOnePrefix one ys) right holds)

-- orders of which each agrees with each before it
pub pairs_of : (orders : List (List order.Ordered)) → ((i j : ℕ) → i < j → j < length orders → IsOnePrefix (get_or orders i []) (get_or orders j [])) → AreOneOrder orders
pairs_of orders each i j d before high =
    let low : i < length orders = omega (arith, before, high) in
    subst (λ (xs : List order.Ordered). IsOnePrefix xs (get_or orders j d)) (get_or_default orders i [] d low)
    (subst (λ (ys : List order.Ordered). IsOnePrefix (get_or orders i []) ys) (get_or_default orders j [] d high) (each i j before high))
