-- What a row of numbers reads once it is made from others, and the greatest counts of parents
use Rattle.std.proofs.Common.{◌≡◌, ℕ, Bool, true, false, cond, eqb, zero, suc, ◌+◌, ◌-◌, ◌<◌, ◌≤◌, max, List, [], ◌∷◌, ◌++◌, length, get_or, take, replicate, sym, ap, ◌∙◌, inl, inr, arith, refl}
use Rattle.std.specs.List.{AllByRecursion}
use Rattle.std.proofs.lemmas.Bool.{cases_lt, ne_eqb}
use Rattle.std.proofs.lemmas.List.{get_or_append_left, get_or-append_right, get_or_past, get_or-replicate, get_or-take, length-append, length-replicate, length-take, take_all, take_more}
use Rattle.hg_branches.specs.Branches.{greatest_count}
use Rattle.hg_branches.specs.Table.{tail_next}
use Rattle.hg_branches.specs.Tails.{Tail, tail_at, tail_count, tail_width}

zeros_read : (many i : ℕ) → get_or {A = ℕ} (replicate many 0) i 0 ≡ 0
zeros_read many i = elim (cases_lt i many) [
  | inl low ↦ get_or-replicate many i 0 0 low
  | inr past ↦ get_or_past (replicate many 0) i 0 (omega (arith, length-replicate {A = ℕ} many 0))
]

-- with zeros behind them

pub padded_long : (xs : List ℕ) (len many : ℕ) → length xs ≤ len → many ≡ len - length xs → length (take len xs ++ replicate many 0) ≡ len
padded_long xs len many h is =
    length-append (take len xs) (replicate many 0)
    ∙ (let e : length (take len xs) + length (replicate {A = ℕ} many 0) ≡ len = omega (arith, length-take len xs, length-replicate {A = ℕ} many 0) in e)

pub padded_read : (xs : List ℕ) (len many : ℕ) → length xs ≤ len → (k : ℕ) → get_or (take len xs ++ replicate many 0) k 0 ≡ get_or xs k 0
padded_read xs len many h k =
    ap (λ l. get_or (l ++ replicate many 0) k 0) (take_all len xs h) ∙ elim (cases_lt k (length xs)) [
      | inl low ↦ get_or_append_left xs (replicate many 0) 0 k low
      | inr past ↦ get_or-append_right xs (replicate many 0) (length xs) k 0 refl past ∙ (zeros_read many (k - length xs) ∙ sym (get_or_past xs k 0 past))
    ]

-- cut where only zeros are left
pub cut_read : (xs : List ℕ) (len : ℕ) → ((k : ℕ) → len ≤ k → get_or xs k 0 ≡ 0) → (k : ℕ) → get_or (take len xs) k 0 ≡ get_or xs k 0
cut_read xs len rest k = elim (cases_lt k len) [
  | inl low ↦ get_or-take len xs k 0 low
  | inr past ↦ get_or_past (take len xs) k 0 (omega (arith, length-take len xs)) ∙ sym (rest k past)
]

-- what holds of each parent holds of that at a place
pub all_at : (P : ℕ → Type 0) (ps : List ℕ) (i : ℕ) → AllByRecursion P ps → i < length ps → P (get_or ps i 0)
all_at P [] i all inside = absurd (omega arith)
all_at P (p ∷ ps) zero all inside = all.0
all_at P (p ∷ ps) (suc i) all inside = all_at P ps i all.1 (omega arith)

-- the greatest counts of the first parents, one parent more

greatest_push : (count : ℕ → ℕ → ℕ) (ps : List ℕ) (p b : ℕ) → greatest_count count (ps ++ p ∷ []) b ≡ max (greatest_count count ps b) (count p b)
greatest_push count [] p b = omega arith
greatest_push count (q ∷ ps) p b = omega (arith, greatest_push count ps p b)

pub greatest_none : (count : ℕ → ℕ → ℕ) (ps : List ℕ) (b : ℕ) → greatest_count count (take 0 ps) b ≡ 0
greatest_none count [] b = refl
greatest_none count (p ∷ ps) b = refl

pub greatest_more : (count : ℕ → ℕ → ℕ) (ps : List ℕ) (i b : ℕ) → i < length ps → greatest_count count (take (i + 1) ps) b ≡ max (greatest_count count (take i ps) b) (count (get_or ps i 0) b)
greatest_more count ps i b inside = ap (λ qs. greatest_count count qs b) (take_more ps i 0 inside) ∙ greatest_push count (take i ps) (get_or ps i 0) b

pub ruleset greatest_steps = (greatest_none, greatest_more)

-- no branch beside the members' own is counted where no parent's tail tells of one

none_counted : (tails : List Tail) (p k : ℕ) → tail_width tails p ≤ 0 → tail_count tails p k ≡ 0
none_counted tails p k none =
    let tail = tail_at tails p in
    let past : length tail.numbers ≤ k = omega (arith, none) in
    let own : eqb (k + 1) tail.own ≡ false = ne_eqb (k + 1) tail.own (λ is. omega (arith, is, none)) in
    omega (arith, get_or_past tail.numbers k 0 past, ap (λ t. cond t (p + 1) 0) own)

none_greatest : (tails : List Tail) (on : List ℕ) (k : ℕ) → AllByRecursion (λ p. tail_width tails p ≤ 0) on → greatest_count (tail_count tails) on k ≡ 0
none_greatest tails [] k all = refl
none_greatest tails (p ∷ on) k all = omega (arith, none_counted tails p k all.0, none_greatest tails on k all.1)

pub no_tails : (tails : List Tail) (on : List ℕ) (own k : ℕ) → AllByRecursion (λ p. tail_width tails p ≤ 0) on → tail_next tails on own k ≡ 0
no_tails tails on own k all = ap (λ (n : ℕ). cond (eqb (k + 1) own) 0 n) (none_greatest tails on k all) ∙ same_both (eqb (k + 1) own)
  where
    same_both : (b : Bool) → cond {A = ℕ} b 0 0 ≡ 0
    same_both true = refl
    same_both false = refl

-- what is at most so much is at most more
pub all_within : (f : ℕ → ℕ) (on : List ℕ) (n m : ℕ) → n ≤ m → AllByRecursion (λ p. f p ≤ n) on → AllByRecursion (λ p. f p ≤ m) on
all_within f [] n m less all = tt
all_within f (p ∷ on) n m less all = (omega (arith, less, all.0), all_within f on n m less all.1)
