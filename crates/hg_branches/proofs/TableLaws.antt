-- Lists made by the places of their items
use Rattle.std.proofs.Common.{◌≡◌, ℕ, ◌+◌, ◌<◌, ◌≤◌, [], ◌∷◌, ◌++◌, length, get_or, take, sym, ap, ◌∙◌, inl, inr, arith, zero-add}
use Rattle.std.proofs.lemmas.Bool.{cases_lt}
use Rattle.std.proofs.lemmas.List.{get_or_past}
use Rattle.std.proofs.lemmas.List.FromFn.{get_or-map-range_with_len, length-map-range_with_len, map-range_with_len_more, take-map-range_with_len, fill_by_all}
use Rattle.hg_model.specs.Places.{table}

pub get_or-table : {A : Type 0} (f : ℕ → A) (n i : ℕ) (d : A) → i < n → get_or (table f n) i d ≡ f i
get_or-table f n i d h = get_or-map-range_with_len f 0 n i i d h (zero-add i)

pub length-table : {A : Type 0} (f : ℕ → A) (n : ℕ) → length (table f n) ≡ n
length-table f n = length-map-range_with_len f 0 n

-- also past its end
pub get_or-table_all : (f : ℕ → ℕ) (n i : ℕ) → (n ≤ i → f i ≡ 0) → get_or (table f n) i 0 ≡ f i
get_or-table_all f n i none = elim (cases_lt i n) [
  | inl low ↦ get_or-table f n i 0 low
  | inr past ↦ get_or_past (table f n) i 0 (omega (arith, length-table f n)) ∙ sym (none past)
]

pub table-same : {A : Type 0} (d : A) (f g : ℕ → A) (n : ℕ) → ((i : ℕ) → i < n → f i ≡ g i) → table f n ≡ table g n
table-same d f g n same = fill_by_all g (table f n) n d (length-table f n) (λ i h. get_or-table f n i d h ∙ same i h)

-- one item more, where the earlier ones stay
pub table_grown : {A : Type 0} (d : A) (f g : ℕ → A) (n : ℕ) → ((i : ℕ) → i < n → g i ≡ f i) → table g (n + 1) ≡ table f n ++ g n ∷ []
table_grown d f g n same = map-range_with_len_more g 0 n n (zero-add n) ∙ ap (λ l. l ++ g n ∷ []) (table-same d g f n same)

-- the first items
pub table_cut : {A : Type 0} (d : A) (f g : ℕ → A) (n k : ℕ) → k ≤ n → ((i : ℕ) → i < k → g i ≡ f i) → table g k ≡ take k (table f n)
table_cut d f g n k h same = table-same d g f k same ∙ sym (take-map-range_with_len f 0 n k h)
