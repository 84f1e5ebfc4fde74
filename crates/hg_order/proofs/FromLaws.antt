-- Numbers by how far the places are from the lowest row of a round on
use Rattle.std.proofs.Common.{◌≡◌, ℕ, zero, suc, ◌+◌, ◌-◌, ◌<◌, ◌≤◌, Bool, true, false, cond, ◌&&◌, ltb, leb, min, List, [], ◌∷◌, length, get_or, set, replicate, count_by, refl, sym, ap, ap₂, ◌∙◌, inl, inr, ◌⊎◌, arith}
use Rattle.std.proofs.lemmas.Bool.{cases_lt, lt-ltb, le-ltb}
use Rattle.std.proofs.lemmas.Bool.Decides.{nat_tests}
use Rattle.std.proofs.lemmas.List.{length-map}
use Rattle.std.proofs.lemmas.List.Sums.{sum_by-cons}
use Rattle.hg_model.specs.Stakes.{Stakes}
use Rattle.hg_model.specs.Links.{Link, creator}
use Rattle.hg_model.specs.Ancestry.{is_ancestor}
use Rattle.hg_model.specs.Graph.{IsShaped}
use Rattle.hg_model.specs.Counts.{CountsMembers}
use Rattle.hg_model.proofs.AncestryLaws.{is_ancestor-le}
use Rattle.hg_order.specs.Swept.{end_from, ends_from, lines_from, counts_at, has_counted, is_next_gained, reached, AreGained, AreGainedFrom}
use Rattle.hg_order.proofs.BoundLaws.{counts_end}

-- one number

pub from_some : (low k : ℕ) → 0 < k → end_from low k ≡ low + k
from_some low zero some = absurd (omega arith)
from_some low (suc k) some = refl

-- it is in a window where it is as near
pub from_within : (low k wide : ℕ) → end_from low k ≤ low + wide → k ≤ wide
from_within low zero wide to = omega arith
from_within low (suc k) wide to = omega arith

-- an end above `low` comes back, and no other
pub from_kept : (low count : ℕ) → low < count → end_from low (count - low) ≡ count
from_kept low count over = from_some low (count - low) (omega arith) ∙ omega arith

pub from_gone : (low count : ℕ) → count ≤ low → end_from low (count - low) ≡ 0
from_gone low count under = ap (end_from low) (none low count under)
  where
    none : (low count : ℕ) → count ≤ low → count - low ≡ 0
    none low count under = omega arith

-- a count that is 0 or above `low` is the end of what it is from `low` on
pub from_end : (low count : ℕ) → (0 < count → low < count) → end_from low (count - low) ≡ count
from_end low zero over = from_gone low 0 (omega arith)
from_end low (suc k) over = from_kept low (suc k) (over (omega arith))

-- tests of rows from `low` on
pub below_from : (low k count : ℕ) → ltb (low + k) (end_from low count) ≡ ltb k count
below_from low k zero = le-ltb (low + k) 0 (omega arith) ∙ sym (le-ltb k 0 (omega arith))
below_from low k (suc j) = shift low k j
  where
    shift : (low k j : ℕ) → ltb (low + k) (low + suc j) ≡ ltb k (suc j)
    shift low k j = grind (arith, nat_tests)

pub counted_from : (low count x : ℕ) → low ≤ x → ltb x (end_from low (count - low)) ≡ ltb x count
counted_from low count x from = elim (cases_lt low count) [
  | inl over ↦ ap (ltb x) (from_kept low count over)
  | inr under ↦ ap (ltb x) (from_gone low count (omega arith)) ∙ (le-ltb x 0 (omega arith) ∙ sym (le-ltb x count (omega arith)))
]

-- what a lane gains
gain_from : (low before count next : ℕ) → is_next_gained before (count - low) next ≡ is_next_gained (end_from low before) count (end_from low next)
gain_from low before count zero = none before (leb 0 (count - low)) ∙ sym (none (end_from low before) (leb 0 count))
  where
    none : (b : ℕ) (c : Bool) → (ltb b 0 && c) ≡ false
    none b c = ap (λ (a : Bool). a && c) (le-ltb b 0 (omega arith))
gain_from low zero count (suc n) = first low count n
  where
    first : (low count n : ℕ) → (ltb 0 (suc n) && leb (suc n) (count - low)) ≡ (ltb 0 (low + suc n) && leb (low + suc n) count)
    first low count n = grind (arith, nat_tests)
gain_from low (suc b) count (suc n) = later low b count n
  where
    later : (low b count n : ℕ) → (ltb (suc b) (suc n) && leb (suc n) (count - low)) ≡ (ltb (low + suc b) (low + suc n) && leb (low + suc n) count)
    later low b count n = grind (arith, nat_tests)

-- lists of them

pub read_from : (low : ℕ) (counts : List ℕ) (m : ℕ) → get_or (ends_from low counts) m 0 ≡ end_from low (get_or counts m 0)
read_from low [] m = refl
read_from low (c ∷ counts) zero = refl
read_from low (c ∷ counts) (suc m) = read_from low counts m

pub set_from : (low : ℕ) (counts : List ℕ) (m v : ℕ) → ends_from low (set counts m v) ≡ set (ends_from low counts) m (end_from low v)
set_from low [] m v = refl
set_from low (c ∷ counts) zero v = refl
set_from low (c ∷ counts) (suc m) v = ap (λ (xs : List ℕ). end_from low c ∷ xs) (set_from low counts m v)

pub line_from : (low : ℕ) (last : List (List ℕ)) (m : ℕ) → counts_at (lines_from low last) m ≡ ends_from low (counts_at last m)
line_from low [] m = refl
line_from low (c ∷ last) zero = refl
line_from low (c ∷ last) (suc m) = line_from low last m

pub set_line_from : (low : ℕ) (last : List (List ℕ)) (m : ℕ) (counts : List ℕ) → lines_from low (set last m counts) ≡ set (lines_from low last) m (ends_from low counts)
set_line_from low [] m counts = refl
set_line_from low (c ∷ last) zero counts = refl
set_line_from low (c ∷ last) (suc m) counts = ap (λ (xs : List (List ℕ)). ends_from low c ∷ xs) (set_line_from low last m counts)

pub zeros_from : (low wide : ℕ) → ends_from low (replicate wide 0) ≡ replicate wide 0
zeros_from low zero = refl
zeros_from low (suc wide) = ap (λ (xs : List ℕ). 0 ∷ xs) (zeros_from low wide)

pub no_lines_from : (low members wide : ℕ) → lines_from low (replicate members (replicate wide 0)) ≡ replicate members (replicate wide 0)
no_lines_from low zero wide = refl
no_lines_from low (suc members) wide = ap₂ (λ (c : List ℕ) (xs : List (List ℕ)). c ∷ xs) (zeros_from low wide) (no_lines_from low members wide)

pub lines_long : (low : ℕ) (last : List (List ℕ)) → length (lines_from low last) ≡ length last
lines_long low last = length-map last (ends_from low)

pub ends_long : (low : ℕ) (counts : List ℕ) → length (ends_from low counts) ≡ length counts
ends_long low counts = length-map counts (end_from low)

-- the lines that have a row as ancestor, by numbers from `low` on
pub reached_from : (L : List Link) (low k : ℕ) (last : List (List ℕ)) → reached L (lines_from low last) (low + k) ≡ count_by (λ counts. ltb k (get_or counts (creator L (low + k)) 0)) last
reached_from L low k [] = refl
reached_from L low k (c ∷ last) =
    let m = creator L (low + k) in
    let one : has_counted L (low + k) (ends_from low c) ≡ ltb k (get_or c m 0) = ap (ltb (low + k)) (read_from low c m) ∙ below_from low k (get_or c m 0) in
    let rest = reached_from L low k last in
    let here = sum_by-cons (λ (counts : List ℕ). cond {A = ℕ} (has_counted L (low + k) counts) 1 0) (ends_from low c) (lines_from low last) in
    let there = sum_by-cons (λ (counts : List ℕ). cond {A = ℕ} (ltb k (get_or counts m 0)) 1 0) c last in
    here ∙ (ap₂ (λ (b : Bool) (n : ℕ). cond {A = ℕ} b 1 0 + n) one rest ∙ sym there)

-- the same of what counted them
pub reached_as : (L : List Link) (low x m lines : ℕ) (last : List (List ℕ)) → low ≤ x → m ≡ creator L x → lines ≡ count_by (λ counts. ltb (x - low) (get_or counts m 0)) last →
    lines ≡ reached L (lines_from low last) x
reached_as L low x m lines last from by is =
    let at : low + (x - low) ≡ x = omega arith in
    is ∙ (ap (λ (k : ℕ). count_by (λ counts. ltb (x - low) (get_or counts k 0)) last) (by ∙ ap (creator L) (sym at))
    ∙ (sym (reached_from L low (x - low) last) ∙ ap (reached L (lines_from low last)) at))

pub gained_from : (low : ℕ) (before counts next old new : List ℕ) → AreGainedFrom low before counts next old new → AreGained (ends_from low before) counts (ends_from low next) old new
gained_from low before counts next old new each m inside =
    each m inside ∙ ap (λ (b : Bool). get_or old m 0 + cond {A = ℕ} b 1 0)
    (gain_from low (get_or before m 0) (get_or counts m 0) (get_or next m 0)
    ∙ ap₂ (λ (a b : ℕ). is_next_gained a (get_or counts m 0) b) (sym (read_from low before m)) (sym (read_from low next m)))

-- the counts of row x end at or below it
pub counts_within : (n : Stakes) (L : List Link) → IsShaped n L → (x : ℕ) (counts : List ℕ) → CountsMembers n L x counts → (m : ℕ) → get_or counts m 0 ≤ x + 1
counts_within n L s x counts c m = elim (cases_lt 0 (get_or counts m 0)) [
  | inr none ↦ omega arith
  | inl some ↦
      (let count = get_or counts m 0 in
      let ends = counts_end n L s x counts c m some in
      let fits = ends.0 in
      let here : count - 1 < length L = omega arith in
      let below : ltb (count - 1) count ≡ true = lt-ltb (count - 1) count (omega arith) in
      let up : is_ancestor L x (count - 1) ≡ true = sym (c.told (count - 1) here) ∙ rw ends.1 below in
      let le = is_ancestor-le L s.earlier x (count - 1) up in
      omega arith)
]

-- no lane of the first is left at a row below its bound
pub past_from : (low : ℕ) (next least : List ℕ) (m : ℕ) → (get_or next m 0 ≡ 0) ⊎ (get_or least m 0 - low < get_or next m 0) →
    (get_or (ends_from low next) m 0 ≡ 0) ⊎ (get_or least m 0 < get_or (ends_from low next) m 0)
past_from low next least m (inl none) = inl (read_from low next m ∙ ap (end_from low) none)
past_from low next least m (inr over) =
    (let at = read_from low next m in
    let some = from_some low (get_or next m 0) (omega arith) in
    inr (omega (arith, at, some, over)))

-- no count of 16 bits is above the greatest of them
pub short_from : (low count : ℕ) → count ≤ 65535 → count - min low 65535 ≡ count - low
short_from low count short = grind arith

-- a row that is near `low` has counts that are near
pub near_from : (n : Stakes) (L : List Link) → IsShaped n L → (x low : ℕ) (counts : List ℕ) → CountsMembers n L x counts → x - low < 65535 → (m : ℕ) → get_or counts m 0 ≤ low + 65535
near_from n L s x low counts c near m = (let within = counts_within n L s x counts c m in omega arith)
