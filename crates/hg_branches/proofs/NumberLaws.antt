-- The numbers of a table of counts: what is read of them, one row more, and the first rows
use Rattle.std.proofs.Common.{◌≡◌, ◌≢◌, ℕ, ◌+◌, ◌-◌, ◌*◌, ◌<◌, ◌≤◌, ◌^◌, true, false, eqb, cond, max, List, [], ◌∷◌, ◌++◌, length, get_or, take, sym, ap, ap₂, ◌∙◌, inl, inr, arith, refl}
use Rattle.std.specs.List.{AllByRecursion}
use Rattle.std.proofs.Math.Nat.{mul-le-mul_right}
use Rattle.std.proofs.lemmas.Bool.{cases_lt, lt-ltb, le-ltb, eq-eqb, ne_eqb}
use Rattle.std.proofs.lemmas.Bool.Decides.{nat_tests}
use Rattle.std.proofs.lemmas.List.{get_or_append_left, get_or-append_right, get_or_push, get_or_past, length_push, length-append, length-take-le, get_or-take, ext_get_or}
use Rattle.hg_model.specs.Places.{table}
use Rattle.hg_branches.specs.Branches.{greatest_count}
use Rattle.hg_branches.specs.Columns.{count_in}
use Rattle.hg_branches.specs.Tails.{Tail, no_tail, tail_at, tail_count, tail_width}
use Rattle.hg_branches.specs.Table.{number_of, row_of, rows_of, has_room, KeepsNumbers, tail_next, IsNextCounts}
use Rattle.hg_branches.specs.OwnCounts.{own_next}
use Rattle.hg_branches.proofs.TableLaws.{get_or-table, length-table, get_or-table_all, table-same, table_grown, table_cut}

module _ (members : ℕ) (own : List ℕ) (tails : List Tail) where
  pub rows_many : length (rows_of members own tails) ≡ length tails
  rows_many = length-table (row_of members own tails) (length tails)

  pub row_known : (x : ℕ) → x < length tails → get_or (rows_of members own tails) x [] ≡ row_of members own tails x
  row_known x h = get_or-table (row_of members own tails) (length tails) x [] h

  pub row_long : (x : ℕ) → length (row_of members own tails x) ≡ members + tail_width tails x
  row_long x = length-table (number_of members own tails x) (members + tail_width tails x)

  pub number_own : (x b : ℕ) → b < members → number_of members own tails x b ≡ get_or own (x * members + b) 0
  number_own x b h = ap (λ c. cond c (get_or own (x * members + b) 0) (tail_count tails x (b - members))) (lt-ltb b members h)

  pub number_tail : (x b : ℕ) → members ≤ b → number_of members own tails x b ≡ tail_count tails x (b - members)
  number_tail x b h = ap (λ c. cond c (get_or own (x * members + b) 0) (tail_count tails x (b - members))) (le-ltb b members h)

  number_none : (x b : ℕ) → members + tail_width tails x ≤ b → number_of members own tails x b ≡ 0
  number_none x b h =
      let t : Tail = tail_at tails x in
      let past : get_or t.numbers (b - members) 0 ≡ 0 = get_or_past t.numbers (b - members) 0 (omega arith) in
      let off : eqb (b - members + 1) t.own ≡ false = ne_eqb (b - members + 1) t.own (omega arith) in
      number_tail x b (omega arith) ∙ ap₂ (λ n c. max n (cond c (x + 1) 0)) past off

  pub number_read : (x b : ℕ) → get_or (row_of members own tails x) b 0 ≡ number_of members own tails x b
  number_read x b = get_or-table_all (number_of members own tails x) (members + tail_width tails x) b (number_none x b)

  pub count_read : (x b : ℕ) → x < length tails → count_in (rows_of members own tails) x b ≡ number_of members own tails x b
  count_read x b h = ap (λ r. get_or r b 0) (row_known x h) ∙ number_read x b

  module _ (widest : ℕ) (keeps : KeepsNumbers members widest own tails) where
    pub row_fits : (x : ℕ) → x < length tails → x * members + members ≤ length own
    row_fits x h = (let long = keeps.long in let more = mul-le-mul_right members h in omega arith)

    pub own_known : (x : ℕ) → x < length tails → (part : List ℕ) → length part ≡ members → ((b : ℕ) → b < members → get_or part b 0 ≡ get_or own (x * members + b) 0) →
        part ≡ take members (get_or (rows_of members own tails) x [])
    own_known x h part long each =
        let row : List ℕ = row_of members own tails x in
        let is : length (take members row) ≡ members = length-take-le members row (omega (arith, row_long x)) in
        ext_get_or 0 part (take members row) (long ∙ sym is)
        (λ b low. let here : b < members = omega (arith, long) in
        each b here ∙ (sym (number_own x b here) ∙ (sym (number_read x b) ∙ sym (get_or-take members row b 0 here))))
        ∙ ap (take members) (sym (row_known x h))

-- what holds of each parent holds of all
pub all_same : (P Q : ℕ → Type 0) (n : ℕ) (on : List ℕ) → AllByRecursion (λ p. p < n) on → AllByRecursion P on → ((p : ℕ) → p < n → P p → Q p) → AllByRecursion Q on
all_same P Q n [] low held each = tt
all_same P Q n (p ∷ on) low held each = (each p low.0 held.0, all_same P Q n on low.1 held.1 each)

pub all_low : (Q : ℕ → Type 0) (n : ℕ) (on : List ℕ) → AllByRecursion (λ p. p < n) on → ((p : ℕ) → p < n → Q p) → AllByRecursion Q on
all_low Q n on low each = all_same (λ p. p < n) Q n on low low (λ p h _. each p h)

zero-max : (n : ℕ) → max 0 n ≡ n
zero-max n = omega arith

max-zero : (n : ℕ) → max n 0 ≡ n
max-zero n = omega arith

greatest_same : (f g : ℕ → ℕ → ℕ) (n : ℕ) (on : List ℕ) (b k : ℕ) → AllByRecursion (λ p. p < n) on → ((p : ℕ) → p < n → f p b ≡ g p k) → greatest_count f on b ≡ greatest_count g on k
greatest_same f g n [] b k low each = refl
greatest_same f g n (p ∷ on) b k low each = ap₂ max (each p low.0) (greatest_same f g n on b k low.1 each)

-- the numbers of the next row, of the members' own branches and of the others
pub record IsMade (members : ℕ) (own : List ℕ) (tails : List Tail) (on : List ℕ) (branch above : ℕ) (row numbers : List ℕ) : Type 0 where
  pub places : AllByRecursion (λ p. p < length tails) on
  pub shift : above ≡ branch + 1 - members
  pub long : length row ≡ members
  pub each_own : (b : ℕ) → b < members → get_or row b 0 ≡ own_next members own on branch (length tails + 1) b
  pub each_tail : (k : ℕ) → get_or numbers k 0 ≡ tail_next tails on above k
  pub narrow : (n : ℕ) → AllByRecursion (λ p. tail_width tails p ≤ n) on → length numbers ≤ n

-- a tail takes no more than there is memory for
pub numbers_fit : (members widest : ℕ) (own : List ℕ) (tails : List Tail) → KeepsNumbers members widest own tails → (on numbers : List ℕ) → AllByRecursion (λ p. p < length tails) on →
    ((n : ℕ) → AllByRecursion (λ p. tail_width tails p ≤ n) on → length numbers ≤ n) → length numbers ≤ widest
numbers_fit members widest own tails keeps on numbers places narrow = narrow widest (all_low (λ p. tail_width tails p ≤ widest) (length tails) on places keeps.narrow)

pub room_own : (widest own tails row : ℕ) → 1 ≤ cond (has_room widest own tails row) 1 0 → 1 ≤ own
room_own widest own tails row h = grind (arith, nat_tests)

pub room_parts : (widest own tails row : ℕ) → 1 ≤ cond (has_room widest own tails row) 1 0 → widest < tails
room_parts widest own tails row h = grind (arith, nat_tests)

pub room_row : (widest own tails row : ℕ) → 1 ≤ cond (has_room widest own tails row) 1 0 → widest ≤ row
room_row widest own tails row h = grind (arith, nat_tests)

-- one row more
module _ (members widest : ℕ) (own : List ℕ) (tails : List Tail) (keeps : KeepsNumbers members widest own tails) (on : List ℕ) (branch above : ℕ) (row numbers : List ℕ)
    (made : IsMade members own tails on branch above row numbers) where
  abbrev added : Tail
  added = record { own = above; numbers = numbers }

  abbrev own_more : List ℕ
  own_more = own ++ row

  abbrev tails_more : List Tail
  tails_more = tails ++ added ∷ []

  tail_before : (x : ℕ) → x < length tails → tail_at tails_more x ≡ tail_at tails x
  tail_before x h = get_or_append_left tails (added ∷ []) no_tail x h

  tail_last : tail_at tails_more (length tails) ≡ added
  tail_last = get_or_push tails added no_tail (length tails) refl

  own_before : (x b : ℕ) → x < length tails → b < members → get_or own_more (x * members + b) 0 ≡ get_or own (x * members + b) 0
  own_before x b h low = (let fits = row_fits members own tails widest keeps x h in get_or_append_left own row 0 (x * members + b) (omega arith))

  own_last : (b : ℕ) → get_or own_more (length tails * members + b) 0 ≡ get_or row b 0
  own_last b =
      let at : length tails * members + b - length own ≡ b = (let fits = keeps.long in omega arith) in
      get_or-append_right own row (length own) (length tails * members + b) 0 refl (let fits = keeps.long in omega arith) ∙ ap (λ i. get_or row i 0) at

  number_before : (x b : ℕ) → x < length tails → number_of members own_more tails_more x b ≡ number_of members own tails x b
  number_before x b h = elim (cases_lt b members) [
    | inl low ↦ number_own members own_more tails_more x b low ∙ (own_before x b h low ∙ sym (number_own members own tails x b low))
    | inr past ↦
        number_tail members own_more tails_more x b past
        ∙ (ap (λ t. max (get_or t.numbers (b - members) 0) (cond (eqb (b - members + 1) t.own) (x + 1) 0)) (tail_before x h) ∙ sym (number_tail members own tails x b past))
  ]

  row_before : (x : ℕ) → x < length tails → row_of members own_more tails_more x ≡ row_of members own tails x
  row_before x h =
      ap (λ t. table (number_of members own_more tails_more x) (members + max (length t.numbers) t.own)) (tail_before x h)
      ∙ table-same 0 (number_of members own_more tails_more x) (number_of members own tails x) (members + tail_width tails x) (λ b _. number_before x b h)

  pub rows_more : rows_of members own_more tails_more ≡ rows_of members own tails ++ row_of members own_more tails_more (length tails) ∷ []
  rows_more =
      ap (table (row_of members own_more tails_more)) (length_push tails added)
      ∙ table_grown [] (row_of members own tails) (row_of members own_more tails_more) (length tails) row_before

  last_own : (b : ℕ) → b < members → get_or (row_of members own_more tails_more (length tails)) b 0 ≡ own_next members own on branch (length tails + 1) b
  last_own b h =
      number_read members own_more tails_more (length tails) b ∙ (number_own members own_more tails_more (length tails) b h ∙ (own_last b ∙ made.each_own b h))

  last_tail : (b : ℕ) → members ≤ b →
      get_or (row_of members own_more tails_more (length tails)) b 0 ≡ max (tail_next tails on above (b - members)) (cond (eqb (b - members + 1) above) (length tails + 1) 0)
  last_tail b h =
      number_read members own_more tails_more (length tails) b
      ∙ (number_tail members own_more tails_more (length tails) b h
      ∙ (ap (λ t. max (get_or t.numbers (b - members) 0) (cond (eqb (b - members + 1) t.own) (length tails + 1) 0)) tail_last
      ∙ ap (λ c. max c (cond (eqb (b - members + 1) above) (length tails + 1) 0)) (made.each_tail (b - members))))

  last_end : get_or (row_of members own_more tails_more (length tails)) branch 0 ≡ length tails + 1
  last_end = elim (cases_lt branch members) [
    | inl low ↦
        last_own branch low ∙ ap (λ c. cond c (length tails + 1) (greatest_count (λ p c. get_or own (p * members + c) 0) on branch)) (eq-eqb branch branch refl)
    | inr past ↦
        (let is : eqb (branch - members + 1) above ≡ true = (let is_above = made.shift in eq-eqb (branch - members + 1) above (omega arith)) in
        last_tail branch past ∙ ap (λ c. max (cond c 0 (greatest_count (tail_count tails) on (branch - members))) (cond c (length tails + 1) 0)) is ∙ zero-max (length tails + 1))
  ]

  last_others : (b : ℕ) → b ≢ branch → get_or (row_of members own_more tails_more (length tails)) b 0 ≡ greatest_count (count_in (rows_of members own tails)) on b
  last_others b other = elim (cases_lt b members) [
    | inl low ↦
        last_own b low ∙ (ap (λ c. cond c (length tails + 1) (greatest_count (λ p c. get_or own (p * members + c) 0) on b)) (ne_eqb b branch other)
        ∙ greatest_same (λ p c. get_or own (p * members + c) 0) (count_in (rows_of members own tails)) (length tails) on b b made.places
        (λ p h. sym (count_read members own tails p b h ∙ number_own members own tails p b low)))
    | inr past ↦
        (let off : eqb (b - members + 1) above ≡ false = (let is_above = made.shift in ne_eqb (b - members + 1) above (omega arith)) in
        last_tail b past ∙ (ap (λ c. max (cond c 0 (greatest_count (tail_count tails) on (b - members))) (cond c (length tails + 1) 0)) off
        ∙ (max-zero (greatest_count (tail_count tails) on (b - members))
        ∙ greatest_same (tail_count tails) (count_in (rows_of members own tails)) (length tails) on (b - members) b made.places
        (λ p h. sym (count_read members own tails p b h ∙ number_tail members own tails p b past)))))
  ]

  last_long : length (row_of members own_more tails_more (length tails)) ≡ members + max (length numbers) above
  last_long = row_long members own_more tails_more (length tails) ∙ ap (λ t. members + max (length t.numbers) t.own) tail_last

  -- it counts what it is to count
  pub next_counts : IsNextCounts members (rows_of members own tails) on branch (row_of members own_more tails_more (length tails))
  next_counts = record {
    end = last_end ∙ ap (λ (k : ℕ). k + 1) (sym (rows_many members own tails));
    others = last_others;
    wide = omega (arith, last_long);
    narrow = λ k wide past fit.
        let low = made.narrow (k - members) (all_same (λ p. length (get_or (rows_of members own tails) p []) ≤ k) (λ p. tail_width tails p ≤ k - members) (length tails) on made.places fit
        (λ p h within. let is : length (get_or (rows_of members own tails) p []) ≡ members + tail_width tails p = ap length (row_known members own tails p h) ∙ row_long members own tails p in omega arith)) in
        let is_above = made.shift in
        omega (arith, last_long);
  }

  pub keeps_more : length tails + 1 < 2 ^ 32 → KeepsNumbers members (max widest above) own_more tails_more
  keeps_more short =
      let many = length_push tails added in
      record {
        long = length-append own row ∙ (let was = keeps.long in let same = made.long in (let is : length own + length row ≡ (length tails + 1) * members = omega arith in is) ∙ ap (λ k. k * members) (sym many));
        short = omega arith;
        narrow = λ x h. elim (cases_lt x (length tails)) [
          | inl low ↦ (let is = tail_before x low in let was = keeps.narrow x low in rw is (omega arith))
          | inr past ↦ (let same : x ≡ length tails = omega arith in let is : tail_at tails_more x ≡ added = ap (tail_at tails_more) same ∙ tail_last in let low = numbers_fit members widest own tails keeps on numbers made.places made.narrow in let is_above = made.shift in rw is (omega arith))
        ];
      }

-- the first rows
module _ (members widest : ℕ) (own : List ℕ) (tails : List Tail) (keeps : KeepsNumbers members widest own tails) (len : ℕ) (inside : len ≤ length tails) where
  pub numbers_many : len * members ≤ length own
  numbers_many = (let long = keeps.long in let low = mul-le-mul_right members inside in omega arith)

  tail_cut : (x : ℕ) → x < len → tail_at (take len tails) x ≡ tail_at tails x
  tail_cut x h = get_or-take len tails x no_tail h

  own_cut : (x b : ℕ) → x < len → b < members → get_or (take (len * members) own) (x * members + b) 0 ≡ get_or own (x * members + b) 0
  own_cut x b h low = (let fits = mul-le-mul_right members h in get_or-take (len * members) own (x * members + b) 0 (omega arith))

  row_cut : (x : ℕ) → x < len → row_of members (take (len * members) own) (take len tails) x ≡ row_of members own tails x
  row_cut x h =
      let cut : List ℕ = take (len * members) own in
      let first : List Tail = take len tails in
      ap (λ t. table (number_of members cut first x) (members + max (length t.numbers) t.own)) (tail_cut x h)
      ∙ table-same 0 (number_of members cut first x) (number_of members own tails x) (members + tail_width tails x)
      (λ b _. elim (cases_lt b members) [
        | inl low ↦ number_own members cut first x b low ∙ (own_cut x b h low ∙ sym (number_own members own tails x b low))
        | inr past ↦
            number_tail members cut first x b past
            ∙ (ap (λ t. max (get_or t.numbers (b - members) 0) (cond (eqb (b - members + 1) t.own) (x + 1) 0)) (tail_cut x h) ∙ sym (number_tail members own tails x b past))
      ])

  pub rows_cut : rows_of members (take (len * members) own) (take len tails) ≡ take len (rows_of members own tails)
  rows_cut =
      ap (table (row_of members (take (len * members) own) (take len tails))) (length-take-le len tails inside)
      ∙ table_cut [] (row_of members own tails) (row_of members (take (len * members) own) (take len tails)) (length tails) len inside row_cut

  pub keeps_cut : KeepsNumbers members widest (take (len * members) own) (take len tails)
  keeps_cut =
      let many = length-take-le len tails inside in
      record {
        long = length-take-le (len * members) own numbers_many ∙ ap (λ k. k * members) (sym many);
        short = (let was = keeps.short in omega arith);
        narrow = λ x h. (let low : x < len = omega arith in let is = tail_cut x low in rw is (keeps.narrow x (omega arith)));
      }
