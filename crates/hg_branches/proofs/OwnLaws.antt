-- Numbers of rows in two lists, of which the first has those of the first rows
use Rattle.std.proofs.Common.{◌≡◌, ℕ, ◌+◌, ◌-◌, ◌*◌, ◌<◌, ◌≤◌, min, List, [], ◌++◌, length, get_or, take, refl, sym, ap, ap₂, ◌∙◌, inl, inr, arith}
use Rattle.std.proofs.Math.Nat.{mul-le-mul_right}
use Rattle.std.proofs.Math.Seq.{take-append-add}
use Rattle.std.proofs.lemmas.Bool.{cases_lt}
use Rattle.std.proofs.lemmas.List.{append-nil, append_assoc, get_or_append_left, get_or-append_right, length-append, length-take-le, nil_from_length, take_all, take-append-le}
use Rattle.hg_blocks.specs.Rows.{RowsWithRoom}
use Rattle.hg_branches.specs.OwnCounts.{has_own_row, narrow_rows, number_in, HoldsOwn}

module _ (rows : ℕ) (narrow wide : RowsWithRoom ℕ) (held : HoldsOwn rows narrow wide) where
  abbrev w : ℕ
  w = narrow.width

  -- as long as the first rows are not all there, there are no others
  pub none_wide : rows ≤ narrow_rows → wide.numbers ≡ []
  none_wide few =
      let none : rows - narrow_rows ≡ 0 = omega arith in
      let rest = held.rest in
      let gone = ap (λ k. k * w) none in
      nil_from_length wide.numbers (omega arith)

  pub whole_narrow : rows ≤ narrow_rows → narrow.numbers ++ wide.numbers ≡ narrow.numbers
  whole_narrow few = ap (λ (ns : List ℕ). narrow.numbers ++ ns) (none_wide few) ∙ append-nil narrow.numbers

  pub few_long : rows ≤ narrow_rows → length narrow.numbers ≡ rows * w
  few_long few = held.first ∙ ap (λ k. k * w) (let all : min rows narrow_rows ≡ rows = omega arith in all)

  pub full_long : narrow_rows ≤ rows → length narrow.numbers ≡ narrow_rows * w
  full_long many = held.first ∙ ap (λ k. k * w) (let all : min rows narrow_rows ≡ narrow_rows = omega arith in all)

  module _ (x : ℕ) (inside : x < rows) where
    pub narrow_fits : x < narrow_rows → has_own_row narrow x
    narrow_fits low = (let first = held.first in let more = mul-le-mul_right {m = x + 1} {n = min rows narrow_rows} w (omega arith) in omega arith)

    pub wide_fits : narrow_rows ≤ x → has_own_row wide (x - narrow_rows)
    wide_fits past =
        let rest = held.rest in
        let more = mul-le-mul_right {m = x - narrow_rows + 1} {n = rows - narrow_rows} w (omega arith) in
        rw held.same (omega arith)

    pub narrow_read : x < narrow_rows → (b : ℕ) → b < w → get_or narrow.numbers (x * w + b) 0 ≡ number_in narrow wide x b
    narrow_read low b h = sym (get_or_append_left narrow.numbers wide.numbers 0 (x * w + b) (let fits = narrow_fits low in omega arith))

    split : narrow_rows ≤ x → narrow_rows * w + (x - narrow_rows) * w ≡ x * w
    split past = (let sum : narrow_rows + (x - narrow_rows) ≡ x = omega arith in let all = ap (λ k. k * w) sum in omega arith)

    pub wide_read : narrow_rows ≤ x → (b : ℕ) → b < w → get_or wide.numbers ((x - narrow_rows) * wide.width + b) 0 ≡ number_in narrow wide x b
    wide_read past b h =
        let long : length narrow.numbers ≡ narrow_rows * w = full_long (omega arith) in
        let sum = split past in
        ap (λ k. get_or wide.numbers ((x - narrow_rows) * k + b) 0) held.same
        ∙ sym (get_or-append_right narrow.numbers wide.numbers (length narrow.numbers) (x * w + b) 0 refl (omega arith)
        ∙ ap (λ i. get_or wide.numbers i 0) (let at : x * w + b - length narrow.numbers ≡ (x - narrow_rows) * w + b = omega arith in at))

  -- one row more of the first
  pub first_more : rows < narrow_rows → (row : List ℕ) → length row ≡ w → (after : RowsWithRoom ℕ) → after.width ≡ w → after.numbers ≡ narrow.numbers ++ row → HoldsOwn (rows + 1) after wide
  first_more few row long after width numbers =
      let was = few_long (omega arith) in
      let sum = length-append narrow.numbers row in
      let one : min (rows + 1) narrow_rows ≡ rows + 1 = omega arith in
      record {
        same = held.same ∙ sym width;
        first = ap length numbers ∙ ((let is : length (narrow.numbers ++ row) ≡ (rows + 1) * w = omega arith in is) ∙ ap₂ (λ k n. k * n) (sym one) (sym width));
        rest = held.rest ∙ ap₂ (λ k n. k * n) (let none : rows - narrow_rows ≡ rows + 1 - narrow_rows = omega arith in none) (sym width);
      }

  pub first_joined : rows < narrow_rows → (row after : List ℕ) → after ≡ narrow.numbers ++ row → after ++ wide.numbers ≡ (narrow.numbers ++ wide.numbers) ++ row
  first_joined few row after numbers =
      ap₂ (λ (xs ys : List ℕ). xs ++ ys) numbers (none_wide (omega arith))
      ∙ (append-nil (narrow.numbers ++ row) ∙ ap (λ (xs : List ℕ). xs ++ row) (sym (whole_narrow (omega arith))))

  -- one row more of the others
  pub rest_more : narrow_rows ≤ rows → (row : List ℕ) → length row ≡ w → (after : RowsWithRoom ℕ) → after.width ≡ wide.width → after.numbers ≡ wide.numbers ++ row → HoldsOwn (rows + 1) narrow after
  rest_more many row long after width numbers =
      let was = held.rest in
      let sum = length-append wide.numbers row in
      let one : rows + 1 - narrow_rows ≡ rows - narrow_rows + 1 = omega arith in
      record {
        same = width ∙ held.same;
        first = held.first ∙ ap (λ k. k * w) (let all : min rows narrow_rows ≡ min (rows + 1) narrow_rows = omega arith in all);
        rest = ap length numbers ∙ ((let is : length (wide.numbers ++ row) ≡ (rows - narrow_rows + 1) * w = omega arith in is) ∙ ap (λ k. k * w) (sym one));
      }

  pub rest_joined : (row after : List ℕ) → after ≡ wide.numbers ++ row → narrow.numbers ++ after ≡ (narrow.numbers ++ wide.numbers) ++ row
  rest_joined row after numbers = ap (λ (ys : List ℕ). narrow.numbers ++ ys) numbers ∙ sym (append_assoc narrow.numbers wide.numbers row)

  -- the first rows alone
  module _ (len : ℕ) (inside : len ≤ rows) where
    abbrev k : ℕ
    k = min len narrow_rows

    pub cut_narrow : k * w ≤ length narrow.numbers
    cut_narrow = (let first = held.first in let more = mul-le-mul_right {m = min len narrow_rows} {n = min rows narrow_rows} w (omega arith) in omega arith)

    pub cut_wide : (len - k) * wide.width ≤ length wide.numbers
    cut_wide =
        let rest = held.rest in
        let more = mul-le-mul_right {m = len - k} {n = rows - narrow_rows} w (omega arith) in
        rw held.same (omega arith)

    pub cut_holds : (one other : RowsWithRoom ℕ) → one.width ≡ w → one.numbers ≡ take (k * w) narrow.numbers → other.width ≡ wide.width → other.numbers ≡ take ((len - k) * wide.width) wide.numbers → HoldsOwn len one other
    cut_holds one other width numbers width_2 numbers_2 = record {
      same = width_2 ∙ (held.same ∙ sym width);
      first = ap length numbers ∙ (length-take-le (k * w) narrow.numbers cut_narrow ∙ ap (λ n. k * n) (sym width));
      rest = ap length numbers_2 ∙ (length-take-le ((len - k) * wide.width) wide.numbers cut_wide
          ∙ ap₂ (λ j n. j * n) (let is : len - k ≡ len - narrow_rows = omega arith in is) (held.same ∙ sym width));
    }

    pub cut_joined : take (k * w) narrow.numbers ++ take ((len - k) * wide.width) wide.numbers ≡ take (len * w) (narrow.numbers ++ wide.numbers)
    cut_joined = elim (cases_lt len narrow_rows) [
      | inl few ↦
          (let all : k ≡ len = omega arith in
          let none : len - k ≡ 0 = omega arith in
          let fits : len * w ≤ length narrow.numbers = (let cut = cut_narrow in let same = ap (λ j. j * w) all in omega arith) in
          let product = ap (λ j. j * wide.width) none in
          let gone : (len - k) * wide.width ≡ 0 = omega arith in
          ap₂ (λ i j. take (i * w) narrow.numbers ++ take j wide.numbers) all gone
          ∙ (append-nil (take (len * w) narrow.numbers) ∙ sym (take-append-le (len * w) narrow.numbers wide.numbers fits)))
      | inr many ↦
          (let all : k ≡ narrow_rows = omega arith in
          let long : length narrow.numbers ≡ narrow_rows * w = full_long (omega arith) in
          let same = ap (λ j. j * w) all in
          let sum : narrow_rows + (len - k) ≡ len = omega arith in
          let product = ap (λ j. j * w) sum in
          let split : length narrow.numbers + (len - k) * w ≡ len * w = omega arith in
          ap₂ (λ (xs ys : List ℕ). xs ++ ys) (take_all (k * w) narrow.numbers (omega arith)) (ap (λ n. take ((len - k) * n) wide.numbers) held.same)
          ∙ (sym (take-append-add narrow.numbers wide.numbers ((len - k) * w)) ∙ ap (λ i. take i (narrow.numbers ++ wide.numbers)) split))
    ]
