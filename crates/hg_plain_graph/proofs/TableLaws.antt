-- How tables grow, and what is read in them
use Rattle.std.proofs.Common.{◌≡◌, ℕ, ◌+◌, ◌<◌, Bool, false, List, [], ◌∷◌, ◌++◌, length, get_or, Some, None, unwrap_or, refl, sym, ap, ◌∙◌, inl, inr, arith, zero-add, lt-ltb, le-ltb}
use Rattle.std.specs.Prelude.{position}
use Rattle.std.specs.List.{position_or_len}
use Rattle.std.specs.Global.{Vec}
use Rattle.std.proofs.lemmas.Bool.{cases_lt}
use Rattle.std.proofs.lemmas.List.{length_push, get_or_append_left, get_or_push, ext_get_or}
use Rattle.std.proofs.lemmas.List.FromFn.{get_or-map-range_with_len, length-map-range_with_len}
use Rattle.hg_model.specs.Places.{table}
use Rattle.std.proofs.lemmas.List.Sums.{prefix_len-le-length}
use Rattle.std.proofs.lemmas.Option.{slice_get_read, slice_get-get_or}
use Rattle.hg_plain_graph.specs.Tables.{IsTableOf, cells_of, column_at, cell_at, IsTableOfPairs}

-- a table with one more value
pub Prints_more : {A : Type 0} (default : A) (value : ℕ → A) (n : ℕ) (xs : List A) (last : A) → IsTableOf default value n xs → last ≡ value n → IsTableOf default value (n + 1) (xs ++ last ∷ [])
Prints_more default value n xs last matches is = record {
  len = length_push xs last ∙ ap (λ (k : ℕ). k + 1) matches.len;
  at = λ k h. elim (cases_lt k n) [
    | inl below ↦ get_or_append_left xs (last ∷ []) default k (omega (arith, matches.len)) ∙ matches.at k below
    | inr past ↦ (let e : k ≡ n = omega arith in rw e (get_or_push xs last default n matches.len ∙ is))
  ];
}

pub Prints_none : {A : Type 0} (default : A) (value : ℕ → A) → IsTableOf default value 0 []
Prints_none default value = record { len = refl; at = λ k h. absurd (omega arith) }

pub ruleset table_steps = (Prints_more, Prints_none)

column_before : (columns : List (Vec Bool)) (last : Vec Bool) (y : ℕ) → y < length columns → column_at (columns ++ last ∷ []) y ≡ column_at columns y
unfolding column_at
column_before columns last y h =
    let longer : y < length (columns ++ last ∷ []) = omega (arith, length_push columns last) in
    ap cells_of (slice_get-get_or (columns ++ last ∷ []) y last longer)
    ∙ (ap (λ (v : Vec Bool). v.items) (get_or_append_left columns (last ∷ []) last y h)
    ∙ sym (ap cells_of (slice_get-get_or columns y last h)))

column_last : (columns : List (Vec Bool)) (last : Vec Bool) (n : ℕ) → length columns ≡ n → column_at (columns ++ last ∷ []) n ≡ last.items
unfolding column_at
column_last columns last n is =
    let longer : n < length (columns ++ last ∷ []) = omega (arith, length_push columns last) in
    ap cells_of (slice_get-get_or (columns ++ last ∷ []) n last longer)
    ∙ ap (λ (v : Vec Bool). v.items) (get_or_push columns last last n is)

-- the column that is read

pub column_read : (columns : List (Vec Bool)) (y : ℕ) (column : Vec Bool) → y < length columns → column ≡ get_or columns y column → column_at columns y ≡ column.items
unfolding column_at
column_read columns y column h is = ap cells_of (slice_get_read columns (length columns) y column refl h is)

-- one more column
pub IsTableOfPairs_more : (related : ℕ → ℕ → Bool) (rows n : ℕ) (columns : List (Vec Bool)) (last : Vec Bool) →
    IsTableOfPairs related rows n columns → IsTableOf false (λ x. related x n) rows last.items → IsTableOfPairs related rows (n + 1) (columns ++ last ∷ [])
IsTableOfPairs_more related rows n columns last matches is = record {
  len = length_push columns last ∙ ap (λ (k : ℕ). k + 1) matches.len;
  column = λ y h. elim (cases_lt y n) [
    | inl below ↦ rw (column_before columns last y (omega (arith, matches.len))) (matches.column y below)
    | inr past ↦ (let e : y ≡ n = omega arith in rw (e, column_last columns last n matches.len) is)
  ];
}

-- reading a table of pairs
pub cell_read : (related : ℕ → ℕ → Bool) (rows n : ℕ) (columns : List (Vec Bool)) (x y : ℕ) → IsTableOfPairs related rows n columns → x < rows → y < n → cell_at columns x y ≡ related x y
unfolding cell_at
cell_read related rows n columns x y matches hx hy = (matches.column y hy).at x hx

-- what was read in a table is what the relation says
pub cell_known : (related : ℕ → ℕ → Bool) (rows n : ℕ) (columns table : List (Vec Bool)) (x y : ℕ) (value : Bool) → IsTableOfPairs related rows n table →
    columns ≡ table → value ≡ cell_at columns x y → x < rows → y < n → value ≡ related x y
cell_known related rows n columns table x y value matches same is hx hy =
    is ∙ (ap (λ (t : List (Vec Bool)). cell_at t x y) same ∙ cell_read related rows n table x y matches hx hy)

-- the first place that passes, or the length, by `position`
pub position_or_length : {A : Type 0} (test : A → Bool) (xs : List A) → unwrap_or (position test xs) (length xs) ≡ position_or_len test xs
position_or_length test xs = elim (cases_lt (position_or_len test xs) (length xs)) [
  | inl found ↦ (let e : position test xs ≡ Some (position_or_len test xs) = rw (lt-ltb (position_or_len test xs) (length xs) found) refl in rw e refl)
  | inr past ↦ (let e : position test xs ≡ None = rw (le-ltb (position_or_len test xs) (length xs) past) refl in
      let le = prefix_len-le-length (λ x. Rattle.std.proofs.Common.not (test x)) xs in
      rw e (omega arith))
]

-- a table that is whole is the list of the values
pub Prints-table : {A : Type 0} (default : A) (value : ℕ → A) (n m : ℕ) (items : List A) → IsTableOf default value n items → n ≡ m → items ≡ table value m
Prints-table default value n m items matches same =
    ext_get_or default items (table value m) (matches.len ∙ (same ∙ sym (length-map-range_with_len value 0 m)))
    (λ k h. let below : k < m = omega (arith, matches.len) in
    matches.at k (omega arith) ∙ sym (get_or-map-range_with_len value 0 m k k default below (zero-add k)))
