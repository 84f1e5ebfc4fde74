-- The notes of rows with one row more, and of rows behind which others come
use Rattle.std.proofs.Common.{◌≡◌, ℕ, ◌+◌, ◌<◌, ◌≤◌, Bool, true, false, cond, ◌&&◌, ◌||◌, eqb, List, [], ◌∷◌, ◌++◌, length, replicate, take, get_or, slice_get, Option, Some, None, refl, sym, ap, ap₂, ◌∙◌, subst, arith, zero-add, length-take}
use Rattle.std.specs.Prelude.{count_by, slice_set}
use Rattle.std.proofs.lemmas.Bool.{eq-eqb, ne_eqb}
use Rattle.std.proofs.lemmas.List.{get_or-replicate, get_or-set_other, get_or-set_same, length-replicate, length-set, take_more, take-append-le}
use Rattle.std.proofs.lemmas.List.Folds.{list_any-append}
use Rattle.std.proofs.lemmas.List.FromFn.{fill_by_all, get_or-map-range_with_len, length-map-range_with_len, map-range_with_len_more}
use Rattle.std.proofs.lemmas.List.Sums.{count_by-le-length, count_by_more_no, count_by_more_yes, fold-append}
use Rattle.std.proofs.lemmas.Option.{slice_get-get_or}
use mathlib.Core.Logic.{dite}
use native.Mathlib.Decide.{ℕ_discrete}
use Rattle.hg_model.specs.Graph.{IsShaped}
use Rattle.hg_model.specs.Links.{links}
use Rattle.hg_model.specs.Order.{sequence_of}
use Rattle.hg_model.specs.Places.{table}
use Rattle.hg_model.specs.Stakes.{Stakes, member_count}
use Rattle.hg_model.specs.declared.row.Row.{Row}
use Rattle.hg_life.specs.Verdict.{last_name, later_name}
use Rattle.hg_service.specs.Binding.{is_strange, is_strange_row}
use Rattle.hg_model.specs.Prefix.{Graph}
use Rattle.hg_answering.specs.RowNotes.{AreFirst, RowNotesView, first_notes, is_unbound, with_unbound}
use Rattle.hg_answering.specs.Telling.{has_payload}
use Rattle.hg_model.proofs.LinkLaws.{creator-links, length-links}
use Rattle.hg_answering.proofs.SequenceLaws.{sequence_later}

-- a table in which one value is another
table_set : {A : Type 0} (old new : ℕ → A) (n c : ℕ) (value : A) → c < n → new c ≡ value → ((m : ℕ) → (m ≡ c → ⊥) → new m ≡ old m)
    → slice_set (table old n) c value ≡ table new n
table_set old new n c value below here other =
    fill_by_all new (slice_set (table old n) c value) n value (length-set (table old n) c value ∙ length-map-range_with_len old 0 n)
    (λ m inside. dite (ℕ_discrete m c)
    (λ same. ap (λ (k : ℕ). get_or (slice_set (table old n) c value) k value) same
    ∙ (get_or-set_same (table old n) c value value (omega (arith, below, length-map-range_with_len old 0 n))
    ∙ (sym here ∙ ap new (sym same))))
    (λ else. get_or-set_other (table old n) c m value value else ∙ (get_or-map-range_with_len old 0 n m m value inside (zero-add m) ∙ sym (other m else))))

row_at : (G : List Row) (x : ℕ) (row : Row) → x < length G → slice_get G x ≡ Some row → get_or G x row ≡ row
row_at G x row inside at = let there : Some (get_or G x row) ≡ Some row = sym (slice_get-get_or G x row inside) ∙ at in cc

first_more : (G : List Row) (x : ℕ) (row : Row) → x < length G → slice_get G x ≡ Some row → take (x + 1) G ≡ take x G ++ row ∷ []
first_more G x row inside at = take_more G x row inside ∙ ap (λ (r : Row). take x G ++ r ∷ []) (row_at G x row inside at)

module _ (bound : List ℕ) (count : ℕ) (G : List Row) (x : ℕ) (row : Row) (inside : x < length G) (at : slice_get G x ≡ Some row) where
  -- ---- last names

  last_next : (m : ℕ) → last_name m (take (x + 1) G) ≡ later_name m (last_name m (take x G)) row
  last_next m = ap (last_name m) (first_more G x row inside at) ∙ fold-append (later_name m) None (take x G) (row ∷ [])

  pub lasts_next : row.creator < count → slice_set (table (λ m. last_name m (take x G)) count) row.creator (Some row.name) ≡ table (λ m. last_name m (take (x + 1) G)) count
  lasts_next member =
      table_set (λ m. last_name m (take x G)) (λ m. last_name m (take (x + 1) G)) count row.creator (Some row.name) member
      (last_next row.creator ∙ ap (λ (b : Bool). cond b (Some row.name) (last_name row.creator (take x G))) (eq-eqb row.creator row.creator refl))
      (λ m else. last_next m ∙ ap (λ (b : Bool). cond b (Some row.name) (last_name m (take x G))) (ne_eqb row.creator m (λ same. else (sym same))))

  -- ---- strange members

  or_one : (a b : Bool) → (a || (b || false)) ≡ (a || b)
  or_one true b = refl
  or_one false true = refl
  or_one false false = refl

  strange_next : (m : ℕ) → is_strange bound (take (x + 1) G) m ≡ (is_strange bound (take x G) m || is_strange_row bound m row)
  strange_next m =
      ap (λ (H : List Row). is_strange bound H m) (first_more G x row inside at)
      ∙ (list_any-append (is_strange_row bound m) (take x G) (row ∷ []) ∙ or_one (is_strange bound (take x G) m) (is_strange_row bound m row))

  or_true : (a : Bool) → (a || true) ≡ true
  or_true true = refl
  or_true false = refl

  or_false : (a : Bool) → (a || false) ≡ a
  or_false true = refl
  or_false false = refl

  and_assoc : (a b c : Bool) → (a && b && c) ≡ (a && (b && c))
  and_assoc true b c = refl
  and_assoc false b c = refl

  and_false : (a : Bool) → (a && false) ≡ false
  and_false true = refl
  and_false false = refl

  -- the row tells so of its creator, and of nobody else
  tells_of : (m : ℕ) → is_strange_row bound m row ≡ (eqb row.creator m && is_unbound bound row)
  tells_of m = and_assoc (eqb row.creator m) _ _

  pub strange_next_table : row.creator < count → with_unbound bound row (table (is_strange bound (take x G)) count) ≡ table (is_strange bound (take (x + 1) G)) count
  strange_next_table member = by_test (is_unbound bound row) refl
    where
      by_test : (b : Bool) → is_unbound bound row ≡ b
          → cond b (slice_set (table (is_strange bound (take x G)) count) row.creator true) (table (is_strange bound (take x G)) count) ≡ table (is_strange bound (take (x + 1) G)) count
      by_test true is =
          table_set (is_strange bound (take x G)) (is_strange bound (take (x + 1) G)) count row.creator true member
          (strange_next row.creator ∙ (ap (λ (b : Bool). is_strange bound (take x G) row.creator || b)
          (tells_of row.creator ∙ ap₂ (λ (a b : Bool). a && b) (eq-eqb row.creator row.creator refl) is) ∙ or_true (is_strange bound (take x G) row.creator)))
          (λ m else. strange_next m ∙ (ap (λ (b : Bool). is_strange bound (take x G) m || b)
          (tells_of m ∙ ap (λ (b : Bool). b && is_unbound bound row) (ne_eqb row.creator m (λ same. else (sym same)))) ∙ or_false (is_strange bound (take x G) m)))
      by_test false is =
          fill_by_all (is_strange bound (take (x + 1) G)) (table (is_strange bound (take x G)) count) count false (length-map-range_with_len (is_strange bound (take x G)) 0 count)
          (λ m below. get_or-map-range_with_len (is_strange bound (take x G)) 0 count m m false below (zero-add m)
          ∙ sym (strange_next m ∙ (ap (λ (b : Bool). is_strange bound (take x G) m || b) (tells_of m ∙ (ap (λ (b : Bool). eqb row.creator m && b) is ∙ and_false (eqb row.creator m)))
          ∙ or_false (is_strange bound (take x G) m))))

  -- ---- payloads

  pub payloads_next : count_by has_payload (take (x + 1) G) ≡ count_by has_payload (take x G) + cond (has_payload row) 1 0
  payloads_next = by_test (has_payload row) refl
    where
      same : has_payload (get_or G x row) ≡ has_payload row
      same = ap has_payload (row_at G x row inside at)

      by_test : (b : Bool) → has_payload row ≡ b → count_by has_payload (take (x + 1) G) ≡ count_by has_payload (take x G) + cond b 1 0
      by_test true is = count_by_more_yes has_payload G x row inside (same ∙ is)
      by_test false is = (let stays = count_by_more_no has_payload G x row inside (same ∙ is) in omega (arith, stays))

  -- ---- all of them

  pub notes_next : (old : RowNotesView) (lasts : List (Option (List ℕ))) (strange : List Bool) (sequences : List ℕ) (payloads : ℕ) → row.creator < count
      → old ≡ first_notes bound count G x → lasts ≡ slice_set old.lasts row.creator (Some row.name) → strange ≡ with_unbound bound row old.strange
      → sequences ≡ old.sequences ++ sequence_of (links G) x ∷ [] → payloads ≡ old.payloads + cond (has_payload row) 1 0
      → (let notes : RowNotesView = record { lasts = lasts; strange = strange; sequences = sequences; payloads = payloads } in notes) ≡ first_notes bound count G (x + 1)
  notes_next old lasts strange sequences payloads member was last flags numbers sum =
      let lasts_is : lasts ≡ table (λ m. last_name m (take (x + 1) G)) count =
      last ∙ (ap (λ (v : RowNotesView). slice_set v.lasts row.creator (Some row.name)) was ∙ lasts_next member) in
      let strange_is : strange ≡ table (is_strange bound (take (x + 1) G)) count =
      flags ∙ (ap (λ (v : RowNotesView). with_unbound bound row v.strange) was ∙ strange_next_table member) in
      let sequences_is : sequences ≡ table (sequence_of (links G)) (x + 1) =
      numbers ∙ (ap (λ (v : RowNotesView). v.sequences ++ sequence_of (links G) x ∷ []) was ∙ sym (map-range_with_len_more (sequence_of (links G)) 0 x x (zero-add x))) in
      let payloads_is : payloads ≡ count_by has_payload (take (x + 1) G) =
      sum ∙ (ap (λ (v : RowNotesView). v.payloads + cond (has_payload row) 1 0) was ∙ sym payloads_next) in
      rw (lasts_is, strange_is, sequences_is, payloads_is) refl

-- a table of one value
pub table_of_one : {A : Type 0} (value : A) (n : ℕ) → replicate n value ≡ table (λ _. value) n
table_of_one value n = fill_by_all (λ _. value) (replicate n value) n value (length-replicate n value) (λ k below. get_or-replicate n k value value below)

pub member_of_row : (n : Stakes) (G : List Row) (x : ℕ) (row : Row) → IsShaped n (links G) → x < length G → slice_get G x ≡ Some row → row.creator < member_count n
member_of_row n G x row shaped inside at =
    subst (λ (k : ℕ). k < member_count n) (creator-links G x row inside (sym (row_at G x row inside at))) (shaped.members x (omega (arith, inside, length-links G)))

-- ---- room

module _ (bound : List ℕ) (count : ℕ) (G : List Row) (x : ℕ) (old : RowNotesView) where
  pub member_noted : (m : ℕ) → m < count → old ≡ first_notes bound count G x → m < length old.lasts
  member_noted m below was =
      let long = ap (λ (v : RowNotesView). length v.lasts) was ∙ length-map-range_with_len (λ m. last_name m (take x G)) 0 count in
      omega (arith, below, long)

  pub flag_noted : (m : ℕ) → m < count → old ≡ first_notes bound count G x → m < length old.strange
  flag_noted m below was =
      let long = ap (λ (v : RowNotesView). length v.strange) was ∙ length-map-range_with_len (is_strange bound (take x G)) 0 count in
      omega (arith, below, long)

  pub few_payloads : (row : Row) (one : ℕ) → old ≡ first_notes bound count G x → one ≡ cond (has_payload row) 1 0 → old.payloads + one ≤ length G + 1
  few_payloads row one was is =
      let sum = ap (λ (v : RowNotesView). v.payloads) was in
      let few = count_by-le-length has_payload (take x G) in
      let short : length (take x G) ≤ length G = length-take-le x G in
      let last : cond (has_payload row) 1 0 ≤ 1 = at_most_one (has_payload row) in
      omega (arith, sum, few, short, is, last)
    where
      at_most_one : (b : Bool) → cond b 1 0 ≤ 1
      at_most_one true = omega arith
      at_most_one false = omega arith

      length-take-le : (k : ℕ) (H : List Row) → length (take k H) ≤ length H
      length-take-le k H = omega (arith, length-take k H)

-- ---- rows that come later

table_same : {A : Type 0} (one two : ℕ → A) (n : ℕ) (nothing : A) → ((m : ℕ) → m < n → one m ≡ two m) → table one n ≡ table two n
table_same one two n nothing same =
    fill_by_all two (table one n) n nothing (length-map-range_with_len one 0 n) (λ m below. get_or-map-range_with_len one 0 n m m nothing below (zero-add m) ∙ same m below)

-- the notes of first rows are the same, once others came behind them
pub notes_later : (bound : List ℕ) (count : ℕ) (n : Stakes) (G more : List Row) (len : ℕ) → IsShaped n (links G) → len ≤ length G
    → first_notes bound count G len ≡ first_notes bound count (G ++ more) len
notes_later bound count n G more len shaped within =
    let front : take len (G ++ more) ≡ take len G = take-append-le len G more within in
    ap₂ (λ (H : List Row) (sequences : List ℕ). (let notes : RowNotesView = record {
      lasts = table (λ m. last_name m H) count;
      strange = table (is_strange bound H) count;
      sequences = sequences;
      payloads = count_by has_payload H;
    } in notes)) (sym front)
    (table_same (sequence_of (links G)) (sequence_of (links (G ++ more))) len 0 (λ x inside. sym (sequence_later n G more shaped x (omega (arith, inside, within)))))

pub first_at : (bound : List ℕ) (g : Graph) (notes : RowNotesView) (x : ℕ) → x ≤ length g.rows → notes ≡ first_notes bound (member_count g.members) g.rows x → AreFirst bound g notes
first_at bound g notes x within is =
    let long : length notes.sequences ≡ x = ap (λ (v : RowNotesView). length v.sequences) is ∙ length-map-range_with_len (sequence_of (links g.rows)) 0 x in
    record {
      within = omega (arith, within, long);
      noted = is ∙ ap (first_notes bound (member_count g.members) g.rows) (sym long);
    }
