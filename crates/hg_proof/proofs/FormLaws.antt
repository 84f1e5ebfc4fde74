-- What is read of a certificate is spelled so, and what is spelled so is read
use Rattle.std.proofs.Common.{◌≡◌, ℕ, zero, suc, ◌+◌, ◌^◌, ◌<◌, ◌≤◌, Bool, true, false, cond, ltb, eqb, List, [], ◌∷◌, ◌++◌, length, take, drop, Result, Ok, Err, refl, sym, ap, subst, ◌∙◌, append_assoc, arith}
use Rattle.std.specs.Prelude.{nat_eq}
use Rattle.std.specs.List.{starts_with, AllByRecursion, flat_map}
use Rattle.std.specs.Int.{w32, w64, to_be_bytes}
use Rattle.std.proofs.lemmas.Bool.{ltb-false, le-ltb, eqb-true}
use Rattle.std.proofs.lemmas.List.{append-nil, drop_at, get_or-drop, nil_from_length, take-append-drop}
use Rattle.std.proofs.lemmas.Slice.Eq.{bytes_eq-Decides}
use Rattle.hg_model.specs.declared.row.Row.{Row}
use Rattle.hg_model.specs.declared.row.Placed.{Placed}
use Rattle.hg_life.specs.Spelling.{Spells, spelling}
use Rattle.hg_life.specs.Results.{◌>>=◌}
use Rattle.hg_life.specs.Reading.{Field, number_field}
use Rattle.hg_event.specs.First.{read_first}
use Rattle.hg_event.proofs.Fronts.{first_again, first_begins}
use Rattle.hg_event.proofs.Reading.{AreBytes, Took, eight_bytes, four_bytes, number_again, number_took, same_done, then_took, went_on}
use Rattle.hg_proof.specs.declared.why.Why.{Why}
use Rattle.hg_proof.specs.Certificate.{AreEntries, Certificate, IsEntry, certificate, certificate_bytes, entries_bytes, entry_bytes, magic, most_rows, order_bytes, rows_bytes}
use Rattle.hg_proof.specs.Shows.{AreSpelled}
use Rattle.hg_proof.specs.Reading.{Part, breaks_at, count_part, entries_part, entry_field, entry_part, form_of, graph_part, magic_part, number_part, order_part, part_of, parts, row_part, rows_part}

-- ---- a part that was read

abbrev read : {A : Type 0} → A → Result A Why
read x = Ok x

same_read : {A : Type 0} (x y : A) → read x ≡ read y → x ≡ y
same_read x y e = cc

-- a step that gave no reason
pub went : {A B : Type 0} (first : Result A Why) (next : A → Result B Why) (y : B) → (first >>= next) ≡ Ok y → (x : A) × (first ≡ Ok x) × (next x ≡ Ok y)
went (Ok x) next y e = (x, refl, e)
went (Err why) next y e = absurd cc

no_fault : {A : Type 0} (size : ℕ) (bytes : List ℕ) (field : Field A) (x : A × List ℕ) → part_of size bytes field ≡ Ok x → field ≡ Ok x
no_fault size bytes (Ok y) x e = ap (λ z. Ok z) (same_read y x e)
no_fault size bytes (Err fault) x e = absurd cc

was_false : {A : Type 0} (b : Bool) (why : Why) (r : Result A Why) (y : A) → cond b (Err why) r ≡ Ok y → (b ≡ false) × (r ≡ Ok y)
was_false true why r y e = absurd cc
was_false false why r y e = (refl, e)

was_true : {A : Type 0} (b : Bool) (why : Why) (r : Result A Why) (y : A) → cond b r (Err why) ≡ Ok y → (b ≡ true) × (r ≡ Ok y)
was_true true why r y e = (refl, e)
was_true false why r y e = absurd cc

-- ---- many parts of one kind

-- items whose spellings stood in front of what is left, so many, each of which fits
record PartsTook {A : Type 0} (spell : A → List ℕ) (Fits : A → Type 0) (bytes : List ℕ) (xs : List A) (left : List ℕ) (k : ℕ) : Type 0 where
  took : Took bytes (flat_map spell xs) left
  many : length xs ≡ k
  fit : AllByRecursion Fits xs

module _ {A : Type 0} (spell : A → List ℕ) (Fits : A → Type 0) (one : List ℕ → Part A) where
  parts_took : ((bytes : List ℕ) (x : A × List ℕ) → AreBytes bytes → one bytes ≡ Ok x → Took bytes (spell x.0) x.1 × Fits x.0) →
      (k : ℕ) (bytes : List ℕ) (x : List A × List ℕ) → AreBytes bytes → parts one k bytes ≡ Ok x → PartsTook spell Fits bytes x.0 x.1 k
  unfolding parts
  parts_took one_took zero bytes x fit e =
      subst (λ (x : List A × List ℕ). PartsTook spell Fits bytes x.0 x.1 0) (same_read ([], bytes) x e)
      (record { took = record { whole = refl; left_fit = fit }; many = refl; fit = tt })
  parts_took one_took (suc k) bytes x fit e =
      let first = went (one bytes) (λ first. parts one k first.1 >>= λ others. Ok (first.0 ∷ others.0, others.1)) x e in
      let others = went (parts one k first.0.1) (λ others. Ok (first.0.0 ∷ others.0, others.1)) x first.2 in
      let here = one_took bytes first.0 fit first.1 in
      let more = parts_took one_took k first.0.1 others.0 here.0.left_fit others.1 in
      subst (λ (x : List A × List ℕ). PartsTook spell Fits bytes x.0 x.1 (suc k)) (same_read (first.0.0 ∷ others.0.0, others.0.1) x others.2)
      (record {
        took = record {
          whole = then_took here.0 more.took.whole ∙ sym (append_assoc (spell first.0.0) (flat_map spell others.0.0) others.0.1);
          left_fit = more.took.left_fit;
        };
        many = ap suc more.many;
        fit = (here.1, more.fit);
      })

  parts_again : ((x : A) (left : List ℕ) → Fits x → one (spell x ++ left) ≡ Ok (x, left)) →
      (xs : List A) (left : List ℕ) → AllByRecursion Fits xs → parts one (length xs) (flat_map spell xs ++ left) ≡ Ok (xs, left)
  unfolding parts
  parts_again one_again [] left fit = refl
  parts_again one_again (x ∷ xs) left fit =
      ap (parts one (suc (length xs))) (append_assoc (spell x) (flat_map spell xs) left)
      ∙ rw (one_again x (flat_map spell xs ++ left) fit.0, parts_again one_again xs left fit.1) refl

-- ---- single parts

rest_fits : (n : ℕ) (bytes : List ℕ) → AreBytes bytes → AreBytes (drop n bytes)
rest_fits n bytes fit i = rw get_or-drop (fit (n + i))

magic_took : (size : ℕ) (bytes left : List ℕ) → AreBytes bytes → magic_part size bytes ≡ Ok left → Took bytes magic left
unfolding magic_part
magic_took size bytes left fit e =
    let found = was_true (starts_with nat_eq bytes magic) (breaks_at size bytes) (Ok (drop 4 bytes)) left e in
    let front : magic ≡ take 4 bytes = (bytes_eq-Decides magic (take 4 bytes)).0 found.0 in
    subst (λ (left : List ℕ). Took bytes magic left) (same_read (drop 4 bytes) left found.1)
    (record { whole = sym (take-append-drop 4 bytes) ∙ ap (λ (t : List ℕ). t ++ drop 4 bytes) (sym front); left_fit = rest_fits 4 bytes fit })

magic_again : (size : ℕ) (left : List ℕ) → magic_part size (magic ++ left) ≡ Ok left
unfolding magic_part
magic_again size left = refl

count_took : (size : ℕ) (bytes : List ℕ) (x : ℕ × List ℕ) → AreBytes bytes → count_part size bytes ≡ Ok x → Took bytes (to_be_bytes w32 x.0) x.1 × (x.0 ≤ most_rows)
unfolding count_part
count_took size bytes x fit e =
    let count = went (number_part size w32 bytes) (λ count. cond (ltb most_rows count.0) (Err (breaks_at size bytes)) (Ok count)) x e in
    let kept = was_false (ltb most_rows count.0.0) (breaks_at size bytes) (Ok count.0) x count.2 in
    let took = number_took four_bytes size bytes count.0 fit (no_fault size bytes (number_field size w32 bytes) count.0 count.1) in
    subst (λ (x : ℕ × List ℕ). Took bytes (to_be_bytes w32 x.0) x.1 × (x.0 ≤ most_rows)) (same_read count.0 x kept.1) (took.0, ltb-false _ _ kept.0)

count_again : (size n : ℕ) (left : List ℕ) → n ≤ most_rows → count_part size (to_be_bytes w32 n ++ left) ≡ Ok (n, left)
unfolding count_part
count_again size n left few =
    let fits : n < 2 ^ 32 = omega arith in
    rw (number_again four_bytes size n left fits, le-ltb most_rows n few) refl

-- rows

first_took : (bytes : List ℕ) (first : Row × List ℕ) → AreBytes bytes → read_first bytes ≡ Ok first → Took bytes (spelling first.0) first.1 × Spells (spelling first.0) first.0
first_took bytes first fit e =
    let begins = first_begins bytes first fit e in
    let spelled : begins.event ≡ spelling first.0 = begins.spells.spelled in
    let n : ℕ = length (spelling first.0) in
    let whole : bytes ≡ spelling first.0 ++ first.1 = begins.whole ∙ ap (λ (event : List ℕ). event ++ first.1) spelled in
    let left : drop n bytes ≡ first.1 = ap (drop n) whole ∙ drop_at (spelling first.0) first.1 n refl in (
      record { whole = whole; left_fit = subst AreBytes left (rest_fits n bytes fit) },
      subst (λ (event : List ℕ). Spells event first.0) spelled begins.spells,
    )

row_took : (size : ℕ) (bytes : List ℕ) (x : Row × List ℕ) → AreBytes bytes → row_part size bytes ≡ Ok x → Took bytes (spelling x.0) x.1 × Spells (spelling x.0) x.0
row_took size bytes x fit e = first_took bytes x fit (no_fault size bytes (read_first bytes) x e)

row_again : (size : ℕ) (row : Row) (left : List ℕ) → Spells (spelling row) row → row_part size (spelling row ++ left) ≡ Ok (row, left)
row_again size row left spells = rw (first_again (spelling row) left row spells) refl

record GraphTook (bytes : List ℕ) (rows : List Row) (left : List ℕ) : Type 0 where
  took : Took bytes (to_be_bytes w32 (length rows) ++ rows_bytes rows) left
  few : length rows ≤ most_rows
  events : AreSpelled rows

graph_took : (size : ℕ) (bytes : List ℕ) (x : List Row × List ℕ) → AreBytes bytes → graph_part size bytes ≡ Ok x → GraphTook bytes x.0 x.1
unfolding graph_part
graph_took size bytes x fit e =
    let count = went (count_part size bytes) (λ count. rows_part size count.0 count.1) x e in
    let first = count_took size bytes count.0 fit count.1 in
    let rows = parts_took spelling (λ (row : Row). Spells (spelling row) row) (row_part size) (row_took size) count.0.0 count.0.1 x first.0.left_fit count.2 in
    let said : List ℕ = to_be_bytes w32 count.0.0 in
    let whole : bytes ≡ (said ++ rows_bytes x.0) ++ x.1 = then_took first.0 rows.took.whole ∙ sym (append_assoc said (rows_bytes x.0) x.1) in
    record {
      took = record {
        whole = whole ∙ ap (λ (k : ℕ). (to_be_bytes w32 k ++ rows_bytes x.0) ++ x.1) (sym rows.many);
        left_fit = rows.took.left_fit;
      };
      few = subst (λ (k : ℕ). k ≤ most_rows) (sym rows.many) first.1;
      events = rows.fit;
    }

graph_again : (size : ℕ) (rows : List Row) (left : List ℕ) → length rows ≤ most_rows → AreSpelled rows → graph_part size (to_be_bytes w32 (length rows) ++ (rows_bytes rows ++ left)) ≡ Ok (rows, left)
unfolding graph_part
graph_again size rows left few events =
    rw (count_again size (length rows) (rows_bytes rows ++ left) few) (parts_again spelling (λ (row : Row). Spells (spelling row) row) (row_part size) (row_again size) rows left events)

-- the order

regrouped : (a b c d : List ℕ) → a ++ (b ++ (c ++ d)) ≡ (a ++ (b ++ c)) ++ d
regrouped a b c d = simp append_assoc

field_took : (size : ℕ) (bytes : List ℕ) (x : Placed × List ℕ) → AreBytes bytes → entry_field size bytes ≡ Ok x → Took bytes (entry_bytes x.0) x.1 × IsEntry x.0
unfolding entry_field
field_took size bytes x fit e =
    let a = went_on (number_field size w32 bytes) _ x e in
    let b = went_on (number_field size w32 a.0.1) _ x a.2 in
    let c = went_on (number_field size w64 b.0.1) _ x b.2 in
    let one = number_took four_bytes size bytes a.0 fit a.1 in
    let two = number_took four_bytes size a.0.1 b.0 one.0.left_fit b.1 in
    let three = number_took eight_bytes size b.0.1 c.0 two.0.left_fit c.1 in
    subst (λ (x : Placed × List ℕ). Took bytes (entry_bytes x.0) x.1 × IsEntry x.0) (same_done (record { place = a.0.0; received = b.0.0; time = c.0.0 }, c.0.1) x c.2) (
      record {
        whole = then_took one.0 (then_took two.0 three.0.whole) ∙ regrouped (to_be_bytes w32 a.0.0) (to_be_bytes w32 b.0.0) (to_be_bytes w64 c.0.0) c.0.1;
        left_fit = three.0.left_fit;
      },
      record { place = one.1; received = two.1; time = three.1 },
    )

field_again : (size : ℕ) (p : Placed) (left : List ℕ) → IsEntry p → entry_field size (entry_bytes p ++ left) ≡ Ok (p, left)
unfolding entry_field
field_again size p left is =
    let one : List ℕ = to_be_bytes w32 p.place in
    let two : List ℕ = to_be_bytes w32 p.received in
    let three : List ℕ = to_be_bytes w64 p.time in
    ap (entry_field size) (sym (regrouped one two three left))
    ∙ rw (number_again four_bytes size p.place (two ++ (three ++ left)) is.place, number_again four_bytes size p.received (three ++ left) is.received, number_again eight_bytes size p.time left is.time) refl

entry_took : (size : ℕ) (bytes : List ℕ) (x : Placed × List ℕ) → AreBytes bytes → entry_part size bytes ≡ Ok x → Took bytes (entry_bytes x.0) x.1 × IsEntry x.0
entry_took size bytes x fit e = field_took size bytes x fit (no_fault size bytes (entry_field size bytes) x e)

entry_again : (size : ℕ) (p : Placed) (left : List ℕ) → IsEntry p → entry_part size (entry_bytes p ++ left) ≡ Ok (p, left)
entry_again size p left is = rw (field_again size p left is) refl

record OrderTook (bytes : List ℕ) (order : List Placed) (left : List ℕ) : Type 0 where
  took : Took bytes (order_bytes order) left
  sized : AreEntries order

order_took : (size : ℕ) (bytes : List ℕ) (x : List Placed × List ℕ) → AreBytes bytes → order_part size bytes ≡ Ok x → OrderTook bytes x.0 x.1
unfolding order_part
order_took size bytes x fit e =
    let count = went (number_part size w32 bytes) (λ count. entries_part size count.0 count.1) x e in
    let first = number_took four_bytes size bytes count.0 fit (no_fault size bytes (number_field size w32 bytes) count.0 count.1) in
    let order = parts_took entry_bytes IsEntry (entry_part size) (entry_took size) count.0.0 count.0.1 x first.0.left_fit count.2 in
    let said : List ℕ = to_be_bytes w32 count.0.0 in
    let whole : bytes ≡ (said ++ entries_bytes x.0) ++ x.1 = then_took first.0 order.took.whole ∙ sym (append_assoc said (entries_bytes x.0) x.1) in
    record {
      took = record {
        whole = whole ∙ ap (λ (k : ℕ). (to_be_bytes w32 k ++ entries_bytes x.0) ++ x.1) (sym order.many);
        left_fit = order.took.left_fit;
      };
      sized = record { few = subst (λ (k : ℕ). k < 2 ^ 32) (sym order.many) first.1; entries = order.fit };
    }

order_again : (size : ℕ) (order : List Placed) → AreEntries order → order_part size (order_bytes order) ≡ Ok (order, [])
unfolding order_part
order_again size order sized =
    let tail : List ℕ = entries_bytes order in
    let last : entries_part size (length order) tail ≡ Ok (order, []) = ap (entries_part size (length order)) (sym (append-nil tail)) ∙ parts_again entry_bytes IsEntry (entry_part size) (entry_again size) order [] sized.entries in
    rw (number_again four_bytes size (length order) tail sized.few) last

-- ---- the whole

-- the bytes are these, and what they tell fits the format
pub record IsForm (bytes : List ℕ) (shown : Certificate) : Type 0 where
  pub spelled : bytes ≡ certificate_bytes shown
  pub few : length shown.rows ≤ most_rows
  pub events : AreSpelled shown.rows
  pub sized : AreEntries shown.order

pub form_spelled : (bytes : List ℕ) (shown : Certificate) → AreBytes bytes → form_of bytes ≡ Ok shown → IsForm bytes shown
unfolding form_of certificate_bytes
form_spelled bytes shown fit e =
    let size = length bytes in
    let rest = went (magic_part size bytes) _ shown e in
    let graph = went (graph_part size rest.0) _ shown rest.2 in
    let order = went (order_part size graph.0.1) _ shown graph.2 in
    let ended = was_true (eqb (length order.0.1) 0) (breaks_at size order.0.1) (Ok (certificate graph.0.0 order.0.0)) shown order.2 in
    let nothing : order.0.1 ≡ [] = nil_from_length order.0.1 (eqb-true _ _ ended.0) in
    let a = magic_took size bytes rest.0 fit rest.1 in
    let b = graph_took size rest.0 graph.0 a.left_fit graph.1 in
    let c = order_took size graph.0.1 order.0 b.took.left_fit order.1 in
    let last : graph.0.1 ≡ order_bytes order.0.0 = c.took.whole ∙ ap (λ (t : List ℕ). order_bytes order.0.0 ++ t) nothing ∙ append-nil (order_bytes order.0.0) in
    let whole : bytes ≡ magic ++ (to_be_bytes w32 (length graph.0.0) ++ (rows_bytes graph.0.0 ++ order_bytes order.0.0)) =
    then_took a (then_took b.took last) ∙ ap (λ (t : List ℕ). magic ++ t) (append_assoc (to_be_bytes w32 (length graph.0.0)) (rows_bytes graph.0.0) (order_bytes order.0.0)) in
    subst (IsForm bytes) (same_read (certificate graph.0.0 order.0.0) shown ended.1)
    (record { spelled = whole; few = b.few; events = b.events; sized = c.sized })

pub form_read : (shown : Certificate) → length shown.rows ≤ most_rows → AreSpelled shown.rows → AreEntries shown.order → form_of (certificate_bytes shown) ≡ Ok shown
unfolding form_of certificate_bytes
form_read shown few events sized =
    let size = length (certificate_bytes shown) in
    let tail : List ℕ = order_bytes shown.order in
    rw (
      magic_again size (to_be_bytes w32 (length shown.rows) ++ (rows_bytes shown.rows ++ tail)),
      graph_again size shown.rows tail few events,
      order_again size shown.order sized,
    ) refl
