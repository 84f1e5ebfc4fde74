-- How many bytes an event has, and how many there can be before it is whole.
use Rattle.std.proofs.Common.{◌≡◌, ℕ, zero, suc, ◌+◌, ◌*◌, ◌<◌, ◌≤◌, Bool, true, false, cond, eqb, ltb, List, [], ◌∷◌, ◌++◌, length, drop, Some, None, Result, Ok, Err, refl, sym, ap, subst, ◌∙◌, arith, inl, inr}
use Rattle.std.specs.Prelude.{⊤, IfSome, nat_eq, nat_le, nat_lt}
use Rattle.std.specs.List.{AllByRecursion, concat, starts_with}
use Rattle.std.specs.Int.{Width, w16, w64, byte_len, to_be_bytes}
use Rattle.std.proofs.lemmas.Bool.{and_parts, cases_Bool, cases_lt, leb-true, ltb-false, lt-ltb, le-ltb}
use Rattle.std.proofs.lemmas.List.{append-nil, length-append, length-drop, nil_from_length}
use Rattle.hg_model.specs.declared.row.Row.{Row}
use Rattle.hg_model.specs.Links.{ParentNames}
use Rattle.hg_life.specs.declared.answers.ByteFault.{ByteFault}
use Rattle.hg_life.specs.declared.answers.ByteFault.TheVariants.{Short, BadMagic, BadKind, BadLength, Trailing}
use Rattle.hg_life.specs.Spelling.{AreNames, Spells, body_of, magic, parent_bytes, payload_limit, spelling}
use Rattle.hg_life.specs.Results.{◌>>=◌}
use Rattle.hg_life.specs.Reading.{bytes_field, form_field, form_of, is_kind, names_field, number_field, parents_by, parents_field, payload_field}
use Rattle.hg_event.specs.First.{counted, first_event, greatest_size, least_size, read_first}
use Rattle.hg_event.proofs.FrontsStand.{is_part, magic_has}
use Rattle.hg_event.proofs.Reading.{done, eight_bytes, kind_few, two_bytes}

-- ---- sizes of what is spelled

names_len : (names : List (List ℕ)) → AllByRecursion (λ name. length name ≡ 48) names → length (concat names) ≡ 48 * length names
names_len [] are = refl
names_len (name ∷ names) are = omega (arith, length-append name (concat names), are.0, names_len names are.1)

parents_size : (parents : ParentNames) → IfSome parents AreNames → (1 ≤ length (parent_bytes parents)) × (length (parent_bytes parents) ≤ 241)
parents_size None are = (omega arith, omega arith)
parents_size (Some names) are =
    let most : length names.1 ≤ 4 = leb-true _ _ (and_parts (nat_lt 0 (length names.1)) (nat_le (length names.1) 4) are.few).1 in
    (omega arith, omega (arith, length-append names.0 (concat names.1), are.first, names_len names.1 are.others))

pub spelling_size : (bytes : List ℕ) (row : Row) → Spells bytes row → (least_size ≤ length bytes) × (length bytes ≤ greatest_size)
unfolding spelling body_of
spelling_size bytes row spells =
    let has = spells.sized in
    let parents = parents_size row.parents has.parents in
    let number : length (to_be_bytes w16 (length row.payload)) ≡ 2 = two_bytes.len (length row.payload) in
    let size : length bytes ≡ 4 + (2 + (length (parent_bytes row.parents) + (8 + (2 + length row.payload)))) + 64 =
    ap length spells.spelled ∙ length-append (body_of row) row.sig
    ∙ omega (
      arith,
      has.sig,
      number,
      two_bytes.len row.creator,
      eight_bytes.len row.time,
      length-append (to_be_bytes w16 row.creator) (parent_bytes row.parents ++ (to_be_bytes w64 row.time ++ (to_be_bytes w16 (length row.payload) ++ row.payload))),
      length-append (parent_bytes row.parents) (to_be_bytes w64 row.time ++ (to_be_bytes w16 (length row.payload) ++ row.payload)),
      length-append (to_be_bytes w64 row.time) (to_be_bytes w16 (length row.payload) ++ row.payload),
      length-append (to_be_bytes w16 (length row.payload)) row.payload,
    ) in
    (omega (arith, size, parents.0), omega (arith, size, parents.1, has.payload))

-- ---- sizes of what is read

-- a reading of so many bytes takes no more than `most` of them, or ends too early where there are fewer
abbrev Takes : {A : Type 0} → (A → List ℕ) → ℕ → ℕ → ℕ → Result A ByteFault → Type 0
Takes left size most len (Ok x) = len ≤ most + length (left x)
Takes left size most len (Err (Short n)) = (n ≡ size) × (len < most)
Takes left size most len (Err BadMagic) = ⊤
Takes left size most len (Err (BadKind k)) = ⊤
Takes left size most len (Err (BadLength n)) = ⊤
Takes left size most len (Err (Trailing n)) = ⊥

abbrev left_of : {A : Type 0} → A × List ℕ → List ℕ
left_of field = field.1

-- so many bytes more may have been taken before
takes_more : {A : Type 0} (left : A → List ℕ) (size before most len after : ℕ) (read : Result A ByteFault) → len ≤ before + after → Takes left size most after read → Takes left size (before + most) len read
takes_more left size before most len after (Ok x) le takes = omega (arith, le, takes)
takes_more left size before most len after (Err (Short n)) le takes = (takes.0, omega (arith, le, takes.1))
takes_more left size before most len after (Err BadMagic) le takes = tt
takes_more left size before most len after (Err (BadKind k)) le takes = tt
takes_more left size before most len after (Err (BadLength n)) le takes = tt
takes_more left size before most len after (Err (Trailing n)) le takes = takes

then_takes : {A B : Type 0} (left : A → List ℕ) (left_then : B → List ℕ) (size most most_then len : ℕ) (read : Result A ByteFault) (next : A → Result B ByteFault)
    → Takes left size most len read → ((x : A) → Takes left_then size most_then (length (left x)) (next x)) → Takes left_then size (most + most_then) len (read >>= next)
then_takes left left_then size most most_then len (Ok x) next takes each = takes_more left_then size most most_then len (length (left x)) (next x) takes (each x)
then_takes left left_then size most most_then len (Err (Short n)) next takes each = (takes.0, omega (arith, takes.1))
then_takes left left_then size most most_then len (Err BadMagic) next takes each = tt
then_takes left left_then size most most_then len (Err (BadKind k)) next takes each = tt
then_takes left left_then size most most_then len (Err (BadLength n)) next takes each = tt
then_takes left left_then size most most_then len (Err (Trailing n)) next takes each = takes

bytes_takes : (size n : ℕ) (bytes : List ℕ) → Takes left_of size n (length bytes) (bytes_field size n bytes)
unfolding bytes_field
bytes_takes size n bytes = elim (cases_lt (length bytes) n) [
  | inl short ↦ rw (lt-ltb (length bytes) n short) (refl, short)
  | inr long ↦ rw (le-ltb (length bytes) n long) (omega (arith, length-drop n bytes))
]

number_takes : (size : ℕ) (width : Width) (bytes : List ℕ) → Takes left_of size (byte_len width + 0) (length bytes) (number_field size width bytes)
unfolding number_field
number_takes size width bytes = then_takes left_of left_of size (byte_len width) 0 (length bytes) _ _ (bytes_takes size (byte_len width) bytes) (λ digits. omega arith)

-- it takes no more than more bytes than these
most_takes : {A : Type 0} (left : A → List ℕ) (size most more len : ℕ) (read : Result A ByteFault) → most ≤ more → Takes left size most len read → Takes left size more len read
most_takes left size most more len (Ok x) le takes = omega (arith, le, takes)
most_takes left size most more len (Err (Short n)) le takes = (takes.0, omega (arith, le, takes.1))
most_takes left size most more len (Err BadMagic) le takes = tt
most_takes left size most more len (Err (BadKind k)) le takes = tt
most_takes left size most more len (Err (BadLength n)) le takes = tt
most_takes left size most more len (Err (Trailing n)) le takes = takes

names_takes : (size k : ℕ) (bytes : List ℕ) → Takes left_of size (48 * k) (length bytes) (names_field size k bytes)
unfolding names_field
names_takes size zero bytes = omega arith
names_takes size (suc k) bytes =
    most_takes left_of size (48 + (48 * k + 0)) (48 * suc k) (length bytes) _ (omega arith)
    (then_takes left_of left_of size 48 (48 * k + 0) (length bytes) _ _ (bytes_takes size 48 bytes)
    (λ name. then_takes left_of left_of size (48 * k) 0 (length name.1) _ _ (names_takes size k name.1) (λ names. omega arith)))

by_takes : (size kind : ℕ) (bytes : List ℕ) → kind ≤ 4 → Takes left_of size 240 (length bytes) (parents_by size kind bytes)
unfolding parents_by
by_takes size zero bytes few = omega arith
by_takes size (suc k) bytes few =
    most_takes left_of size (48 + (48 * suc k + 0)) 240 (length bytes) _ (omega (arith, few))
    (then_takes left_of left_of size 48 (48 * suc k + 0) (length bytes) _ _ (bytes_takes size 48 bytes)
    (λ self_parent. then_takes left_of left_of size (48 * suc k) 0 (length self_parent.1) _ _ (names_takes size (suc k) self_parent.1) (λ others. omega arith)))

kind_takes : (size kind : ℕ) (rest : List ℕ) (is : Bool) → (is ≡ true → kind ≤ 4) → Takes left_of size 241 (suc (length rest)) (cond is (parents_by size kind rest) (Err (BadKind kind)))
kind_takes size kind rest true few = takes_more left_of size 1 240 (suc (length rest)) (length rest) _ (omega arith) (by_takes size kind rest (few refl))
kind_takes size kind rest false few = tt

parents_takes : (size : ℕ) (several : Bool) (bytes : List ℕ) → Takes left_of size 241 (length bytes) (parents_field size several bytes)
unfolding parents_field
parents_takes size several [] = (refl, omega arith)
parents_takes size several (kind ∷ rest) = kind_takes size kind rest (is_kind several kind) (kind_few several kind)

limit_takes : (size n len : ℕ) (long : Bool) (read : Result (List ℕ × List ℕ) ByteFault) → (long ≡ false → n ≤ payload_limit) → Takes left_of size n len read
    → Takes left_of size payload_limit len (cond long (Err (BadLength n)) read)
limit_takes size n len true read small takes = tt
limit_takes size n len false (Ok x) small takes = omega (arith, small refl, takes)
limit_takes size n len false (Err (Short k)) small takes = (takes.0, omega (arith, small refl, takes.1))
limit_takes size n len false (Err BadMagic) small takes = tt
limit_takes size n len false (Err (BadKind k)) small takes = tt
limit_takes size n len false (Err (BadLength k)) small takes = tt
limit_takes size n len false (Err (Trailing k)) small takes = takes

payload_takes : (size : ℕ) (bytes : List ℕ) → Takes left_of size (2 + payload_limit) (length bytes) (payload_field size bytes)
unfolding payload_field
payload_takes size bytes = then_takes left_of left_of size 2 payload_limit (length bytes) _ _ (number_takes size w16 bytes)
    (λ len. limit_takes size len.0 (length len.1) (ltb payload_limit len.0) _ (λ e. ltb-false _ _ e) (bytes_takes size len.0 len.1))

-- three bytes that are the beginning of the magic are the magic
fewer_than_magic : (bytes : List ℕ) → starts_with nat_eq bytes magic ≡ false → starts_with nat_eq magic bytes ≡ true → length bytes < 3
fewer_than_magic bytes not_whole part = elim (cases_lt (length bytes) 3) [
  | inl short ↦ short
  | inr long ↦ (
      let n = length bytes in
      let e : magic ≡ bytes ++ drop n magic = is_part bytes part in
      let none : drop n magic ≡ [] = nil_from_length (drop n magic) (omega (arith, long, length-drop n magic)) in
      let is = magic_has bytes [] (sym (append-nil bytes) ∙ ap (λ (t : List ℕ). bytes ++ t) (sym none) ∙ sym e ∙ sym (append-nil magic)) in
      absurd cc)
]

digit_takes : (size : ℕ) (rest : List ℕ) (one two : Bool) → Takes left_of size 1 (suc (length rest)) (cond one (done (false, rest)) (cond two (Ok (true, rest)) (Err BadMagic)))
digit_takes size rest true two = omega arith
digit_takes size rest false true = omega arith
digit_takes size rest false false = tt

form_of_takes : (size : ℕ) (bytes : List ℕ) → Takes left_of size 1 (length bytes) (form_of size bytes)
unfolding form_of
form_of_takes size [] = (refl, omega arith)
form_of_takes size (digit ∷ rest) = digit_takes size rest (eqb digit 0x31) (eqb digit 0x32)

form_takes : (size : ℕ) (bytes : List ℕ) → Takes left_of size 4 (length bytes) (form_field size bytes)
unfolding form_field
form_takes size bytes = elim (cases_Bool (starts_with nat_eq bytes magic)) [
  | inl whole ↦ rw whole (takes_more left_of size 3 1 (length bytes) (length (drop 3 bytes)) (form_of size (drop 3 bytes)) (omega (arith, length-drop 3 bytes)) (form_of_takes size (drop 3 bytes)))
  | inr not_whole ↦ elim (cases_Bool (starts_with nat_eq magic bytes)) [
    | inl part ↦ rw (not_whole, part) (refl, (let few = fewer_than_magic bytes not_whole part in omega (arith, few)))
    | inr not_part ↦ rw (not_whole, not_part) tt
  ]
]

first_takes : (bytes : List ℕ) → Takes left_of (length bytes) greatest_size (length bytes) (read_first bytes)
unfolding read_first
first_takes bytes =
    let size = length bytes in
    then_takes left_of left_of size 4 1341 size _ _ (form_takes size bytes)
    (λ form. then_takes left_of left_of size 2 1339 (length form.1) _ _ (number_takes size w16 form.1)
    (λ creator. then_takes left_of left_of size 241 1098 (length creator.1) _ _ (parents_takes size form.0 creator.1)
    (λ parents. then_takes left_of left_of size 8 1090 (length parents.1) _ _ (number_takes size w64 parents.1)
    (λ time. then_takes left_of left_of size 1026 64 (length time.1) _ _ (payload_takes size time.1)
    (λ payload. then_takes left_of left_of size 64 0 (length payload.1) _ _ (bytes_takes size 64 payload.1) (λ sig. omega arith))))))

abbrev faulty : ByteFault → Result (Row × List ℕ) ByteFault
faulty fault = Err fault

short_takes : (size len n : ℕ) (read : Result (Row × List ℕ) ByteFault) → Takes left_of size greatest_size len read → counted size read ≡ Err (Short n) → (n ≡ size) × (len < greatest_size)
short_takes size len n (Ok first) takes e = absurd cc
short_takes size len n (Err fault) takes e =
    let is : fault ≡ Short n = cc in
    subst (λ (f : ByteFault). Takes left_of size greatest_size len (faulty f)) is takes

pub early_end : (bytes : List ℕ) (n : ℕ) → first_event bytes ≡ Err (Short n) → (n ≡ length bytes) × (length bytes < greatest_size)
early_end bytes n e = short_takes (length bytes) (length bytes) n (read_first bytes) (first_takes bytes) e

trailing_takes : (size len n : ℕ) (read : Result (Row × List ℕ) ByteFault) → Takes left_of size greatest_size len read → counted size read ≡ Err (Trailing n) → ⊥
trailing_takes size len n (Ok first) takes e = absurd cc
trailing_takes size len n (Err fault) takes e =
    let is : fault ≡ Trailing n = cc in
    subst (λ (f : ByteFault). Takes left_of size greatest_size len (faulty f)) is takes

pub none_trail : (bytes : List ℕ) (n : ℕ) → first_event bytes ≡ Err (Trailing n) → ⊥
none_trail bytes n e = trailing_takes (length bytes) (length bytes) n (read_first bytes) (first_takes bytes) e
