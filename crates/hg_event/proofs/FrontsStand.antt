-- More bytes change no event at the front, and no fault but that the bytes end too early.
use Rattle.std.proofs.Common.{◌≡◌, ℕ, zero, suc, Bool, true, false, cond, eqb, ltb, List, [], ◌∷◌, ◌++◌, length, take, drop, Result, Ok, Err, refl, sym, ap, ◌∙◌, append_assoc, arith, inl, inr}
use Rattle.std.specs.Prelude.{nat_eq}
use Rattle.std.specs.List.{starts_with}
use Rattle.std.specs.Int.{Width, w16, w64, byte_len}
use Rattle.std.proofs.lemmas.Bool.{cases_Bool, cases_lt, lt-ltb, le-ltb}
use Rattle.std.proofs.lemmas.Bool.Decides.{Decides-eqb}
use Rattle.std.proofs.lemmas.List.{drop-append-le, length-append, take-append-drop, take-append-le, take_at}
use Rattle.std.proofs.lemmas.Slice.Eq.{starts_is}
use Rattle.hg_model.specs.declared.row.Row.{Row}
use Rattle.hg_life.specs.declared.answers.ByteFault.{ByteFault}
use Rattle.hg_life.specs.declared.answers.ByteFault.TheVariants.{BadMagic, BadKind, BadLength}
use Rattle.hg_life.specs.Spelling.{magic, payload_limit}
use Rattle.hg_life.specs.Results.{◌>>=◌}
use Rattle.hg_life.specs.Reading.{Field, bytes_field, form_field, form_of, is_kind, names_field, number_field, parents_by, parents_field, payload_field}
use Rattle.hg_event.specs.First.{Stands, counted, first_event, is_short, read_first}
use Rattle.hg_event.proofs.Reading.{done}

-- the same outcome, its value grown
abbrev grown : {A : Type 0} → (A → A) → Result A ByteFault → Result A ByteFault
grown f (Ok x) = Ok (f x)
grown f (Err fault) = Err fault

-- the later outcome is the same, unless the bytes ended too early
abbrev Goes : {A : Type 0} → (A → A) → Result A ByteFault → Result A ByteFault → Type 0
Goes f read later = is_short read ≡ false → later ≡ grown f read

-- a field's value, and more bytes behind those that are left
abbrev behind : {A : Type 0} → List ℕ → A × List ℕ → A × List ℕ
behind more field = (field.0, field.1 ++ more)

then_goes : {A B : Type 0} (f : A → A) (g : B → B) (read later : Result A ByteFault) (next following : A → Result B ByteFault)
    → Goes f read later → ((x : A) → Goes g (next x) (following (f x))) → Goes g (read >>= next) (later >>= following)
then_goes f g (Ok x) later next following goes each whole = ap (λ (read : Result _ ByteFault). read >>= following) (goes refl) ∙ each x whole
then_goes f g (Err fault) later next following goes each whole = ap (λ (read : Result _ ByteFault). read >>= following) (goes whole)

bytes_goes : (size later n : ℕ) (bytes more : List ℕ) → Goes (behind more) (bytes_field size n bytes) (bytes_field later n (bytes ++ more))
unfolding bytes_field
bytes_goes size later n bytes more = elim (cases_lt (length bytes) n) [
  | inl short ↦ rw (lt-ltb (length bytes) n short) (λ whole. absurd cc)
  | inr long ↦ (
      let now : ltb (length bytes) n ≡ false = le-ltb _ _ long in
      let then : ltb (length (bytes ++ more)) n ≡ false = le-ltb _ _ (omega (arith, length-append bytes more)) in
      rw (now, then, take-append-le n bytes more long, drop-append-le n bytes more long) (λ whole. refl))
]

number_goes : (size later : ℕ) (width : Width) (bytes more : List ℕ) → Goes (behind more) (number_field size width bytes) (number_field later width (bytes ++ more))
unfolding number_field
number_goes size later width bytes more = then_goes (behind more) (behind more) _ _ _ _ (bytes_goes size later (byte_len width) bytes more) (λ digits whole. refl)

names_goes : (size later k : ℕ) (bytes more : List ℕ) → Goes (behind more) (names_field size k bytes) (names_field later k (bytes ++ more))
unfolding names_field
names_goes size later zero bytes more whole = refl
names_goes size later (suc k) bytes more whole =
    then_goes (behind more) (behind more) _ _ _ _ (bytes_goes size later 48 bytes more)
    (λ name. then_goes (behind more) (behind more) _ _ _ _ (names_goes size later k name.1 more) (λ names end. refl)) whole

by_goes : (size later kind : ℕ) (bytes more : List ℕ) → Goes (behind more) (parents_by size kind bytes) (parents_by later kind (bytes ++ more))
unfolding parents_by
by_goes size later zero bytes more whole = refl
by_goes size later (suc k) bytes more whole =
    then_goes (behind more) (behind more) _ _ _ _ (bytes_goes size later 48 bytes more)
    (λ self_parent. then_goes (behind more) (behind more) _ _ _ _ (names_goes size later (suc k) self_parent.1 more) (λ others end. refl)) whole

kind_goes : {A : Type 0} (is : Bool) (kind : ℕ) (more : List ℕ) (read later : Field A) → Goes (behind more) read later
    → Goes (behind more) (cond is read (Err (BadKind kind))) (cond is later (Err (BadKind kind)))
kind_goes true kind more read later goes whole = goes whole
kind_goes false kind more read later goes whole = refl

parents_goes : (size later : ℕ) (several : Bool) (bytes more : List ℕ) → Goes (behind more) (parents_field size several bytes) (parents_field later several (bytes ++ more))
unfolding parents_field
parents_goes size later several [] more whole = absurd cc
parents_goes size later several (kind ∷ rest) more whole = kind_goes (is_kind several kind) kind more _ _ (by_goes size later kind rest more) whole

limit_goes : {A : Type 0} (long : Bool) (n : ℕ) (more : List ℕ) (read later : Field A) → Goes (behind more) read later
    → Goes (behind more) (cond long (Err (BadLength n)) read) (cond long (Err (BadLength n)) later)
limit_goes true n more read later goes whole = refl
limit_goes false n more read later goes whole = goes whole

payload_goes : (size later : ℕ) (bytes more : List ℕ) → Goes (behind more) (payload_field size bytes) (payload_field later (bytes ++ more))
unfolding payload_field
payload_goes size later bytes more = then_goes (behind more) (behind more) _ _ _ _ (number_goes size later w16 bytes more)
    (λ len. limit_goes (ltb payload_limit len.0) len.0 more _ _ (bytes_goes size later len.0 len.1 more))

-- ---- the magic

pub has_magic : (bytes : List ℕ) → starts_with nat_eq bytes magic ≡ true → bytes ≡ magic ++ drop 3 bytes
has_magic bytes = (starts_is Decides-eqb bytes magic (starts_with nat_eq bytes magic) refl).0

pub magic_has : (bytes rest : List ℕ) → bytes ≡ magic ++ rest → starts_with nat_eq bytes magic ≡ true
magic_has bytes rest = (starts_is Decides-eqb bytes magic (starts_with nat_eq bytes magic) refl).1 rest

pub is_part : (bytes : List ℕ) → starts_with nat_eq magic bytes ≡ true → magic ≡ bytes ++ drop (length bytes) magic
is_part bytes = (starts_is Decides-eqb magic bytes (starts_with nat_eq magic bytes) refl).0

part_is : (bytes rest : List ℕ) → magic ≡ bytes ++ rest → starts_with nat_eq magic bytes ≡ true
part_is bytes rest = (starts_is Decides-eqb magic bytes (starts_with nat_eq magic bytes) refl).1 rest

not_true : (b : Bool) → (b ≡ true → ⊥) → b ≡ false
not_true true isnt = absurd (isnt refl)
not_true false isnt = refl

-- neither is the beginning of the other, whatever follows
bad_magic : (later : ℕ) (bytes more : List ℕ) → starts_with nat_eq bytes magic ≡ false → starts_with nat_eq magic bytes ≡ false → form_field later (bytes ++ more) ≡ Err BadMagic
unfolding form_field
bad_magic later bytes more not_whole not_part =
    let no_whole : bytes ≡ magic ++ drop 3 bytes → ⊥ = λ e. (let is = magic_has bytes (drop 3 bytes) e in cc (sym not_whole ∙ is)) in
    let no_part : (rest : List ℕ) → magic ≡ bytes ++ rest → ⊥ = λ rest e. (let is = part_is bytes rest e in cc (sym not_part ∙ is)) in
    let whole : starts_with nat_eq (bytes ++ more) magic ≡ false = not_true _ (λ is.
    let e = has_magic (bytes ++ more) is in
    elim (cases_lt (length bytes) 3) [
      | inl short ↦ (
          let n = length bytes in
          let part : bytes ≡ take n magic = sym (take_at bytes more n refl) ∙ ap (take n) e ∙ take-append-le n magic (drop 3 (bytes ++ more)) (omega (arith, short)) in
          no_part (drop n magic) (sym (take-append-drop n magic) ∙ ap (λ (t : List ℕ). t ++ drop n magic) (sym part)))
      | inr long ↦ no_whole (sym (take-append-drop 3 bytes) ∙ ap (λ (t : List ℕ). t ++ drop 3 bytes) (sym (take-append-le 3 bytes more long) ∙ ap (take 3) e))
    ]) in
    let part : starts_with nat_eq magic (bytes ++ more) ≡ false = not_true _ (λ is.
    no_part _ (is_part (bytes ++ more) is ∙ append_assoc bytes more (drop (length (bytes ++ more)) magic))) in
    rw (whole, part) refl

magic_read : (size : ℕ) (bytes rest : List ℕ) → bytes ≡ magic ++ rest → form_field size bytes ≡ form_of size rest
unfolding form_field
magic_read size bytes rest e = ap (form_field size) e

early : (size : ℕ) (bytes : List ℕ) → starts_with nat_eq bytes magic ≡ false → starts_with nat_eq magic bytes ≡ true → is_short (form_field size bytes) ≡ false → ⊥
unfolding form_field
early size bytes not_whole part end = let is = rw (not_whole, part) at end in cc

late : (size : ℕ) (bytes more : List ℕ) → starts_with nat_eq bytes magic ≡ false → starts_with nat_eq magic bytes ≡ false → grown (behind more) (form_field size bytes) ≡ Err BadMagic
unfolding form_field
late size bytes more not_whole not_part = rw (not_whole, not_part) refl

digit_goes : (one two : Bool) (rest more : List ℕ)
    → Goes (behind more) (cond one (done (false, rest)) (cond two (Ok (true, rest)) (Err BadMagic))) (cond one (done (false, rest ++ more)) (cond two (Ok (true, rest ++ more)) (Err BadMagic)))
digit_goes true two rest more whole = refl
digit_goes false true rest more whole = refl
digit_goes false false rest more whole = refl

form_of_goes : (size later : ℕ) (bytes more : List ℕ) → Goes (behind more) (form_of size bytes) (form_of later (bytes ++ more))
unfolding form_of
form_of_goes size later [] more whole = absurd cc
form_of_goes size later (digit ∷ rest) more whole = digit_goes (eqb digit 0x31) (eqb digit 0x32) rest more whole

form_goes : (size later : ℕ) (bytes more : List ℕ) → Goes (behind more) (form_field size bytes) (form_field later (bytes ++ more))
form_goes size later bytes more = elim (cases_Bool (starts_with nat_eq bytes magic)) [
  | inl whole ↦ (
      let rest = drop 3 bytes in
      let e = has_magic bytes whole in
      let then = magic_read later (bytes ++ more) (rest ++ more) (ap (λ (b : List ℕ). b ++ more) e ∙ append_assoc magic rest more) in
      rw (magic_read size bytes rest e, then) (form_of_goes size later rest more))
  | inr not_whole ↦ elim (cases_Bool (starts_with nat_eq magic bytes)) [
    | inl part ↦ (λ end. absurd (early size bytes not_whole part end))
    | inr not_part ↦ (λ end. bad_magic later bytes more not_whole not_part ∙ sym (late size bytes more not_whole not_part))
  ]
]

-- ---- the event

first_goes : (bytes more : List ℕ) → Goes (behind more) (read_first bytes) (read_first (bytes ++ more))
unfolding read_first
first_goes bytes more =
    let size = length bytes in
    let later = length (bytes ++ more) in
    then_goes (behind more) (behind more) _ _ _ _ (form_goes size later bytes more)
    (λ form. then_goes (behind more) (behind more) _ _ _ _ (number_goes size later w16 form.1 more)
    (λ creator. then_goes (behind more) (behind more) _ _ _ _ (parents_goes size later form.0 creator.1 more)
    (λ parents. then_goes (behind more) (behind more) _ _ _ _ (number_goes size later w64 parents.1 more)
    (λ time. then_goes (behind more) (behind more) _ _ _ _ (payload_goes size later time.1 more)
    (λ payload. then_goes (behind more) (behind more) _ _ _ _ (bytes_goes size later 64 payload.1 more) (λ sig whole. refl))))))

-- its size is the same too
sized_goes : (bytes more : List ℕ) (read later : Field Row) → Goes (behind more) read later → Stands (counted (length bytes) read) (counted (length (bytes ++ more)) later)
sized_goes bytes more (Ok first) later goes whole =
    ap (counted (length (bytes ++ more))) (goes refl)
    ∙ ap (λ (n : ℕ). Ok (first.0, n)) (omega (arith, length-append bytes more, length-append first.1 more))
sized_goes bytes more (Err fault) later goes whole = ap (counted (length (bytes ++ more))) (goes whole)

pub first_stands : (bytes more : List ℕ) → Stands (first_event bytes) (first_event (bytes ++ more))
first_stands bytes more = sized_goes bytes more (read_first bytes) (read_first (bytes ++ more)) (first_goes bytes more)
