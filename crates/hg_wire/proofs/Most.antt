-- At most how many bytes a field has, and at most how many hold no fault and no whole message
use Rattle.std.proofs.Common.{◌≡◌, ℕ, zero, suc, ◌+◌, ◌*◌, ◌<◌, ◌≤◌, Bool, true, false, cond, eqb, ltb, List, [], ◌∷◌, ◌++◌, length, take, drop, Some, Result, Ok, Err, refl, sym, ap, ◌∙◌, arith, inl, inr}
use Rattle.std.specs.Prelude.{⊤}
use Rattle.std.specs.Int.{w32, from_be_bytes}
use Rattle.std.proofs.lemmas.Bool.{cases_lt, lt-ltb, le-ltb, ltb-false}
use Rattle.std.proofs.lemmas.List.{length-drop, length-take, take-append-drop}
use Rattle.hg_model.specs.declared.row.Row.{Row}
use Rattle.hg_life.specs.declared.answers.ByteFault.{ByteFault}
use Rattle.hg_life.specs.declared.answers.ByteFault.TheVariants.{Short, BadMagic, BadKind, BadLength, Trailing}
use Rattle.hg_event.specs.First.{first_event, greatest_size, is_short}
use Rattle.hg_event.proofs.FrontSizes.{early_end}
use Rattle.hg_event.proofs.FrontsStand.{first_stands}
use Rattle.hg_wire.specs.declared.message.Want.{Want}
use Rattle.hg_wire.specs.declared.message.Want.TheVariants as want
use Rattle.hg_wire.specs.declared.message.WireFault.{WireFault}
use Rattle.hg_wire.specs.declared.message.WireFault.TheVariants.{Magic, Kind, Count}
use Rattle.hg_wire.specs.declared.progress.Stage.{Stage}
use Rattle.hg_wire.specs.declared.progress.Stage.TheVariants.{AtHead, AtName, AtRow, AtLast, Shut, Over}
use Rattle.hg_wire.specs.Outcome.{Outcome, Unfinished, Faulty, Finished, Reader, ◌>>=◌}
use Rattle.hg_wire.specs.Reading.{body, count_field, count_limit, cut, head_field, kind_byte, kind_field, last_field, magic_byte, magic_field, many, name_field, read, row_field}
use Rattle.hg_wire.specs.Progress.{State, field_at}
use Rattle.hg_wire.specs.Ears.{most}
use Rattle.hg_wire.proofs.Steps.{made_waits, passed, same_value, went_on}
use Rattle.hg_wire.proofs.Fronts.{first_within, row_waits, seen_is}

-- a reading takes at most so many of the bytes, and waits only for fewer
abbrev AtMost : {A : Type 0} → ℕ → List ℕ → Outcome A → Type 0
AtMost n bytes Unfinished = length bytes < n
AtMost n bytes (Faulty fault) = ⊤
AtMost n bytes (Finished x rest) = length bytes ≤ n + length rest

onward : {A : Type 0} (n m : ℕ) (bytes rest : List ℕ) (o : Outcome A) → length bytes ≤ n + length rest → AtMost m rest o → AtMost (n + m) bytes o
onward n m bytes rest Unfinished front size = omega (arith, front, size)
onward n m bytes rest (Faulty fault) front size = tt
onward n m bytes rest (Finished x left) front size = omega (arith, front, size)

bind_most : {A B : Type 0} (n m : ℕ) (bytes : List ℕ) (o : Outcome A) (next : A → Reader B)
    → AtMost n bytes o → ((x : A) (rest : List ℕ) → o ≡ Finished x rest → AtMost m rest (next x rest)) → AtMost (n + m) bytes (o >>= next)
bind_most n m bytes Unfinished next size each = omega (arith, size)
bind_most n m bytes (Faulty fault) next size each = tt
bind_most n m bytes (Finished x rest) next size each = onward n m bytes rest (next x rest) size (each x rest refl)

weaken : {A : Type 0} (n m : ℕ) (bytes : List ℕ) (o : Outcome A) → n ≤ m → AtMost n bytes o → AtMost m bytes o
weaken n m bytes Unfinished le size = omega (arith, le, size)
weaken n m bytes (Faulty fault) le size = tt
weaken n m bytes (Finished x rest) le size = omega (arith, le, size)

test_most : {A : Type 0} (n : ℕ) (bytes : List ℕ) (b : Bool) (fault : WireFault) (o : Outcome A) → AtMost n bytes o → AtMost n bytes (cond b (Faulty fault) o)
test_most n bytes true fault o size = tt
test_most n bytes false fault o size = size

match_most : {A : Type 0} (n : ℕ) (bytes : List ℕ) (b : Bool) (fault : WireFault) (o : Outcome A) → AtMost n bytes o → AtMost n bytes (cond b o (Faulty fault))
match_most n bytes true fault o size = size
match_most n bytes false fault o size = tt

-- ---- the fields

cut_most : (n : ℕ) (bytes : List ℕ) → AtMost n bytes (cut n bytes)
unfolding cut
cut_most n bytes = elim (cases_lt (length bytes) n) [
  | inl short ↦ rw (lt-ltb (length bytes) n short) short
  | inr long ↦ rw (le-ltb (length bytes) n long) (omega (arith, length-drop n bytes))
]

magic_byte_most : (at byte : ℕ) (bytes : List ℕ) → AtMost 1 bytes (magic_byte at byte bytes)
unfolding magic_byte
magic_byte_most at byte [] = omega arith
magic_byte_most at byte (b ∷ rest) = match_most 1 (b ∷ rest) (eqb b byte) (Magic at) (Finished b rest) (omega arith)

magic_most : (bytes : List ℕ) → AtMost 4 bytes (magic_field bytes)
unfolding magic_field
magic_most bytes = bind_most 1 3 bytes (magic_byte 0 0x48 bytes) _ (magic_byte_most 0 0x48 bytes)
    (λ _ rest e. bind_most 1 2 rest (magic_byte 1 0x47 rest) _ (magic_byte_most 1 0x47 rest)
    (λ _ rest e. bind_most 1 1 rest (magic_byte 2 0x57 rest) _ (magic_byte_most 2 0x57 rest) (λ _ rest e. magic_byte_most 3 0x31 rest)))

kind_most : (w : Want) (bytes : List ℕ) → AtMost 1 bytes (kind_field w bytes)
unfolding kind_field
kind_most w [] = omega arith
kind_most w (b ∷ rest) = match_most 1 (b ∷ rest) (eqb b (kind_byte w)) (Kind b) (Finished b rest) (omega arith)

count_most : (bytes : List ℕ) → AtMost 4 bytes (count_field bytes)
unfolding count_field
count_most bytes = bind_most 4 0 bytes (cut 4 bytes) _ (cut_most 4 bytes)
    (λ digits rest e. test_most 0 rest (ltb count_limit (from_be_bytes w32 digits)) (Count (from_be_bytes w32 digits)) (Finished (from_be_bytes w32 digits) rest) (omega arith))

head_most : (w : Want) (bytes : List ℕ) → AtMost 9 bytes (head_field w bytes)
unfolding head_field
head_most w bytes = bind_most 4 5 bytes (magic_field bytes) _ (magic_most bytes)
    (λ _ rest e. bind_most 1 4 rest (kind_field w rest) _ (kind_most w rest) (λ _ rest e. count_most rest))

name_most : (i : ℕ) (bytes : List ℕ) → AtMost 48 bytes (name_field i bytes)
unfolding name_field
name_most i bytes = cut_most 48 bytes

not_short : (r : Result (Row × ℕ) ByteFault) → ((n : ℕ) → r ≡ Err (Short n) → ⊥) → is_short r ≡ false
not_short (Ok first) none = refl
not_short (Err (Short n)) none = absurd (none n refl)
not_short (Err BadMagic) none = refl
not_short (Err (BadKind k)) none = refl
not_short (Err (BadLength n)) none = refl
not_short (Err (Trailing n)) none = refl

-- an event at the front has at most the greatest size: of so many bytes none are too few
first_size : (bytes : List ℕ) (first : Row × ℕ) → first_event bytes ≡ Ok first → first.1 ≤ greatest_size
first_size bytes first e = elim (cases_lt (length bytes) greatest_size) [
  | inl short ↦ omega (arith, short, first_within bytes first e)
  | inr long ↦ (
      let front = take greatest_size bytes in
      let len : length front ≡ greatest_size = omega (arith, length-take greatest_size bytes, long) in
      let all : front ++ drop greatest_size bytes ≡ bytes = take-append-drop greatest_size bytes in
      let enough : is_short (first_event front) ≡ false = not_short (first_event front) (λ n short. let fewer = (early_end front n short).1 in omega (arith, len, fewer)) in
      let same : first_event bytes ≡ first_event front = ap first_event (sym all) ∙ first_stands front (drop greatest_size bytes) enough in
      omega (arith, len, first_within front first (sym same ∙ e)))
]

of_outcome : {A : Type 0} (n : ℕ) (bytes : List ℕ) (o : Outcome A) → (o ≡ Unfinished → length bytes < n) → ((x : A) (rest : List ℕ) → o ≡ Finished x rest → length bytes ≤ n + length rest) → AtMost n bytes o
of_outcome n bytes Unfinished waits ends = waits refl
of_outcome n bytes (Faulty fault) waits ends = tt
of_outcome n bytes (Finished x rest) waits ends = ends x rest refl

row_taken : (i : ℕ) (bytes x rest : List ℕ) → row_field i bytes ≡ Finished x rest → length bytes ≤ greatest_size + length rest
unfolding row_field
row_taken i bytes x rest e =
    let r = seen_is i bytes (first_event bytes) x rest e in
    omega (arith, first_size bytes r.0 r.1, ap length r.3, length-drop r.0.1 bytes)

row_most : (i : ℕ) (bytes : List ℕ) → AtMost greatest_size bytes (row_field i bytes)
row_most i bytes = of_outcome greatest_size bytes (row_field i bytes) (row_waits i bytes) (row_taken i bytes)

named_most : (rest : List ℕ) (o : Outcome (List ℕ)) → AtMost 48 rest o → AtMost 49 (1 ∷ rest) (o >>= (λ name rest. Finished (Some name) rest))
named_most rest Unfinished size = omega (arith, size)
named_most rest (Faulty fault) size = tt
named_most rest (Finished x left) size = omega (arith, size)

last_most : (bytes : List ℕ) → AtMost 49 bytes (last_field bytes)
unfolding last_field
last_most [] = omega arith
last_most (zero ∷ rest) = omega arith
last_most (suc zero ∷ rest) = named_most rest (cut 48 rest) (cut_most 48 rest)
last_most (suc (suc b) ∷ rest) = tt

waits_most : {A : Type 0} (n : ℕ) (bytes : List ℕ) (o : Outcome A) → o ≡ Unfinished → AtMost n bytes o → length bytes < n
waits_most n bytes Unfinished e size = size
waits_most n bytes (Faulty fault) e size = absurd cc
waits_most n bytes (Finished x rest) e size = absurd cc

-- a field that is not whole has fewer bytes than an event may have
pub field_waits : (s : State) (stage : Stage) (bytes : List ℕ) → field_at s stage bytes ≡ Unfinished → length bytes < greatest_size
unfolding field_at
field_waits s AtHead bytes e = let few = waits_most 9 bytes (head_field s.want bytes) (made_waits _ _ e) (head_most s.want bytes) in omega (arith, few)
field_waits s (AtName k) bytes e = let few = waits_most 48 bytes (name_field (length s.names) bytes) (made_waits _ _ e) (name_most (length s.names) bytes) in omega (arith, few)
field_waits s (AtRow k) bytes e = row_waits (length s.rows) bytes (made_waits _ _ e)
field_waits s AtLast bytes e = let few = waits_most 49 bytes (last_field bytes) (made_waits _ _ e) (last_most bytes) in omega (arith, few)
field_waits s (Shut fault) bytes e = absurd cc
field_waits s Over bytes e = absurd cc

-- ---- the message

many_most : (one : ℕ → Reader (List ℕ)) (most : ℕ) → ((i : ℕ) (bytes : List ℕ) → AtMost most bytes (one i bytes)) → (i n : ℕ) (bytes : List ℕ) → AtMost (most * n) bytes (many one i n bytes)
unfolding many
many_most one most each i zero bytes = omega arith
many_most one most each i (suc n) bytes =
    weaken (most + (most * n + 0)) (most * suc n) bytes _ (omega arith)
    (bind_most most (most * n + 0) bytes (one i bytes) _ (each i bytes)
    (λ x rest e. bind_most (most * n) 0 rest (many one (i + 1) n rest) _ (many_most one most each (i + 1) n rest) (λ xs left f. omega arith)))

body_most : (w : Want) (n : ℕ) (bytes : List ℕ) → AtMost (greatest_size * n + 49) bytes (body w n bytes)
unfolding body
body_most want.Have n bytes =
    weaken (48 * n + 49) (greatest_size * n + 49) bytes _ (omega arith)
    (bind_most (48 * n) 49 bytes (many name_field 0 n bytes) _ (many_most name_field 48 name_most 0 n bytes) (λ names rest e. omega arith))
body_most want.Rows n bytes = bind_most (greatest_size * n) 49 bytes (many row_field 0 n bytes) _ (many_most row_field greatest_size row_most 0 n bytes)
    (λ rows rest e. weaken (49 + 0) 49 rest _ (omega arith) (bind_most 49 0 rest (last_field rest) _ (last_most rest) (λ last left f. omega arith)))

count_small : (bytes : List ℕ) (n : ℕ) (rest : List ℕ) → count_field bytes ≡ Finished n rest → n ≤ count_limit
unfolding count_field
count_small bytes n rest e =
    let d = went_on (cut 4 bytes) _ n rest e in
    let w = passed (ltb count_limit (from_be_bytes w32 d.0)) (Count (from_be_bytes w32 d.0)) (Finished (from_be_bytes w32 d.0) d.1) n rest d.3 in
    let small : from_be_bytes w32 d.0 ≤ count_limit = ltb-false _ _ w.0 in
    omega (arith, small, same_value (from_be_bytes w32 d.0) n d.1 rest w.1)

head_small : (w : Want) (bytes : List ℕ) (n : ℕ) (rest : List ℕ) → head_field w bytes ≡ Finished n rest → n ≤ count_limit
unfolding head_field
head_small w bytes n rest e =
    let a = went_on (magic_field bytes) (λ _ rest. kind_field w rest >>= (λ _ rest. count_field rest)) n rest e in
    let b = went_on (kind_field w a.1) (λ _ rest. count_field rest) n rest a.3 in
    count_small b.1 n rest b.3

-- what holds no fault and no whole message is shorter than a message may be
pub read_most : (w : Want) (bytes : List ℕ) → read w bytes ≡ Unfinished → length bytes < most
unfolding read
read_most w bytes e =
    waits_most (9 + (greatest_size * count_limit + 49)) bytes (read w bytes) e
    (bind_most 9 (greatest_size * count_limit + 49) bytes (head_field w bytes) (body w) (head_most w bytes)
    (λ n rest f. weaken (greatest_size * n + 49) (greatest_size * count_limit + 49) rest (body w n rest) (omega (arith, head_small w bytes n rest f)) (body_most w n rest)))
