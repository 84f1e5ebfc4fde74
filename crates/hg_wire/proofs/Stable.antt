-- A fault and a value stand, whatever bytes come
use Rattle.std.proofs.Common.{◌≡◌, ℕ, zero, suc, ◌+◌, false, eqb, ltb, List, [], ◌∷◌, ◌++◌, length, Some, refl, arith, inl, inr}
use Rattle.std.specs.Int.{w32, from_be_bytes}
use Rattle.std.proofs.lemmas.Bool.{cases_lt, lt-ltb, le-ltb}
use Rattle.std.proofs.lemmas.List.{take-append-le, drop-append-le, length-append}
use Rattle.hg_wire.specs.declared.message.Want.{Want}
use Rattle.hg_wire.specs.declared.message.Want.TheVariants as want
use Rattle.hg_wire.specs.declared.message.Message.TheVariants.{Have, Rows}
use Rattle.hg_wire.specs.declared.message.WireFault.TheVariants.{Magic, Kind, Count}
use Rattle.hg_wire.specs.declared.progress.Stage.{Stage}
use Rattle.hg_wire.specs.declared.progress.Stage.TheVariants.{AtHead, AtName, AtRow, AtLast, Shut, Over}
use Rattle.hg_wire.specs.Outcome.{Finished, Reader, IsStable}
use Rattle.hg_wire.specs.Reading.{body, count_field, count_limit, cut, head_field, kind_byte, kind_field, last_field, magic_byte, magic_field, many, name_field, parcel_of, read, row_field}
use Rattle.hg_wire.specs.Progress.{State, Done, after_count, after_name, after_row, field_at}
use Rattle.hg_wire.proofs.Steps.{bind_stands, made_stands, match_stands, test_stands}
use Rattle.hg_wire.proofs.Fronts.{row_stable}

pub cut_stable : (n : ℕ) → IsStable (cut n)
unfolding cut
cut_stable n bytes more = elim (cases_lt (length bytes) n) [
  | inl short ↦ rw (lt-ltb (length bytes) n short) tt
  | inr long ↦ (
      let a : ltb (length bytes) n ≡ false = le-ltb _ _ long in
      let b : ltb (length (bytes ++ more)) n ≡ false = le-ltb _ _ (omega (arith, length-append bytes more)) in
      rw (a, b, take-append-le n bytes more long, drop-append-le n bytes more long) refl)
]

magic_byte_stable : (at byte : ℕ) → IsStable (magic_byte at byte)
unfolding magic_byte
magic_byte_stable at byte [] more = tt
magic_byte_stable at byte (b ∷ rest) more = match_stands more (eqb b byte) (Magic at) (Finished b rest) (Finished b (rest ++ more)) refl

magic_stable : IsStable magic_field
unfolding magic_field
magic_stable bytes more = bind_stands more _ _ _ (magic_byte_stable 0 0x48 bytes more)
    (λ _ bytes more. bind_stands more _ _ _ (magic_byte_stable 1 0x47 bytes more)
    (λ _ bytes more. bind_stands more _ _ _ (magic_byte_stable 2 0x57 bytes more)
    (λ _. magic_byte_stable 3 0x31)))

kind_stable : (w : Want) → IsStable (kind_field w)
unfolding kind_field
kind_stable w [] more = tt
kind_stable w (b ∷ rest) more = match_stands more (eqb b (kind_byte w)) (Kind b) (Finished b rest) (Finished b (rest ++ more)) refl

count_stable : IsStable count_field
unfolding count_field
count_stable bytes more = bind_stands more _ _ _ (cut_stable 4 bytes more)
    (λ digits bytes more. test_stands more (ltb count_limit (from_be_bytes w32 digits)) (Count (from_be_bytes w32 digits)) (Finished (from_be_bytes w32 digits) bytes) (Finished (from_be_bytes w32 digits) (bytes ++ more)) refl)

pub head_stable : (w : Want) → IsStable (head_field w)
unfolding head_field
head_stable w bytes more = bind_stands more _ _ _ (magic_stable bytes more)
    (λ _ bytes more. bind_stands more _ _ _ (kind_stable w bytes more) (λ _. count_stable))

pub name_stable : (i : ℕ) → IsStable (name_field i)
unfolding name_field
name_stable i = cut_stable 48

many_stable : (one : ℕ → Reader (List ℕ)) → ((i : ℕ) → IsStable (one i)) → (i n : ℕ) → IsStable (many one i n)
unfolding many
many_stable one each i zero bytes more = refl
many_stable one each i (suc n) bytes more = bind_stands more _ _ _ (each i bytes more)
    (λ x bytes more. made_stands more _ _ (λ xs. x ∷ xs) (many_stable one each (i + 1) n bytes more))

pub last_stable : IsStable last_field
unfolding last_field
last_stable [] more = tt
last_stable (zero ∷ rest) more = refl
last_stable (suc zero ∷ rest) more = made_stands more _ _ (λ name. Some name) (cut_stable 48 rest more)
last_stable (suc (suc b) ∷ rest) more = refl

body_stable : (w : Want) (n : ℕ) → IsStable (body w n)
unfolding body
body_stable want.Have n bytes more = made_stands more _ _ (λ names. Have names) (many_stable name_field name_stable 0 n bytes more)
body_stable want.Rows n bytes more = bind_stands more _ _ _ (many_stable row_field row_stable 0 n bytes more)
    (λ rows bytes more. made_stands more _ _ (λ last. Rows (parcel_of rows last)) (last_stable bytes more))

pub read_stable : (w : Want) → IsStable (read w)
unfolding read
read_stable w bytes more = bind_stands more _ _ _ (head_stable w bytes more) (body_stable w)

pub field_at_stable : (s : State) (stage : Stage) → IsStable (field_at s stage)
unfolding field_at
field_at_stable s AtHead bytes more = made_stands more _ _ (after_count s s.want) (head_stable s.want bytes more)
field_at_stable s (AtName k) bytes more = made_stands more _ _ (after_name s k) (name_stable (length s.names) bytes more)
field_at_stable s (AtRow k) bytes more = made_stands more _ _ (after_row s k) (row_stable (length s.rows) bytes more)
field_at_stable s AtLast bytes more = made_stands more _ _ (λ last. Done (Rows (parcel_of s.rows last))) (last_stable bytes more)
field_at_stable s (Shut fault) bytes more = refl
field_at_stable s Over bytes more = refl
