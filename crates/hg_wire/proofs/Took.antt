-- What the reading of a field takes: a front of the bytes, by which alone it is read, and how many there are at least
use Rattle.std.proofs.Common.{◌≡◌, ℕ, zero, suc, ◌+◌, ◌*◌, ◌<◌, ◌≤◌, true, List, [], ◌∷◌, ◌++◌, length, take, drop, Option, Some, None, refl, sym, ap, ◌∙◌, arith, inl, inr}
use Rattle.std.specs.Prelude.{IfSome}
use Rattle.std.specs.List.{concat, AllByRecursion}
use Rattle.std.proofs.lemmas.Bool.{cases_lt}
use Rattle.std.proofs.lemmas.List.{length-append, take-append-drop, take-append-le, take_at}
use Rattle.hg_event.specs.First.{least_size}
use Rattle.hg_event.proofs.FrontSizes.{spelling_size}
use Rattle.hg_wire.specs.declared.message.Want.{Want}
use Rattle.hg_wire.specs.declared.message.Want.TheVariants as want
use Rattle.hg_wire.specs.declared.message.Message.{Message}
use Rattle.hg_wire.specs.declared.message.Message.TheVariants.{Have, Rows}
use Rattle.hg_wire.specs.declared.progress.Stage.{Stage}
use Rattle.hg_wire.specs.declared.progress.Stage.TheVariants.{AtHead, AtName, AtRow, AtLast, Shut, Over}
use Rattle.hg_wire.specs.Outcome.{Unfinished, Finished, Reader, ◌>>=◌}
use Rattle.hg_wire.specs.Reading.{head_field, last_field, many, name_field, parcel_of, row_field}
use Rattle.hg_wire.specs.Grammar.{AreBytes, IsEvent, IsName, head_bytes, last_bytes}
use Rattle.hg_wire.specs.Progress.{State, Next, Into, Done, after_count, after_name, after_row, body_on, field_at, finish, is_open, rest_at}
use Rattle.hg_wire.specs.Sizes.{behind, last_told, least_of}
use Rattle.hg_wire.proofs.Steps.{same_rest, same_value, went_on}
use Rattle.hg_wire.proofs.Bytes.{rest_fits}
use Rattle.hg_wire.proofs.Fronts.{row_again, row_found}
use Rattle.hg_wire.proofs.Found.{head_found, last_found, name_found, names_found, rows_found}
use Rattle.hg_wire.proofs.Told.{same_head, told_least}
use Rattle.hg_wire.proofs.Again.{head_again, last_again, name_again}

pub record Took (s : State) (stage : Stage) (bytes : List ℕ) (x : Next) (rest : List ℕ) : Type 0 where
  pub text : List ℕ
  pub whole : bytes ≡ text ++ rest
  pub again : (more : List ℕ) → field_at s stage (text ++ more) ≡ Finished x more
  pub least : (front more : List ℕ) → bytes ≡ front ++ more → least_of stage front ≤ length text

-- a field's value, and what is made of it
made_took : {A : Type 0} (s : State) (stage : Stage) (bytes : List ℕ) (x : Next) (rest : List ℕ) (one : Reader A) (make : A → Next) (text : List ℕ) (y : A) (mid : List ℕ)
    → ((b : List ℕ) → field_at s stage b ≡ (one b >>= (λ y rest. Finished (make y) rest))) → bytes ≡ text ++ mid → ((more : List ℕ) → one (text ++ more) ≡ Finished y more)
    → ((front more : List ℕ) → bytes ≡ front ++ more → least_of stage front ≤ length text) → Finished (make y) mid ≡ Finished x rest → Took s stage bytes x rest
made_took s stage bytes x rest one make text y mid is whole again least e = record {
  text = text;
  whole = whole ∙ ap (λ (t : List ℕ). text ++ t) (same_rest (make y) x mid rest e);
  again = λ more. is (text ++ more) ∙ ap (λ o. o >>= (λ y rest. Finished (make y) rest)) (again more) ∙ ap (λ (x : Next). Finished x more) (same_value (make y) x mid rest e);
  least = least;
}

flag_there : (last : Option (List ℕ)) → 1 ≤ length (last_bytes last)
flag_there None = omega arith
flag_there (Some name) = omega arith

-- it is no shorter than its first byte tells
last_least : (last : Option (List ℕ)) (rest front more : List ℕ) → IfSome last IsName → front ++ more ≡ last_bytes last ++ rest → last_told front ≤ length (last_bytes last)
last_least last rest [] more named e = flag_there last
last_least last rest (zero ∷ front) more named e = flag_there last
last_least None rest (suc flag ∷ front) more named e = (let none : suc flag ≡ 0 = same_head (suc flag) 0 (front ++ more) rest e in absurd (omega (arith, none)))
last_least (Some name) rest (suc flag ∷ front) more named e = omega (arith, named)

pub field_took : (s : State) (stage : Stage) (bytes : List ℕ) (x : Next) (rest : List ℕ) → AreBytes bytes → is_open stage ≡ true → field_at s stage bytes ≡ Finished x rest → Took s stage bytes x rest
unfolding field_at
field_took s AtHead bytes x rest fit opens e =
    let w = went_on (head_field s.want bytes) _ x rest e in
    let found = head_found s.want bytes w.0 w.1 fit w.2 in
    let size : length (head_bytes s.want w.0) ≡ 9 = refl in
    made_took s AtHead bytes x rest (head_field s.want) (after_count s s.want) (head_bytes s.want w.0) w.0 w.1 (λ b. refl) found.0
    (λ more. head_again s.want w.0 more found.1) (λ front more e. omega (arith, size)) w.3
field_took s (AtName k) bytes x rest fit opens e =
    let i = length s.names in
    let w = went_on (name_field i bytes) _ x rest e in
    let found = name_found i bytes w.0 w.1 fit w.2 in
    made_took s (AtName k) bytes x rest (name_field i) (after_name s k) w.0 w.0 w.1 (λ b. refl) found.1
    (λ more. name_again i w.0 more found.0) (λ front more e. omega (arith, found.0)) w.3
field_took s (AtRow k) bytes x rest fit opens e =
    let i = length s.rows in
    let w = went_on (row_field i bytes) _ x rest e in
    let found = row_found i bytes w.0 w.1 fit w.2 in
    made_took s (AtRow k) bytes x rest (row_field i) (after_row s k) w.0 w.0 w.1 (λ b. refl) found.1
    (λ more. row_again i w.0 more found.0) (λ front more e. told_least w.0 w.1 front more found.0.0 found.0.1 (sym e ∙ found.1)) w.3
field_took s AtLast bytes x rest fit opens e =
    let w = went_on (last_field bytes) _ x rest e in
    let found = last_found bytes w.0 w.1 w.2 in
    made_took s AtLast bytes x rest last_field (λ last. Done (Rows (parcel_of s.rows last))) (last_bytes w.0) w.0 w.1 (λ b. refl) found.1
    (λ more. last_again w.0 more found.0) (λ front more e. last_least w.0 w.1 front more found.0 (sym e ∙ found.1)) w.3
field_took s (Shut fault) bytes x rest fit opens e = absurd cc
field_took s Over bytes x rest fit opens e = absurd cc

-- a field that was not whole ends behind the bytes that were there
pub crosses : (s : State) (stage : Stage) (pending more : List ℕ) (x : Next) (rest : List ℕ) → field_at s stage pending ≡ Unfinished → Took s stage (pending ++ more) x rest → length rest < length more
crosses s stage pending more x rest waits took = elim (cases_lt (length rest) (length more)) [
  | inl less ↦ less
  | inr long ↦ (
      let n = length took.text in
      let small : n ≤ length pending = omega (arith, long, ap length took.whole, length-append pending more, length-append took.text rest) in
      let text : take n pending ≡ took.text = sym (take-append-le n pending more small) ∙ ap (take n) took.whole ∙ take_at took.text rest n refl in
      let front : pending ≡ took.text ++ drop n pending = sym (take-append-drop n pending) ∙ ap (λ (t : List ℕ). t ++ drop n pending) text in
      let e = sym waits ∙ ap (field_at s stage) front ∙ took.again (drop n pending) in
      absurd (cc e))
]

-- only an open field is waited for
pub waits_open : (s : State) (stage : Stage) (bytes : List ℕ) → field_at s stage bytes ≡ Unfinished → is_open stage ≡ true
unfolding field_at
waits_open s AtHead bytes e = refl
waits_open s (AtName k) bytes e = refl
waits_open s (AtRow k) bytes e = refl
waits_open s AtLast bytes e = refl
waits_open s (Shut fault) bytes e = absurd cc
waits_open s Over bytes e = absurd cc

-- ---- how many bytes are there at least

names_len : (names : List (List ℕ)) → AllByRecursion IsName names → length (concat names) ≡ 48 * length names
names_len [] are = refl
names_len (name ∷ names) are = omega (arith, length-append name (concat names), are.0, names_len names are.1)

rows_len : (rows : List (List ℕ)) → AllByRecursion IsEvent rows → least_size * length rows ≤ length (concat rows)
rows_len [] are = omega arith
rows_len (row ∷ rows) are = omega (arith, length-append row (concat rows), (spelling_size row are.0.0 are.0.1).0, rows_len rows are.1)

body_names : (s : State) (n : ℕ) (bytes : List ℕ) (m : Message) (rest : List ℕ) → AreBytes bytes → body_on s want.Have n bytes ≡ Finished m rest → 48 * n + length rest ≤ length bytes
unfolding body_on
body_names s n bytes m rest fit e =
    let w = went_on (many name_field (length s.names) n bytes) _ m rest e in
    let f = names_found (length s.names) n bytes w.0 w.1 fit w.2 in
    omega (arith, f.0, names_len w.0 f.1, ap length f.2, length-append (concat w.0) w.1, ap length (same_rest _ m w.1 rest w.3))

body_rows : (s : State) (n : ℕ) (bytes : List ℕ) (m : Message) (rest : List ℕ) → AreBytes bytes → body_on s want.Rows n bytes ≡ Finished m rest → least_size * n + 1 + length rest ≤ length bytes
unfolding body_on
body_rows s n bytes m rest fit e =
    let w = went_on (many row_field (length s.rows) n bytes) _ m rest e in
    let v = went_on (last_field w.1) _ m rest w.3 in
    let f = rows_found (length s.rows) n bytes w.0 w.1 fit w.2 in
    let l = last_found w.1 v.0 v.1 v.2 in
    omega (
      arith,
      f.0,
      rows_len w.0 f.1,
      ap length f.2,
      length-append (concat w.0) w.1,
      ap length l.1,
      length-append (last_bytes v.0) v.1,
      flag_there v.0,
      ap length (same_rest _ m v.1 rest v.3),
    )

body_least : (s : State) (w : Want) (n : ℕ) (bytes : List ℕ) (m : Message) (rest : List ℕ) → AreBytes bytes → body_on s w n bytes ≡ Finished m rest → length rest ≤ length bytes
body_least s want.Have n bytes m rest fit e = omega (arith, body_names s n bytes m rest fit e)
body_least s want.Rows n bytes m rest fit e = omega (arith, body_rows s n bytes m rest fit e)

last_rest : (s : State) (bytes : List ℕ) (m : Message) (rest : List ℕ) → (last_field bytes >>= (λ last rest. Finished (Rows (parcel_of s.rows last)) rest)) ≡ Finished m rest → 1 + length rest ≤ length bytes
last_rest s bytes m rest e =
    let w = went_on (last_field bytes) (λ last rest. Finished (Rows (parcel_of s.rows last)) rest) m rest e in
    let l = last_found bytes w.0 w.1 w.2 in
    omega (arith, ap length l.1, length-append (last_bytes w.0) w.1, flag_there w.0, ap length (same_rest _ m w.1 rest w.3))

rest_least : (s : State) (stage : Stage) (bytes : List ℕ) (m : Message) (rest : List ℕ) → AreBytes bytes → rest_at s stage bytes ≡ Finished m rest → length rest ≤ length bytes
unfolding rest_at
rest_least s AtHead bytes m rest fit e =
    let w = went_on (head_field s.want bytes) (body_on s s.want) m rest e in
    let found = head_found s.want bytes w.0 w.1 fit w.2 in
    let size = ap length found.0 ∙ length-append (head_bytes s.want w.0) w.1 in
    omega (arith, size, body_least s s.want w.0 w.1 m rest (rest_fits (head_bytes s.want w.0) w.1 fit found.0) w.3)
rest_least s (AtName k) bytes m rest fit e = body_least s want.Have (suc k) bytes m rest fit e
rest_least s (AtRow k) bytes m rest fit e = body_least s want.Rows (suc k) bytes m rest fit e
rest_least s AtLast bytes m rest fit e = omega (arith, last_rest s bytes m rest e)
rest_least s (Shut fault) bytes m rest fit e = absurd cc
rest_least s Over bytes m rest fit e = omega (arith, ap length (same_rest (Have []) m bytes rest e))

finish_least : (x : Next) (bytes : List ℕ) (m : Message) (rest : List ℕ) → AreBytes bytes → finish x bytes ≡ Finished m rest → length rest ≤ length bytes
finish_least (Into s) bytes m rest fit e = rest_least s s.stage bytes m rest fit e
finish_least (Done said) bytes m rest fit e = omega (arith, ap length (same_rest said m bytes rest e))

-- what stands behind a name or a row
name_behind : (s : State) (k : ℕ) (x bytes : List ℕ) (m : Message) (rest : List ℕ) → AreBytes bytes → finish (after_name s k x) bytes ≡ Finished m rest → 48 * k + length rest ≤ length bytes
unfolding rest_at
name_behind s zero x bytes m rest fit e = omega (arith, finish_least (Done (Have (s.names ++ x ∷ []))) bytes m rest fit e)
name_behind s (suc k) x bytes m rest fit e = body_names (record s { stage = AtName k; names = s.names ++ x ∷ [] }) (suc k) bytes m rest fit e

row_behind : (s : State) (k : ℕ) (x bytes : List ℕ) (m : Message) (rest : List ℕ) → AreBytes bytes → finish (after_row s k x) bytes ≡ Finished m rest → least_size * k + 1 + length rest ≤ length bytes
unfolding rest_at
row_behind s zero x bytes m rest fit e = omega (arith, last_rest (record s { stage = AtLast; rows = s.rows ++ x ∷ [] }) bytes m rest e)
row_behind s (suc k) x bytes m rest fit e = body_rows (record s { stage = AtRow k; rows = s.rows ++ x ∷ [] }) (suc k) bytes m rest fit e

pub behind_least : (s : State) (stage : Stage) (bytes : List ℕ) (x : Next) (mid : List ℕ) (m : Message) (rest : List ℕ) → AreBytes mid
    → field_at s stage bytes ≡ Finished x mid → finish x mid ≡ Finished m rest → behind stage + length rest ≤ length mid
unfolding field_at
behind_least s AtHead bytes x mid m rest fit e f = omega (arith, finish_least x mid m rest fit f)
behind_least s (AtName k) bytes x mid m rest fit e f =
    let w = went_on (name_field (length s.names) bytes) _ x mid e in
    name_behind s k w.0 mid m rest fit (ap (λ (x : Next). finish x mid) (same_value (after_name s k w.0) x w.1 mid w.3) ∙ f)
behind_least s (AtRow k) bytes x mid m rest fit e f =
    let w = went_on (row_field (length s.rows) bytes) _ x mid e in
    row_behind s k w.0 mid m rest fit (ap (λ (x : Next). finish x mid) (same_value (after_row s k w.0) x w.1 mid w.3) ∙ f)
behind_least s AtLast bytes x mid m rest fit e f = omega (arith, finish_least x mid m rest fit f)
behind_least s (Shut fault) bytes x mid m rest fit e f = absurd cc
behind_least s Over bytes x mid m rest fit e f = omega (arith, finish_least x mid m rest fit f)
