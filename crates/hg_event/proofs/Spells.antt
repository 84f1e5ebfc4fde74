-- A row is what its bytes spell, just where it is what reading them gives.
use Rattle.std.proofs.Common.{◌≡◌, ℕ, ◌-◌, Bool, false, eqb, List, [], ◌++◌, length, take, Result, Ok, Err, refl, sym, ap, subst, ◌∙◌, arith}
use Rattle.std.specs.Int.{w16, w64}
use Rattle.std.proofs.lemmas.Bool.{eqb-true}
use Rattle.std.proofs.lemmas.List.{append-nil, nil_from_length, take_at, take-append-le, length-append}
use Rattle.sha2.specs.Sha512.{sha384}
use Rattle.hg_model.specs.declared.row.Row.{Row}
use Rattle.hg_model.specs.Links.{ParentNames}
use Rattle.hg_life.specs.declared.answers.ByteFault.{ByteFault}
use Rattle.hg_life.specs.declared.answers.ByteFault.TheVariants.{Trailing}
use Rattle.hg_life.specs.Spelling.{Spells, body_bytes, body_of, spelling}
use Rattle.hg_life.specs.Verdict.{signed_row}
use Rattle.hg_life.specs.Reading.{bytes_field, form_field, number_field, parents_field, payload_field, read_event}
use Rattle.hg_life.specs.Results.{Reads, ◌>>=◌}
use Rattle.std.specs.Prelude.{IfOk}
use Rattle.hg_event.specs.declared.view.EventView.{EventView}
use Rattle.hg_event.specs.First.{read_first}
use Rattle.hg_event.specs.View.{row_of}
use Rattle.hg_event.proofs.Fronts.{ended, first_again, first_begins, read_event_first}
use Rattle.hg_event.proofs.Reading.{AreBytes, done, same_done, was_true, went_on}

-- the name of a row that is spelled is that of its bytes
renamed : (bytes event : List ℕ) (row : Row) → bytes ≡ event → Spells event row → record row { name = sha384 bytes } ≡ row
renamed bytes event row same spells = ap (λ (name : List ℕ). record row { name = name }) (ap sha384 same ∙ sym spells.named)

-- what is read is spelled so
pub read_event-Spells : (bytes : List ℕ) (row : Row) → AreBytes bytes → read_event bytes ≡ Ok row → Spells bytes row
read_event-Spells bytes row fit e =
    let first = went_on (read_first bytes) (ended bytes) row (sym (read_event_first bytes) ∙ e) in
    let done = was_true (eqb (length first.0.1) 0) (Trailing (length first.0.1)) (Ok (record first.0.0 { name = sha384 bytes })) row first.2 in
    let begins = first_begins bytes first.0 fit first.1 in
    let same : bytes ≡ begins.event =
    begins.whole ∙ ap (λ (t : List ℕ). begins.event ++ t) (nil_from_length first.0.1 (eqb-true _ _ done.0)) ∙ append-nil begins.event in
    let named : first.0.0 ≡ row = sym (renamed bytes begins.event first.0.0 same begins.spells) ∙ same_done _ row done.1 in
    subst (λ (row : Row). Spells bytes row) named (subst (λ (b : List ℕ). Spells b first.0.0) (sym same) begins.spells)

-- what is spelled so is read
pub Spells-read_event : (bytes : List ℕ) (row : Row) → Spells bytes row → read_event bytes ≡ Ok row
Spells-read_event bytes row spells =
    read_event_first bytes
    ∙ ap (λ (read : Result (Row × List ℕ) ByteFault). read >>= ended bytes) (ap read_first (sym (append-nil bytes)) ∙ first_again bytes [] row spells)
    ∙ ap done (renamed bytes bytes row refl spells)

-- the bytes before the signature
pub Spells-body_of : (bytes : List ℕ) (row : Row) → Spells bytes row → take (length bytes - 64) bytes ≡ body_of row
unfolding spelling
Spells-body_of bytes row spells =
    let n : length (body_of row) ≡ length bytes - 64 = omega (arith, ap length spells.spelled, length-append (body_of row) row.sig, spells.sized.sig) in
    ap (take (length bytes - 64)) spells.spelled ∙ take_at (body_of row) row.sig (length bytes - 64) n

-- the row's name is that of its fields
pub Spells-signed_row : (bytes : List ℕ) (row : Row) → Spells bytes row → row ≡ signed_row row.creator row.parents row.time row.payload row.sig
unfolding spelling body_of
Spells-signed_row bytes row spells = ap (λ (name : List ℕ). record row { name = name }) (spells.named ∙ ap sha384 spells.spelled)

-- the fields, one read after the other, and what is signed of them
pub fields_read : (bytes : List ℕ) (form : Bool × List ℕ) (creator : ℕ × List ℕ) (parents : ParentNames × List ℕ) (time : ℕ × List ℕ) (payload sig : List ℕ × List ℕ)
    → AreBytes bytes → form_field (length bytes) bytes ≡ Ok form → number_field (length bytes) w16 form.1 ≡ Ok creator → parents_field (length bytes) form.0 creator.1 ≡ Ok parents
    → number_field (length bytes) w64 parents.1 ≡ Ok time → payload_field (length bytes) time.1 ≡ Ok payload → bytes_field (length bytes) 64 payload.1 ≡ Ok sig
    → take (length bytes - length sig.1 - 64) bytes ≡ body_bytes creator.0 parents.0 time.0 payload.0
unfolding read_first body_of
fields_read bytes form creator parents time payload sig fit a b c d e f =
    let row : Row = signed_row creator.0 parents.0 time.0 payload.0 sig.0 in
    let read : read_first bytes ≡ Ok (row, sig.1) = rw (a, b, c, d, e, f) refl in
    let begins = first_begins bytes (row, sig.1) fit read in
    let size : length bytes - length sig.1 - 64 ≡ length begins.event - 64 = omega (arith, ap length begins.whole, length-append begins.event sig.1) in
    ap (λ (n : ℕ). take n bytes) size ∙ ap (take (length begins.event - 64)) begins.whole ∙ take-append-le (length begins.event - 64) begins.event sig.1 (omega arith)
    ∙ Spells-body_of begins.event row begins.spells

-- what is read of all bytes, once their front was read
pub whole_read : (bytes : List ℕ) (first : Row × List ℕ) → AreBytes bytes → read_first bytes ≡ Ok first → length first.1 ≡ 0 → read_event bytes ≡ Ok first.0
whole_read bytes first fit e nothing =
    let begins = first_begins bytes first fit e in
    let same : bytes ≡ begins.event = begins.whole ∙ ap (λ (t : List ℕ). begins.event ++ t) (nil_from_length first.1 nothing) ∙ append-nil begins.event in
    subst (λ (b : List ℕ). read_event b ≡ Ok first.0) (sym same) (Spells-read_event begins.event first.0 begins.spells)

pub trailing_read : (bytes : List ℕ) (first : Row × List ℕ) → read_first bytes ≡ Ok first → eqb (length first.1) 0 ≡ false → read_event bytes ≡ Err (Trailing (length first.1))
trailing_read bytes first e some = read_event_first bytes ∙ ap (λ (read : Result (Row × List ℕ) ByteFault). read >>= ended bytes) e ∙ rw some refl

pub faulty_read : (bytes : List ℕ) (fault : ByteFault) → read_first bytes ≡ Err fault → read_event bytes ≡ Err fault
faulty_read bytes fault e = read_event_first bytes ∙ ap (λ (read : Result (Row × List ℕ) ByteFault). read >>= ended bytes) e

-- a reader's view shows what its bytes spell
pub IfOk-Spells : (bytes : List ℕ) (r : Result EventView ByteFault) → AreBytes bytes → Reads row_of r (read_event bytes) → IfOk r (λ view. Spells bytes (row_of view))
IfOk-Spells bytes (Ok view) fit gives = read_event-Spells bytes (row_of view) fit gives
IfOk-Spells bytes (Err fault) fit gives = tt

-- the parts of a row and of its bytes: what is signed of them, and the row again
pub parts_again : (bytes slice : List ℕ) (row : Row) (n : ℕ) (parents : ParentNames) (payload : List ℕ) → Spells bytes row → slice ≡ bytes → n ≡ length slice - 64
    → parents ≡ row.parents → payload ≡ row.payload
    → (take n slice ≡ body_bytes row.creator parents row.time payload) × (signed_row row.creator parents row.time payload row.sig ≡ row)
unfolding body_of
parts_again bytes slice row n parents payload spells whole size names paid =
    (rw (size, whole, names, paid) (Spells-body_of bytes row spells), rw (names, paid) (sym (Spells-signed_row bytes row spells)))
