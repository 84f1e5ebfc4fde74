-- The event that a row is, as its reading at the front of some bytes gives it
use Rattle.std.proofs.Common.{◌≡◌, ℕ, ◌-◌, ◌<◌, ◌≤◌, List, ◌++◌, length, take, drop, Result, Ok, Err, refl, sym, ap, subst, ◌∙◌, arith}
use Rattle.std.proofs.lemmas.List.{take_at, drop_at, take-append-le, drop-append-le, take-append-drop}
use Rattle.hg_model.specs.declared.row.Row.{Row}
use Rattle.hg_life.specs.declared.answers.ByteFault.{ByteFault}
use Rattle.hg_life.specs.declared.answers.ByteFault.TheVariants.{Short, BadMagic, BadKind, BadLength, Trailing}
use Rattle.hg_life.specs.Spelling.{Spells}
use Rattle.hg_life.specs.Reading.{Field}
use Rattle.hg_event.specs.First.{counted, first_event, greatest_size, read_first}
use Rattle.hg_event.specs.First.{Stands as event_stands}
use Rattle.hg_event.proofs.FrontLaws.{first_counted, is_first}
use Rattle.hg_event.proofs.FrontSizes.{early_end}
use Rattle.hg_event.proofs.FrontsStand.{first_stands}
use Rattle.hg_event.proofs.Reading.{same_done}
use Rattle.hg_wire.specs.Outcome.{Unfinished, Finished, Stands, IsStable}
use Rattle.hg_wire.specs.Reading.{row_field, row_seen}
use Rattle.hg_wire.specs.Grammar.{AreBytes, IsEvent}
use Rattle.hg_wire.proofs.Steps.{same_rest, same_value}

counted_within : (size : ℕ) (read : Field Row) (first : Row × ℕ) → counted size read ≡ Ok first → first.1 ≤ size
counted_within size (Ok found) first e =
    let same : (found.0, size - length found.1) ≡ first = same_done (found.0, size - length found.1) first e in
    omega (arith, ap (λ (p : Row × ℕ). p.1) same)
counted_within size (Err fault) first e = absurd cc

-- the event that was read lies within the bytes
pub first_within : (bytes : List ℕ) (first : Row × ℕ) → first_event bytes ≡ Ok first → first.1 ≤ length bytes
first_within bytes first e = counted_within (length bytes) (read_first bytes) first e

counted_spelled : (bytes : List ℕ) (read : Field Row) (first : Row × ℕ) → AreBytes bytes → read_first bytes ≡ read → counted (length bytes) read ≡ Ok first → Spells (take first.1 bytes) first.0
counted_spelled bytes (Ok found) first fit is e =
    let same : (found.0, length bytes - length found.1) ≡ first = same_done (found.0, length bytes - length found.1) first e in
    subst (λ (p : Row × ℕ). Spells (take p.1 bytes) p.0) same (is_first bytes found.1 found.0 (length bytes - length found.1) fit is refl).spells
counted_spelled bytes (Err fault) first fit is e = absurd cc

-- what was read is spelled so
first_spelled : (bytes : List ℕ) (first : Row × ℕ) → AreBytes bytes → first_event bytes ≡ Ok first → Spells (take first.1 bytes) first.0
first_spelled bytes first fit e = counted_spelled bytes (read_first bytes) first fit refl e

-- the event that a row is
pub seen_is : (i : ℕ) (bytes : List ℕ) (r : Result (Row × ℕ) ByteFault) (x rest : List ℕ) → row_seen i bytes r ≡ Finished x rest
    → (first : Row × ℕ) × (r ≡ Ok first) × (take first.1 bytes ≡ x) × (drop first.1 bytes ≡ rest)
seen_is i bytes (Ok first) x rest e = (first, refl, same_value _ x (drop first.1 bytes) rest e, same_rest (take first.1 bytes) x _ rest e)
seen_is i bytes (Err (Short n)) x rest e = absurd cc
seen_is i bytes (Err BadMagic) x rest e = absurd cc
seen_is i bytes (Err (BadKind k)) x rest e = absurd cc
seen_is i bytes (Err (BadLength n)) x rest e = absurd cc
seen_is i bytes (Err (Trailing n)) x rest e = absurd cc

pub row_found : (i : ℕ) (bytes x rest : List ℕ) → AreBytes bytes → row_field i bytes ≡ Finished x rest → IsEvent x × (bytes ≡ x ++ rest)
unfolding row_field
row_found i bytes x rest fit e =
    let r = seen_is i bytes (first_event bytes) x rest e in (
      (r.0.0, subst (λ (t : List ℕ). Spells t r.0.0) r.2 (first_spelled bytes r.0 fit r.1)),
      sym (take-append-drop r.0.1 bytes) ∙ ap (λ (t : List ℕ). t ++ drop r.0.1 bytes) r.2 ∙ ap (λ (t : List ℕ). x ++ t) r.3,
    )

pub row_again : (i : ℕ) (text rest : List ℕ) → IsEvent text → row_field i (text ++ rest) ≡ Finished text rest
unfolding row_field
row_again i text rest is =
    ap (row_seen i (text ++ rest)) (first_counted text rest is.0 is.1)
    ∙ ap (λ (t : List ℕ). Finished t (drop (length text) (text ++ rest))) (take_at text rest (length text) refl)
    ∙ ap (λ (t : List ℕ). Finished text t) (drop_at text rest (length text) refl)

-- ---- more bytes

seen_stands : (i : ℕ) (bytes more : List ℕ) (r later : Result (Row × ℕ) ByteFault) → event_stands r later → ((first : Row × ℕ) → r ≡ Ok first → first.1 ≤ length bytes)
    → Stands more (row_seen i bytes r) (row_seen i (bytes ++ more) later)
seen_stands i bytes more (Ok first) later stands within =
    let le = within first refl in
    ap (row_seen i (bytes ++ more)) (stands refl)
    ∙ ap (λ (t : List ℕ). Finished t (drop first.1 (bytes ++ more))) (take-append-le first.1 bytes more le)
    ∙ ap (λ (t : List ℕ). Finished (take first.1 bytes) t) (drop-append-le first.1 bytes more le)
seen_stands i bytes more (Err (Short n)) later stands within = tt
seen_stands i bytes more (Err BadMagic) later stands within = ap (row_seen i (bytes ++ more)) (stands refl)
seen_stands i bytes more (Err (BadKind k)) later stands within = ap (row_seen i (bytes ++ more)) (stands refl)
seen_stands i bytes more (Err (BadLength n)) later stands within = ap (row_seen i (bytes ++ more)) (stands refl)
seen_stands i bytes more (Err (Trailing n)) later stands within = ap (row_seen i (bytes ++ more)) (stands refl)

pub row_stable : (i : ℕ) → IsStable (row_field i)
unfolding row_field
row_stable i bytes more = seen_stands i bytes more (first_event bytes) (first_event (bytes ++ more)) (first_stands bytes more) (first_within bytes)

-- ---- bytes that are not a whole row yet

seen_waits : (i : ℕ) (bytes : List ℕ) (r : Result (Row × ℕ) ByteFault) → row_seen i bytes r ≡ Unfinished → (n : ℕ) × (r ≡ Err (Short n))
seen_waits i bytes (Ok first) e = absurd cc
seen_waits i bytes (Err (Short n)) e = (n, refl)
seen_waits i bytes (Err BadMagic) e = absurd cc
seen_waits i bytes (Err (BadKind k)) e = absurd cc
seen_waits i bytes (Err (BadLength n)) e = absurd cc
seen_waits i bytes (Err (Trailing n)) e = absurd cc

pub row_waits : (i : ℕ) (bytes : List ℕ) → row_field i bytes ≡ Unfinished → length bytes < greatest_size
unfolding row_field
row_waits i bytes e = let short = seen_waits i bytes (first_event bytes) e in (early_end bytes short.0 short.1).1
