-- What is counted of an event at the front.
use Rattle.std.proofs.Common.{◌≡◌, ℕ, ◌-◌, ◌≤◌, List, ◌++◌, length, take, Ok, Err, sym, ap, subst, ◌∙◌, arith}
use Rattle.std.proofs.lemmas.List.{length-append, take_at}
use Rattle.hg_model.specs.declared.row.Row.{Row}
use Rattle.hg_life.specs.declared.answers.ByteFault.{ByteFault}
use Rattle.hg_life.specs.Spelling.{Spells}
use Rattle.hg_life.specs.Reading.{Field, read_event}
use Rattle.hg_event.specs.First.{counted, first_event, greatest_size, least_size, read_first}
use Rattle.hg_event.proofs.Fronts.{first_again, first_begins}
use Rattle.hg_event.proofs.FrontSizes.{spelling_size}
use Rattle.hg_event.proofs.Reading.{AreBytes}
use Rattle.hg_event.proofs.Spells.{faulty_read}

pub first_counted : (event rest : List ℕ) (row : Row) → Spells event row → first_event (event ++ rest) ≡ Ok (row, length event)
first_counted event rest row spells =
    ap (counted (length (event ++ rest))) (first_again event rest row spells)
    ∙ ap (λ (n : ℕ). Ok (row, n)) (omega (arith, length-append event rest))

-- what is said of the row at the front and of its size
pub record IsFirst (bytes : List ℕ) (row : Row) (len : ℕ) : Type 0 where
  pub spells : Spells (take len bytes) row
  pub within : len ≤ length bytes
  pub sized : (least_size ≤ len) × (len ≤ greatest_size)

pub is_first : (bytes rest : List ℕ) (row : Row) (len : ℕ) → AreBytes bytes → read_first bytes ≡ Ok (row, rest) → len ≡ length bytes - length rest → IsFirst bytes row len
is_first bytes rest row len fit e size =
    let begins = first_begins bytes (row, rest) fit e in
    let n : length begins.event ≡ len = omega (arith, size, ap length begins.whole, length-append begins.event rest) in
    let event : begins.event ≡ take len bytes = sym (ap (take len) begins.whole ∙ take_at begins.event rest len n) in
    record {
      spells = subst (λ (b : List ℕ). Spells b row) event begins.spells;
      within = omega (arith, size);
      sized = subst (λ (k : ℕ). (least_size ≤ k) × (k ≤ greatest_size)) n (spelling_size begins.event row begins.spells);
    }

pub first_faulty : (bytes : List ℕ) (fault : ByteFault) → read_first bytes ≡ Err fault → first_event bytes ≡ Err fault
first_faulty bytes fault e = ap (counted (length bytes)) e

counted_fault : (size : ℕ) (read : Field Row) (fault : ByteFault) → counted size read ≡ Err fault → read ≡ Err fault
counted_fault size (Ok first) fault e = absurd cc
counted_fault size (Err other) fault e = cc

-- the fault at the front is that of all the bytes
pub first_fault : (bytes : List ℕ) (fault : ByteFault) → first_event bytes ≡ Err fault → read_event bytes ≡ Err fault
first_fault bytes fault e = faulty_read bytes fault (counted_fault (length bytes) (read_first bytes) fault e)

-- the row and its size, once it was read
pub first_found : (bytes rest : List ℕ) (row : Row) (len : ℕ) → read_first bytes ≡ Ok (row, rest) → len ≡ length bytes - length rest → first_event bytes ≡ Ok (row, len)
first_found bytes rest row len e size = ap (counted (length bytes)) e ∙ ap (λ (n : ℕ). Ok (row, n)) (sym size)
