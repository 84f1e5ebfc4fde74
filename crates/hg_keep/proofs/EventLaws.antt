-- Reading events one after the other.
use Rattle.std.proofs.Common.{◌≡◌, ℕ, zero, suc, ◌+◌, ◌-◌, ◌<◌, ◌≤◌, List, [], ◌∷◌, ◌++◌, length, take, drop, refl, sym, ◌∙◌, ap, append_assoc, length-drop, arith}
use Rattle.std.specs.Prelude.{Ok, Err}
use Rattle.hg_model.specs.declared.row.Row.{Row}
use Rattle.hg_life.specs.declared.answers.ByteFault.{ByteFault}
use Rattle.hg_event.specs.First.{first_event}
use Rattle.hg_keep.specs.Events.{Events, behind_first, events_for, events_of, with_front}

front_none : (events : Events) → with_front [] events ≡ events
front_none (Ok events) = refl
front_none (Err fault) = refl

front_on : (xs ys : List (List ℕ)) (events : Events) → with_front (xs ++ ys) events ≡ with_front xs (with_front ys events)
front_on xs ys (Ok events) = ap (λ (all : List (List ℕ)). (let r : Events = Ok all in r)) (append_assoc xs ys events)
front_on xs ys (Err fault) = refl

one_read : (n at len : ℕ) (bytes : List ℕ) (row : Row) → 0 < length bytes → first_event bytes ≡ Ok (row, len)
    → events_for (suc n) at bytes ≡ with_front (take len bytes ∷ []) (events_for n (at + len) (drop len bytes))
one_read n at len [] row some is = absurd (omega (arith, some))
one_read n at len (byte ∷ rest) row some is = ap (behind_first (events_for n) at (byte ∷ rest)) is

none_read : (n at : ℕ) (bytes : List ℕ) (fault : ByteFault) → 0 < length bytes → first_event bytes ≡ Err fault
    → events_for (suc n) at bytes ≡ Err (record { at = at; fault = fault })
none_read n at [] fault some is = absurd (omega (arith, some))
none_read n at (byte ∷ rest) fault some is = ap (behind_first (events_for n) at (byte ∷ rest)) is

at_end : (n at : ℕ) (bytes : List ℕ) → length bytes ≡ 0 → events_for n at bytes ≡ Ok []
at_end zero at bytes none = refl
at_end (suc n) at [] none = refl
at_end (suc n) at (byte ∷ rest) none = absurd (omega (arith, none))

-- what was read so far, and what the bytes that are left are, by some number that is enough for them
pub record IsReadTo (all : Events) (front : List (List ℕ)) (at : ℕ) (rest : List ℕ) : Type 0 where
  pub number : ℕ
  pub enough : length rest ≤ number
  pub is : with_front front (events_for number at rest) ≡ all

pub begun : (bytes : List ℕ) (front : List (List ℕ)) (at : ℕ) → front ≡ [] → at ≡ 0 → IsReadTo (events_of bytes) front at bytes
unfolding events_of
begun bytes front at none first = rw (none, first) (record { number = length bytes; enough = omega arith; is = front_none (events_for (length bytes) 0 bytes) })

more_for : (all : Events) (front : List (List ℕ)) (at len n : ℕ) (rest : List ℕ) (row : Row) → first_event rest ≡ Ok (row, len) → 0 < length rest → 1 ≤ len → len ≤ length rest
    → length rest ≤ n → with_front front (events_for n at rest) ≡ all → IsReadTo all (front ++ take len rest ∷ []) (at + len) (drop len rest)
more_for all front at len zero rest row is some least within enough so_far = absurd (omega (arith, some, enough))
more_for all front at len (suc n) rest row is some least within enough so_far = record {
  number = n;
  enough = omega (arith, length-drop len rest, least, within, enough);
  is = front_on front (take len rest ∷ []) _ ∙ ap (with_front front) (sym (one_read n at len rest row some is)) ∙ so_far;
}

pub more : (all : Events) (front next : List (List ℕ)) (size len : ℕ) (rest behind : List ℕ) (row : Row) → first_event rest ≡ Ok (row, len) → 0 < length rest → 1 ≤ len → len ≤ length rest
    → length rest ≤ size → behind ≡ drop len rest → next ≡ front ++ take len rest ∷ [] → IsReadTo all front (size - length rest) rest
    → IsReadTo all next (size - length behind) behind
more all front next size len rest behind row is some least within low behind_is next_is read =
    let place : size - length (drop len rest) ≡ (size - length rest) + len = omega (arith, length-drop len rest, within, low) in
    rw (behind_is, next_is, place) (more_for all front (size - length rest) len read.number rest row is some least within read.enough read.is)

faulty_for : (all : Events) (front : List (List ℕ)) (at n : ℕ) (rest : List ℕ) (fault : ByteFault) → first_event rest ≡ Err fault → 0 < length rest
    → length rest ≤ n → with_front front (events_for n at rest) ≡ all → all ≡ Err (record { at = at; fault = fault })
faulty_for all front at zero rest fault is some enough so_far = absurd (omega (arith, some, enough))
faulty_for all front at (suc n) rest fault is some enough so_far = sym so_far ∙ ap (with_front front) (none_read n at rest fault some is)

pub faulty : (all : Events) (front : List (List ℕ)) (at : ℕ) (rest : List ℕ) (fault : ByteFault) → first_event rest ≡ Err fault → 0 < length rest
    → IsReadTo all front at rest → all ≡ Err (record { at = at; fault = fault })
faulty all front at rest fault is some read = faulty_for all front at read.number rest fault is some read.enough read.is

append_none : (xs : List (List ℕ)) → xs ++ [] ≡ xs
append_none [] = refl
append_none (x ∷ xs) = ap (λ (ys : List (List ℕ)). x ∷ ys) (append_none xs)

pub ended : (all : Events) (front : List (List ℕ)) (at : ℕ) (rest : List ℕ) → length rest ≡ 0 → IsReadTo all front at rest → all ≡ Ok front
ended all front at rest none read =
    sym read.is ∙ ap (with_front front) (at_end read.number at rest none) ∙ ap (λ (xs : List (List ℕ)). (let r : Events = Ok xs in r)) (append_none front)
