-- A request is what its payload's bytes spell, and its bytes are what they spell
use Rattle.std.proofs.Common.{◌≡◌, ℕ, zero, suc, ◌+◌, ◌^◌, ◌<◌, Bool, true, false, cond, List, [], ◌∷◌, ◌++◌, length, get_or, take, drop, refl, sym, ap, ap₂, subst, ◌∙◌, arith, inl, inr}
use Rattle.std.specs.Prelude.{◌==◌, Result, Ok, Err}
use Rattle.std.specs.Int.{w32, w64, from_be_bytes, to_be_bytes}
use Rattle.std.proofs.lemmas.Bool.{cases_lt, eqb-false, eqb-true, ne_eqb}
use Rattle.std.proofs.lemmas.List.{take-append-drop, length-take, length-take-le, length-drop, get_or_past, get_or-drop, get_or-take}
use Rattle.std.proofs.lemmas.Nat.{be_bytes_4, be_bytes_8, from_be_bytes-to_be_bytes_4, from_be_bytes-to_be_bytes_8}
use Rattle.order_match.specs.declared.request.Side.{Side}
use Rattle.order_match.specs.declared.request.Side.TheVariants.{Buy, Sell}
use Rattle.order_match.specs.declared.request.Request.{Request}
use Rattle.order_match.specs.declared.request.Request.TheVariants.{Nothing, Place, Cancel}
use Rattle.order_match.specs.declared.request.RequestFault.{RequestFault}
use Rattle.order_match.specs.declared.request.RequestFault.TheVariants.{NoQuantity}
use Rattle.order_match.specs.Requests.{side_kind, request_bytes, placing, request_of, read_request}
use Rattle.order_match.specs.Laws.{IsRequest}

-- ---- what is spelled is read

placing_by : (side : Side) (p price q quantity : ℕ) → p ≡ price → q ≡ quantity → (quantity == 0) ≡ false →
    cond (q == 0) (Err NoQuantity) (Ok (Place side p q)) ≡ Ok (Place side price quantity)
placing_by side p price q quantity ep eq some = rw (ep, eq, some) refl

placing_read : (side : Side) (price quantity : ℕ) → price < 2 ^ 32 → quantity < 2 ^ 32 → 0 < quantity →
    placing side (to_be_bytes w32 price ++ to_be_bytes w32 quantity) ≡ Ok (Place side price quantity)
placing_read side price quantity low few some =
    placing_by side (from_be_bytes w32 (to_be_bytes w32 price)) price (from_be_bytes w32 (to_be_bytes w32 quantity)) quantity
    (from_be_bytes-to_be_bytes_4 price low) (from_be_bytes-to_be_bytes_4 quantity few) (ne_eqb quantity 0 (λ e. omega arith))

pub request_read : (request : Request) → IsRequest request → read_request (request_bytes request) ≡ Ok request
unfolding read_request request_bytes
request_read Nothing is = refl
request_read (Place Buy price quantity) is = placing_read Buy price quantity is.0 is.1 is.2
request_read (Place Sell price quantity) is = placing_read Sell price quantity is.0 is.1 is.2
request_read (Cancel number) is = ap (λ (n : ℕ). Ok (Cancel n)) (from_be_bytes-to_be_bytes_8 number is)

-- ---- what is read is spelled

passed : (test : Bool) (read : Result Request RequestFault) (fault : RequestFault) (request : Request) → cond test read (Err fault) ≡ Ok request → (test ≡ true) × (read ≡ Ok request)
passed true read fault request e = (refl, e)
passed false read fault request e = absurd cc

failed : (test : Bool) (read request : Request) (fault : RequestFault) → cond test (Err fault) (Ok read) ≡ Ok request → (test ≡ false) × (read ≡ request)
failed true read request fault e = absurd cc
failed false read request fault e = (refl, cc)

-- four bytes of some spell a number, which spells them
record Four (bytes : List ℕ) : Type 0 where
  pub spelled : to_be_bytes w32 (from_be_bytes w32 bytes) ≡ bytes
  pub fits : from_be_bytes w32 bytes < 2 ^ 32

four : (bytes : List ℕ) → ((i : ℕ) → get_or bytes i 0 < 256) → length bytes ≡ 4 → Four bytes
four bytes are long = record {
  spelled = be_bytes_4 bytes _ long are refl;
  fits = omega (arith, are 0, are 1, are 2, are 3);
}

take_are : (n : ℕ) (bytes : List ℕ) → ((i : ℕ) → get_or bytes i 0 < 256) → (i : ℕ) → get_or (take n bytes) i 0 < 256
take_are n bytes are i =
    elim (cases_lt i n) [
      | inl below ↦ rw (get_or-take n bytes i 0 below) (are i)
      | inr past ↦ rw (get_or_past (take n bytes) i 0 (omega (arith, length-take n bytes))) (omega arith)
    ]

-- what is said of a request that was read
record IsSpelled (kind : ℕ) (fields : List ℕ) (request : Request) : Type 0 where
  pub fits : IsRequest request
  pub bytes : kind ∷ fields ≡ request_bytes request

placing_spelled : (side : Side) (fields : List ℕ) (request : Request) → ((i : ℕ) → get_or fields i 0 < 256) → length fields ≡ 8 → placing side fields ≡ Ok request → IsSpelled (side_kind side) fields request
unfolding request_bytes
placing_spelled side fields request are long read =
    let found : ((from_be_bytes w32 (drop 4 fields) == 0) ≡ false) × (Place side (from_be_bytes w32 (take 4 fields)) (from_be_bytes w32 (drop 4 fields)) ≡ request) =
    failed (from_be_bytes w32 (drop 4 fields) == 0) (Place side (from_be_bytes w32 (take 4 fields)) (from_be_bytes w32 (drop 4 fields))) request NoQuantity read in
    let front = four (take 4 fields) (take_are 4 fields are) (length-take-le 4 fields (omega (arith, long))) in
    let back = four (drop 4 fields) (λ i. rw get_or-drop (are (4 + i))) (omega (arith, long, length-drop 4 fields)) in
    let some : from_be_bytes w32 (drop 4 fields) ≡ 0 → ⊥ = eqb-false _ 0 found.0 in
    subst (λ (r : Request). IsSpelled (side_kind side) fields r) found.1 (record {
      fits = (front.fits, back.fits, omega (arith, some));
      bytes = ap (λ (rest : List ℕ). side_kind side ∷ rest) (sym (ap₂ (λ (a b : List ℕ). a ++ b) front.spelled back.spelled ∙ take-append-drop 4 fields));
    })

eight_below : (bytes : List ℕ) → ((i : ℕ) → get_or bytes i 0 < 256) → from_be_bytes w64 bytes < 2 ^ 64
eight_below bytes are = omega (arith, are 0, are 1, are 2, are 3, are 4, are 5, are 6, are 7)

cancel_spelled : (fields : List ℕ) → ((i : ℕ) → get_or fields i 0 < 256) → length fields ≡ 8 → IsSpelled 2 fields (Cancel (from_be_bytes w64 fields))
unfolding request_bytes
cancel_spelled fields are long = record {
  fits = eight_below fields are;
  bytes = ap (λ (rest : List ℕ). 2 ∷ rest) (sym (be_bytes_8 fields _ long are refl));
}

same_request : (a b : Request) (fault : RequestFault) → (let read : Result Request RequestFault = Ok a in read) ≡ Ok b → a ≡ b
same_request a b fault e = cc

of_kind : (kind : ℕ) (fields : List ℕ) (request : Request) → ((i : ℕ) → get_or fields i 0 < 256) → length fields ≡ 8 → request_of kind fields ≡ Ok request → IsSpelled kind fields request
of_kind zero fields request are long read = placing_spelled Buy fields request are long read
of_kind (suc zero) fields request are long read = placing_spelled Sell fields request are long read
of_kind (suc (suc zero)) fields request are long read =
    subst (λ (r : Request). IsSpelled 2 fields r) (same_request _ request NoQuantity read) (cancel_spelled fields are long)
of_kind (suc (suc (suc k))) fields request are long read = absurd cc

pub request_spelled : (bytes : List ℕ) (request : Request) → ((i : ℕ) → get_or bytes i 0 < 256) → read_request bytes ≡ Ok request → IsRequest request × (bytes ≡ request_bytes request)
unfolding read_request request_bytes
request_spelled [] request are read = subst (λ (r : Request). IsRequest r × ([] ≡ request_bytes r)) (same_request Nothing request NoQuantity read) (tt, refl)
request_spelled (kind ∷ fields) request are read =
    let tests = passed _ _ _ request read in
    let spelled = of_kind kind fields request (λ i. are (suc i)) (eqb-true _ _ tests.0) tests.1 in
    (spelled.fits, spelled.bytes)
