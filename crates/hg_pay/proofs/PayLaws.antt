-- Transfers are what their payload's bytes spell, and its bytes are what they spell
use Rattle.std.proofs.Common.{◌≡◌, ℕ, zero, suc, ◌+◌, ◌*◌, ◌/◌, ◌%◌, ◌^◌, ◌<◌, ◌≤◌, Bool, true, false, cond, eqb, leb, List, [], ◌∷◌, ◌++◌, length, get_or, take, drop, map, Option, Some, None, refl, sym, ap, ap₂, subst, ◌∙◌, append_assoc, arith, inl, inr}
use Rattle.std.specs.Prelude.{All, ◌==◌, ◌&&◌}
use Rattle.std.specs.Int.{w16, w64, from_be_bytes, to_be_bytes}
use Rattle.std.specs.Simd.{first_chunks}
use Rattle.std.proofs.lemmas.Bool.{and_parts, cases_lt, eq-eqb, eqb-true, le-leb, leb-true}
use Rattle.std.proofs.lemmas.List.{take-append-drop, take-take, drop-take, drop-drop, length-take, length-take-le, length-drop, nil_from_length, get_or_past, length-append, get_or-drop, get_or-take, append-nil, take_all, take_more}
use Rattle.std.proofs.lemmas.List.Elements.{All-cons}
use Rattle.std.proofs.lemmas.Nat.{be_bytes_2, be_bytes_8, from_be_bytes-to_be_bytes_2, from_be_bytes-to_be_bytes_8}
use Rattle.hg_life.specs.declared.pay.Transfer.{Transfer}
use Rattle.hg_life.specs.Pay.{pay_bytes, read_pay, transfer_bytes, transfer_in, transfer_limit, transfers_bytes, transfers_in}
use Rattle.hg_pay.specs.Laws.{AreBytes, ArePayable, IsTransfer}

-- ---- chunks of ten bytes

front_of_chunk : (bytes : List ℕ) → transfer_in (take 10 bytes) ≡ transfer_in bytes
front_of_chunk bytes = rw (take-take 2 10 bytes (omega arith), drop-take 2 8 bytes, take-take 8 8 (drop 2 bytes) (omega arith)) refl

pub chunks_known : (count : ℕ) (bytes : List ℕ) → map transfer_in (first_chunks 10 count bytes) ≡ transfers_in count bytes
chunks_known zero bytes = refl
chunks_known (suc count) bytes = ap₂ (λ (t : Transfer) (ts : List Transfer). t ∷ ts) (front_of_chunk bytes) (chunks_known count (drop 10 bytes))

-- ---- what is spelled is read

length-transfers_bytes : (ts : List Transfer) → length (transfers_bytes ts) ≡ 10 * length ts
length-transfers_bytes [] = refl
length-transfers_bytes (t ∷ ts) = omega (arith, length-transfers_bytes ts)

front_read : (t : Transfer) (rest : List ℕ) → IsTransfer t → transfer_in (transfer_bytes t ++ rest) ≡ t
front_read t rest fits = rw (from_be_bytes-to_be_bytes_2 t.receiver fits.receiver, from_be_bytes-to_be_bytes_8 t.amount fits.amount) refl

rest_read : (t : Transfer) (rest : List ℕ) → drop 10 (transfer_bytes t ++ rest) ≡ rest
rest_read t rest = refl

transfers_read : (ts : List Transfer) → All IsTransfer ts → transfers_in (length ts) (transfers_bytes ts) ≡ ts
transfers_read [] each = refl
transfers_read (t ∷ ts) each =
    ap₂ (λ (x : Transfer) (xs : List Transfer). x ∷ xs)
    (front_read t (transfers_bytes ts) (each 0 t (omega arith)))
    (ap (transfers_in (length ts)) (rest_read t (transfers_bytes ts)) ∙ transfers_read ts (λ k d below. each (suc k) d (omega arith)))

pub pay_read : (ts : List Transfer) → ArePayable ts → read_pay (pay_bytes ts) ≡ Some ts
unfolding read_pay pay_bytes
pay_read ts payable =
    let whole : length (transfers_bytes ts) == 10 * length ts ≡ true = eq-eqb _ _ (length-transfers_bytes ts) in
    let few : leb (length ts) transfer_limit ≡ true = le-leb _ _ payable.few in
    rw (few, whole) (ap Some (transfers_read ts payable.each))

-- ---- what is read is spelled

-- the first ten bytes spell a transfer, which spells them
record Front (bytes : List ℕ) : Type 0 where
  pub spelled : transfer_bytes (transfer_in bytes) ++ drop 10 bytes ≡ bytes
  pub fits : IsTransfer (transfer_in bytes)

take_are : (n : ℕ) (bytes : List ℕ) → AreBytes bytes → AreBytes (take n bytes)
take_are n bytes are i =
    elim (cases_lt i n) [
      | inl below ↦ rw (get_or-take n bytes i 0 below) (are i)
      | inr past ↦ rw (get_or_past (take n bytes) i 0 (omega (arith, length-take n bytes))) (omega arith)
    ]

two_below : (bytes : List ℕ) → AreBytes bytes → from_be_bytes w16 bytes < 2 ^ 16
two_below bytes are = omega (arith, are 0, are 1)

eight_below : (bytes : List ℕ) → AreBytes bytes → from_be_bytes w64 bytes < 2 ^ 64
eight_below bytes are = omega (arith, are 0, are 1, are 2, are 3, are 4, are 5, are 6, are 7)

drop_more : (bytes : List ℕ) → drop 8 (drop 2 bytes) ≡ drop 10 bytes
drop_more bytes = drop-drop 8 2 bytes

front_spelled : (bytes : List ℕ) → AreBytes bytes → 10 ≤ length bytes → Front bytes
front_spelled bytes are long =
    let receiver : to_be_bytes w16 (from_be_bytes w16 (take 2 bytes)) ≡ take 2 bytes =
    be_bytes_2 (take 2 bytes) _ (length-take-le 2 bytes (omega arith)) (take_are 2 bytes are) refl in
    let amount : to_be_bytes w64 (from_be_bytes w64 (take 8 (drop 2 bytes))) ≡ take 8 (drop 2 bytes) =
    be_bytes_8 (take 8 (drop 2 bytes)) _ (length-take-le 8 (drop 2 bytes) (omega (arith, length-drop 2 bytes))) (take_are 8 (drop 2 bytes) (λ i. rw get_or-drop (are (2 + i)))) refl in
    record {
      spelled = ap₂ (λ a b. (a ++ b) ++ drop 10 bytes) receiver amount ∙ append_assoc (take 2 bytes) _ _ ∙ ap (λ more. take 2 bytes ++ more) (ap (λ more. take 8 (drop 2 bytes) ++ more) (sym (drop_more bytes)) ∙ take-append-drop 8 (drop 2 bytes)) ∙ take-append-drop 2 bytes;
      fits = record {
        receiver = two_below (take 2 bytes) (take_are 2 bytes are);
        amount = eight_below (take 8 (drop 2 bytes)) (take_are 8 (drop 2 bytes) (λ i. rw get_or-drop (are (2 + i))));
      };
    }

record Spelled (count : ℕ) (bytes : List ℕ) : Type 0 where
  pub many : length (transfers_in count bytes) ≡ count
  pub spelled : transfers_bytes (transfers_in count bytes) ≡ bytes
  pub each : All IsTransfer (transfers_in count bytes)

transfers_spelled : (count : ℕ) (bytes : List ℕ) → AreBytes bytes → length bytes ≡ 10 * count → Spelled count bytes
transfers_spelled zero bytes are long = record { many = refl; spelled = sym (nil_from_length bytes long); each = λ k d below. absurd (omega arith) }
transfers_spelled (suc count) bytes are long =
    let front = front_spelled bytes are (omega arith) in
    let rest = transfers_spelled count (drop 10 bytes) (λ i. rw get_or-drop (are (10 + i))) (omega (arith, length-drop 10 bytes)) in
    record {
      many = ap suc rest.many;
      spelled = ap (λ more. transfer_bytes (transfer_in bytes) ++ more) rest.spelled ∙ front.spelled;
      each = All-cons IsTransfer _ _ front.fits rest.each;
    }

some_passed : (test : Bool) (read ts : List Transfer) → cond test (Some read) None ≡ Some ts → (test ≡ true) × (read ≡ ts)
some_passed true read ts e = (refl, cc)
some_passed false read ts e = absurd cc

pub pay_spelled : (bytes : List ℕ) (ts : List Transfer) → AreBytes bytes → read_pay bytes ≡ Some ts → ArePayable ts × (bytes ≡ pay_bytes ts)
unfolding read_pay pay_bytes
pay_spelled [] ts are read = absurd cc
pay_spelled (count ∷ rest) ts are read =
    let tests = some_passed (leb count transfer_limit && eqb (length rest) (10 * count)) _ ts read in
    let both = and_parts _ _ tests.0 in
    let few : count ≤ transfer_limit = leb-true _ _ both.0 in
    let long : length rest ≡ 10 * count = eqb-true _ _ both.1 in
    let spelled = transfers_spelled count rest (λ i. are (suc i)) long in
    subst (λ (ts : List Transfer). ArePayable ts × (count ∷ rest ≡ pay_bytes ts)) tests.1
    (record { few = rw spelled.many few; each = spelled.each }, ap₂ (λ (n : ℕ) (more : List ℕ). n ∷ more) (sym spelled.many) (sym spelled.spelled))

-- ---- what the code reads

-- a byte, and so many chunks behind it
pub pay_found : (count : ℕ) (rest : List ℕ) (chunks : List (List ℕ)) → chunks ≡ first_chunks 10 (length rest / 10) rest → count ≤ transfer_limit → length rest ≡ 10 * count → read_pay (count ∷ rest) ≡ Some (map transfer_in chunks)
unfolding read_pay
pay_found count rest chunks are few many =
    let whole : eqb (length rest) (10 * count) ≡ true = eq-eqb _ _ many in
    let within : leb count transfer_limit ≡ true = le-leb _ _ few in
    let matches : length rest / 10 ≡ count = omega arith in
    rw (within, whole, are, matches) (ap Some (sym (chunks_known count rest)))

-- ---- what the code writes

transfers_bytes_push : (ts : List Transfer) (t : Transfer) → transfers_bytes (ts ++ t ∷ []) ≡ transfers_bytes ts ++ transfer_bytes t
transfers_bytes_push [] t = append-nil (transfer_bytes t)
transfers_bytes_push (u ∷ ts) t = ap (λ more. transfer_bytes u ++ more) (transfers_bytes_push ts t)

pub transfers_bytes_more : (ts : List Transfer) (i : ℕ) (d : Transfer) → i < length ts → transfers_bytes (take (i + 1) ts) ≡ transfers_bytes (take i ts) ++ transfer_bytes (get_or ts i d)
transfers_bytes_more ts i d there = ap transfers_bytes (take_more ts i d there) ∙ transfers_bytes_push (take i ts) (get_or ts i d)

-- all of them, and how long that is
pub written_long : (ts : List Transfer) (i : ℕ) (bytes : List ℕ) → length ts ≤ i → bytes ≡ length ts ∷ transfers_bytes (take i ts) → length bytes ≡ 10 * length ts + 1
written_long ts i bytes past is = rw (is, take_all i ts past) (omega (arith, length-transfers_bytes ts))
