-- What files of records stand for.
use Rattle.std.proofs.Common.{◌≡◌, ◌≢◌, ℕ, zero, suc, ◌+◌, ◌<◌, ◌≤◌, Bool, true, false, nat_eq, nat_le, if◌then◌else◌, List, [], ◌∷◌, ◌++◌, length, take, drop, Option, Some, None, refl, ◌∙◌, ap, arith, append_assoc, length-append, length-drop}
use Rattle.std.proofs.lemmas.Bool.Decides.{nat_tests}
use Rattle.std.proofs.lemmas.List.{take_at, drop_at}
use Rattle.hg_journal.specs.Records.{Cut, body_cut, record_of, size_of}
use Rattle.hg_journal.specs.Reading.{Next, Reading, Holds, behind_record, behind_gate, scan_for, scan, reading}
use Rattle.hg_journal.specs.Places.{Leads}

shorter_if : (t : Bool) (kind n : ℕ) (bytes : List ℕ) (cut : Cut)
    → (if t then Some (record { kind = kind; body = take n bytes; rest = drop n bytes }) else None) ≡ Some cut → length cut.rest ≤ length bytes
shorter_if true kind n bytes cut e =
    let same : drop n bytes ≡ cut.rest = cc in
    omega (arith, ap length same, length-drop n bytes)
shorter_if false kind n bytes cut e = absurd cc

record_shorter : (bytes : List ℕ) (cut : Cut) → record_of bytes ≡ Some cut → length cut.rest ≤ length bytes
record_shorter [] cut e = absurd cc
record_shorter (kind ∷ []) cut e = absurd cc
record_shorter (kind ∷ a ∷ []) cut e = absurd cc
record_shorter (kind ∷ a ∷ b ∷ bytes) cut e =
    let le = shorter_if (nat_le (size_of a b) (length bytes)) kind (size_of a b) bytes cut e in
    omega (arith, le)

module _ {S : Type 0} (next : Next S) where
  record_same : (go other : S → ℕ → List ℕ → Reading S) (at n : ℕ) (cut : Cut) (o : Option S) → length cut.rest ≤ n
      → ((s : S) (k : ℕ) (bytes : List ℕ) → length bytes ≤ n → go s k bytes ≡ other s k bytes)
      → behind_record go at cut o ≡ behind_record other at cut o
  record_same go other at n cut None short same = refl
  record_same go other at n cut (Some t) short same = same t (at + 4 + length cut.body) cut.rest short

  gate_same : (go other : S → ℕ → List ℕ → Reading S) (s : S) (at n : ℕ) (o : Option Cut) → ((cut : Cut) → o ≡ Some cut → length cut.rest ≤ n)
      → ((s : S) (k : ℕ) (bytes : List ℕ) → length bytes ≤ n → go s k bytes ≡ other s k bytes)
      → behind_gate next go s at o ≡ behind_gate next other s at o
  gate_same go other s at n None short same = refl
  gate_same go other s at n (Some cut) short same = record_same go other at n cut (next s cut.kind cut.body) (short cut refl) same

  -- how much more than the bytes the number is does not matter
  enough : (n m : ℕ) (s : S) (at : ℕ) (bytes : List ℕ) → length bytes < n → length bytes < m → scan_for next n s at bytes ≡ scan_for next m s at bytes
  enough zero m s at bytes l k = absurd (omega arith)
  enough (suc n) zero s at bytes l k = absurd (omega arith)
  enough (suc n) (suc m) s at [] l k = refl
  enough (suc n) (suc m) s at (gate ∷ rest) l k =
      ap (λ (r : Reading S). if nat_eq gate 0 then Holds s else r)
      (gate_same (scan_for next n) (scan_for next m) s at (length rest) (record_of rest) (record_shorter rest) (λ t j bytes le. enough n m t j bytes (omega (arith, l, le)) (omega (arith, k, le))))

pub record_spelled : (kind a b : ℕ) (body rest : List ℕ) → size_of a b ≡ length body
    → record_of (kind ∷ a ∷ b ∷ (body ++ rest)) ≡ Some (record { kind = kind; body = body; rest = rest })
record_spelled kind a b body rest size =
    let fit : length body ≤ length (body ++ rest) = omega (arith, length-append body rest) in
    let yes : nat_le (length body) (length (body ++ rest)) ≡ true = grind (arith, nat_tests) in
    ap (λ (n : ℕ). body_cut kind n (body ++ rest)) size
    ∙ ap (λ (t : Bool). if t then Some (record { kind = kind; body = take (length body) (body ++ rest); rest = drop (length body) (body ++ rest) }) else None) yes
    ∙ ap (λ (l : List ℕ). Some (record { kind = kind; body = l; rest = drop (length body) (body ++ rest) })) (take_at body rest (length body) refl)
    ∙ ap (λ (l : List ℕ). Some (record { kind = kind; body = body; rest = l })) (drop_at body rest (length body) refl)

module _ {S : Type 0} (next : Next S) where
  pub scan_closed : (s : S) (at : ℕ) (rest : List ℕ) → scan next s at (0 ∷ rest) ≡ Holds s
  unfolding scan
  scan_closed s at rest = refl

  pub scan_open : (s t : S) (at gate kind a b : ℕ) (body rest : List ℕ) → gate ≢ 0 → next s kind body ≡ Some t → size_of a b ≡ length body
      → scan next s at (gate ∷ kind ∷ a ∷ b ∷ (body ++ rest)) ≡ scan next t (at + 4 + length body) rest
  unfolding scan
  scan_open s t at gate kind a b body rest open_gate leads size =
      let n = length (gate ∷ kind ∷ a ∷ b ∷ (body ++ rest)) in
      let cut : Cut = record { kind = kind; body = body; rest = rest } in
      let shut : nat_eq gate 0 ≡ false = grind (arith, nat_tests) in
      ap (λ (t : Bool). if t then Holds s else behind_gate next (scan_for next n) s at (record_of (kind ∷ a ∷ b ∷ (body ++ rest)))) shut
      ∙ ap (λ (o : Option Cut). behind_gate next (scan_for next n) s at o) (record_spelled kind a b body rest size)
      ∙ ap (λ (o : Option S). behind_record (scan_for next n) at cut o) leads
      ∙ enough next n (suc (length rest)) t (at + 4 + length body) rest (omega (arith, length-append body rest)) (omega arith)

  pub leads_more : (first : S) (head front : List ℕ) (s t : S) (gate kind a b : ℕ) (body : List ℕ) → Leads next first head front s → gate ≢ 0 → next s kind body ≡ Some t → size_of a b ≡ length body
      → Leads next first head (front ++ gate ∷ kind ∷ a ∷ b ∷ body) t
  leads_more first head front s t gate kind a b body leads open_gate to size = record {
    reads = λ rest.
        let place : length front + 4 + length body ≡ length (front ++ gate ∷ kind ∷ a ∷ b ∷ body) = omega (arith, length-append front (gate ∷ kind ∷ a ∷ b ∷ body)) in
        ap (reading next first head) (append_assoc front (gate ∷ kind ∷ a ∷ b ∷ body) rest)
        ∙ leads.reads (gate ∷ kind ∷ a ∷ b ∷ (body ++ rest))
        ∙ scan_open s t (length front) gate kind a b body rest open_gate to size
        ∙ ap (λ (k : ℕ). scan next t k rest) place;
  }
