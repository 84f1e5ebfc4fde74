-- The records of a file, one after the other.
use Rattle.std.proofs.Common.{◌≡◌, inl, inr, ℕ, ◌+◌, ◌≤◌, Bool, false, nat_eq, if◌then◌else◌, List, ◌∷◌, ◌++◌, length, take, drop, Some, None, refl, sym, ◌∙◌, ap, subst, arith, append_assoc, length-append}
use Rattle.std.proofs.lemmas.Bool.Decides.{nat_tests}
use Rattle.std.proofs.lemmas.List.{take-append-drop, take_at, length-take-le}
use Rattle.hg_journal.specs.Ahead.{IsClosedAt, IsNothingAt, IsRecordAt}
use Rattle.hg_journal.specs.Records.{Cut, record_of}
use Rattle.hg_journal.specs.Reading.{Next, Reading, Broken, Holds, behind_gate, behind_record, scan_for, scan, reading}
use Rattle.hg_journal.specs.Places.{Leads, IsAt}
use Rattle.hg_journal.proofs.Scanning.{leads_more, record_spelled}

module _ {S : Type 0} (next : Next S) where
  shut : (s : S) (gate n at : ℕ) (rest : List ℕ) → (gate ≡ 0 → ⊥) → scan_for next n s at (gate ∷ rest) ≡ scan_for next n s at (gate ∷ rest)
  shut s gate n at rest is_open = refl

  -- an open gate with no record, or with one that leads nowhere
  broken_at : (s : S) (at gate : ℕ) (rest : List ℕ) → (gate ≡ 0 → ⊥) → ((go : S → ℕ → List ℕ → Reading S) → behind_gate next go s at (record_of rest) ≡ Broken at)
      → scan next s at (gate ∷ rest) ≡ Broken at
  unfolding scan
  broken_at s at gate rest is_open broken =
      let no : nat_eq gate 0 ≡ false = grind (arith, nat_tests) in
      ap (λ (t : Bool). if t then Holds s else behind_gate next (scan_for next (length (gate ∷ rest))) s at (record_of rest)) no
      ∙ broken (scan_for next (length (gate ∷ rest)))

  scan_nothing : (s : S) (at : ℕ) (bytes : List ℕ) → IsNothingAt bytes → scan next s at bytes ≡ Broken at
  unfolding scan
  scan_nothing s at bytes (inl none) = ap (λ (l : List ℕ). scan next s at l) none
  scan_nothing s at bytes (inr found) =
      ap (λ (l : List ℕ). scan next s at l) found.2
      ∙ broken_at s at found.0 found.1 found.3 (λ go. ap (behind_gate next go s at) found.4)

  scan_unfit : (s : S) (at : ℕ) (bytes : List ℕ) (kind : ℕ) (body : List ℕ) → IsRecordAt bytes kind body → next s kind body ≡ None → scan next s at bytes ≡ Broken at
  scan_unfit s at bytes kind body found unfit =
      let cut : Cut = record { kind = kind; body = body; rest = found.rest } in
      ap (λ (l : List ℕ). scan next s at l) found.split
      ∙ broken_at s at found.gate (kind ∷ found.a ∷ found.b ∷ (body ++ found.rest)) found.is_open
      (λ go. ap (behind_gate next go s at) (record_spelled kind found.a found.b body found.rest found.size) ∙ ap (behind_record go at cut) unfit)

  module _ (first : S) (head file : List ℕ) (s : S) (at : ℕ) (within : at ≤ length file) (leads : Leads next first head (take at file) s) where
    whole : file ≡ take at file ++ drop at file
    whole = sym (take-append-drop at file)

    pub at_closed : IsClosedAt (drop at file) → IsAt next first head s at file
    at_closed closed = record {
      front = take at file;
      behind = closed.0;
      split = whole ∙ ap (λ (l : List ℕ). take at file ++ l) closed.1;
      place = length-take-le at file within;
      leads = leads;
    }

    broken : scan next s at (drop at file) ≡ Broken at → reading next first head file ≡ Broken at
    broken is =
        ap (reading next first head) whole ∙ leads.reads (drop at file)
        ∙ ap (λ (k : ℕ). scan next s k (drop at file)) (length-take-le at file within) ∙ is

    pub nothing_broken : IsNothingAt (drop at file) → reading next first head file ≡ Broken at
    nothing_broken nothing = broken (scan_nothing s at (drop at file) nothing)

    pub unfit_broken : (kind : ℕ) (body : List ℕ) → IsRecordAt (drop at file) kind body → next s kind body ≡ None → reading next first head file ≡ Broken at
    unfit_broken kind body found unfit = broken (scan_unfit s at (drop at file) kind body found unfit)

    pub one_more : (kind : ℕ) (body : List ℕ) (t : S) (to : ℕ) → to ≡ at + (4 + length body) → IsRecordAt (drop at file) kind body → next s kind body ≡ Some t
        → (to ≤ length file) × Leads next first head (take to file) t
    one_more kind body t to goes found leads_to =
        let spelling : List ℕ = found.gate ∷ kind ∷ found.a ∷ found.b ∷ body in
        let more = leads_more next first head (take at file) s t found.gate kind found.a found.b body leads found.is_open leads_to found.size in
        let parts : file ≡ (take at file ++ spelling) ++ found.rest =
        whole ∙ ap (λ (l : List ℕ). take at file ++ l) found.split ∙ sym (append_assoc (take at file) spelling found.rest) in
        let size : length (take at file ++ spelling) ≡ to = omega (arith, length-append (take at file) spelling, length-take-le at file within, goes) in
        let front : take to file ≡ take at file ++ spelling = ap (λ (l : List ℕ). take to l) parts ∙ take_at (take at file ++ spelling) found.rest to size in (
          omega (arith, ap length parts, length-append (take at file ++ spelling) found.rest, size),
          subst (λ (l : List ℕ). Leads next first head l t) (sym front) more,
        )
