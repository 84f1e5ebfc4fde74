-- What stands in a file, and what a stop leaves of it, while records are written behind the closed gate and that gate is opened.
use Rattle.std.proofs.Common.{◌≡◌, ◌⊎◌, inl, inr, ⊎_elim, ℕ, ◌+◌, ◌<◌, List, [], ◌∷◌, ◌++◌, length, take, drop, get_or, Some, sym, ◌∙◌, ap, subst, arith, append_assoc, length-append, length-take}
use Rattle.std.proofs.lemmas.Bool.{cases_eq}
use Rattle.std.proofs.lemmas.List.{take-append-drop, take_at, drop_at}
use Rattle.hg_io.specs.FileView.{Torn, with_piece}
use Rattle.hg_journal.specs.Batches.{IsBatch}
use Rattle.hg_journal.specs.Reading.{Next, Reading, Holds, reading, state_in}
use Rattle.hg_journal.specs.Places.{Leads, IsAt}
use Rattle.hg_journal.specs.Writing.{IsCutShort, appended, with_record}
use Rattle.hg_journal.proofs.Scanning.{scan_closed}
use Rattle.hg_journal.proofs.Tears.{torn_front, torn_one}

module _ {S : Type 0} (next : Next S) (first : S) (head : List ℕ) where
  -- a closed gate behind a front ends its records, whatever stands behind it
  pub holds_closed : (front : List ℕ) (s : S) (behind : List ℕ) → Leads next first head front s → reading next first head (front ++ 0 ∷ behind) ≡ Holds s
  holds_closed front s behind leads = leads.reads (0 ∷ behind) ∙ scan_closed next s (length front) behind

  pub at_holds : (s : S) (gate : ℕ) (file : List ℕ) → IsAt next first head s gate file → reading next first head file ≡ Holds s
  at_holds s gate file at = ap (reading next first head) at.split ∙ holds_closed at.front s at.behind at.leads

  pub at_state : (s : S) (gate : ℕ) (file : List ℕ) → IsAt next first head s gate file → state_in first (reading next first head file) ≡ Some s
  at_state s gate file at = ap (state_in first) (at_holds s gate file at)

  pub at_within : (s : S) (gate : ℕ) (file : List ℕ) → IsAt next first head s gate file → gate < length file
  at_within s gate file at = omega (arith, ap length at.split, length-append at.front (0 ∷ at.behind), at.place)

  module _ (s : S) (gate : ℕ) (file : List ℕ) (at : IsAt next first head s gate file) where
    size : length (at.front ++ 0 ∷ []) ≡ gate + 1
    size = omega (arith, length-append at.front (0 ∷ []), at.place)

    split_more : file ≡ (at.front ++ 0 ∷ []) ++ at.behind
    split_more = at.split ∙ sym (append_assoc at.front (0 ∷ []) at.behind)

    front_is : take (gate + 1) file ≡ at.front ++ 0 ∷ []
    front_is = ap (λ (l : List ℕ). take (gate + 1) l) split_more ∙ take_at (at.front ++ 0 ∷ []) at.behind (gate + 1) size

    -- while the record is written, the gate before it is closed
    torn_behind : (n : ℕ) (left : List ℕ) → Torn (gate + 1) n file left → reading next first head left ≡ Holds s
    torn_behind n left torn =
        let front : take (gate + 1) left ≡ at.front ++ 0 ∷ [] = torn_front (gate + 1) n file left (omega (arith, at_within s gate file at)) torn ∙ front_is in
        let whole : left ≡ at.front ++ 0 ∷ drop (gate + 1) left =
        sym (take-append-drop (gate + 1) left) ∙ ap (λ (l : List ℕ). l ++ drop (gate + 1) left) front ∙ append_assoc at.front (0 ∷ []) (drop (gate + 1) left) in
        ap (reading next first head) whole ∙ holds_closed at.front s (drop (gate + 1) left) at.leads

    module _ (t : S) (records : List ℕ) (batch : IsBatch next s records t) where
      rest : List ℕ
      rest = drop (gate + 1 + length (records ++ 0 ∷ [])) file

      staged : with_record gate (records ++ 0 ∷ []) file ≡ at.front ++ 0 ∷ (records ++ 0 ∷ rest)
      unfolding rest
      staged =
          ap (λ (l : List ℕ). l ++ (records ++ 0 ∷ []) ++ rest) front_is
          ∙ append_assoc (at.front ++ 0 ∷ []) (records ++ 0 ∷ []) rest
          ∙ append_assoc at.front (0 ∷ []) ((records ++ 0 ∷ []) ++ rest)
          ∙ ap (λ (l : List ℕ). at.front ++ 0 ∷ l) (append_assoc records (0 ∷ []) rest)

      leads : (g : ℕ) → (g ≡ 0 → ⊥) → Leads next first head (at.front ++ g ∷ records) t
      leads g open_gate = batch.leads first head at.front g open_gate at.leads

      -- the state before, or the one that the records lead to
      abbrev OneOf : Reading S → Type 0
      OneOf r = (r ≡ Holds s) ⊎ (r ≡ Holds t)

      read_gate : (g : ℕ) → OneOf (reading next first head (at.front ++ g ∷ (records ++ 0 ∷ rest)))
      read_gate g = elim (cases_eq g 0) [
        | inl shut ↦ inl (ap (λ (k : ℕ). reading next first head (at.front ++ k ∷ (records ++ 0 ∷ rest))) shut ∙ holds_closed at.front s (records ++ 0 ∷ rest) at.leads)
        | inr is_open ↦ inr (ap (reading next first head) (sym (append_assoc at.front (g ∷ records) (0 ∷ rest))) ∙ holds_closed (at.front ++ g ∷ records) t rest (leads g is_open))
      ]

      -- while the gate is opened, the records count all or not at all
      torn_gate : (left : List ℕ) → Torn gate 1 (with_record gate (records ++ 0 ∷ []) file) left → OneOf (reading next first head left)
      torn_gate left torn =
          let whole = torn_one at.front (records ++ 0 ∷ rest) 0 gate left at.place (subst (λ (l : List ℕ). Torn gate 1 l left) staged torn) in
          subst (λ (l : List ℕ). OneOf (reading next first head l)) (sym whole) (read_gate (get_or left gate 0))

      -- and then they count
      at_next : IsAt next first head t (gate + 1 + length records) (appended gate (records ++ 0 ∷ []) file)
      at_next = record {
        front = at.front ++ 1 ∷ records;
        behind = rest;
        split = ap (with_piece gate (1 ∷ [])) staged ∙ opened;
        place = omega (arith, length-append at.front (1 ∷ records), at.place);
        leads = leads 1 (λ no. omega (arith, no));
      }
        where
          one : drop (gate + 1) (at.front ++ 0 ∷ (records ++ 0 ∷ rest)) ≡ records ++ 0 ∷ rest
          one = ap (drop (gate + 1)) (sym (append_assoc at.front (0 ∷ []) (records ++ 0 ∷ rest))) ∙ drop_at (at.front ++ 0 ∷ []) (records ++ 0 ∷ rest) (gate + 1) size

          opened : with_piece gate (1 ∷ []) (at.front ++ 0 ∷ (records ++ 0 ∷ rest)) ≡ (at.front ++ 1 ∷ records) ++ 0 ∷ rest
          opened =
              ap (λ (l : List ℕ). l ++ (1 ∷ []) ++ drop (gate + 1) (at.front ++ 0 ∷ (records ++ 0 ∷ rest))) (take_at at.front (0 ∷ (records ++ 0 ∷ rest)) gate at.place)
              ∙ ap (λ (l : List ℕ). at.front ++ (1 ∷ []) ++ l) one
              ∙ append_assoc at.front (1 ∷ []) (records ++ 0 ∷ rest)
              ∙ sym (append_assoc at.front (1 ∷ records) (0 ∷ rest))

      -- the same, of the piece as it is written
      module _ (piece : List ℕ) (is : piece ≡ records ++ 0 ∷ []) where
        pub cut_short_keeps : (left : List ℕ) → IsCutShort gate piece file left
            → (state_in first (reading next first head left) ≡ Some s) ⊎ (state_in first (reading next first head left) ≡ Some t)
        cut_short_keeps left (inl behind) = inl (ap (state_in first) (torn_behind (length piece) left behind))
        cut_short_keeps left (inr gated) =
            ⊎_elim (λ before. inl (ap (state_in first) before)) (λ after. inr (ap (state_in first) after)) (torn_gate left (subst (λ (l : List ℕ). Torn gate 1 (with_record gate l file) left) is gated))

        pub appended_at : IsAt next first head t (gate + 1 + length records) (appended gate piece file)
        appended_at = subst (λ (l : List ℕ). IsAt next first head t (gate + 1 + length records) (appended gate l file)) (sym is) at_next

-- the gate stands in the file still when the record is written
pub gate_within : (gate : ℕ) (piece bytes : List ℕ) → gate < length bytes → gate < length (with_record gate piece bytes)
gate_within gate piece bytes within = omega (arith, length-append (take (gate + 1) bytes ++ piece) (drop (gate + 1 + length piece) bytes), length-append (take (gate + 1) bytes) piece, length-take (gate + 1) bytes)
