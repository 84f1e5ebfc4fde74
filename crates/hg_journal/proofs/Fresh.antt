-- What stands in a file, and what a stop leaves of it, while a journal is made.
use Rattle.std.proofs.Common.{◌≡◌, inl, inr, ⊎_elim, ℕ, ◌+◌, ◌≤◌, Bool, true, false, nat_le, if◌then◌else◌, List, [], ◌∷◌, ◌++◌, length, take, drop, slice_index, get_or, Some, refl, sym, ◌∙◌, ap, subst, arith, length-append, length-drop}
use Rattle.std.specs.Bool.{Decides}
use Rattle.std.specs.Str.{bytes_eq}
use Rattle.std.proofs.lemmas.Bool.{cases_eq}
use Rattle.std.proofs.lemmas.Bool.Decides.{nat_tests, Decides-eqb, Decides-not, Decides-and, Decides-or}
use Rattle.std.proofs.lemmas.Slice.Eq.{bytes_eq-Decides}
use Rattle.std.proofs.lemmas.List.{append-nil, take_at, drop_at, drop_all}
use Rattle.hg_io.specs.FileView.{Torn, with_piece}
use Rattle.hg_journal.specs.Reading.{Next, Reading, Anew, Foreign, scan, is_anew, reading, state_in}
use Rattle.hg_journal.specs.Places.{Leads, IsAt}
use Rattle.hg_journal.specs.Writing.{AnewCases, IsBegun, IsEmpty, IsOnlyBegun, empty_file}
use Rattle.hg_journal.proofs.Tears.{torn_one}
use Rattle.hg_journal.proofs.Gates.{holds_closed}

decides_le : (a b : ℕ) → Decides (nat_le a b) (a ≤ b)
decides_le a b = (λ e. grind (arith, nat_tests), λ h. grind (arith, nat_tests))

pub anew_decides : (head file : List ℕ) → Decides (is_anew head file) (AnewCases head file)
unfolding is_anew
anew_decides head file =
    Decides-or _ _ (Decides-or _ _ (decides_le _ _) (Decides-and _ _ (Decides-eqb _ _) (decides_le _ _))) (Decides-and _ _ (Decides-not _ (Decides-eqb _ _)) (bytes_eq-Decides _ _))

not_anew : (head file : List ℕ) → (AnewCases head file → ⊥) → is_anew head file ≡ false
not_anew head file fails = is (is_anew head file) refl
  where
    is : (t : Bool) → is_anew head file ≡ t → is_anew head file ≡ false
    is true e = absurd (fails ((anew_decides head file).0 e))
    is false e = e

other_head : (head file : List ℕ) → (take 9 file ≡ 1 ∷ head → ⊥) → bytes_eq (take 9 file) (1 ∷ head) ≡ false
other_head head file other = is (bytes_eq (take 9 file) (1 ∷ head)) refl
  where
    is : (t : Bool) → bytes_eq (take 9 file) (1 ∷ head) ≡ t → bytes_eq (take 9 file) (1 ∷ head) ≡ false
    is true e = absurd (other ((bytes_eq-Decides (take 9 file) (1 ∷ head)).0 e))
    is false e = e

module _ {S : Type 0} (next : Next S) (first : S) (head : List ℕ) where
  -- a file whose head is right is scanned behind it
  abbrev headed : Bool → List ℕ → Reading S
  headed t file = if t then scan next first 9 (drop 9 file) else Foreign

  pub anew_read : (file : List ℕ) → AnewCases head file → reading next first head file ≡ Anew
  unfolding reading
  anew_read file cases = ap (λ (t : Bool). if t then Anew else headed (bytes_eq (take 9 file) (1 ∷ head)) file) ((anew_decides head file).1 cases)

  pub anew_state : (file : List ℕ) → AnewCases head file → state_in first (reading next first head file) ≡ Some first
  anew_state file cases = ap (state_in first) (anew_read file cases)

  pub foreign_read : (file : List ℕ) → (AnewCases head file → ⊥) → (take 9 file ≡ 1 ∷ head → ⊥) → reading next first head file ≡ Foreign
  unfolding reading
  foreign_read file old other =
      ap (λ (t : Bool). if t then Anew else headed (bytes_eq (take 9 file) (1 ∷ head)) file) (not_anew head file old)
      ∙ ap (λ (t : Bool). headed t file) (other_head head file other)

  module _ (eight : length head ≡ 8) where
    pub leads_start : Leads next first head (1 ∷ head) first
    unfolding reading
    leads_start = record {
      reads = λ rest.
          let file : List ℕ = 1 ∷ (head ++ rest) in
          let old : is_anew head file ≡ false = not_anew head file (
          λ cases. ⊎_elim (λ a. ⊎_elim (λ short. omega (arith, short, length-append head rest, eight)) (λ begun. omega (arith, begun.0)) a) (λ whole. whole.0 refl) cases
          ) in
          let same : bytes_eq (take 9 file) (1 ∷ head) ≡ true = (bytes_eq-Decides (take 9 file) (1 ∷ head)).1 (take_at (1 ∷ head) rest 9 (omega (arith, eight))) in
          let nine : 9 ≡ length (1 ∷ head) = omega (arith, eight) in
          ap (λ (t : Bool). if t then Anew else headed (bytes_eq (take 9 file) (1 ∷ head)) file) old
          ∙ ap (λ (t : Bool). headed t file) same
          ∙ ap (λ (l : List ℕ). scan next first 9 l) (drop_at (1 ∷ head) rest 9 (omega (arith, eight)))
          ∙ ap (λ (k : ℕ). scan next first k rest) nine;
    }

    pub ours_leads : (file : List ℕ) → take 9 file ≡ 1 ∷ head → Leads next first head (take 9 file) first
    ours_leads file ours = subst (λ (l : List ℕ). Leads next first head l first) (sym ours) leads_start

    pub empty_at : (file : List ℕ) → file ≡ empty_file head → IsAt next first head first 9 file
    empty_at file is = record { front = 1 ∷ head; behind = []; split = is; place = omega (arith, eight); leads = leads_start }

    -- a journal without records, or none yet, leads to the first state
    pub empty_state : (file : List ℕ) → IsEmpty head file → state_in first (reading next first head file) ≡ Some first
    empty_state file (inl anew) = anew_state file anew
    empty_state file (inr whole) = ap (λ (l : List ℕ). state_in first (reading next first head l)) whole ∙ ap (state_in first) (holds_closed next first head (1 ∷ head) first [] leads_start)

-- ---- the three writes by which a journal is made

module _ (head : List ℕ) (eight : length head ≡ 8) where
  pub anew_short : (file : List ℕ) → AnewCases head file → length file ≤ 10
  anew_short file (inl (inl short)) = omega arith
  anew_short file (inl (inr begun)) = begun.1
  anew_short file (inr whole) = omega (arith, ap length whole.1, length-append head (0 ∷ []), length-drop 1 file)

  -- ten bytes, the last nine of them right
  any_gate : (gate : ℕ) → IsEmpty head (gate ∷ (head ++ 0 ∷ []))
  any_gate gate = elim (cases_eq gate 1) [
    | inl is_open ↦ inr (ap (λ (g : ℕ). g ∷ (head ++ 0 ∷ [])) is_open)
    | inr shut ↦ inl (inr (shut, refl))
  ]

  -- while the first gate is closed
  pub torn_first : (file left : List ℕ) → AnewCases head file → (IsBegun file → ⊥) → Torn 0 1 file left → IsEmpty head left
  torn_first [] left cases open_gate torn = inl (inl (inl (omega (arith, torn.no_longer))))
  torn_first (b ∷ file) left (inl (inl short)) open_gate torn = inl (inl (inl (omega (arith, short, torn.no_longer))))
  torn_first (b ∷ file) left (inl (inr begun)) open_gate torn = absurd (open_gate (file, ap (λ (g : ℕ). g ∷ file) begun.0))
  torn_first (b ∷ file) left (inr whole) open_gate torn =
      let is : left ≡ get_or left 0 0 ∷ file = torn_one [] file b 0 left refl torn in
      subst (IsEmpty head) (sym (is ∙ ap (λ (l : List ℕ). get_or left 0 0 ∷ l) whole.1)) (any_gate (get_or left 0 0))

  pub first_written : (file : List ℕ) → AnewCases head file → IsOnlyBegun (with_piece 0 (0 ∷ []) file)
  first_written file cases = ((drop 1 file, refl), omega (arith, anew_short file cases, length-drop 1 file))

  pub only_begun : (file : List ℕ) → AnewCases head file → IsBegun file → IsOnlyBegun file
  only_begun file cases begun = (begun, anew_short file cases)

  begun_empty : (left : List ℕ) → slice_index left 0 ≡ 0 → length left ≤ 10 → IsEmpty head left
  begun_empty left shut short = inl (inl (inr (shut, short)))

  module _ (piece : List ℕ) (is : piece ≡ head ++ 0 ∷ []) where
    -- while the head is written
    pub torn_head : (file left : List ℕ) → IsOnlyBegun file → Torn 1 (length piece) file left → IsEmpty head left
    torn_head file left begun torn =
        let shut : slice_index file 0 ≡ 0 = ap (λ (l : List ℕ). slice_index l 0) begun.0.1 in
        begun_empty left (torn.same 0 (omega (arith, ap length begun.0.1)) (inl (omega arith)) ∙ shut)
        (omega (arith, torn.no_longer, begun.1, ap length is, length-append head (0 ∷ []), eight))

    pub head_written : (file : List ℕ) → IsOnlyBegun file → with_piece 1 piece file ≡ 0 ∷ (head ++ 0 ∷ [])
    head_written file begun =
        let front : take 1 file ≡ 0 ∷ [] = ap (λ (l : List ℕ). take 1 l) begun.0.1 in
        ap (λ (l : List ℕ). with_piece 1 l file) is
        ∙ ap (λ (l : List ℕ). l ++ (head ++ 0 ∷ []) ++ drop (1 + length (head ++ 0 ∷ [])) file) front
        ∙ ap (λ (l : List ℕ). 0 ∷ ((head ++ 0 ∷ []) ++ l)) (drop_all (1 + length (head ++ 0 ∷ [])) file (omega (arith, begun.1, length-append head (0 ∷ []), eight)))
        ∙ ap (λ (l : List ℕ). 0 ∷ l) (append-nil (head ++ 0 ∷ []))

  -- while the first gate is opened
  pub torn_open : (file left : List ℕ) → file ≡ 0 ∷ (head ++ 0 ∷ []) → Torn 0 1 file left → IsEmpty head left
  torn_open file left is torn =
      let whole : left ≡ get_or left 0 0 ∷ (head ++ 0 ∷ []) = torn_one [] (head ++ 0 ∷ []) 0 0 left refl (subst (λ (l : List ℕ). Torn 0 1 l left) is torn) in
      subst (IsEmpty head) (sym whole) (any_gate (get_or left 0 0))

-- the open gate makes it whole
pub gate_written : (head file : List ℕ) → file ≡ 0 ∷ (head ++ 0 ∷ []) → with_piece 0 (1 ∷ []) file ≡ empty_file head
gate_written head file is = ap (with_piece 0 (1 ∷ [])) is
