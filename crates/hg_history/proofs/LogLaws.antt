-- The rows and the log tell the history, and each row has an entry
use Rattle.std.proofs.Common.{◌≡◌, inl, inr, ℕ, suc, ◌<◌, ◌≤◌, List, [], ◌∷◌, ◌++◌, length, get_or, Some, fold, sym, refl, ap, ap₂, ◌∙◌, subst, arith}
use Rattle.std.proofs.lemmas.Bool.{cases_eq}
use Rattle.std.proofs.lemmas.List.{length_push, get_or_append_left, get_or_push}
use Rattle.hg_model.specs.declared.row.Row.{Row}
use Rattle.hg_model.specs.Stakes.{Stakes}
use Rattle.hg_life.specs.declared.entry.Entry.{Entry}
use Rattle.hg_life.specs.declared.entry.Entry.TheVariants as entry
use Rattle.hg_life.specs.History.{Change, State, empty, with_row, with_marks, step, replay}
use Rattle.hg_life.specs.History.Change.{Took, Made, Marked}
use Rattle.hg_life.specs.NodeView.{log_from, history_of}
use Rattle.hg_model.specs.Links.{no_row}
use Rattle.hg_history.specs.Laws.{HasEntry, LogSpellsHistory}
use Rattle.hg_history.proofs.StateLaws.{rows_from}

module _ (n : Stakes) (c : ℕ) where
  -- the row that comes next stands at its place in the end
  row_there : (s : State) (row : Row) (h : List Change) → get_or (fold (step n c) (with_row n s row) h).rows (length s.rows) no_row ≡ row
  row_there s row h =
      let later = rows_from n c (with_row n s row) h in
      ap (λ (G : List Row). get_or G (length s.rows) no_row) later.1
      ∙ (get_or_append_left (s.rows ++ row ∷ []) later.0 no_row (length s.rows) (omega (arith, length_push s.rows row)) ∙ get_or_push s.rows row no_row (length s.rows) refl)

  next_place : (s : State) (row : Row) → suc (length s.rows) ≡ length (s.rows ++ row ∷ [])
  next_place s row = omega (arith, length_push s.rows row)

  changes_from : (s : State) (h : List Change) → history_of (fold (step n c) s h).rows (log_from (length s.rows) h) ≡ h
  changes_from s [] = refl
  changes_from s (Took row ∷ h) =
      ap₂ (λ (r : Row) (rest : List Change). Took r ∷ rest) (row_there s row h)
      (ap (λ (place : ℕ). history_of (fold (step n c) (with_row n s row) h).rows (log_from place h)) (next_place s row) ∙ changes_from (with_row n s row) h)
  changes_from s (Made row ∷ h) =
      ap₂ (λ (r : Row) (rest : List Change). Made r ∷ rest) (row_there s row h)
      (ap (λ (place : ℕ). history_of (fold (step n c) (with_row n s row) h).rows (log_from place h)) (next_place s row) ∙ changes_from (with_row n s row) h)
  changes_from s (Marked len share ∷ h) = ap (λ (rest : List Change). Marked len share ∷ rest) (changes_from (with_marks n c s len share) h)

  later_entry : (e : Entry) (entries : List Entry) (x : ℕ) → HasEntry entries x → HasEntry (e ∷ entries) x
  later_entry e entries x has = (suc has.0, has.1)

  entry_from : (s : State) (h : List Change) (x : ℕ) → length s.rows ≤ x → x < length (fold (step n c) s h).rows → HasEntry (log_from (length s.rows) h) x
  entry_from s [] x past low = (let inside : x < length s.rows = low in absurd (omega arith))
  entry_from s (Took row ∷ h) x past low = elim (cases_eq x (length s.rows)) [
    | inl here ↦ (0, inl (ap (λ (place : ℕ). Some (entry.Took place)) (sym here)))
    | inr after ↦ later_entry (entry.Took (length s.rows)) (log_from (suc (length s.rows)) h) x (
        subst (λ (place : ℕ). HasEntry (log_from place h) x) (sym (next_place s row)) (entry_from (with_row n s row) h x (omega (arith, length_push s.rows row)) low))
  ]
  entry_from s (Made row ∷ h) x past low = elim (cases_eq x (length s.rows)) [
    | inl here ↦ (0, inr (ap (λ (place : ℕ). Some (entry.Made place)) (sym here)))
    | inr after ↦ later_entry (entry.Made (length s.rows)) (log_from (suc (length s.rows)) h) x (
        subst (λ (place : ℕ). HasEntry (log_from place h) x) (sym (next_place s row)) (entry_from (with_row n s row) h x (omega (arith, length_push s.rows row)) low))
  ]
  entry_from s (Marked len share ∷ h) x past low = later_entry (entry.Marked len share) (log_from (length s.rows) h) x (entry_from (with_marks n c s len share) h x past low)

pub log_spells_history : LogSpellsHistory
unfolding replay
log_spells_history n c h = changes_from n c empty h

-- each row has an entry
pub row_entry : (n : Stakes) (c : ℕ) (h : List Change) (x : ℕ) → x < length (replay n c h).rows → HasEntry (log_from 0 h) x
unfolding replay
row_entry n c h x low = entry_from n c empty h x (omega arith) low
