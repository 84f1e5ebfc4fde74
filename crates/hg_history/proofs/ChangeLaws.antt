-- Rows and the changes by which they came
use Rattle.std.proofs.Common.{◌≡◌, ◌≢◌, ◌⊎◌, inl, inr, ℕ, zero, suc, List, [], ◌∷◌, ◌++◌, length, fold, Some, slice_get, sym, ap, ◌∙◌, subst, arith}
use Rattle.std.proofs.lemmas.Bool.{cases_lt}
use Rattle.std.proofs.lemmas.List.{length_push}
use Rattle.std.proofs.lemmas.Option.{slice_get_within}
use Rattle.hg_model.specs.declared.row.Row.{Row}
use Rattle.hg_life.specs.History.{Change, State, empty, with_row, with_marks, step, replay, AreSteps}
use Rattle.hg_model.specs.Stakes.{Stakes}
use Rattle.hg_life.specs.History.Change.{Took, Made, Marked}
use Rattle.hg_model.proofs.LongerLaws.{slice_get-append}
use Rattle.hg_model.proofs.PushLaws.{nobody, slice_get-before, slice_get-last}
use Rattle.hg_life.specs.Verdict.{verdict_of}
use Rattle.hg_life.specs.Terms.{Terms}
use Rattle.hg_event.proofs.Spells.{Spells-read_event}
use Rattle.hg_history.specs.Laws.{HasChange, RowsCameByChanges, ChangesLeftRows, VerdictsAreOfBytes}
use Rattle.hg_history.proofs.StateLaws.{rows_from}
use Rattle.hg_history.proofs.RuleLaws.{taken_is}

-- how a row came
abbrev Came : ℕ → List Change → Row → Type 0
Came own h row = (row.creator ≡ own → HasChange h (Made row)) × (row.creator ≢ own → HasChange h (Took row))

later : (own : ℕ) (e : Change) (h : List Change) (row : Row) → Came own h row → Came own (e ∷ h) row
later own e h row came = (λ is. (let i = came.0 is in (suc i.0, i.1)), λ other. (let i = came.1 other in (suc i.0, i.1)))

-- the row at a place of a longer list was there, or is the last one
split : (G : List Row) (more row : Row) (x : ℕ) → slice_get (G ++ more ∷ []) x ≡ Some row → (slice_get G x ≡ Some row) ⊎ (more ≡ row)
split G more row x at = elim (cases_lt x (length G)) [
  | inl old ↦ inl (sym (slice_get-before G more x old) ∙ at)
  | inr new ↦ (
      let inside = slice_get_within (G ++ more ∷ []) x row at in
      let here : x ≡ length G = omega (arith, length_push G more) in
      let both : Some more ≡ Some row = sym (slice_get-last G more) ∙ (ap (slice_get (G ++ more ∷ [])) (sym here) ∙ at) in
      inr cc)
]

came_from : (terms : Terms) (n : Stakes) (c own : ℕ) (s : State) (h : List Change) → AreSteps terms n c own s h → (x : ℕ) (row : Row) → slice_get (fold (step n c) s h).rows x ≡ Some row →
    (slice_get s.rows x ≡ Some row) ⊎ Came own h row
came_from terms n c own s [] steps x row at = inl at
came_from terms n c own s (Marked len share ∷ h) steps x row at = elim (came_from terms n c own (with_marks n c s len share) h steps.1 x row at) [
  | inl old ↦ inl old
  | inr came ↦ inr (later own (Marked len share) h row came)
]
came_from terms n c own s (Took more ∷ h) steps x row at = elim (came_from terms n c own (with_row n s more) h steps.1 x row at) [
  | inr came ↦ inr (later own (Took more) h row came)
  | inl here ↦ elim (split s.rows more row x here) [
    | inl old ↦ inl old
    | inr same ↦ inr (
      λ is. absurd ((taken_is terms n own s.rows more steps.0).by_other (ap (λ (r : Row). r.creator) same ∙ is)),
      λ other. (0, ap (λ (r : Row). Some (Took r)) same),
    )
  ]
]
came_from terms n c own s (Made more ∷ h) steps x row at = elim (came_from terms n c own (with_row n s more) h steps.1 x row at) [
  | inr came ↦ inr (later own (Made more) h row came)
  | inl here ↦ elim (split s.rows more row x here) [
    | inl old ↦ inl old
    | inr same ↦ inr (
      λ is. (0, ap (λ (r : Row). Some (Made r)) same),
      λ other. absurd (other (sym (ap (λ (r : Row). r.creator) same) ∙ ap (λ (r : Row). r.creator) steps.0.fields)),
    )
  ]
]

pub rows_came : RowsCameByChanges
unfolding replay
rows_came terms n c own h is x row at = elim (came_from terms n c own empty h is.steps x row at) [
  | inl none ↦ cc
  | inr came ↦ came
]

module _ (n : Stakes) (c : ℕ) where
  stays : (s : State) (h : List Change) (x : ℕ) (row : Row) → slice_get s.rows x ≡ Some row → slice_get (fold (step n c) s h).rows x ≡ Some row
  stays s h x row at =
      let more = rows_from n c s h in
      ap (λ (G : List Row). slice_get G x) more.1 ∙ (slice_get-append s.rows more.0 nobody x (slice_get_within s.rows x row at) ∙ at)

  came_here : (s : State) (row : Row) (h : List Change) → (x : ℕ) × (slice_get (fold (step n c) (with_row n s row) h).rows x ≡ Some row)
  came_here s row h = (length s.rows, stays (with_row n s row) h (length s.rows) row (slice_get-last s.rows row))

  left_from : (s : State) (h : List Change) (row : Row) (i : ℕ) → (slice_get h i ≡ Some (Made row)) ⊎ (slice_get h i ≡ Some (Took row)) → (x : ℕ) × (slice_get (fold (step n c) s h).rows x ≡ Some row)
  left_from s [] row i at = elim at [ inl none ↦ cc | inr none ↦ cc ]
  left_from s (e ∷ h) row (suc i) at = left_from (step n c s e) h row i at
  left_from s (e ∷ h) row zero at = elim at [
    | inl is ↦ (let same : Made row ≡ e = cc in subst (λ (d : Change). (x : ℕ) × (slice_get (fold (step n c) (step n c s d) h).rows x ≡ Some row)) same (came_here s row h))
    | inr is ↦ (let same : Took row ≡ e = cc in subst (λ (d : Change). (x : ℕ) × (slice_get (fold (step n c) (step n c s d) h).rows x ≡ Some row)) same (came_here s row h))
  ]

pub changes_left : ChangesLeftRows
unfolding replay
changes_left n c h row has = elim has [
  | inl i ↦ left_from n c empty h row i.0 (inl i.1)
  | inr i ↦ left_from n c empty h row i.0 (inr i.1)
]

-- a row's bytes are read as the row
pub verdicts_of_bytes : VerdictsAreOfBytes
verdicts_of_bytes terms n own G bytes row spells = ap (verdict_of terms n own G) (Spells-read_event bytes row spells)
