-- States one after the other: lists of one length, of which each only grows
use Rattle.std.proofs.Common.{◌≡◌, ℕ, ◌<◌, Bool, List, [], ◌∷◌, ◌++◌, length, fold, Option, Some, None, append_assoc, sym, refl, ap, ◌∙◌, subst, inl, inr, arith}
use Rattle.std.specs.Option.{option_or}
use Rattle.std.proofs.lemmas.Bool.{cases_lt}
use Rattle.std.proofs.lemmas.List.{append-nil, length_push, get_or_append_left, get_or_past}
use Rattle.std.proofs.lemmas.List.FromFn.{get_or-map-range_with_len, length-map-range_with_len}
use Rattle.std.proofs.lemmas.List.Sums.{fold-append}
use Rattle.hg_model.specs.declared.row.Row.{Row}
use Rattle.hg_model.specs.Places.{table}
use Rattle.hg_model.specs.Stakes.{Stakes}
use Rattle.hg_model.specs.Links.{link_in}
use Rattle.hg_model.specs.Fame.{Marks, mark_at}
use Rattle.hg_model.specs.Shares.{early_fame}
use Rattle.hg_life.specs.History.{Change, State, empty, first_mark, with_row, new_mark, step, replay}
use Rattle.hg_life.specs.History.Change.{Took, Made, Marked}
use Rattle.hg_model.specs.Orders.{IsPrefix}

pub prefix_same : {A : Type 0} (xs ys : List A) → xs ≡ ys → IsPrefix xs ys
prefix_same xs ys e = ([], sym e ∙ sym (append-nil xs))

pub prefix_more : {A : Type 0} (xs ys zs : List A) → IsPrefix xs ys → IsPrefix ys zs → IsPrefix xs zs
prefix_more xs ys zs p q = (p.0 ++ q.0, q.1 ∙ (ap (λ ws. ws ++ q.0) p.1 ∙ append_assoc xs p.0 q.0))

-- replay goes on from the state that is reached
pub replay-append : (n : Stakes) (c : ℕ) (a b : List Change) → replay n c (a ++ b) ≡ fold (step n c) (replay n c a) b
unfolding replay
replay-append n c a b = fold-append (step n c) empty a b

pub replay-push : (n : Stakes) (c : ℕ) (h : List Change) (e : Change) → replay n c (h ++ e ∷ []) ≡ step n c (replay n c h) e
replay-push n c h e = replay-append n c h (e ∷ [])

-- each row has a link and a place for its mark
pub record IsEven (s : State) : Type 0 where
  pub links : length s.links ≡ length s.rows
  pub marks : length s.marks ≡ length s.rows

module _ (n : Stakes) (c : ℕ) where
  pub even_row : (s : State) (row : Row) → IsEven s → IsEven (with_row n s row)
  even_row s row even = record {
    links = omega (arith, length_push s.links (link_in s.rows row), length_push s.rows row, even.links);
    marks = omega (arith, length_push s.marks (first_mark n s row), length_push s.rows row, even.marks);
  }

  pub even_step : (s : State) (e : Change) → IsEven s → IsEven (step n c s e)
  even_step s (Took row) even = even_row s row even
  even_step s (Made row) even = even_row s row even
  even_step s (Marked len share) even = record { links = even.links; marks = length-map-range_with_len (new_mark n c s len share) 0 (length s.rows) }

  pub even_from : (s : State) (h : List Change) → IsEven s → IsEven (fold (step n c) s h)
  even_from s [] even = even
  even_from s (e ∷ h) even = even_from (step n c s e) h (even_step s e even)

  pub even_after : (h : List Change) → IsEven (replay n c h)
  unfolding replay
  even_after h = even_from empty h (record { links = refl; marks = refl })

  -- rows and links stay

  rows_step : (s : State) (e : Change) → IsPrefix s.rows (step n c s e).rows
  rows_step s (Took row) = (row ∷ [], refl)
  rows_step s (Made row) = (row ∷ [], refl)
  rows_step s (Marked len share) = prefix_same s.rows s.rows refl

  pub rows_from : (s : State) (h : List Change) → IsPrefix s.rows (fold (step n c) s h).rows
  rows_from s [] = prefix_same s.rows s.rows refl
  rows_from s (e ∷ h) = prefix_more s.rows (step n c s e).rows (fold (step n c) (step n c s e) h).rows (rows_step s e) (rows_from (step n c s e) h)

  links_step : (s : State) (e : Change) → IsPrefix s.links (step n c s e).links
  links_step s (Took row) = (link_in s.rows row ∷ [], refl)
  links_step s (Made row) = (link_in s.rows row ∷ [], refl)
  links_step s (Marked len share) = prefix_same s.links s.links refl

  pub links_from : (s : State) (h : List Change) → IsPrefix s.links (fold (step n c) s h).links
  links_from s [] = prefix_same s.links s.links refl
  links_from s (e ∷ h) = prefix_more s.links (step n c s e).links (fold (step n c) (step n c s e) h).links (links_step s e) (links_from (step n c s e) h)

  pub rows_grow : (a b : List Change) → IsPrefix (replay n c a).rows (replay n c (a ++ b)).rows
  rows_grow a b = subst (λ (s : State). IsPrefix (replay n c a).rows s.rows) (sym (replay-append n c a b)) (rows_from (replay n c a) b)

  pub links_grow : (a b : List Change) → IsPrefix (replay n c a).links (replay n c (a ++ b)).links
  links_grow a b = subst (λ (s : State). IsPrefix (replay n c a).links s.links) (sym (replay-append n c a b)) (links_from (replay n c a) b)

-- a mark is that of a row
pub mark_within : (marks : Marks) (x : ℕ) (v : Bool) → mark_at marks x ≡ Some v → x < length marks
mark_within marks x v is = elim (cases_lt x (length marks)) [
  | inl inside ↦ inside
  | inr past ↦ (let none : mark_at marks x ≡ None = get_or_past marks x None past in cc)
]

pub mark_of_table : (mark : ℕ → Option Bool) (len x : ℕ) → x < len → mark_at (table mark len) x ≡ mark x
mark_of_table mark len x inside = get_or-map-range_with_len mark 0 len x x None inside (omega arith)

module _ (n : Stakes) (c : ℕ) where
  pub old_mark : (s : State) (row : Row) (x : ℕ) → x < length s.marks → mark_at (with_row n s row).marks x ≡ mark_at s.marks x
  old_mark s row x inside = get_or_append_left s.marks (first_mark n s row ∷ []) None x inside

  pub marks_step : (s : State) (e : Change) → IsEven s → (x : ℕ) (v : Bool) → mark_at s.marks x ≡ Some v → mark_at (step n c s e).marks x ≡ Some v
  marks_step s (Took row) even x v is = old_mark s row x (mark_within s.marks x v is) ∙ is
  marks_step s (Made row) even x v is = old_mark s row x (mark_within s.marks x v is) ∙ is
  marks_step s (Marked len share) even x v is =
      let inside = mark_within s.marks x v is in
      mark_of_table (new_mark n c s len share) (length s.rows) x (omega (arith, even.marks, inside))
      ∙ ap (λ (o : Option Bool). option_or o (early_fame n c s.rows s.links len share x)) is

  pub marks_from : (s : State) (h : List Change) → IsEven s → (x : ℕ) (v : Bool) → mark_at s.marks x ≡ Some v → mark_at (fold (step n c) s h).marks x ≡ Some v
  marks_from s [] even x v is = is
  marks_from s (e ∷ h) even x v is = marks_from (step n c s e) h (even_step n c s e even) x v (marks_step s e even x v is)

  pub marks_stay : (a b : List Change) (x : ℕ) (v : Bool) → mark_at (replay n c a).marks x ≡ Some v → mark_at (replay n c (a ++ b)).marks x ≡ Some v
  marks_stay a b x v is = ap (λ (s : State). mark_at s.marks x) (replay-append n c a b) ∙ marks_from (replay n c a) b (even_after n c a) x v is
