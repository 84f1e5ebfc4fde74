-- Changes of a history that are marks: they stay, and bring no rows
use Rattle.std.proofs.Common.{◌≡◌, ℕ, zero, suc, ◌+◌, ◌<◌, ◌≤◌, List, [], ◌∷◌, ◌++◌, length, length-append, fold, slice_get, refl, sym, ap, ◌∙◌, subst, arith}
use Rattle.std.specs.List.{AllByRecursion}
use Rattle.std.proofs.lemmas.Option.{slice_get_within}
use mathlib.Core.Logic.{dite}
use native.Mathlib.Decide.{ℕ_discrete}
use Rattle.hg_model.specs.Orders.{IsPrefix}
use Rattle.hg_model.specs.Shares.{Share}
use Rattle.hg_model.specs.Stakes.{Stakes}
use Rattle.hg_life.specs.History.{Change, State, replay, step, with_marks}
use Rattle.hg_life.specs.History.Change.{Took, Made, Marked}
use Rattle.hg_history.proofs.StateLaws.{replay-append}
use Rattle.hg_board.specs.Positions.{times}
use Rattle.hg_board.specs.Crews.{AreMarks}
use Rattle.hg_board.proofs.PositionLaws.{times_apart, times_cons, times_none}
use Rattle.hg_crowd.specs.Crowd.{IsMark}

-- elements of lists

module _ {A : Type 0} where
  pub get_front : (xs ys : List A) (k : ℕ) → k < length xs → slice_get (xs ++ ys) k ≡ slice_get xs k
  get_front [] ys k inside = absurd (omega arith)
  get_front (x ∷ xs) ys zero inside = refl
  get_front (x ∷ xs) ys (suc k) inside = get_front xs ys k (omega arith)

  pub get_behind : (xs ys : List A) (k q : ℕ) → k ≡ length xs + q → slice_get (xs ++ ys) k ≡ slice_get ys q
  get_behind [] ys k q at = let same : k ≡ q = omega (arith, at) in ap (slice_get ys) same
  get_behind (x ∷ xs) ys zero q at = absurd (omega (arith, at))
  get_behind (x ∷ xs) ys (suc k) q at = get_behind xs ys k q (omega (arith, at))

  get_later : (xs ys : List A) (k : ℕ) → IsPrefix xs ys → k < length xs → slice_get ys k ≡ slice_get xs k
  get_later xs ys k p inside = ap (λ (zs : List A). slice_get zs k) p.1 ∙ get_front xs p.0 k inside

-- marks of a history

pub mark_later : (seen history : List Change) (q : ℕ) → IsPrefix seen history → IsMark seen q → IsMark history q
mark_later seen history q p mark =
    (mark.0, mark.1, get_later seen history q p (slice_get_within seen q (Marked mark.0 mark.1) mark.2) ∙ mark.2)

pub mark_before : (seen history : List Change) (q : ℕ) → IsPrefix seen history → q < length seen → IsMark history q → IsMark seen q
mark_before seen history q p inside mark = (mark.0, mark.1, sym (get_later seen history q p inside) ∙ mark.2)

pub marks_later : (seen history : List Change) (positions : List ℕ) → IsPrefix seen history → AllByRecursion (IsMark seen) positions → AllByRecursion (IsMark history) positions
marks_later seen history [] p marks = tt
marks_later seen history (q ∷ positions) p marks = (mark_later seen history q p marks.0, marks_later seen history positions p marks.1)

pub marks_more : (history : List Change) (positions others : List ℕ) → AllByRecursion (IsMark history) positions → AllByRecursion (IsMark history) others → AllByRecursion (IsMark history) (positions ++ others)
marks_more history [] others marks more = more
marks_more history (q ∷ positions) others marks more = (marks.0, marks_more history positions others marks.1 more)

pub marks_of_share : (share : Share) (history : List Change) (positions : List ℕ) → AreMarks share history positions → AllByRecursion (IsMark history) positions
marks_of_share share history [] marks = tt
marks_of_share share history (q ∷ positions) marks = ((marks.0.0, share, marks.0.1), marks_of_share share history positions marks.1)

pub mark_among : (history : List Change) (positions : List ℕ) (q : ℕ) → AllByRecursion (IsMark history) positions → 0 < times q positions → IsMark history q
mark_among history [] q marks some = absurd (omega (arith, times_none q))
mark_among history (p ∷ positions) q marks some = dite (ℕ_discrete p q)
    (λ same. subst (IsMark history) same marks.0)
    (λ ne. mark_among history positions q marks.1 (omega (arith, times_cons q p positions, times_apart q p (λ e. ne e))))

-- marks bring no rows, and tie none

module _ (n : Stakes) (c : ℕ) where
  marks_bring_none : (s : State) (h : List Change) → ((q : ℕ) → q < length h → IsMark h q) → ((fold (step n c) s h).rows ≡ s.rows) × ((fold (step n c) s h).links ≡ s.links)
  marks_bring_none s [] marks = (refl, refl)
  marks_bring_none s (Took row ∷ h) marks = let mark = marks 0 (omega arith) in let e = mark.2 in absurd (cc)
  marks_bring_none s (Made row ∷ h) marks = let mark = marks 0 (omega arith) in let e = mark.2 in absurd (cc)
  marks_bring_none s (Marked len share ∷ h) marks = marks_bring_none (with_marks n c s len share) h (λ q inside. marks (suc q) (omega arith))

  pub rows_stay : (seen history : List Change) → IsPrefix seen history → ((q : ℕ) → length seen ≤ q → q < length history → IsMark history q) →
      ((replay n c history).rows ≡ (replay n c seen).rows) × ((replay n c history).links ≡ (replay n c seen).links)
  rows_stay seen history p marks =
      let last : (q : ℕ) → q < length p.0 → IsMark p.0 q = λ q inside.
      (let there : length seen + q < length history = omega (arith, inside, ap length p.1, length-append seen p.0) in
      let mark = marks (length seen + q) (omega arith) there in
      let same : slice_get history (length seen + q) ≡ slice_get p.0 q = ap (λ (h : List Change). slice_get h (length seen + q)) p.1 ∙ get_behind seen p.0 (length seen + q) q refl in
      (mark.0, mark.1, sym same ∙ mark.2)) in
      let after = marks_bring_none (replay n c seen) p.0 last in
      let is : replay n c history ≡ fold (step n c) (replay n c seen) p.0 = ap (λ (h : List Change). replay n c h) p.1 ∙ replay-append n c seen p.0 in
      (ap (λ (s : State). s.rows) is ∙ after.0, ap (λ (s : State). s.links) is ∙ after.1)
