-- The rows of a node's own member are those that its history made, and positions that each stand in a list once
use Rattle.std.proofs.Common.{◌≡◌, ◌≢◌, ◌⊎◌, ⊎_elim, ℕ, zero, suc, ◌+◌, ◌<◌, ◌≤◌, Bool, true, false, cond, eqb, eq-eqb, List, [], ◌∷◌, ◌++◌, length, take, fold, Some, refl, sym, ap, ◌∙◌, arith}
use Rattle.std.specs.Prelude.{count_by}
use Rattle.std.specs.List.{AllByRecursion}
use mathlib.Core.Logic.{dite}
use native.Mathlib.Decide.{ℕ_discrete}
use Rattle.std.proofs.lemmas.Bool.{true≢false}
use Rattle.std.proofs.lemmas.List.Sums.{sum_by-append, sum_by-cons}
use Rattle.hg_model.specs.declared.row.Row.{Row}
use Rattle.hg_model.specs.Stakes.{Stakes}
use Rattle.hg_life.specs.History.{AreSteps, Change, State, empty, replay, step, with_marks, with_row}
use Rattle.hg_life.specs.History.Change.{Took, Made, Marked}
use Rattle.hg_life.specs.Terms.{Terms}
use Rattle.hg_history.proofs.RuleLaws.{taken_is}
use Rattle.hg_board.specs.Positions.{AreBelow, times}
use Rattle.hg_board.proofs.PositionLaws.{times_apart, times_cons, times_none}
use Rattle.hg_storm.specs.Keeping.{is_made}
use Rattle.hg_storm.specs.Turning.{rows_by}
use Rattle.hg_storm.proofs.MadeLaws.{is_made_in}

-- ---- the rows of a node's own member are those that its history made

-- how many changes made a row
abbrev pub made_in : List Change → ℕ
made_in h = count_by (λ (e : Change). is_made (Some e)) h

made_cons : (e : Change) (h : List Change) → made_in (e ∷ h) ≡ cond (is_made (Some e)) 1 0 + made_in h
made_cons e h = sum_by-cons (λ (x : Change). cond (is_made (Some x)) 1 0) e h

module _ (own : ℕ) (G : List Row) (row : Row) where
  abbrev one_if : Row → ℕ
  one_if r = cond (eqb r.creator own) 1 0

  by_push : rows_by own (G ++ row ∷ []) ≡ rows_by own G + one_if row
  by_push =
      let all : rows_by own (G ++ row ∷ []) ≡ rows_by own G + rows_by own (row ∷ []) = sum_by-append one_if G (row ∷ []) in
      let last : rows_by own (row ∷ []) ≡ one_if row + 0 = sum_by-cons one_if row [] in
      omega (arith, all, last)

  by_other : row.creator ≢ own → rows_by own (G ++ row ∷ []) ≡ rows_by own G
  by_other ne = let none : one_if row ≡ 0 = times_apart own row.creator ne in omega (arith, by_push, none)

  by_itself : row.creator ≡ own → rows_by own (G ++ row ∷ []) ≡ rows_by own G + 1
  by_itself is = let one : one_if row ≡ 1 = ap (λ (b : Bool). cond b 1 0) (eq-eqb row.creator own is) in omega (arith, by_push, one)

module _ (terms : Terms) (n : Stakes) (c own : ℕ) where
  own_from : (s : State) (h : List Change) → AreSteps terms n c own s h → rows_by own (fold (step n c) s h).rows ≡ rows_by own s.rows + made_in h
  own_from s [] steps = let none : made_in [] ≡ 0 = refl in omega (arith, none)
  own_from s (Took row ∷ h) steps =
      let rest : rows_by own (fold (step n c) (with_row n s row) h).rows ≡ rows_by own (s.rows ++ row ∷ []) + made_in h = own_from (with_row n s row) h steps.1 in
      let more : made_in (Took row ∷ h) ≡ 0 + made_in h = made_cons (Took row) h in
      omega (arith, rest, more, by_other own s.rows row (taken_is terms n own s.rows row steps.0).by_other)
  own_from s (Made row ∷ h) steps =
      let rest : rows_by own (fold (step n c) (with_row n s row) h).rows ≡ rows_by own (s.rows ++ row ∷ []) + made_in h = own_from (with_row n s row) h steps.1 in
      let more : made_in (Made row ∷ h) ≡ 1 + made_in h = made_cons (Made row) h in
      omega (arith, rest, more, by_itself own s.rows row (ap (λ (r : Row). r.creator) steps.0.fields))
  own_from s (Marked len share ∷ h) steps =
      let rest : rows_by own (fold (step n c) (with_marks n c s len share) h).rows ≡ rows_by own s.rows + made_in h = own_from (with_marks n c s len share) h steps.1 in
      let more : made_in (Marked len share ∷ h) ≡ 0 + made_in h = made_cons (Marked len share) h in
      omega (arith, rest, more)

  pub own_made : (h : List Change) → AreSteps terms n c own empty h → rows_by own (replay n c h).rows ≡ made_in h
  unfolding replay
  own_made h steps =
      let all : rows_by own (fold (step n c) empty h).rows ≡ rows_by own [] + made_in h = own_from empty h steps in
      let none : rows_by own [] ≡ 0 = refl in
      omega (arith, all, none)

  -- the first of some changes may come
  pub steps_first : (at : ℕ) (s : State) (h : List Change) → AreSteps terms n c own s h → AreSteps terms n c own s (take at h)
  steps_first zero s h steps = tt
  steps_first (suc at) s [] steps = tt
  steps_first (suc at) s (e ∷ h) steps = (steps.0, steps_first at (step n c s e) h steps.1)

-- ---- positions of a history that each stand in a list at most once

assoc : (a b c : ℕ) → (a + b) + c ≡ a + (b + c)
assoc a b c = omega arith

-- how many of the first positions pass a test
abbrev passing : ℕ → (ℕ → Bool) → ℕ
passing zero f = 0
passing (suc n) f = passing n f + cond (f n) 1 0

passing_on : (n : ℕ) (f : ℕ → Bool) → passing (suc n) f ≡ cond (f 0) 1 0 + passing n (λ q. f (suc q))
passing_on zero f = omega arith
passing_on (suc n) f = ap (λ (k : ℕ). k + cond (f (suc n)) 1 0) (passing_on n f) ∙ assoc (cond (f 0) 1 0) (passing n (λ q. f (suc q))) (cond (f (suc n)) 1 0)

made_passing : (n : ℕ) (h : List Change) → length h ≤ n → passing n (is_made_in h) ≡ made_in h
made_passing zero [] all = refl
made_passing zero (e ∷ h) all = absurd (omega (arith, all))
made_passing (suc n) [] all = let rest : passing n (is_made_in []) ≡ made_in [] = made_passing n [] (omega arith) in omega (arith, rest)
made_passing (suc n) (e ∷ h) all =
    passing_on n (is_made_in (e ∷ h)) ∙ (ap (λ (k : ℕ). cond (is_made (Some e)) 1 0 + k) (made_passing n h (omega (arith, all))) ∙ sym (made_cons e h))

-- of each of the first positions that passes, how often it stands in a list
abbrev standing : ℕ → (ℕ → Bool) → List ℕ → ℕ
standing zero f qs = 0
standing (suc n) f qs = standing n f qs + cond (f n) (times n qs) 0

standing_none : (n : ℕ) (f : ℕ → Bool) → standing n f [] ≡ 0
standing_none zero f = refl
standing_none (suc n) f = both (standing n f []) (times n []) (f n) (standing_none n f) (times_none n)
  where
    both : (a k : ℕ) (b : Bool) → a ≡ 0 → k ≡ 0 → a + cond b k 0 ≡ 0
    both a k true first second = omega (arith, first, second)
    both a k false first second = omega (arith, first)

standing_past : (n : ℕ) (f : ℕ → Bool) (q : ℕ) (qs : List ℕ) → n ≤ q → standing n f (q ∷ qs) ≡ standing n f qs
standing_past zero f q qs past = refl
standing_past (suc n) f q qs past =
    let apart = times_apart n q (λ e. let same : q ≡ n = e in omega (arith, same, past)) in
    let other : times n (q ∷ qs) ≡ times n qs = omega (arith, times_cons n q qs, apart) in
    λ i. standing_past n f q qs (omega (arith, past)) i + cond (f n) (other i) 0

standing_one : (n : ℕ) (f : ℕ → Bool) (q : ℕ) (qs : List ℕ) → q < n → standing n f (q ∷ qs) ≡ cond (f q) 1 0 + standing n f qs
standing_one zero f q qs low = absurd (omega (arith, low))
standing_one (suc n) f q qs low = dite (ℕ_discrete q n)
    (λ e.
    let same : q ≡ n = e in
    let one : ◌≡◌ {A = ℕ} (cond (eqb q n) 1 0) 1 = ap (λ (b : Bool). cond b 1 0) (eq-eqb q n same) in
    let more : times n (q ∷ qs) ≡ 1 + times n qs = omega (arith, times_cons n q qs, one) in
    let front : standing n f (q ∷ qs) ≡ standing n f qs = standing_past n f q qs (omega (arith, same)) in
    (λ i. front i + cond (f n) (more i) 0) ∙ (put (standing n f qs) (f n) (times n qs) ∙ ap (λ (k : ℕ). cond (f k) 1 0 + standing (suc n) f qs) (sym same)))
    (λ ne.
    let other : times n (q ∷ qs) ≡ times n qs = omega (arith, times_cons n q qs, times_apart n q ne) in
    (λ i. standing_one n f q qs (omega (arith, low, ne)) i + cond (f n) (other i) 0) ∙ assoc (cond (f q) 1 0) (standing n f qs) (cond (f n) (times n qs) 0))
  where
    put : (s : ℕ) (b : Bool) (k : ℕ) → s + cond b (1 + k) 0 ≡ cond b 1 0 + (s + cond b k 0)
    put s true k = omega arith
    put s false k = omega arith

count_standing : (n : ℕ) (f : ℕ → Bool) (qs : List ℕ) → AreBelow n qs → count_by f qs ≡ standing n f qs
count_standing n f [] below = sym (standing_none n f)
count_standing n f (q ∷ qs) below =
    sum_by-cons (λ (y : ℕ). cond (f y) 1 0) q qs ∙ (ap (λ (k : ℕ). cond (f q) 1 0 + k) (count_standing n f qs below.1) ∙ sym (standing_one n f q qs below.0))

standing_passing : (n : ℕ) (f : ℕ → Bool) (qs : List ℕ) → ((q : ℕ) → q < n → f q ≡ true → times q qs ≡ 1) → standing n f qs ≡ passing n f
standing_passing zero f qs once = refl
standing_passing (suc n) f qs once =
    let last : ◌≡◌ {A = ℕ} (cond (f n) (times n qs) 0) (cond (f n) 1 0) = one (f n) (times n qs) (once n (omega arith)) in
    λ i. standing_passing n f qs (λ q low. once q (omega (arith, low))) i + last i
  where
    one : (b : Bool) (k : ℕ) → (b ≡ true → k ≡ 1) → ◌≡◌ {A = ℕ} (cond b k 0) (cond b 1 0)
    one true k is = is refl
    one false k is = refl

-- no position between two bounds stands in a list that has none of them
pub times_between : (at when q : ℕ) (qs : List ℕ) → AllByRecursion (λ p. (p < at) ⊎ (when ≤ p)) qs → at ≤ q → q < when → times q qs ≡ 0
times_between at when q [] alone past low = times_none q
times_between at when q (p ∷ qs) alone past low =
    let apart : p ≢ q = λ e. (let same : p ≡ q = e in ⊎_elim (λ (early : p < at). absurd (omega (arith, early, past, same))) (λ (late : when ≤ p). absurd (omega (arith, late, low, same))) alone.0) in
    omega (arith, times_cons q p qs, times_apart q p apart, times_between at when q qs alone.1 past low)

-- where each change that made a row stands once in a list of positions, these are as many
pub made_all : (n : ℕ) (h : List Change) (qs : List ℕ) → length h ≤ n → AreBelow n qs → ((q : ℕ) → q < n → is_made_in h q ≡ true → times q qs ≡ 1) → count_by (is_made_in h) qs ≡ made_in h
made_all n h qs all below once = count_standing n (is_made_in h) qs below ∙ (standing_passing n (is_made_in h) qs once ∙ made_passing n h all)

-- what made a row among the first changes did so
pub made_then : (at : ℕ) (h : List Change) (q : ℕ) → is_made_in (take at h) q ≡ true → is_made_in h q ≡ true
made_then zero h q made = absurd (true≢false (sym made))
made_then (suc at) [] q made = absurd (true≢false (sym made))
made_then (suc at) (e ∷ h) zero made = made
made_then (suc at) (e ∷ h) (suc q) made = made_then at h q made
