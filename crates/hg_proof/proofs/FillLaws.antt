-- Rows that come one after the other: what speaks against one of them speaks first
use Rattle.std.proofs.Common.{◌≡◌, ℕ, ◌+◌, ◌<◌, ◌≤◌, List, [], ◌∷◌, ◌++◌, length, take, drop, get_or, is_some, if◌then◌else◌, Option, Some, None, Result, Ok, Err, sym, refl, ap, ◌∙◌, subst, append_assoc, arith}
use Rattle.std.specs.Option.{option_or}
use Rattle.std.specs.Result.{IsErrAnd}
use Rattle.std.specs.declared.sync.Arc.{Arc}
use Rattle.std.proofs.Math.Seq.{take-append_seam}
use Rattle.std.proofs.lemmas.List.{append-nil, length-append, length-map, length-take-le, at_drop_all, at_drop_more, map-append, take_all, take_more}
use Rattle.hg_model.specs.declared.row.Row.{Row}
use Rattle.hg_model.specs.declared.stop.Stop.{Stop}
use Rattle.hg_model.specs.declared.stop.Stop.TheVariants.{Memory, Fault}
use Rattle.hg_model.specs.Prefix.{Graph, graph_of}
use Rattle.hg_life.specs.Signing.{Accepts}
use Rattle.hg_graph.specs.Held.{graph_with}
use Rattle.hg_graph.specs.RowsWithRoom.{rows_of}
use Rattle.hg_proof.specs.declared.why.Why.{Why}
use Rattle.hg_proof.specs.Answers.{Comes, HasFront, Leaves, graph_and, graph_passed}
use Rattle.hg_proof.specs.Judging.{next_why, rows_passed, rows_why}

-- the first so many rows came, and what speaks against one speaks against one of the others
pub record IsFilled {A : Type 0} (accepts : Accepts) (start : Graph) (events : List (Arc Row A)) (i : ℕ) (g : Graph) : Type 0 where
  pub rows : g ≡ graph_and start (rows_of (take i events))
  pub rest : rows_why accepts start (rows_of events) ≡ rows_why accepts g (rows_of (drop i events))
  pub passed : rows_passed accepts start (rows_of events) ≡ rows_of (take i events) ++ rows_passed accepts g (rows_of (drop i events))

-- ---- what is left of a graph to which rows were to come

module _ (accepts : Accepts) (old : Graph) (rows : List Row) (new : Graph) where
  -- all that come are a front
  pub passed_front : new ≡ graph_passed accepts old rows → HasFront accepts old rows new
  passed_front is =
      let passed = rows_passed accepts old rows in
      (length passed, is ∙ ap (graph_and old) (sym (take_all (length passed) passed (omega arith))))

  -- the same stop is answered, or want of memory
  pub leaves_again : (A B : Type 0) (stop : Stop Why) → Leaves {A = A} accepts old rows (Err stop) new → (result : Result B (Stop Why)) → IsErrAnd result (λ e. e ≡ stop) → Leaves accepts old rows result new
  leaves_again A B stop left (Ok x) is = absurd is
  leaves_again A B Memory left (Err e) is = subst (λ (e : Stop Why). Leaves {A = B} accepts old rows (Err e) new) (sym is) left
  leaves_again A B (Fault why) left (Err e) is = subst (λ (e : Stop Why). Leaves {A = B} accepts old rows (Err e) new) (sym is) left

  pub leaves_short : {B : Type 0} → HasFront accepts old rows new → (result : Result B (Stop Why)) → IsErrAnd result (λ e. e ≡ Memory) → Leaves accepts old rows result new
  leaves_short front (Ok x) is = absurd is
  leaves_short {B} front (Err e) is = subst (λ (e : Stop Why). Leaves {A = B} accepts old rows (Err e) new) (sym is) front

module _ {A : Type 0} (accepts : Accepts) (start : Graph) (events : List (Arc Row A)) where
  pub filled_start : IsFilled accepts start events 0 start
  filled_start = record { rows = ap (graph_of start.members start.coin) (sym (append-nil start.rows)); rest = refl; passed = refl }

  pub filled_length : (i : ℕ) (g : Graph) → i ≤ length events → IsFilled accepts start events i g → length g.rows ≡ length start.rows + i
  filled_length i g inside filled =
      ap (λ (h : Graph). length h.rows) filled.rows
      ∙ (length-append start.rows (rows_of (take i events))
      ∙ ap (λ (k : ℕ). length start.rows + k) (length-map (take i events) (λ (e : Arc Row A). e.value) ∙ length-take-le i events inside))

  pub filled_end : (i : ℕ) (g : Graph) → length events ≤ i → IsFilled accepts start events i g → (rows_why accepts start (rows_of events) ≡ None) × (g ≡ graph_and start (rows_of events))
  unfolding rows_why
  filled_end i g past filled = (
    filled.rest ∙ at_drop_all (λ (left : List (Arc Row A)). rows_why accepts g (rows_of left)) events i past,
    filled.rows ∙ ap (λ (all : List (Arc Row A)). graph_and start (rows_of all)) (take_all i events past),
  )

  -- the rows that came are all that come, where nothing of the others does
  ended_passed : (i : ℕ) (g : Graph) → IsFilled accepts start events i g → rows_passed accepts g (rows_of (drop i events)) ≡ [] → g ≡ graph_passed accepts start (rows_of events)
  ended_passed i g filled none =
      filled.rows ∙ ap (graph_and start) (sym (filled.passed ∙ (ap (λ (more : List Row). rows_of (take i events) ++ more) none ∙ append-nil (rows_of (take i events)))))

  pub filled_passed : (i : ℕ) (g : Graph) → length events ≤ i → IsFilled accepts start events i g → g ≡ graph_passed accepts start (rows_of events)
  unfolding rows_passed
  filled_passed i g past filled = ended_passed i g filled (at_drop_all (λ (left : List (Arc Row A)). rows_passed accepts g (rows_of left)) events i past)

  filled_front : (i : ℕ) (g : Graph) → IsFilled accepts start events i g → HasFront accepts start (rows_of events) g
  filled_front i g filled =
      let came = rows_of (take i events) in
      let others = rows_passed accepts g (rows_of (drop i events)) in
      (length came, filled.rows ∙ ap (graph_and start) (sym (ap (take (length came)) filled.passed ∙ take-append_seam came others)))

  module _ (i : ℕ) (g : Graph) (event : Arc Row A) (low : i < length events) (at : event ≡ get_or events i event) (filled : IsFilled accepts start events i g) where
    -- what speaks is what speaks against the next row, or against a later one
    behind : rows_why accepts start (rows_of events) ≡ option_or (next_why accepts g event.value) (rows_why accepts (graph_with g event.value) (rows_of (drop (i + 1) events)))
    unfolding rows_why
    behind =
        filled.rest
        ∙ (at_drop_more (λ (left : List (Arc Row A)). rows_why accepts g (rows_of left)) events i event low
        ∙ ap (λ (e : Arc Row A). option_or (next_why accepts g e.value) (rows_why accepts (graph_with g e.value) (rows_of (drop (i + 1) events)))) (sym at))

    more : rows_of (take (i + 1) events) ≡ rows_of (take i events) ++ event.value ∷ []
    more =
        ap rows_of (take_more events i event low ∙ ap (λ (e : Arc Row A). take i events ++ e ∷ []) (sym at))
        ∙ map-append (λ (e : Arc Row A). e.value) (take i events) (event ∷ [])

    -- what comes of the others is what comes of the next row
    passing : rows_passed accepts g (rows_of (drop i events))
        ≡ (if is_some (next_why accepts g event.value) then [] else event.value ∷ rows_passed accepts (graph_with g event.value) (rows_of (drop (i + 1) events)))
    unfolding rows_passed
    passing =
        at_drop_more (λ (left : List (Arc Row A)). rows_passed accepts g (rows_of left)) events i event low
        ∙ ap (λ (e : Arc Row A). if is_some (next_why accepts g e.value) then [] else e.value ∷ rows_passed accepts (graph_with g e.value) (rows_of (drop (i + 1) events))) (sym at)

    passing_by : (o : Option Why) → next_why accepts g event.value ≡ o → rows_passed accepts g (rows_of (drop i events))
        ≡ (if is_some o then [] else event.value ∷ rows_passed accepts (graph_with g event.value) (rows_of (drop (i + 1) events)))
    passing_by o is =
        passing ∙ ap (λ (o : Option Why). if is_some o then [] else event.value ∷ rows_passed accepts (graph_with g event.value) (rows_of (drop (i + 1) events))) is

    pub filled_next : (new : Graph) → next_why accepts g event.value ≡ None → new ≡ graph_with g event.value → IsFilled accepts start events (i + 1) new
    filled_next new silent is = record {
      rows =
          is ∙ (ap (λ (h : Graph). graph_with h event.value) filled.rows
          ∙ ap (graph_of start.members start.coin) (append_assoc start.rows (rows_of (take i events)) (event.value ∷ []) ∙ ap (λ (rows : List Row). start.rows ++ rows) (sym more)));
      rest =
          behind
          ∙ (ap (λ (o : Option Why). option_or o (rows_why accepts (graph_with g event.value) (rows_of (drop (i + 1) events)))) silent
          ∙ ap (λ (h : Graph). rows_why accepts h (rows_of (drop (i + 1) events))) (sym is));
      passed =
          let others = rows_passed accepts new (rows_of (drop (i + 1) events)) in
          filled.passed
          ∙ (ap (λ (more : List Row). rows_of (take i events) ++ more)
          (passing_by None silent ∙ ap (λ (h : Graph). event.value ∷ rows_passed accepts h (rows_of (drop (i + 1) events))) (sym is))
          ∙ (sym (append_assoc (rows_of (take i events)) (event.value ∷ []) others) ∙ ap (λ (rows : List Row). rows ++ others) (sym more)));
    }

    pub filled_stop : (why : Why) → next_why accepts g event.value ≡ Some why → rows_why accepts start (rows_of events) ≡ Some why
    filled_stop why speaks =
        behind ∙ ap (λ (o : Option Why). option_or o (rows_why accepts (graph_with g event.value) (rows_of (drop (i + 1) events)))) speaks

    left_at : (B C : Type 0) (with_one new : Graph) (stop : Stop Why) → Comes {A = B} (next_why accepts g event.value) with_one (Err stop) new → new ≡ g → Leaves {A = C} accepts start (rows_of events) (Err stop) new
    left_at B C with_one new Memory comes same = subst (HasFront accepts start (rows_of events)) (sym same) (filled_front i g filled)
    left_at B C with_one new (Fault why) comes same = same ∙ ended_passed i g filled (passing_by (Some why) comes)

    pub filled_left : (B C : Type 0) (with_one new : Graph) (stop : Stop Why) → Comes {A = B} (next_why accepts g event.value) with_one (Err stop) new → new ≡ g → (result : Result C (Stop Why)) → IsErrAnd result (λ e. e ≡ stop) →
        Leaves accepts start (rows_of events) result new
    filled_left B C with_one new stop comes same result is =
        leaves_again accepts start (rows_of events) new C C stop (left_at B C with_one new stop comes same) result is

-- what ended one row's coming ends all
ended_at : (B : Type 0) (one all : Option Why) (with_one with_all new last : Graph) (stop : Stop Why) → ((why : Why) → one ≡ Some why → all ≡ Some why) →
    Comes {A = B} one with_one (Err stop) new → Comes {A = B} all with_all (Err stop) last
ended_at B one all with_one with_all new last Memory so comes = tt
ended_at B one all with_one with_all new last (Fault why) so comes = so why comes

pub ended : (B : Type 0) (one all : Option Why) (with_one with_all new last : Graph) (stop : Stop Why) → ((why : Why) → one ≡ Some why → all ≡ Some why) →
    Comes {A = B} one with_one (Err stop) new → (result : Result B (Stop Why)) → IsErrAnd result (λ e. e ≡ stop) → Comes all with_all result last
ended B one all with_one with_all new last stop so comes (Ok x) is = absurd is
ended B one all with_one with_all new last stop so comes (Err e) is =
    subst (λ (e : Stop Why). Comes {A = B} all with_all (Err e) last) (sym is) (ended_at B one all with_one with_all new last stop so comes)
