-- The members that are counted as dishonest are all but the honest ones
use Rattle.std.proofs.Common.{◌≡◌, ℕ, suc, ◌<◌, Bool, true, false, not, eqb, List, [], ◌∷◌, Some, slice_get, refl, sym, ap, ◌∙◌, subst, inl, inr}
use Rattle.std.specs.List.{list_any}
use Rattle.std.proofs.lemmas.Bool.{cases_Bool, or_cases, and_from, and_parts, eq-eqb, eqb-true, true≢false, both_ways, not_from_false, not-true, false_from_ne_true}
use Rattle.std.proofs.lemmas.Map.Keys.{any_passes_from_place}
use Rattle.hg_model.specs.declared.row.Row.{Row}
use Rattle.hg_model.specs.Stakes.{Stakes, member_count}
use Rattle.hg_life.specs.Spelling.{spelling, Spells}
use Rattle.hg_life.specs.Terms.{Terms}
use Rattle.hg_life.specs.History.{Change}
use Rattle.hg_life.specs.History.Change.{Took, Made, Marked}
use Rattle.hg_model.proofs.PlacesLaws.{some_below_from, some_below_found}
use Rattle.hg_model.proofs.NameLaws.{bytes_eq-same, bytes_same}
use Rattle.hg_event.proofs.Reading.{same_done}
use Rattle.hg_event.proofs.Spells.{Spells-read_event}
use Rattle.hg_history.proofs.ChangeLaws.{changes_left}
use Rattle.hg_runs.specs.Run.{Run, IsRun, graph_at}
use Rattle.hg_runs.specs.Honest.{is_making_of, is_stray, is_dishonest, HasMade, IsHonest}
use Rattle.hg_runs.specs.Further.{AreEvents, has_stray}
use Rattle.hg_runs.specs.Laws.{HonestyIsTested}
use Rattle.hg_runs.proofs.MomentLaws.{whole_graph}

-- what passes a test of a list stands at some place
pub any_found : {A : Type 0} (test : A → Bool) (xs : List A) → list_any test xs ≡ true → (i : ℕ) × (x : A) × (slice_get xs i ≡ Some x) × (test x ≡ true)
any_found test [] any = absurd (true≢false (sym any))
any_found test (x ∷ xs) any = elim (or_cases (test x) (list_any test xs) any) [
  | inl here ↦ (0, x, refl, here)
  | inr later ↦ (let found = any_found test xs later in (suc found.0, found.1, found.2, found.3))
]

-- the change made a row with the same bytes
pub made_bytes : (row : Row) (e : Change) → is_making_of row e ≡ true → (other : Row) × (e ≡ Made other) × (spelling other ≡ spelling row)
made_bytes row (Took other) is = absurd (true≢false (sym is))
made_bytes row (Made other) is = (other, refl, bytes_same (spelling other) (spelling row) is)
made_bytes row (Marked len share) is = absurd (true≢false (sym is))

module _ (terms : ℕ → Terms) (n : Stakes) (c : ℕ) (run : Run) (m : ℕ) (is : IsRun terms n c run) (member : m < member_count n) where
  -- events with the same bytes are equal
  made_row : (row : Row) → Spells (spelling row) row → list_any (is_making_of row) (run m) ≡ true → HasMade (run m) row
  made_row row event any =
      let found = any_found (is_making_of row) (run m) any in
      let made = made_bytes row found.1 found.3 in
      let has : HasMade (run m) made.0 = (found.0, found.2 ∙ ap (λ (e : Change). Some e) made.1) in
      let own = changes_left n c (run m) made.0 (inl has) in
      let other : Spells (spelling made.0) made.0 = ((whole_graph terms n c run is m member).events own.0 made.0 own.1).spelled in
      subst (HasMade (run m)) (one_row made.0 row (subst (λ (bytes : List ℕ). Spells bytes made.0) made.2 other) event) has
    where
      one_row : (one two : Row) → Spells (spelling two) one → Spells (spelling two) two → one ≡ two
      one_row one two spells others = same_done one two (sym (Spells-read_event (spelling two) one spells) ∙ Spells-read_event (spelling two) two others)

  -- where none of these events is stray, the own node made each of them that is by m
  pub none_stray : (G : List Row) → AreEvents G → has_stray run G m ≡ false → (x : ℕ) (row : Row) → slice_get G x ≡ Some row → row.creator ≡ m → HasMade (run m) row
  none_stray G events none x row at by = elim (cases_Bool (list_any (is_making_of row) (run m))) [
    | inl any ↦ made_row row (events x row at) any
    | inr lacks ↦ absurd (both_ways (has_stray run G m) none
        (any_passes_from_place (is_stray m (run m)) G x row at
        (and_from (eqb row.creator m) (not (list_any (is_making_of row) (run m))) (eq-eqb row.creator m by) (not_from_false (list_any (is_making_of row) (run m)) lacks))))
  ]

  -- and the other way round
  pub made_not_stray : (G : List Row) → ((x : ℕ) (row : Row) → slice_get G x ≡ Some row → row.creator ≡ m → HasMade (run m) row) → has_stray run G m ≡ false
  made_not_stray G makes = false_from_ne_true (has_stray run G m) (λ counted.
      let found = any_found (is_stray m (run m)) G counted in
      let row : Row = found.1 in
      let parts = and_parts (eqb row.creator m) (not (list_any (is_making_of row) (run m))) found.3 in
      let made = makes found.0 row found.2 (eqb-true row.creator m parts.0) in
      both_ways (list_any (is_making_of row) (run m)) (not-true (list_any (is_making_of row) (run m)) parts.1)
      (any_passes_from_place (is_making_of row) (run m) made.0 (Made row) made.1 (bytes_eq-same (spelling row) (spelling row) refl)))

  stray : (k : ℕ) → Bool
  stray k = has_stray run (graph_at n c run k) m

  pub honest_from : is_dishonest n c run m ≡ false → IsHonest n c run m
  unfolding is_dishonest stray
  honest_from none = record {
    made = λ k x row member_k.
        let events : AreEvents (graph_at n c run k) = λ y other at. ((whole_graph terms n c run is k member_k).events y other at).spelled in
        none_stray (graph_at n c run k) events
        (false_from_ne_true (stray k) (λ counted. both_ways (is_dishonest n c run m) none (some_below_from (member_count n) stray k member_k counted))) x row;
  }

  -- and an honest member is not counted
  pub honest_is_not : IsHonest n c run m → is_dishonest n c run m ≡ false
  unfolding is_dishonest stray
  honest_is_not honest = false_from_ne_true (is_dishonest n c run m) (λ counted.
      let k = some_below_found (member_count n) stray counted in
      both_ways (stray k.0) (made_not_stray (graph_at n c run k.0) (λ x row at by. honest.made k.0 x row k.1 at by)) k.2)

pub honesty_tested : HonestyIsTested
honesty_tested terms n c run m is member = (honest_from terms n c run m is member, honest_is_not terms n c run m is member)
