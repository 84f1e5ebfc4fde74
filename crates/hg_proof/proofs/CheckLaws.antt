-- What a check comes to, by what its steps came to
use Rattle.std.proofs.Common.{◌≡◌, ℕ, ◌<◌, ◌≤◌, List, [], ◌∷◌, length, is_some, if◌then◌else◌, Option, Some, None, Result, Ok, Err, sym, refl, ap, ◌∙◌, subst, arith}
use Rattle.std.specs.Option.{option_or}
use Rattle.std.specs.Result.{IsErrAnd}
use Rattle.std.specs.declared.sync.Arc.{Arc}
use Rattle.std.proofs.lemmas.List.{append-nil, length-map}
use Rattle.hg_model.specs.declared.row.Row.{Row}
use Rattle.hg_model.specs.declared.row.Placed.{Placed}
use Rattle.hg_model.specs.declared.stop.Stop.{Stop}
use Rattle.hg_model.specs.declared.stop.Stop.TheVariants.{Memory, Fault}
use Rattle.hg_model.specs.GraphWords.{IsLawfulGraph}
use Rattle.hg_model.specs.Order.{order_of}
use Rattle.hg_model.specs.Prefix.{Graph, graph_of}
use Rattle.hg_model.specs.Stakes.{Stakes, total}
use Rattle.hg_life.specs.Results.{Gives, ◌>>=◌}
use Rattle.hg_life.specs.Signing.{Accepts}
use Rattle.hg_event.proofs.Reading.{AreBytes}
use Rattle.hg_graph.specs.Held.{graph_with}
use Rattle.hg_graph.specs.RowsWithRoom.{rows_of}
use Rattle.hg_proof.specs.declared.why.Why.{Why}
use Rattle.hg_proof.specs.declared.why.Why.TheVariants as reason
use Rattle.hg_proof.specs.declared.shown.Checked.{Checked}
use Rattle.hg_proof.specs.declared.shown.Checked.TheVariants.{Yes, No}
use Rattle.hg_proof.specs.Answers.{Comes, IfYes, Leaves, graph_and, graph_passed, order_in, told}
use Rattle.hg_proof.specs.Certificate.{Certificate, most_rows}
use Rattle.hg_proof.specs.Judging.{compared, difference_from, judged, next_why, ordered_rows, rows_in, rows_passed, rows_read, rows_why, unless_at, unless_why}
use Rattle.hg_proof.specs.Reading.{form_of}
use Rattle.hg_proof.specs.Shows.{AreSpelled, Shows}
use Rattle.hg_proof.proofs.ComingLaws.{rows_pass}
use Rattle.hg_proof.proofs.FillLaws.{leaves_again, leaves_short}
use Rattle.hg_proof.proofs.FormLaws.{form_spelled}
use Rattle.hg_proof.proofs.JudgeLaws.{accepted_rows, accepted_shown, no_rows}
use Rattle.hg_proof.proofs.PartLaws.{stopped}

-- want of memory says nothing
pub stopped_short : {X Y : Type 0} (view : X → Y) (read : Result Y Why) (result : Result X (Stop Why)) → IsErrAnd result (λ e. e ≡ Memory) → Gives view result read
stopped_short view read (Ok x) is = absurd is
stopped_short {X} view read (Err e) is = subst (λ (e : Stop Why). Gives {X = X} view (Err e) read) (sym is) tt

-- what was read spells its rows, and not more of them than a graph holds
pub spelled_rows : (bytes : List ℕ) (shown : Certificate) (rows : List Row) → AreBytes bytes → form_of bytes ≡ Ok shown → rows ≡ shown.rows → AreSpelled rows
spelled_rows bytes shown rows fit e same = subst AreSpelled (sym same) (form_spelled bytes shown fit e).events

pub few_events : {A : Type 0} (bytes : List ℕ) (shown : Certificate) (events : List (Arc Row A)) → AreBytes bytes → form_of bytes ≡ Ok shown → rows_of events ≡ shown.rows → length events ≤ most_rows
few_events {A} bytes shown events fit e same =
    omega (arith, (form_spelled bytes shown fit e).few, ap length same, length-map events (λ (event : Arc Row A). event.value))

-- ---- the rows, and their order

module _ (accepts : Accepts) (n : Stakes) (c : ℕ) (rows : List Row) where
  abbrev start : Graph
  start = graph_of n c []

  stopped_at : (stop : Stop Why) (with_all new : Graph) → Comes {A = Unit {0}} (rows_why accepts start rows) with_all (Err stop) new → {X : Type 0} (view : X → List Placed) →
      Gives view (Err stop) (ordered_rows accepts n c rows)
  unfolding ordered_rows
  stopped_at Memory with_all new comes view = tt
  stopped_at (Fault why) with_all new comes view = ap (λ (o : Option Why). unless_why o (order_of n c rows)) comes

  pub stopped_rows : {X : Type 0} (view : X → List Placed) (stop : Stop Why) (with_all new : Graph) → Comes {A = Unit {0}} (rows_why accepts start rows) with_all (Err stop) new →
      (result : Result X (Stop Why)) → IsErrAnd result (λ e. e ≡ stop) → Gives view result (ordered_rows accepts n c rows)
  stopped_rows view stop with_all new comes (Ok x) is = absurd is
  stopped_rows {X} view stop with_all new comes (Err e) is =
      subst (λ (e : Stop Why). Gives {X = X} view (Err e) (ordered_rows accepts n c rows)) (sym is) (stopped_at stop with_all new comes view)

  -- the graph that is filled with all rows, and its order
  pub filled_lawful : (g : Graph) → 0 < total n → AreSpelled rows → rows_why accepts start rows ≡ None → g ≡ graph_and start rows → IsLawfulGraph g
  filled_lawful g stake spelled silent is = subst IsLawfulGraph (sym is) (rows_pass accepts start rows (no_rows n stake) spelled silent).0

  pub filled_ordered : (g : Graph) (order : List Placed) → rows_why accepts start rows ≡ None → g ≡ graph_and start rows → order ≡ order_in g → ordered_rows accepts n c rows ≡ Ok order
  unfolding ordered_rows
  filled_ordered g order silent is ordered =
      ap (λ (o : Option Why). unless_why o (order_of n c rows)) silent ∙ ap (λ (ps : List Placed). Ok ps) (sym (ordered ∙ ap (λ (h : Graph). order_in h) is))

-- ---- what is left of the graph

-- what was read is what the bytes hold
pub rows_held : (bytes : List ℕ) (shown : Certificate) (rows : List Row) → form_of bytes ≡ Ok shown → rows ≡ shown.rows → rows ≡ rows_in bytes
rows_held bytes shown rows form same = same ∙ sym (ap rows_read form)

-- nothing came of bytes of another form
pub leaves_unread : {A : Type 0} (accepts : Accepts) (old : Graph) (bytes : List ℕ) → old.rows ≡ [] → (stop : Stop Why) → Gives (λ (x : Certificate). x) (Err stop) (form_of bytes) →
    (result : Result A (Stop Why)) → IsErrAnd result (λ e. e ≡ stop) → Leaves accepts old (rows_in bytes) result old
unfolding rows_passed
leaves_unread accepts old bytes none Memory gives result is =
    leaves_short accepts old (rows_in bytes) old (0, ap (graph_of old.members old.coin) (sym (append-nil old.rows))) result is
leaves_unread {A} accepts old bytes none (Fault why) gives result is =
    let unread : rows_in bytes ≡ [] = ap rows_read gives in
    let same : old ≡ graph_passed accepts old (rows_in bytes) =
    ap (graph_of old.members old.coin) (sym (append-nil old.rows)) ∙ ap (λ (rows : List Row). graph_passed accepts old rows) (sym unread) in
    leaves_again accepts old (rows_in bytes) old A A (Fault why) same result is

none_both : (first other : Option Why) → option_or first other ≡ None → (first ≡ None) × (other ≡ None)
none_both None other none = (refl, none)
none_both (Some why) other none = absurd cc

-- all rows come where nothing speaks against them
all_passed : (accepts : Accepts) (g : Graph) (rows : List Row) → rows_why accepts g rows ≡ None → rows_passed accepts g rows ≡ rows
unfolding rows_why rows_passed
all_passed accepts g [] none = refl
all_passed accepts g (row ∷ rows) none =
    let both = none_both (next_why accepts g row) (rows_why accepts (graph_with g row) rows) none in
    ap (λ (o : Option Why). if is_some o then [] else row ∷ rows_passed accepts (graph_with g row) rows) both.0
    ∙ ap (λ (passed : List Row). row ∷ passed) (all_passed accepts (graph_with g row) rows both.1)

-- the rows of what is shown are those that came
pub full_rows : (accepts : Accepts) (old : Graph) (bytes : List ℕ) (checked : Checked) (new : Graph) → old.rows ≡ [] → told checked ≡ judged accepts old.members old.coin bytes →
    new ≡ graph_passed accepts old (rows_in bytes) → IfYes checked (λ shown. new ≡ graph_and old shown.rows)
full_rows accepts old bytes (No why) new none is passed = tt
full_rows accepts old bytes (Yes shown) new none is passed =
    let read = accepted_rows accepts old.members old.coin bytes shown (sym is) in
    let start : graph_of old.members old.coin [] ≡ old = ap (graph_of old.members old.coin) (sym none) in
    let silent : rows_why accepts old shown.rows ≡ None = subst (λ (g : Graph). rows_why accepts g shown.rows ≡ None) start read.1 in
    passed
    ∙ ap (graph_and old)
    (ap (λ (r : Result Certificate Why). rows_passed accepts old (rows_read r)) read.0 ∙ all_passed accepts old shown.rows silent)

-- ---- the certificate

module _ (accepts : Accepts) (n : Stakes) (c : ℕ) (bytes : List ℕ) where
  broken : (why : Why) → form_of bytes ≡ Err why → judged accepts n c bytes ≡ Err why
  unfolding judged
  broken why e = rw e refl

  pub stopped_form : (stop : Stop Why) → Gives (λ (x : Certificate). x) (Err stop) (form_of bytes) → (result : Result Certificate (Stop Why)) → IsErrAnd result (λ e. e ≡ stop) →
      Gives (λ (x : Certificate). x) result (judged accepts n c bytes)
  stopped_form stop gives result is = stopped (λ x. x) (λ x. x) stop (form_of bytes) (judged accepts n c bytes) broken gives result is

  module _ (shown : Certificate) (form : form_of bytes ≡ Ok shown) (rows : List Row) (same : rows ≡ shown.rows) where
    by_rows : judged accepts n c bytes ≡ (ordered_rows accepts n c rows >>= compared shown)
    unfolding judged
    by_rows = rw form (ap (λ (G : List Row). ordered_rows accepts n c G >>= compared shown) (sym same))

    against_row : (why : Why) → ordered_rows accepts n c rows ≡ Err why → judged accepts n c bytes ≡ Err why
    against_row why e = by_rows ∙ ap (λ (r : Result (List Placed) Why). r >>= compared shown) e

    pub stopped_order : {X : Type 0} (view : X → List Placed) (stop : Stop Why) → Gives view (Err stop) (ordered_rows accepts n c rows) → (result : Result Certificate (Stop Why)) → IsErrAnd result (λ e. e ≡ stop) →
        Gives (λ (x : Certificate). x) result (judged accepts n c bytes)
    stopped_order view stop gives result is = stopped view (λ x. x) stop (ordered_rows accepts n c rows) (judged accepts n c bytes) against_row gives result is

    by_order : (order : List Placed) → ordered_rows accepts n c rows ≡ Ok order → judged accepts n c bytes ≡ unless_at (difference_from 0 shown.order order) shown
    by_order order e = by_rows ∙ ap (λ (r : Result (List Placed) Why). r >>= compared shown) e

    pub against_order : (order : List Placed) (place : ℕ) → ordered_rows accepts n c rows ≡ Ok order → Some place ≡ difference_from 0 shown.order order → judged accepts n c bytes ≡ Err (reason.Order place)
    against_order order place e differs = by_order order e ∙ ap (λ (o : Option ℕ). unless_at o shown) (sym differs)

    pub against_nothing : (order : List Placed) → ordered_rows accepts n c rows ≡ Ok order → None ≡ difference_from 0 shown.order order → judged accepts n c bytes ≡ Ok shown
    against_nothing order e same_order = by_order order e ∙ ap (λ (o : Option ℕ). unless_at o shown) (sym same_order)

-- what a check answers is yes just for what is shown
pub answered_shows : (accepts : Accepts) (n : Stakes) (c : ℕ) (bytes : List ℕ) (checked : Checked) → AreBytes bytes → 0 < total n → told checked ≡ judged accepts n c bytes →
    IfYes checked (Shows accepts n c bytes)
answered_shows accepts n c bytes (Yes shown) fit stake is = accepted_shown accepts n c bytes shown fit stake (sym is)
answered_shows accepts n c bytes (No why) fit stake is = tt
