-- A checker accepts just what is shown
use Rattle.std.proofs.Common.{◌≡◌, inl, inr, ℕ, zero, suc, ◌<◌, Bool, true, cond, eqb, List, [], ◌∷◌, Option, Some, None, Result, Ok, Err, refl, sym, ap, ap₂, subst, ◌∙◌, arith}
use Rattle.std.specs.Prelude.{◌&&◌}
use Rattle.std.specs.List.{AllByRecursion}
use Rattle.std.proofs.lemmas.Bool.{and_from, and_parts, cases_Bool, eqb-true, eq-eqb, true≢false}
use Rattle.hg_model.specs.declared.row.Row.{Row}
use Rattle.hg_model.specs.declared.row.Placed.{Placed}
use Rattle.hg_model.specs.Places.{some_below}
use Rattle.hg_model.specs.Stakes.{Stakes, member_count, stake_of, total}
use Rattle.hg_model.specs.Links.{links}
use Rattle.hg_model.specs.Forks.{forking, has_fork}
use Rattle.hg_model.specs.Graph.{IsGraph}
use Rattle.hg_model.specs.Order.{order_of}
use Rattle.hg_model.specs.Prefix.{graph_of}
use Rattle.hg_model.proofs.NameLaws.{distinct-none}
use Rattle.hg_model.proofs.PlacesLaws.{weight_below_none}
use Rattle.hg_model.proofs.PushLaws.{shaped-none}
use Rattle.hg_life.specs.Results.{◌>>=◌}
use Rattle.hg_life.specs.Signing.{Accepts}
use Rattle.hg_history.specs.Laws.{IsEvent}
use Rattle.hg_runs.proofs.FurtherLaws.{further_safe}
use Rattle.hg_proof.specs.declared.why.Why.{Why}
use Rattle.hg_proof.specs.Certificate.{Certificate}
use Rattle.hg_proof.specs.Reading.{form_of}
use Rattle.hg_proof.specs.Judging.{compared, difference_from, is_same, judged, ordered_rows, rows_why, unless_at, unless_why}
use Rattle.hg_proof.specs.Shows.{AreSigned, AreSpelled}
use Rattle.hg_proof.specs.Laws.{AcceptedIsShown, ShownIsAccepted, ShownIsOne, ShownIsSafe}
use Rattle.hg_proof.proofs.ComingLaws.{IsSigned, rows_pass, rows_silent}
use Rattle.hg_proof.proofs.FormLaws.{form_read, form_spelled}

-- ---- orders that do not differ

same_entry : (p q : Placed) → is_same p q ≡ true → p ≡ q
same_entry p q same =
    let both = and_parts (eqb p.place q.place && eqb p.received q.received) (eqb p.time q.time) same in
    let first = and_parts (eqb p.place q.place) (eqb p.received q.received) both.0 in
    rw (eqb-true p.place q.place first.0, eqb-true p.received q.received first.1, eqb-true p.time q.time both.1) refl

is_same_again : (p : Placed) → is_same p p ≡ true
is_same_again p =
    and_from (eqb p.place p.place && eqb p.received p.received) (eqb p.time p.time)
    (and_from (eqb p.place p.place) (eqb p.received p.received) (eq-eqb p.place p.place refl) (eq-eqb p.received p.received refl)) (eq-eqb p.time p.time refl)

same_orders : (i : ℕ) (ps qs : List Placed) → difference_from i ps qs ≡ None → ps ≡ qs
unfolding difference_from
same_orders i [] [] none = refl
same_orders i [] (q ∷ qs) none = cc
same_orders i (p ∷ ps) [] none = cc
same_orders i (p ∷ ps) (q ∷ qs) none = elim (cases_Bool (is_same p q)) [
  | inl same ↦ (
      let later = sym (ap (λ (b : Bool). cond b (difference_from (suc i) ps qs) (Some i)) same) ∙ none in
      ap₂ (λ (x : Placed) (xs : List Placed). x ∷ xs) (same_entry p q same) (same_orders (suc i) ps qs later))
  | inr other ↦ (let some : Some i ≡ None = sym (ap (λ (b : Bool). cond b (difference_from (suc i) ps qs) (Some i)) other) ∙ none in cc)
]

no_difference : (i : ℕ) (ps : List Placed) → difference_from i ps ps ≡ None
unfolding difference_from
no_difference i [] = refl
no_difference i (p ∷ ps) = ap (λ (b : Bool). cond b (difference_from (suc i) ps ps) (Some i)) (is_same_again p) ∙ no_difference (suc i) ps

-- ---- lists by places and by recursion

at_each : (accepts : Accepts) (G : List Row) → AreSpelled G → AllByRecursion (IsSigned accepts) G → AreSigned accepts G
at_each accepts [] events signed x row at = cc
at_each accepts (first ∷ G) events signed zero row at =
    subst (IsEvent accepts) (some_row first row at) (record { spelled = events.0; signed = signed.0 })
  where
    some_row : (a b : Row) → Some a ≡ Some b → a ≡ b
    some_row a b e = cc
at_each accepts (first ∷ G) events signed (suc x) row at = at_each accepts G events.1 signed.1 x row at

each_spelled : (accepts : Accepts) (G : List Row) → AreSigned accepts G → AreSpelled G
each_spelled accepts [] are = tt
each_spelled accepts (row ∷ G) are = ((are 0 row refl).spelled, each_spelled accepts G (λ x other at. are (suc x) other at))

each_signed : (accepts : Accepts) (G : List Row) → AreSigned accepts G → AllByRecursion (IsSigned accepts) G
each_signed accepts [] are = tt
each_signed accepts (row ∷ G) are = ((are 0 row refl).signed, each_signed accepts G (λ x other at. are (suc x) other at))

-- ---- the graph of no rows

no_forkers : (n : Stakes) → forking n (links []) ≡ 0
unfolding forking has_fork some_below links
no_forkers n = weight_below_none (stake_of n) (member_count n) (has_fork (links [])) (λ m inside forks. absurd (true≢false (sym forks)))

pub no_rows : (n : Stakes) → 0 < total n → IsGraph n []
unfolding links
no_rows n stake = record { distinct = distinct-none; few_others = refl; shaped = shaped-none n; few_forkers = omega (arith, no_forkers n) }

-- ---- what is accepted

abbrev given : Certificate → Result Certificate Why
given shown = Ok shown

same_given : (one other : Certificate) → given one ≡ given other → one ≡ other
same_given one other e = cc

-- nothing spoke against what was accepted
record IsAccepted (accepts : Accepts) (n : Stakes) (c : ℕ) (bytes : List ℕ) (shown : Certificate) : Type 0 where
  read : form_of bytes ≡ Ok shown
  silent : rows_why accepts (graph_of n c []) shown.rows ≡ None
  same : difference_from 0 shown.order (order_of n c shown.rows) ≡ None

by_order : (difference : Option ℕ) (shown other : Certificate) → unless_at difference shown ≡ Ok other → (difference ≡ None) × (shown ≡ other)
by_order None shown other e = (refl, same_given shown other e)
by_order (Some i) shown other e = absurd cc

by_rows : (why : Option Why) (order : List Placed) (shown other : Certificate) → (unless_why why order >>= compared shown) ≡ Ok other →
    (why ≡ None) × (difference_from 0 shown.order order ≡ None) × (shown ≡ other)
by_rows None order shown other e = (let both = by_order (difference_from 0 shown.order order) shown other e in (refl, both.0, both.1))
by_rows (Some why) order shown other e = absurd cc

accepted_form : (accepts : Accepts) (n : Stakes) (c : ℕ) (bytes : List ℕ) (form : Result Certificate Why) (shown : Certificate) → form_of bytes ≡ form →
    (form >>= λ read. ordered_rows accepts n c read.rows >>= compared read) ≡ Ok shown → IsAccepted accepts n c bytes shown
unfolding ordered_rows
accepted_form accepts n c bytes (Err why) shown is e = absurd cc
accepted_form accepts n c bytes (Ok read) shown is e =
    let all = by_rows (rows_why accepts (graph_of n c []) read.rows) (order_of n c read.rows) read shown e in
    subst (IsAccepted accepts n c bytes) all.2 (record { read = is; silent = all.0; same = all.1 })

pub accepted_shown : AcceptedIsShown
unfolding judged
accepted_shown accepts n c bytes shown fit stake e =
    let done = accepted_form accepts n c bytes (form_of bytes) shown refl e in
    let form = form_spelled bytes shown fit done.read in
    let rows = rows_pass accepts (graph_of n c []) shown.rows (no_rows n stake) form.events done.silent in
    record {
      spelled = form.spelled;
      few = form.few;
      sized = form.sized;
      graph = rows.0;
      signed = at_each accepts shown.rows form.events rows.1;
      whole = same_orders 0 shown.order (order_of n c shown.rows) done.same;
    }

-- no rule spoke against its rows
pub accepted_rows : (accepts : Accepts) (n : Stakes) (c : ℕ) (bytes : List ℕ) (shown : Certificate) → judged accepts n c bytes ≡ Ok shown → (form_of bytes ≡ Ok shown) × (rows_why accepts (graph_of n c []) shown.rows ≡ None)
unfolding judged
accepted_rows accepts n c bytes shown e =
    let done = accepted_form accepts n c bytes (form_of bytes) shown refl e in
    (done.read, done.silent)

pub shown_accepted : ShownIsAccepted
unfolding judged ordered_rows
shown_accepted accepts n c bytes shown shows =
    let form : form_of bytes ≡ Ok shown = ap form_of shows.spelled ∙ form_read shown shows.few (each_spelled accepts shown.rows shows.signed) shows.sized in
    let rows = rows_silent accepts (graph_of n c []) shown.rows shows.graph (each_signed accepts shown.rows shows.signed) in
    let same : difference_from 0 shown.order (order_of n c shown.rows) ≡ None = ap (difference_from 0 shown.order) (sym shows.whole) ∙ no_difference 0 shown.order in
    rw (form, rows, same) refl

pub shown_one : ShownIsOne
shown_one accepts n c bytes one other first second =
    same_given one other (sym (shown_accepted accepts n c bytes one first) ∙ shown_accepted accepts n c bytes other second)

pub shown_safe : ShownIsSafe
shown_safe terms keys n c run bytes shown is shows few apart k h at =
    rw shows.whole (further_safe terms n c run shown.rows is (record { graph = shows.graph; events = λ x row here. (shows.signed x row here).spelled }) few apart k h at)
