-- No rule speaks against rows that come one after the other, just where they are a graph with accepted signatures
use Rattle.std.proofs.Common.{◌≡◌, ◌≢◌, inl, inr, ℕ, suc, ◌*◌, ◌<◌, ◌≤◌, Bool, true, false, cond, not, eqb, List, [], ◌∷◌, ◌++◌, length, map, get_or, Some, None, slice_get, sym, refl, ap, ◌∙◌, subst, append_assoc, arith}
use Rattle.std.specs.Prelude.{nat_le, nat_lt, ◌&&◌}
use Rattle.std.specs.List.{AllByRecursion}
use Rattle.std.proofs.lemmas.Bool.Decides.{nat_tests}
use Rattle.std.proofs.lemmas.Bool.{and_parts, cases_lt, eq-eqb, le-ltb, lt-ltb, or_left, or_right}
use Rattle.std.proofs.lemmas.List.{append-nil, length_push}
use Rattle.std.proofs.lemmas.List.Folds.{list_all-append}
use Rattle.std.proofs.lemmas.Option.{slice_get-get_or}
use Rattle.hg_model.specs.declared.row.Row.{Row}
use Rattle.hg_model.specs.Places.{has_place}
use Rattle.hg_model.specs.Stakes.{Stakes, member_count, total}
use Rattle.hg_model.specs.Links.{ParentNames, creator, first_place, has_few_others, later_places, links, other_parents, parents, parents_in, parent_names, place_of, self_parent}
use Rattle.hg_model.specs.Forks.{forking}
use Rattle.hg_model.specs.Graph.{IsGraph, creator_at, creator_of_row, have_few_others, name_at, name_in}
use Rattle.hg_model.specs.Fits.{AreHeld, Fits, ParentsFit}
use Rattle.hg_model.specs.Held.{is_held}
use Rattle.hg_model.specs.Prefix.{Graph}
use Rattle.hg_model.proofs.LinkLaws.{length-links}
use Rattle.hg_model.proofs.NameLaws.{distinct-push, place_of_at}
use Rattle.hg_model.proofs.PushLaws.{link_at, nobody, row_creator-links, shaped-push, slice_get-before, slice_get-last}
use Rattle.hg_life.specs.declared.answers.PutAnswer.TheVariants.{Refused}
use Rattle.hg_life.specs.declared.answers.Fault.TheVariants as fault
use Rattle.hg_life.specs.Signing.{Accepts}
use Rattle.hg_life.specs.Spelling.{HasSpelling, body_of}
use Rattle.hg_life.specs.Verdict.{arrival_rule, creator_rule, first_by, first_missing, forkers_rule, forking_with, impostor_rule, member_rule, missing_rule, name_rule, signature_rule}
use Rattle.hg_life.proofs.RuleLaws.{arrives, below_from_test, mapped_none, one_test, option_or_none}
use Rattle.hg_prefix.proofs.FewLaws.{few_push}
use Rattle.hg_prefix.proofs.StandingLaws.{name_at_place}
use Rattle.hg_history.proofs.FirstLaws.{graph_front}
use Rattle.hg_graph.specs.Held.{graph_with}
use Rattle.hg_arrival.specs.Arrival.{all_rules, arrival_by}
use Rattle.hg_proof.specs.Judging.{next_why, rows_why, why_at}
use Rattle.hg_proof.specs.Shows.{AreSpelled}

-- ---- the last row of a graph fits the rows before it

first_has : (p : ℕ) (ps : List ℕ) → has_place (p ∷ ps) p ≡ true
first_has p ps = or_left (eqb p p) (has_place ps p) (eq-eqb p p refl)

later_has : (q p : ℕ) (ps : List ℕ) → has_place ps p ≡ true → has_place (q ∷ ps) p ≡ true
later_has q p ps h = or_right (eqb q p) (has_place ps p) h

some_same : (a b : Row) → Some a ≡ Some b → a ≡ b
some_same a b e = cc

few_last : (F : List Row) (row : Row) → have_few_others (F ++ row ∷ []) ≡ true → has_few_others row.parents ≡ true
few_last F row few =
    let test : Row → Bool = λ row. has_few_others row.parents in
    let last = (and_parts (have_few_others F) (test row && true) (sym (list_all-append test F (row ∷ [])) ∙ few)).1 in
    (and_parts (test row) true last).0

module _ (n : Stakes) (F : List Row) (row : Row) (graph : IsGraph n (F ++ row ∷ [])) where
  abbrev U : List Row
  U = F ++ row ∷ []

  front : IsGraph n F
  front = graph_front n F (row ∷ []) graph

  long : length F < length U
  long = omega (arith, length_push F row)

  last_at : slice_get U (length F) ≡ Some row
  last_at = slice_get-last F row

  stays : (x : ℕ) → x < length F → slice_get U x ≡ slice_get F x
  stays x inside = slice_get-before F row x inside

  -- a name that is found among the first rows has the same place there
  found : (name : List ℕ) → place_of U name < length F → place_of F name ≡ place_of U name
  unfolding name_at
  found name low =
      place_of_at F front.distinct (place_of U name) name low
      (sym (ap name_in (stays (place_of U name) low)) ∙ name_at_place U name (omega (arith, length_push F row)))

  creator_stays : (p : ℕ) → p < length F → creator_at F p ≡ creator_at U p
  creator_stays p low = sym (ap creator_of_row (stays p low))

  pub fresh : length F ≤ place_of F row.name
  unfolding name_at
  fresh = elim (cases_lt (place_of F row.name) (length F)) [
    | inr free ↦ free
    | inl held ↦ (
        let p = place_of F row.name in
        let same : name_at U p ≡ name_at U (length F) = ap name_in (stays p held) ∙ (name_at_place F row.name held ∙ sym (ap name_in last_at)) in
        let e = graph.distinct.one p (length F) (omega (arith, length_push F row)) long same in
        absurd (omega arith))
  ]

  row_places : List ℕ
  row_places = map (place_of U) (parent_names row.parents)

  parents_are : parents (links U) (length F) ≡ row_places
  unfolding parents row_places
  parents_are =
      let here : slice_get U (length F) ≡ Some (get_or U (length F) nobody) = slice_get-get_or U (length F) nobody long in
      let same : get_or U (length F) nobody ≡ row = some_same (get_or U (length F) nobody) row (sym here ∙ last_at) in
      ap parents_in (link_at U (length F) long) ∙ ap (λ (r : Row). map (place_of U) (parent_names r.parents)) same

  low_places : (p : ℕ) → has_place row_places p ≡ true → p < length F
  low_places p h = graph.shaped.earlier.earlier (length F) p (subst (λ ps. has_place ps p ≡ true) (sym parents_are) h)

  creator_is : creator (links U) (length F) ≡ row.creator
  creator_is = row_creator-links U (length F) ∙ ap creator_of_row last_at

  own_place : (p : ℕ) → has_place (first_place row_places) p ≡ true → creator_at U p ≡ row.creator
  unfolding self_parent
  own_place p h =
      sym (row_creator-links U p)
      ∙ (graph.shaped.self_by_same (length F) p (subst (λ ps. has_place (first_place ps) p ≡ true) (sym parents_are) h) ∙ creator_is)

  other_places : (p : ℕ) → has_place (later_places row_places) p ≡ true → creator_at U p ≢ row.creator
  unfolding other_parents
  other_places p h same =
      graph.shaped.others_by_others (length F) p (subst (λ ps. has_place (later_places ps) p ≡ true) (sym parents_are) h)
      (row_creator-links U p ∙ (same ∙ sym creator_is))

  held : (names : List (List ℕ)) → ((p : ℕ) → has_place (map (place_of U) names) p ≡ true → p < length F) → AreHeld F names
  held [] low = tt
  held (name ∷ names) low =
      let here = low (place_of U name) (first_has (place_of U name) (map (place_of U) names)) in (
        subst (λ k. k < length F) (sym (found name here)) here,
        held names (λ p h. low p (later_has (place_of U name) p (map (place_of U) names) h)),
      )

  by_others : (names : List (List ℕ)) → ((p : ℕ) → has_place (map (place_of U) names) p ≡ true → p < length F) → ((p : ℕ) → has_place (map (place_of U) names) p ≡ true → creator_at U p ≢ row.creator) →
      AllByRecursion (λ name. creator_at F (place_of F name) ≢ row.creator) names
  by_others [] low other = tt
  by_others (name ∷ names) low other =
      let first = first_has (place_of U name) (map (place_of U) names) in
      let here = low (place_of U name) first in (
        (λ same. other (place_of U name) first (sym (creator_stays (place_of U name) here) ∙ (sym (ap (creator_at F) (found name here)) ∙ same))),
        by_others names (λ p h. low p (later_has (place_of U name) p (map (place_of U) names) h)) (λ p h. other p (later_has (place_of U name) p (map (place_of U) names) h)),
      )

  parents_fit : (names : List (List ℕ)) → ((p : ℕ) → has_place (map (place_of U) names) p ≡ true → p < length F) →
      ((p : ℕ) → has_place (first_place (map (place_of U) names)) p ≡ true → creator_at U p ≡ row.creator) →
      ((p : ℕ) → has_place (later_places (map (place_of U) names)) p ≡ true → creator_at U p ≢ row.creator) → ParentsFit F row.creator names
  parents_fit [] low own other = tt
  parents_fit (name ∷ names) low own other =
      let here = low (place_of U name) (first_has (place_of U name) (map (place_of U) names)) in (
        ap (creator_at F) (found name here) ∙ (creator_stays (place_of U name) here ∙ own (place_of U name) (first_has (place_of U name) [])),
        by_others names (λ p h. low p (later_has (place_of U name) p (map (place_of U) names) h)) other,
      )

  pub fits_last : Fits n F row
  unfolding row_places
  fits_last = record {
    member = subst (λ k. k < member_count n) creator_is (graph.shaped.members (length F) (omega (arith, length-links U, length_push F row)));
    few = few_last F row graph.few_others;
    present = record { held = held (parent_names row.parents) low_places };
    parents_fit = parents_fit (parent_names row.parents) low_places own_place other_places;
  }

-- ---- no rule speaks against such a row

held_test : (G : List Row) (name : List ℕ) → place_of G name < length G → not (is_held G name) ≡ false
held_test G name low = ap not (lt-ltb (place_of G name) (length G) low)

by_another : (a b : ℕ) → a ≢ b → eqb a b ≡ false
by_another a b other = grind (arith, nat_tests)

none_missing : (G : List Row) (names : List (List ℕ)) → AreHeld G names → first_missing G names ≡ None
none_missing G [] held = refl
none_missing G (name ∷ names) held =
    ap (λ (b : Bool). cond b (Some name) (first_missing G names)) (held_test G name held.0) ∙ none_missing G names held.1

none_by : (G : List Row) (m : ℕ) (names : List (List ℕ)) → AllByRecursion (λ name. creator_at G (place_of G name) ≢ m) names → first_by G m names ≡ None
none_by G m [] others = refl
none_by G m (name ∷ names) others =
    ap (λ (b : Bool). cond b (Some (place_of G name)) (first_by G m names)) (by_another (creator_at G (place_of G name)) m others.0) ∙ none_by G m names others.1

missing_silent : (G : List Row) (parents : ParentNames) → AreHeld G (parent_names parents) → missing_rule G parents ≡ None
missing_silent G None held = refl
missing_silent G (Some names) held = rw (held_test G names.0 held.0, none_missing G names.1 held.1) refl

creators_silent : (G : List Row) (m : ℕ) (parents : ParentNames) → ParentsFit G m (parent_names parents) → creator_rule G m parents ≡ None
creators_silent G m None fit = refl
creators_silent G m (Some names) fit =
    let own : not (eqb (creator_at G (place_of G names.0)) m) ≡ false = ap not (eq-eqb (creator_at G (place_of G names.0)) m fit.0) in
    rw (own, none_by G m names.1 fit.1) refl

abbrev pub IsSigned : Accepts → Row → Type 0
IsSigned accepts row = accepts row.creator (body_of row) row.sig ≡ true

-- a row that fits, is new, is signed, and leaves less than a third of the stake with a fork
record MayCome (accepts : Accepts) (n : Stakes) (G : List Row) (row : Row) : Type 0 where
  fits : Fits n G row
  new_name : length G ≤ place_of G row.name
  signed : IsSigned accepts row
  few_forkers : 3 * forking n (links (G ++ row ∷ [])) < total n

rules_silent : (accepts : Accepts) (g : Graph) (row : Row) → MayCome accepts g.members g.rows row → all_rules accepts None g row ≡ None
rules_silent accepts g row may =
    let n : Stakes = g.members in
    let G : List Row = g.rows in
    let low = may.fits.member in
    let few = may.few_forkers in
    let member : nat_le (member_count n) row.creator ≡ false = grind (arith, nat_tests) in
    let name : nat_lt (place_of G row.name) (length G) ≡ false = le-ltb (place_of G row.name) (length G) may.new_name in
    let forks : nat_le (total n) (3 * forking_with n G row) ≡ false = grind (arith, nat_tests) in
    rw (member, name, may.signed, missing_silent G row.parents may.fits.present.held, creators_silent G row.creator row.parents may.fits.parents_fit, forks) refl

-- and a row against which no rule speaks is one

holds_from_none : {A : Type 0} (t : Bool) (x : A) → cond t None (Some x) ≡ None → t ≡ true
holds_from_none true x none = refl
holds_from_none false x none = cc

may_come : (accepts : Accepts) (g : Graph) (row : Row) → HasSpelling row → all_rules accepts None g row ≡ None → MayCome accepts g.members g.rows row
may_come accepts g row has none =
    let n : Stakes = g.members in
    let G : List Row = g.rows in
    let both = option_or_none (arrival_by accepts None g row) (forkers_rule n G row) none in
    let a = option_or_none (member_rule n row) _ both.0 in
    let b = option_or_none (name_rule G row) _ a.1 in
    let s = option_or_none (signature_rule accepts row) _ b.1 in
    let own : ℕ = suc row.creator in
    let other : eqb row.creator own ≡ false = grind (arith, nat_tests) in
    let no_impostor : impostor_rule own row ≡ None = ap (λ (b : Bool). cond b (Some (Refused fault.Impostor)) None) other in
    let arrival : arrival_rule accepts n own G row ≡ None = rw (a.0, b.0, s.0, no_impostor) s.1 in
    let here = arrives accepts n own G row has arrival in
    record {
      fits = here.fits;
      new_name = here.new_name;
      signed = holds_from_none (accepts row.creator (body_of row) row.sig) (Refused fault.Signature) s.0;
      few_forkers = below_from_test (total n) (3 * forking_with n G row) (one_test (nat_le (total n) (3 * forking_with n G row)) (Refused (fault.TooManyForkers (forking_with n G row))) both.1);
    }

-- ---- one row, and all of them

graph_push : (accepts : Accepts) (n : Stakes) (G : List Row) (row : Row) → IsGraph n G → MayCome accepts n G row → IsGraph n (G ++ row ∷ [])
graph_push accepts n G row g may = record {
  distinct = distinct-push G row g.distinct may.new_name;
  few_others = few_push G row g.few_others may.fits.few;
  shaped = shaped-push n G row g.shaped may.fits;
  few_forkers = may.few_forkers;
}

-- a row against which no rule speaks makes a graph with those before
pub graph_with_next : (accepts : Accepts) (g : Graph) (row : Row) → IsGraph g.members g.rows → HasSpelling row → None ≡ all_rules accepts None g row → IsGraph g.members (g.rows ++ row ∷ [])
graph_with_next accepts g row graph has silent = graph_push accepts g.members g.rows row graph (may_come accepts g row has (sym silent))

-- where no rule speaks against any of these rows, they are a graph with those before, and their signatures are accepted
pub rows_pass : (accepts : Accepts) (g : Graph) (rows : List Row) → IsGraph g.members g.rows → AreSpelled rows → rows_why accepts g rows ≡ None →
    IsGraph g.members (g.rows ++ rows) × AllByRecursion (IsSigned accepts) rows
unfolding rows_why
rows_pass accepts g [] graph events none = (subst (IsGraph g.members) (sym (append-nil g.rows)) graph, tt)
rows_pass accepts g (row ∷ rows) graph events none =
    let both = option_or_none (next_why accepts g row) (rows_why accepts (graph_with g row) rows) none in
    let may = may_come accepts g row events.0.sized (mapped_none (why_at (length g.rows)) (all_rules accepts None g row) both.0) in
    let more = rows_pass accepts (graph_with g row) rows (graph_push accepts g.members g.rows row graph may) events.1 both.1 in
    (subst (IsGraph g.members) (append_assoc g.rows (row ∷ []) rows) more.0, (may.signed, more.1))

-- and the other way round
pub rows_silent : (accepts : Accepts) (g : Graph) (rows : List Row) → IsGraph g.members (g.rows ++ rows) → AllByRecursion (IsSigned accepts) rows → rows_why accepts g rows ≡ None
unfolding rows_why
rows_silent accepts g [] graph signed = refl
rows_silent accepts g (row ∷ rows) graph signed =
    let n : Stakes = g.members in
    let G : List Row = g.rows in
    let whole : IsGraph n ((G ++ row ∷ []) ++ rows) = subst (IsGraph n) (sym (append_assoc G (row ∷ []) rows)) graph in
    let front = graph_front n (G ++ row ∷ []) rows whole in
    let may : MayCome accepts n G row = record {
      fits = fits_last n G row front;
      new_name = fresh n G row front;
      signed = signed.0;
      few_forkers = front.few_forkers;
    } in
    rw (rules_silent accepts g row may) (rows_silent accepts (graph_with g row) rows whole signed.1)
