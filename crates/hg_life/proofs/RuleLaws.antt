-- What holds of a row against which no rule speaks
use Rattle.std.proofs.Common.{◌≡◌, inl, inr, ℕ, ◌<◌, ◌≤◌, Bool, true, false, cond, not, eqb, List, [], ◌∷◌, length, Option, Some, None, sym, refl, ap, ◌∙◌, arith}
use Rattle.std.specs.Prelude.{◌≢◌, IfSome, nat_le, nat_lt, option_map}
use Rattle.std.specs.List.{AllByRecursion}
use Rattle.std.specs.Option.{option_or}
use Rattle.std.proofs.lemmas.Bool.Decides.{nat_tests}
use Rattle.std.proofs.lemmas.Bool.{cases_Bool, eqb-true, eqb-false, ltb-true, not-true, not-false}
use Rattle.hg_model.specs.declared.row.Row.{Row}
use Rattle.hg_model.specs.Stakes.{Stakes, member_count}
use Rattle.hg_model.specs.Links.{has_few_others, parent_names, place_of, ParentNames}
use Rattle.hg_model.specs.Graph.{HasDistinctNames}
use Rattle.hg_model.specs.Fits.{AreHeld, ParentsFit, Fits}
use Rattle.hg_life.specs.Spelling.{AreNames, HasSpelling, payload_limit}
use Rattle.hg_life.specs.Verdict.{first_missing, first_by, member_rule, name_rule, signature_rule, impostor_rule, missing_rule, creator_rule, arrival_rule, forkers_rule, full_rule, last_name, parents_on, first_rule, other_rule, payload_rule, draft_rule, collision_rule, room_rule}
use Rattle.hg_model.specs.Held.{is_held}
use Rattle.hg_model.specs.Graph.{creator_at}
use Rattle.hg_life.proofs.LastLaws.{last_is_own}

pub option_or_none : {A : Type 0} (a b : Option A) → option_or a b ≡ None → (a ≡ None) × (b ≡ None)
option_or_none None b none = (refl, none)
option_or_none (Some x) b none = cc

-- a rule with one test speaks where the test holds
pub one_test : {A : Type 0} (t : Bool) (x : A) → cond t (Some x) None ≡ None → t ≡ false
one_test t x none = elim (cases_Bool t) [
  | inl holds ↦ (let some : Some x ≡ None = sym (ap (λ (b : Bool). cond b (Some x) None) holds) ∙ none in cc)
  | inr fails ↦ fails
]

-- a rule with a test, and then another rule
pub test_then : {A : Type 0} (t : Bool) (x : A) (o : Option A) → cond t (Some x) o ≡ None → (t ≡ false) × (o ≡ None)
test_then t x o none = elim (cases_Bool t) [
  | inl holds ↦ (let some : Some x ≡ None = sym (ap (λ (b : Bool). cond b (Some x) o) holds) ∙ none in cc)
  | inr fails ↦ (fails, sym (ap (λ (b : Bool). cond b (Some x) o) fails) ∙ none)
]

-- what is None once it is mapped was None
pub mapped_none : {A B : Type 0} (f : A → B) (o : Option A) → option_map f o ≡ None → o ≡ None
mapped_none f None none = refl
mapped_none f (Some x) none = cc

-- a rule that always speaks unless its test holds
pub else_speaks : {A : Type 0} (s t : Bool) (x y : A) → cond s None (cond t (Some x) (Some y)) ≡ None → s ≡ true
else_speaks s t x y none = elim (cases_Bool s) [
  | inl holds ↦ holds
  | inr fails ↦ (
      let later : cond t (Some x) (Some y) ≡ None = sym (ap (λ (b : Bool). cond b None (cond t (Some x) (Some y))) fails) ∙ none in
      elim (cases_Bool t) [
        | inl yes_t ↦ (let some : Some x ≡ None = sym (ap (λ (b : Bool). cond b (Some x) (Some y)) yes_t) ∙ later in cc)
        | inr no_t ↦ (let some : Some y ≡ None = sym (ap (λ (b : Bool). cond b (Some x) (Some y)) no_t) ∙ later in cc)
      ])
]

pub below_from_test : (a b : ℕ) → nat_le a b ≡ false → b < a
below_from_test a b fails = grind (arith, nat_tests)

not_below : (a b : ℕ) → nat_lt a b ≡ false → b ≤ a
not_below a b fails = grind (arith, nat_tests)

held_below : (G : List Row) (name : List ℕ) → is_held G name ≡ true → place_of G name < length G
held_below G name held = ltb-true (place_of G name) (length G) held

-- where none of these names is missing, all are held
none_missing : (G : List Row) (names : List (List ℕ)) → first_missing G names ≡ None → AreHeld G names
none_missing G [] none = tt
none_missing G (name ∷ names) none =
    let both = test_then (not (is_held G name)) name _ none in
    (held_below G name (not-false (is_held G name) both.0), none_missing G names both.1)

-- where none of the rows with these names is by the member, all are by others
none_by : (G : List Row) (m : ℕ) (names : List (List ℕ)) → first_by G m names ≡ None → AllByRecursion (λ name. creator_at G (place_of G name) ≢ m) names
none_by G m [] none = tt
none_by G m (name ∷ names) none =
    let both = test_then (eqb (creator_at G (place_of G name)) m) (place_of G name) _ none in
    (eqb-false (creator_at G (place_of G name)) m both.0, none_by G m names both.1)

-- the parents of a row against which neither rule speaks
parents_fit : (G : List Row) (m : ℕ) (parents : ParentNames) → missing_rule G parents ≡ None → creator_rule G m parents ≡ None →
    AreHeld G (parent_names parents) × ParentsFit G m (parent_names parents)
parents_fit G m None missing creators = (tt, tt)
parents_fit G m (Some names) missing creators =
    let held = test_then (not (is_held G names.0)) _ _ missing in
    let by = test_then (not (eqb (creator_at G (place_of G names.0)) m)) _ _ creators in (
      (held_below G names.0 (not-false (is_held G names.0) held.0), none_missing G names.1 (mapped_none _ _ held.1)),
      (
        eqb-true (creator_at G (place_of G names.0)) m (not-false (eqb (creator_at G (place_of G names.0)) m) by.0),
        none_by G m names.1 (mapped_none _ _ by.1),
      ),
    )

pub record Arrives (n : Stakes) (G : List Row) (row : Row) : Type 0 where
  pub fits : Fits n G row
  pub new_name : length G ≤ place_of G row.name

-- a row that has its sizes has few other-parents
pub few_spelled : (row : Row) → HasSpelling row → has_few_others row.parents ≡ true
few_spelled row has = names_few row.parents has.parents
  where
    names_few : (parents : ParentNames) → IfSome parents AreNames → has_few_others parents ≡ true
    names_few None are = refl
    names_few (Some names) are = are.few

-- a row that no rule refuses on its arrival fits, and its name is new
pub arrives : (accepts : ℕ → List ℕ → List ℕ → Bool) (n : Stakes) (own : ℕ) (G : List Row) (row : Row) → HasSpelling row → arrival_rule accepts n own G row ≡ None → Arrives n G row
arrives accepts n own G row has none =
    let a = option_or_none (member_rule n row) _ none in
    let b = option_or_none (name_rule G row) _ a.1 in
    let c = option_or_none (signature_rule accepts row) _ b.1 in
    let d = option_or_none (impostor_rule own row) _ c.1 in
    let e = option_or_none (missing_rule G row.parents) (creator_rule G row.creator row.parents) d.1 in
    let parents = parents_fit G row.creator row.parents e.0 e.1 in
    record {
      fits = record {
        member = below_from_test (member_count n) row.creator (one_test (nat_le (member_count n) row.creator) _ a.0);
        few = few_spelled row has;
        present = record { held = parents.0 };
        parents_fit = parents.1;
      };
      new_name = not_below (place_of G row.name) (length G) (not-true (nat_lt (place_of G row.name) (length G)) (else_speaks (not (nat_lt (place_of G row.name) (length G))) _ _ _ b.0));
    }

-- a graph that is not full has room for one more
pub has_room : (n : Stakes) (limit : ℕ) (G : List Row) (row : Row) → option_or (forkers_rule n G row) (full_rule limit G) ≡ None → length G < limit
has_room n limit G row none =
    below_from_test limit (length G) (one_test (nat_le limit (length G)) _ (option_or_none (forkers_rule n G row) (full_rule limit G) none).1)

-- the parents of an event that may be made
made_parents : (G : List Row) (m : ℕ) (last : Option (List ℕ)) (others : List (List ℕ)) → HasDistinctNames G → last_name m G ≡ last → first_rule last others ≡ None → other_rule m G others ≡ None →
    AreHeld G (parent_names (parents_on last others)) × ParentsFit G m (parent_names (parents_on last others))
made_parents G m None [] distinct is first silent = (tt, tt)
made_parents G m (Some last) [] distinct is first silent = cc
made_parents G m None (other ∷ others) distinct is first silent = cc
made_parents G m (Some last) (other ∷ others) distinct is first silent =
    let none = option_or_none _ _ silent in
    let held = none_missing G (other ∷ others) (mapped_none _ _ none.0) in
    let by = none_by G m (other ∷ others) (mapped_none _ _ none.1) in
    let own = last_is_own m G last distinct is in ((own.0, held), (own.1, by))

-- what holds of a draft against which no rule speaks
pub record Drafted (n : Stakes) (own : ℕ) (G : List Row) (others : List (List ℕ)) (payload : List ℕ) : Type 0 where
  pub short : length payload ≤ payload_limit
  pub held : AreHeld G (parent_names (parents_on (last_name own G) others))
  pub parents_fit : ParentsFit G own (parent_names (parents_on (last_name own G) others))

pub drafted : (n : Stakes) (own : ℕ) (G : List Row) (others : List (List ℕ)) (payload : List ℕ) → HasDistinctNames G → draft_rule own G others payload ≡ None → Drafted n own G others payload
drafted n own G others payload distinct none =
    let a = option_or_none (first_rule (last_name own G) others) _ none in
    let b = option_or_none (other_rule own G others) (payload_rule payload) a.1 in
    let parents = made_parents G own (last_name own G) others distinct refl a.0 b.0 in
    record {
      short = not_below payload_limit (length payload) (one_test (nat_lt payload_limit (length payload)) _ b.1);
      held = parents.0;
      parents_fit = parents.1;
    }

-- what holds of a made row against which no rule speaks
pub record IsAdmitted (limit : ℕ) (G : List Row) (row : Row) : Type 0 where
  pub new_name : length G ≤ place_of G row.name
  pub room : length G < limit

pub admitted : (limit : ℕ) (G : List Row) (row : Row) → option_or (collision_rule G row) (room_rule limit G) ≡ None → IsAdmitted limit G row
admitted limit G row none =
    let a = option_or_none (collision_rule G row) (room_rule limit G) none in
    record {
      new_name = not_below (place_of G row.name) (length G) (one_test (is_held G row.name) _ a.0);
      room = below_from_test limit (length G) (one_test (nat_le limit (length G)) _ a.1);
    }
