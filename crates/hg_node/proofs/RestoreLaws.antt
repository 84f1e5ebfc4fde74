-- To restore a row is to put it to the node of another member, where it is the own member's next one
use Rattle.std.proofs.Common.{◌≡◌, ◌≢◌, ℕ, suc, ◌*◌, ◌<◌, ◌≤◌, Bool, true, false, cond, not, eqb, List, [], ◌∷◌, ◌++◌, length, Option, Some, None, option_map, sym, refl, ap, ◌∙◌, arith}
use Rattle.std.specs.Prelude.{nat_le, unwrap_or}
use Rattle.std.specs.List.{AllByRecursion}
use Rattle.std.specs.Option.{option_or}
use Rattle.std.proofs.lemmas.Bool.Decides.{nat_tests}
use Rattle.std.proofs.lemmas.Bool.{and_from, eqb-true, eq-eqb, lt-ltb, le-ltb, false_from_ne_true}
use Rattle.std.proofs.lemmas.Slice.Eq.{bytes_eq-Decides}
use Rattle.hg_model.specs.declared.row.Row.{Row}
use Rattle.hg_life.specs.declared.answers.Fault.TheVariants as fault
use Rattle.hg_life.specs.declared.answers.PutAnswer.{PutAnswer}
use Rattle.hg_life.specs.declared.answers.PutAnswer.TheVariants.{Accepted, Known, Refused}
use Rattle.hg_model.specs.Stakes.{Stakes, member_count, total}
use Rattle.hg_model.specs.Links.{ParentNames, links, parent_names, place_of}
use Rattle.hg_model.specs.Forks.{forking}
use Rattle.hg_model.specs.Graph.{creator_at}
use Rattle.hg_model.specs.Fits.{AreHeld, ParentsFit}
use Rattle.hg_life.specs.Spelling.{body_of, spelling}
use Rattle.hg_model.specs.Held.{is_held}
use Rattle.hg_life.specs.Verdict.{has_bytes, first_missing, first_by, member_rule, name_rule, signature_rule, impostor_rule, missing_rule, creator_rule, arrival_rule, forkers_rule, full_rule, row_verdict, last_name, forking_with}
use Rattle.hg_life.specs.Signing.{Accepts}
use Rattle.hg_life.specs.Terms.{Terms}
use Rattle.hg_history.proofs.RuleLaws.{MadeIs}
use Rattle.hg_node.specs.Restore.{self_name, is_same_name, is_next_own, next_own_rule, restore_rules, restore_verdict}

-- rules that are silent

pub none_of_both : {A : Type 0} (a b : Option A) → a ≡ None → b ≡ None → option_or a b ≡ None
none_of_both {A} a b none none' = ap (λ (o : Option A). option_or o b) none ∙ none'

pub none_where_false : {A : Type 0} (t : Bool) (x : A) (o : Option A) → t ≡ false → o ≡ None → cond t (Some x) o ≡ None
none_where_false t x o fails none = ap (λ (b : Bool). cond b (Some x) o) fails ∙ none

pub not_le : (a b : ℕ) → b < a → nat_le a b ≡ false
not_le a b less = grind (arith, nat_tests)

pub not_of_true : (b : Bool) → b ≡ true → not b ≡ false
not_of_true b e = ap not e

pub differ_eqb : (a b : ℕ) → a ≢ b → eqb a b ≡ false
differ_eqb a b differ = false_from_ne_true (eqb a b) (λ h. differ (eqb-true a b h))

member_silent : (n : Stakes) (row : Row) → row.creator < member_count n → member_rule n row ≡ None
member_silent n row member = none_where_false (nat_le (member_count n) row.creator) _ None (not_le _ _ member) refl

name_silent : (G : List Row) (row : Row) → length G ≤ place_of G row.name → name_rule G row ≡ None
name_silent G row past =
    ap (λ (b : Bool). cond (not b) None (cond (has_bytes G (place_of G row.name) (spelling row)) (Some (Known (place_of G row.name))) (Some (Refused (fault.Collision (place_of G row.name))))))
    (le-ltb (place_of G row.name) (length G) past)

signature_silent : (accepts : Accepts) (row : Row) → accepts row.creator (body_of row) row.sig ≡ true → signature_rule accepts row ≡ None
signature_silent accepts row signed = ap (λ (b : Bool). cond b None (Some (Refused fault.Signature))) signed

pub held_true : (G : List Row) (name : List ℕ) → place_of G name < length G → not (is_held G name) ≡ false
held_true G name inside = not_of_true (is_held G name) (lt-ltb (place_of G name) (length G) inside)

pub none_is_missing : (G : List Row) (names : List (List ℕ)) → AreHeld G names → first_missing G names ≡ None
none_is_missing G [] held = refl
none_is_missing G (name ∷ names) held = none_where_false (not (is_held G name)) name _ (held_true G name held.0) (none_is_missing G names held.1)

pub none_is_by : (G : List Row) (m : ℕ) (names : List (List ℕ)) → AllByRecursion (λ name. creator_at G (place_of G name) ≢ m) names → first_by G m names ≡ None
none_is_by G m [] differ = refl
none_is_by G m (name ∷ names) differ =
    let p = place_of G name in
    none_where_false (eqb (creator_at G p) m) p _ (differ_eqb (creator_at G p) m differ.0) (none_is_by G m names differ.1)

missing_silent : (G : List Row) (parents : ParentNames) → AreHeld G (parent_names parents) → missing_rule G parents ≡ None
missing_silent G None held = refl
missing_silent G (Some names) held =
    none_where_false (not (is_held G names.0)) _ _ (held_true G names.0 held.0)
    (ap (λ (o : Option (List ℕ)). option_map (λ name. Refused (fault.MissingOther name)) o) (none_is_missing G names.1 held.1))

creator_silent : (G : List Row) (m : ℕ) (parents : ParentNames) → ParentsFit G m (parent_names parents) → creator_rule G m parents ≡ None
creator_silent G m None fit = refl
creator_silent G m (Some names) fit =
    none_where_false (not (eqb (creator_at G (place_of G names.0)) m)) _ _ (not_of_true (eqb (creator_at G (place_of G names.0)) m) (eq-eqb (creator_at G (place_of G names.0)) m fit.0))
    (ap (λ (o : Option ℕ). option_map (λ place. Refused (fault.OtherCreator place)) o) (none_is_by G m names.1 fit.1))

forkers_silent : (n : Stakes) (G : List Row) (row : Row) → 3 * forking n (links (G ++ row ∷ [])) < total n → forkers_rule n G row ≡ None
forkers_silent n G row few = none_where_false (nat_le (total n) (3 * forking_with n G row)) _ None (not_le _ _ few) refl

full_silent : (limit : ℕ) (G : List Row) → length G < limit → full_rule limit G ≡ None
full_silent limit G room = none_where_false (nat_le limit (length G)) _ None (not_le _ _ room) refl

-- names that are the same

same_names : (a b : Option (List ℕ)) → a ≡ b → is_same_name a b ≡ true
same_names None None e = refl
same_names None (Some b) e = cc
same_names (Some a) None e = cc
same_names (Some a) (Some b) e = (bytes_eq-Decides a b).1 cc

pub same_from : (a b : Option (List ℕ)) → is_same_name a b ≡ true → a ≡ b
same_from None None e = refl
same_from None (Some b) e = cc
same_from (Some a) None e = cc
same_from (Some a) (Some b) e = ap (λ (name : List ℕ). Some name) ((bytes_eq-Decides a b).0 e)

next_own_from : (own : ℕ) (G : List Row) (row : Row) → row.creator ≡ own → self_name row.parents ≡ last_name own G → is_next_own own G row ≡ true
next_own_from own G row by last = and_from (eqb row.creator own) (is_same_name (self_name row.parents) (last_name own G)) (eq-eqb row.creator own by) (same_names (self_name row.parents) (last_name own G) last)

-- a row that the member might have made is accepted when it comes back
pub made_comes_back : (terms : Terms) (n : Stakes) (own : ℕ) (G : List Row) (row : Row) → MadeIs terms n own G row → 3 * forking n (links (G ++ row ∷ [])) < total n →
    restore_verdict terms n own G row ≡ Accepted (length G)
made_comes_back terms n own G row made few =
    let fits = made.comes.fits in
    let stranger : next_own_rule own G row ≡ None = ap (λ (b : Bool). cond b None (Some (Refused fault.Impostor))) (next_own_from own G row made.by_own made.after_last) in
    let parents = none_of_both (missing_rule G row.parents) (creator_rule G row.creator row.parents) (missing_silent G row.parents fits.present.held) (creator_silent G row.creator row.parents fits.parents_fit) in
    let arrival = none_of_both (member_rule n row) _ (member_silent n row fits.member) (none_of_both (name_rule G row) _ (name_silent G row made.comes.new_name)
    (none_of_both (signature_rule terms.accepts row) _ (signature_silent terms.accepts row made.comes.signed) (none_of_both (next_own_rule own G row) _ stranger parents))) in
    ap (λ (o : Option PutAnswer). unwrap_or o (Accepted (length G)))
    (none_of_both _ (option_or (forkers_rule n G row) (full_rule terms.limit G)) arrival (none_of_both (forkers_rule n G row) (full_rule terms.limit G) (forkers_silent n G row few) (full_silent terms.limit G made.comes.room)))

-- a member other than this one, or this one where the row is not the next
abbrev pub other_than : Bool → ℕ → ℕ
other_than next m = cond next (suc m) m

impostor_as : (next : Bool) (row : Row) → cond next None (Some (Refused fault.Impostor)) ≡ impostor_rule (other_than next row.creator) row
impostor_as true row = sym (none_where_false (eqb row.creator (suc row.creator)) (Refused fault.Impostor) None (differ_eqb row.creator (suc row.creator) (λ same. absurd (omega arith))) refl)
impostor_as false row = sym (ap (λ (b : Bool). cond b (Some (Refused fault.Impostor)) None) (eq-eqb row.creator row.creator refl))

-- to restore is to put to the node of a member that did not make the row, or to its creator's where it is not the next one
pub rules_of_put : (terms : Terms) (n : Stakes) (own : ℕ) (G : List Row) (row : Row) →
    restore_rules terms n own G row ≡ option_or (arrival_rule terms.accepts n (other_than (is_next_own own G row) row.creator) G row) (option_or (forkers_rule n G row) (full_rule terms.limit G))
rules_of_put terms n own G row =
    ap (λ (o : Option PutAnswer). option_or
    (option_or (member_rule n row) (option_or (name_rule G row) (option_or (signature_rule terms.accepts row)
    (option_or o (option_or (missing_rule G row.parents) (creator_rule G row.creator row.parents))))))
    (option_or (forkers_rule n G row) (full_rule terms.limit G)))
    (impostor_as (is_next_own own G row) row)

pub restore_is_put : (terms : Terms) (n : Stakes) (own : ℕ) (G : List Row) (row : Row) →
    restore_verdict terms n own G row ≡ row_verdict terms n (other_than (is_next_own own G row) row.creator) G row
restore_is_put terms n own G row = ap (λ (o : Option PutAnswer). unwrap_or o (Accepted (length G))) (rules_of_put terms n own G row)
