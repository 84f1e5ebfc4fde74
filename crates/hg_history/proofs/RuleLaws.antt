-- What holds of a row that is taken, and of one that is made
use Rattle.std.proofs.Common.{◌≡◌, ◌≢◌, ℕ, ◌<◌, ◌≤◌, ◌*◌, Bool, true, false, cond, not, eqb, List, length, Option, Some, None, option_map, sym, refl, ap, ◌∙◌, subst}
use Rattle.std.specs.Prelude.{nat_le, nat_lt, unwrap_or, IfSome, ◌++◌, ◌∷◌, []}
use Rattle.std.specs.Option.{option_or}
use Rattle.std.proofs.lemmas.Bool.{true≢false, eqb-false}
use Rattle.hg_model.specs.declared.row.Row.{Row}
use Rattle.hg_life.specs.declared.answers.PutAnswer.{PutAnswer}
use Rattle.hg_life.specs.declared.answers.PutAnswer.TheVariants.{Accepted, Known, Refused}
use Rattle.hg_life.specs.declared.answers.MakeAnswer.TheVariants as answer
use Rattle.hg_life.specs.declared.answers.MakeFault.{MakeFault}
use Rattle.hg_life.specs.declared.answers.Fault.TheVariants as fault
use Rattle.hg_model.specs.Links.{has_few_others, ParentNames, links, place_of}
use Rattle.hg_model.specs.Forks.{forking}
use Rattle.hg_model.specs.Graph.{HasDistinctNames}
use Rattle.hg_model.specs.Fits.{Fits}
use Rattle.hg_life.specs.Spelling.{body_of}
use Rattle.hg_life.specs.Verdict.{has_bytes, first_missing, first_by, member_rule, name_rule, signature_rule, impostor_rule, missing_rule, creator_rule, arrival_rule, forkers_rule, full_rule, row_verdict, last_name, parents_on, made_row, first_rule, other_rule, payload_rule, draft_rule, collision_rule, room_rule, made_or, making, forking_with}
use Rattle.hg_model.specs.Held.{is_held}
use Rattle.hg_model.specs.Stakes.{Stakes, member_count, total}
use Rattle.hg_model.specs.Graph.{creator_at}
use Rattle.hg_life.specs.History.{IsTaken, IsMade}
use Rattle.hg_life.specs.Terms.{Terms, row_limit}
use Rattle.hg_life.proofs.RuleLaws.{option_or_none, one_test, below_from_test, few_spelled, arrives, has_room, drafted, admitted}

-- no rule of putting accepts

is_accepted : PutAnswer → Bool
is_accepted (Accepted p) = true
is_accepted (Known p) = false
is_accepted (Refused f) = false

abbrev AcceptsNone : Option PutAnswer → Type 0
AcceptsNone rule = IfSome rule (λ a. is_accepted a ≡ false)

none_of_one : (t : Bool) (x : PutAnswer) → is_accepted x ≡ false → AcceptsNone (cond t (Some x) None)
none_of_one true x not_x = not_x
none_of_one false x not_x = tt

none_of_other : (t : Bool) (x : PutAnswer) → is_accepted x ≡ false → AcceptsNone (cond t None (Some x))
none_of_other true x not_x = tt
none_of_other false x not_x = not_x

none_then : (t : Bool) (x : PutAnswer) (o : Option PutAnswer) → is_accepted x ≡ false → AcceptsNone o → AcceptsNone (cond t (Some x) o)
none_then true x o not_x not_o = not_x
none_then false x o not_x not_o = not_o

none_mapped : {A : Type 0} (f : A → PutAnswer) → ((a : A) → is_accepted (f a) ≡ false) → (o : Option A) → AcceptsNone (option_map f o)
none_mapped f none None = tt
none_mapped f none (Some a) = none a

none_of_rest : (s t : Bool) (x y : PutAnswer) → is_accepted x ≡ false → is_accepted y ≡ false → AcceptsNone (cond s None (cond t (Some x) (Some y)))
none_of_rest true t x y not_x not_y = tt
none_of_rest false true x y not_x not_y = not_x
none_of_rest false false x y not_x not_y = not_y

none_of_both : (a b : Option PutAnswer) → AcceptsNone a → AcceptsNone b → AcceptsNone (option_or a b)
none_of_both None b not_a not_b = not_b
none_of_both (Some x) b not_a not_b = not_a

none_of_missing : (G : List Row) (parents : ParentNames) → AcceptsNone (missing_rule G parents)
unfolding is_accepted
none_of_missing G None = tt
none_of_missing G (Some names) =
    none_then (not (is_held G names.0)) (Refused (fault.MissingSelf names.0)) _ refl
    (none_mapped (λ (name : List ℕ). Refused (fault.MissingOther name)) (λ name. refl) (first_missing G names.1))

none_of_creators : (G : List Row) (m : ℕ) (parents : ParentNames) → AcceptsNone (creator_rule G m parents)
unfolding is_accepted
none_of_creators G m None = tt
none_of_creators G m (Some names) =
    none_then (not (eqb (creator_at G (place_of G names.0)) m)) (Refused (fault.SelfCreator (place_of G names.0))) _ refl
    (none_mapped (λ (place : ℕ). Refused (fault.OtherCreator place)) (λ place. refl) (first_by G m names.1))

none_of_rules : (terms : Terms) (n : Stakes) (own : ℕ) (G : List Row) (row : Row) → AcceptsNone (option_or (arrival_rule terms.accepts n own G row) (option_or (forkers_rule n G row) (full_rule terms.limit G)))
unfolding is_accepted
none_of_rules terms n own G row =
    let p = place_of G row.name in
    let member = none_of_one (nat_le (member_count n) row.creator) (Refused (fault.Member row.creator)) refl in
    let name = none_of_rest (not (nat_lt p (length G))) (has_bytes G p (Rattle.hg_life.specs.Spelling.spelling row)) (Known p) (Refused (fault.Collision p)) refl refl in
    let signature = none_of_other (terms.accepts row.creator (body_of row) row.sig) (Refused fault.Signature) refl in
    let impostor = none_of_one (eqb row.creator own) (Refused fault.Impostor) refl in
    let forks = none_of_one (nat_le (total n) (3 * forking_with n G row)) (Refused (fault.TooManyForkers (forking_with n G row))) refl in
    let full = none_of_one (nat_le terms.limit (length G)) (Refused (fault.Full terms.limit)) refl in
    none_of_both (arrival_rule terms.accepts n own G row) (option_or (forkers_rule n G row) (full_rule terms.limit G))
    (none_of_both (member_rule n row) _ member (none_of_both (name_rule G row) _ name (none_of_both (signature_rule terms.accepts row) _ signature
    (none_of_both (impostor_rule own row) _ impostor (none_of_both (missing_rule G row.parents) (creator_rule G row.creator row.parents)
    (none_of_missing G row.parents) (none_of_creators G row.creator row.parents))))))
    (none_of_both (forkers_rule n G row) (full_rule terms.limit G) forks full)

none_speaks : (rule : Option PutAnswer) (p q : ℕ) → AcceptsNone rule → unwrap_or rule (Accepted p) ≡ Accepted q → rule ≡ None
unfolding is_accepted
none_speaks None p q refuses is = refl
none_speaks (Some a) p q refuses is = absurd (true≢false (sym (ap is_accepted is) ∙ refuses))

-- what a rule answers accepts nothing
pub rule_accepts_none : (terms : Terms) (n : Stakes) (own : ℕ) (G : List Row) (row : Row) (a : PutAnswer) (place : ℕ) →
    option_or (arrival_rule terms.accepts n own G row) (option_or (forkers_rule n G row) (full_rule terms.limit G)) ≡ Some a → a ≡ Accepted place → ⊥
unfolding is_accepted
rule_accepts_none terms n own G row a place speaks is =
    true≢false (sym (ap is_accepted is) ∙ subst AcceptsNone speaks (none_of_rules terms n own G row))

-- an accepted row comes at the next place
pub accepted_place : (terms : Terms) (n : Stakes) (own : ℕ) (G : List Row) (row : Row) (place : ℕ) → row_verdict terms n own G row ≡ Accepted place → place ≡ length G
accepted_place terms n own G row place is =
    let rules = option_or (arrival_rule terms.accepts n own G row) (option_or (forkers_rule n G row) (full_rule terms.limit G)) in
    let none = none_speaks rules (length G) place (none_of_rules terms n own G row) is in
    let here : Accepted (length G) ≡ Accepted place = sym (ap (λ (o : Option PutAnswer). unwrap_or o (Accepted (length G))) none) ∙ is in
    cc

holds_from_none : {A : Type 0} (t : Bool) (x : A) → cond t None (Some x) ≡ None → t ≡ true
holds_from_none true x none = refl
holds_from_none false x none = cc

-- what a row that comes after the rows G is, whoever made it
pub record Comes (terms : Terms) (n : Stakes) (G : List Row) (row : Row) : Type 0 where
  pub fits : Fits n G row
  pub new_name : length G ≤ place_of G row.name
  pub signed : terms.accepts row.creator (body_of row) row.sig ≡ true
  pub room : length G < terms.limit

pub record TakenIs (terms : Terms) (n : Stakes) (own : ℕ) (G : List Row) (row : Row) : Type 0 where
  pub comes : Comes terms n G row
  pub by_other : row.creator ≢ own
  pub few_forkers : 3 * forking n (links (G ++ row ∷ [])) < total n

pub taken_is : (terms : Terms) (n : Stakes) (own : ℕ) (G : List Row) (row : Row) → IsTaken terms n own G row → TakenIs terms n own G row
taken_is terms n own G row taken =
    let none = none_speaks (option_or (arrival_rule terms.accepts n own G row) (option_or (forkers_rule n G row) (full_rule terms.limit G))) (length G) (length G) (none_of_rules terms n own G row) taken.accepted in
    let two = option_or_none (arrival_rule terms.accepts n own G row) (option_or (forkers_rule n G row) (full_rule terms.limit G)) none in
    let late = option_or_none (forkers_rule n G row) (full_rule terms.limit G) two.1 in
    let a = option_or_none (member_rule n row) _ two.0 in
    let b = option_or_none (name_rule G row) _ a.1 in
    let s = option_or_none (signature_rule terms.accepts row) _ b.1 in
    let d = option_or_none (impostor_rule own row) _ s.1 in
    let here = arrives terms.accepts n own G row taken.spelled.sized two.0 in
    record {
      comes = record {
        fits = here.fits;
        new_name = here.new_name;
        signed = holds_from_none (terms.accepts row.creator (body_of row) row.sig) (Refused fault.Signature) s.0;
        room = has_room n terms.limit G row two.1;
      };
      by_other = eqb-false row.creator own (one_test (eqb row.creator own) (Refused fault.Impostor) d.0);
      few_forkers = below_from_test (total n) (3 * forking_with n G row) (one_test (nat_le (total n) (3 * forking_with n G row)) (Refused (fault.TooManyForkers (forking_with n G row))) late.0);
    }

-- making

none_of_made : (o : Option MakeFault) (p q : ℕ) → made_or o p ≡ answer.Made q → o ≡ None
none_of_made None p q is = refl
none_of_made (Some f) p q is = cc

-- no rule speaks against the draft of an event that is made
pub made_draft : (limit own : ℕ) (G : List Row) (others : List (List ℕ)) (time : ℕ) (payload sig : List ℕ) (place : ℕ) → making limit own G others time payload sig ≡ answer.Made place →
    draft_rule own G others payload ≡ None
made_draft limit own G others time payload sig place is =
    let row = made_row own G others time payload sig in
    let rules = option_or (collision_rule G row) (room_rule limit G) in
    (option_or_none (draft_rule own G others payload) rules (none_of_made (option_or (draft_rule own G others payload) rules) (length G) place is)).0

pub made_place : (o : Option MakeFault) (p q : ℕ) → made_or o p ≡ answer.Made q → q ≡ p
made_place None p q is = cc
made_place (Some f) p q is = cc

-- the self-parent of a made row is the member's last row
own_parent : (last : Option (List ℕ)) (others : List (List ℕ)) → first_rule last others ≡ None → option_map (λ names. names.0) (parents_on last others) ≡ last
own_parent None [] none = refl
own_parent (Some a) [] none = cc
own_parent None (b ∷ others) none = cc
own_parent (Some a) (b ∷ others) none = refl

pub record MadeIs (terms : Terms) (n : Stakes) (own : ℕ) (G : List Row) (row : Row) : Type 0 where
  pub comes : Comes terms n G row
  pub by_own : row.creator ≡ own
  pub after_last : option_map (λ names. names.0) row.parents ≡ last_name own G

made_fields : (terms : Terms) (n : Stakes) (own : ℕ) (G : List Row) (others : List (List ℕ)) (time : ℕ) (payload sig : List ℕ) → own < member_count n → HasDistinctNames G →
    has_few_others (parents_on (last_name own G) others) ≡ true → terms.accepts own (body_of (made_row own G others time payload sig)) sig ≡ true →
    making terms.limit own G others time payload sig ≡ answer.Made (length G) → MadeIs terms n own G (made_row own G others time payload sig)
made_fields terms n own G others time payload sig member distinct few signed made =
    let row = made_row own G others time payload sig in
    let none = none_of_made (option_or (draft_rule own G others payload) (option_or (collision_rule G row) (room_rule terms.limit G))) (length G) (length G) made in
    let two = option_or_none (draft_rule own G others payload) (option_or (collision_rule G row) (room_rule terms.limit G)) none in
    let draft = drafted n own G others payload distinct two.0 in
    let new = admitted terms.limit G row two.1 in
    let first = option_or_none (first_rule (last_name own G) others) (option_or (other_rule own G others) (payload_rule payload)) two.0 in
    record {
      comes = record {
        fits = record { member = member; few = few; present = record { held = draft.held }; parents_fit = draft.parents_fit };
        new_name = new.new_name;
        signed = signed;
        room = new.room;
      };
      by_own = refl;
      after_last = own_parent (last_name own G) others first.0;
    }

pub made_is : (terms : Terms) (n : Stakes) (own : ℕ) (G : List Row) (row : Row) → own < member_count n → HasDistinctNames G → IsMade terms own G row → MadeIs terms n own G row
made_is terms n own G row member distinct made =
    subst (MadeIs terms n own G) (sym made.fields)
    (made_fields terms n own G made.others made.time made.payload made.sig member distinct
    (subst (λ (r : Row). has_few_others r.parents ≡ true) made.fields (few_spelled row made.spelled.sized))
    (subst (λ (r : Row). terms.accepts own (body_of r) made.sig ≡ true) made.fields made.signed) made.made)
