-- The last row by another member, and that an event on it has no fault before it is signed
use Rattle.std.proofs.Common.{◌≡◌, ◌≢◌, ◌⊎◌, inl, inr, ℕ, suc, ◌+◌, ◌-◌, ◌<◌, ◌≤◌, Bool, true, false, cond, not, eqb, List, [], ◌∷◌, ◌++◌, length, take, fold, get_or, slice_get, Option, Some, None, Result, Ok, Err, option_map, refl, sym, ap, ◌∙◌, subst, arith}
use Rattle.std.specs.Prelude.{IfOk}
use Rattle.std.specs.Option.{option_or}
use Rattle.std.proofs.Math.Seq.{take-length, take-suc}
use Rattle.std.proofs.lemmas.Bool.{cases_Bool, eqb-true, lt-ltb, ne_eqb, true≢false, eq-eqb}
use Rattle.std.proofs.lemmas.List.Sums.{fold-append}
use Rattle.std.proofs.lemmas.Option.{slice_get-get_or, slice_get_past}
use Rattle.hg_model.specs.declared.row.Row.{Row}
use Rattle.hg_life.specs.declared.answers.MakeFault.{MakeFault}
use Rattle.hg_life.specs.declared.answers.MakeFault.TheVariants as fault
use Rattle.hg_life.specs.declared.answers.MakeAnswer.{MakeAnswer}
use Rattle.hg_model.specs.Links.{place_of}
use Rattle.hg_model.specs.Graph.{HasDistinctNames, creator_at, name_at}
use Rattle.hg_model.specs.Held.{is_held}
use Rattle.hg_life.specs.Verdict.{collision_rule, draft_rule, first_by, first_missing, last_name, made_or, made_row, other_rule, room_rule}
use Rattle.hg_life.specs.NodeView.{NodeView, IsNode, node_rows, terms_of}
use Rattle.hg_life.specs.Calls.{IsMaking, make_answer}
use Rattle.hg_life.specs.Signing.{Accepts}
use Rattle.hg_model.proofs.NameLaws.{place_of_at}
use Rattle.hg_history.proofs.SoundLaws.{node_graph}
use Rattle.hg_node.specs.Next.{IsLate, MakesOn, last_other, later_other, next_others, others_after}

-- looked for from the last row down

inside_of : (G : List Row) (x : ℕ) (row : Row) → slice_get G x ≡ Some row → x < length G
inside_of G x row at = by_test (Rattle.std.proofs.lemmas.Bool.cases_lt x (length G))
  where
    by_test : (x < length G) ⊎ (length G ≤ x) → x < length G
    by_test (inl low) = low
    by_test (inr past) = (let gone = slice_get_past G x past in absurd cc)

-- the name among the first rows, with one more
last_other-next : (own : ℕ) (G : List Row) (x : ℕ) (row : Row) → slice_get G x ≡ Some row → last_other own (take (x + 1) G) ≡ later_other own (last_other own (take x G)) row
last_other-next own G x row at =
    let low = inside_of G x row at in
    let there : Some (get_or G x row) ≡ Some row = sym (slice_get-get_or G x row low) ∙ at in
    let read : get_or G x row ≡ row = cc in
    let one : x + 1 ≡ suc x = omega arith in
    ap (λ (k : ℕ). last_other own (take k G)) one
    ∙ (ap (last_other own) (take-suc G x row low)
    ∙ (ap (λ (r : Row). last_other own (take x G ++ r ∷ [])) read ∙ fold-append (later_other own) None (take x G) (row ∷ [])))

-- the last name is that among the first x rows
pub record IsAmong (own : ℕ) (G : List Row) (x : ℕ) : Type 0 where
  pub inside : x ≤ length G
  pub last : last_other own (take x G) ≡ last_other own G

pub among_all : (own : ℕ) (G : List Row) (x : ℕ) → x ≡ length G → IsAmong own G x
among_all own G x is = record { inside = omega (arith, is); last = ap (λ (k : ℕ). last_other own (take k G)) is ∙ ap (last_other own) (take-length G) }

pub among_none : (own : ℕ) (G : List Row) (x : ℕ) → x ≤ 0 → IsAmong own G x → None ≡ last_other own G
among_none own G x le among =
    let zero_is : x ≡ 0 = omega (arith, le) in
    ap (λ (k : ℕ). last_other own (take k G)) (sym zero_is) ∙ among.last

pub among_less : (own : ℕ) (G : List Row) (x : ℕ) (row : Row) → 0 < x → slice_get G (x - 1) ≡ Some row → row.creator ≡ own → IsAmong own G x → IsAmong own G (x - 1)
among_less own G x row some at is among =
    let back : x ≡ x - 1 + 1 = omega (arith, some) in
    let first : last_other own (take (x - 1) G) ≡ later_other own (last_other own (take (x - 1) G)) row =
    ap (λ (b : Bool). cond b (last_other own (take (x - 1) G)) (Some row.name)) (sym (eq-eqb row.creator own is)) in
    let le = among.inside in
    record {
      inside = omega (arith, le);
      last = first ∙ (sym (last_other-next own G (x - 1) row at) ∙ (ap (λ (k : ℕ). last_other own (take k G)) (sym back) ∙ among.last));
    }

pub among_here : (own : ℕ) (G : List Row) (x : ℕ) (row : Row) → 0 < x → slice_get G (x - 1) ≡ Some row → row.creator ≢ own → IsAmong own G x → Some row.name ≡ last_other own G
among_here own G x row some at other among =
    let back : x ≡ x - 1 + 1 = omega (arith, some) in
    let first : Some row.name ≡ later_other own (last_other own (take (x - 1) G)) row =
    ap (λ (b : Bool). cond b (last_other own (take (x - 1) G)) (Some row.name)) (sym (ne_eqb row.creator own other)) in
    first ∙ (sym (last_other-next own G (x - 1) row at) ∙ (ap (λ (k : ℕ). last_other own (take k G)) (sym back) ∙ among.last))

-- a row by another member with this name
abbrev IsNamedByOther : List Row → ℕ → List ℕ → Type 0
IsNamedByOther G own name = (x : ℕ) × (x < length G) × (name_at G x ≡ name) × (creator_at G x ≢ own)

other_found : (own : ℕ) (G : List Row) (last : Option (List ℕ)) (name : List ℕ) → fold (later_other own) last G ≡ Some name → (last ≡ Some name) ⊎ IsNamedByOther G own name
unfolding name_at
other_found own [] last name is = inl is
other_found own (row ∷ G) last name is = elim (other_found own G (later_other own last row) name is) [
  | inl first ↦ elim (cases_Bool (eqb row.creator own)) [
    | inl mine ↦ inl (sym (ap (λ (b : Bool). cond b last (Some row.name)) mine) ∙ first)
    | inr other ↦ (
        let found : Some row.name ≡ Some name = sym (ap (λ (b : Bool). cond b last (Some row.name)) other) ∙ first in
        let named : row.name ≡ name = cc in
        inr (0, omega arith, named, λ same. true≢false (sym (eq-eqb row.creator own same) ∙ other)))
  ]
  | inr later ↦ inr (suc later.0, (let low = later.1 in omega arith), later.2, later.3)
]

-- no rule speaks against it before it is signed

missing_none : (G : List Row) (name : List ℕ) → is_held G name ≡ true → first_missing G (name ∷ []) ≡ None
missing_none G name held = ap (λ (b : Bool). cond (not b) (Some name) None) held

by_none : (G : List Row) (own : ℕ) (name : List ℕ) → eqb (creator_at G (place_of G name)) own ≡ false → first_by G own (name ∷ []) ≡ None
by_none G own name other = ap (λ (b : Bool). cond b (Some (place_of G name)) None) other

other_silent : (own : ℕ) (G : List Row) (name : List ℕ) → HasDistinctNames G → IsNamedByOther G own name → other_rule own G (name ∷ []) ≡ None
other_silent own G name distinct is =
    let low = is.1 in
    let place : place_of G name ≡ is.0 = place_of_at G distinct is.0 name is.1 is.2 in
    let held : is_held G name ≡ true = lt-ltb (place_of G name) (length G) (omega (arith, place, low)) in
    let other : eqb (creator_at G (place_of G name)) own ≡ false = ne_eqb (creator_at G (place_of G name)) own (λ e. is.3 (sym (ap (creator_at G) place) ∙ e)) in
    ap (λ (o : Option (List ℕ)). option_or (option_map (λ n. fault.MissingOther n) o) (option_map (λ p. fault.OtherCreator p) (first_by G own (name ∷ [])))) (missing_none G name held)
    ∙ ap (λ (o : Option ℕ). option_map (λ p. fault.OtherCreator p) o) (by_none G own name other)

draft_by : (own : ℕ) (G : List Row) (others : List (List ℕ)) → HasDistinctNames G → (last other : Option (List ℕ)) → last_name own G ≡ last → last_other own G ≡ other →
    others_after last other ≡ Some others → draft_rule own G others [] ≡ None
draft_by own G others distinct None other last_is other_is next =
    let first : others ≡ [] = cc in
    ap (λ (l : List (List ℕ)). draft_rule own G l []) first ∙ ap (λ (last : Option (List ℕ)). option_or (Rattle.hg_life.specs.Verdict.first_rule last []) None) last_is
draft_by own G others distinct (Some last) None last_is other_is next = absurd (nothing next)
  where
    nothing : None ≡ Some others → ⊥
    nothing e = cc
draft_by own G others distinct (Some last) (Some name) last_is other_is next =
    let on : others ≡ name ∷ [] = cc in
    let named : IsNamedByOther G own name = elim (other_found own G None name other_is) [ inl none ↦ cc | inr found ↦ found ] in
    ap (λ (l : List (List ℕ)). draft_rule own G l []) on
    ∙ (ap (λ (last : Option (List ℕ)). option_or (Rattle.hg_life.specs.Verdict.first_rule last (name ∷ [])) (option_or (other_rule own G (name ∷ [])) None)) last_is
    ∙ ap (λ (o : Option MakeFault). option_or o None) (other_silent own G name distinct named))

late_by : (s t : Bool) (p n place : ℕ) → IsLate (made_or (option_or (cond s (Some (fault.Collision p)) None) (cond t (Some (fault.Full n)) None)) place)
late_by true t p n place = tt
late_by false true p n place = tt
late_by false false p n place = tt

-- so if it is refused, then for its name or for want of room
late : {K : Type 0} (accepts : K → Accepts) (old new : NodeView K) (others : List (List ℕ)) (time : ℕ) (made : MakeAnswer) → IsNode accepts old → next_others old ≡ Some others →
    IsMaking accepts old others time [] made new → IsLate made
unfolding make_answer
late accepts old new others time made node next making =
    let own = old.start.own in
    let G = node_rows old in
    let row = made_row own G others time [] making.sig in
    let graph = node_graph (terms_of accepts old.start) old.start.members old.start.coin own old.history node.coin node.history in
    let silent : draft_rule own G others [] ≡ None = draft_by own G others graph.graph.distinct (last_name own G) (last_other own G) refl refl next in
    let is : made ≡ made_or (option_or (collision_rule G row) (room_rule old.start.limit G)) (length G) =
    making.answers ∙ ap (λ (o : Option MakeFault). made_or (option_or o (option_or (collision_rule G row) (room_rule old.start.limit G))) (length G)) silent in
    subst IsLate (sym is) (late_by _ _ _ _ _)

pub makes_on : {K E : Type 0} (accepts : K → Accepts) (old new : NodeView K) (others : List (List ℕ)) (time : ℕ) (result : Result MakeAnswer E) → IsNode accepts old → next_others old ≡ Some others →
    IfOk result (λ made. IsMaking accepts old others time [] made new) → IfOk result (λ made. MakesOn accepts old others time made new)
makes_on accepts old new others time (Ok made) node next making = record { making = making; late = late accepts old new others time made node next making }
makes_on accepts old new others time (Err e) node next making = tt
