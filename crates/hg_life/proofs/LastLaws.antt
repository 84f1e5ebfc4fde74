-- The name of a member's last row is that of a row by the member
use Rattle.std.proofs.Common.{◌≡◌, ◌⊎◌, inl, inr, ℕ, suc, ◌<◌, Bool, cond, eqb, List, [], ◌∷◌, length, fold, Option, Some, None, sym, ap, ◌∙◌, arith}
use Rattle.std.proofs.lemmas.Bool.{cases_Bool, eqb-true}
use Rattle.hg_model.specs.declared.row.Row.{Row}
use Rattle.hg_model.specs.Links.{place_of}
use Rattle.hg_model.specs.Graph.{name_at, HasDistinctNames}
use Rattle.hg_life.specs.Verdict.{later_name, last_name}
use Rattle.hg_model.specs.Graph.{creator_at}
use Rattle.hg_model.proofs.NameLaws.{place_of_at}

-- a row by the member with this name
abbrev pub IsNamedBy : List Row → ℕ → List ℕ → Type 0
IsNamedBy G m name = (x : ℕ) × (x < length G) × (name_at G x ≡ name) × (creator_at G x ≡ m)

later_found : (m : ℕ) (G : List Row) (last : Option (List ℕ)) (name : List ℕ) → fold (later_name m) last G ≡ Some name → (last ≡ Some name) ⊎ IsNamedBy G m name
unfolding name_at
later_found m [] last name is = inl is
later_found m (row ∷ G) last name is = elim (later_found m G (later_name m last row) name is) [
  | inl first ↦ elim (cases_Bool (eqb row.creator m)) [
    | inl own ↦ (
        let found : Some row.name ≡ Some name = sym (ap (λ (b : Bool). cond b (Some row.name) last) own) ∙ first in
        let named : row.name ≡ name = cc in
        inr (0, omega arith, named, eqb-true row.creator m own))
    | inr other ↦ inl (sym (ap (λ (b : Bool). cond b (Some row.name) last) other) ∙ first)
  ]
  | inr later ↦ inr (suc later.0, (let low = later.1 in omega arith), later.2, later.3)
]

-- the last name of a member is that of a row by the member
pub last_found : (m : ℕ) (G : List Row) (name : List ℕ) → last_name m G ≡ Some name → IsNamedBy G m name
last_found m G name is = elim (later_found m G None name is) [
  | inl none ↦ cc
  | inr found ↦ found
]

-- the row at the place of a member's last name is the member's
pub last_is_own : (m : ℕ) (G : List Row) (name : List ℕ) → HasDistinctNames G → last_name m G ≡ Some name → (place_of G name < length G) × (creator_at G (place_of G name) ≡ m)
last_is_own m G name distinct is =
    let found = last_found m G name is in
    let place = place_of_at G distinct found.0 name found.1 found.2 in
    let low = found.1 in
    (omega arith, ap (creator_at G) place ∙ found.3)
