-- Names of rows: distinct ones, and the places that they stand for
use Rattle.std.proofs.Common.{◌≡◌, inl, inr, ℕ, ◌<◌, ◌≤◌, true, List, [], ◌∷◌, ◌++◌, length, get_or, sym, refl, ap, ◌∙◌, arith}
use Rattle.std.specs.Str.{bytes_eq}
use Rattle.std.proofs.lemmas.Bool.{true≢false, cases_lt, false_from_ne_true}
use Rattle.std.proofs.lemmas.Slice.Eq.{bytes_eq-Decides}
use Rattle.std.proofs.lemmas.List.{length_push, get_or_append_left, get_or_push}
use Rattle.std.proofs.lemmas.List.Sums.{position_or_len_is, fails_before_first}
use Rattle.std.proofs.lemmas.Option.{slice_get-get_or}
use Rattle.hg_model.specs.declared.row.Row.{Row}
use Rattle.hg_model.specs.Links.{is_named, place_of}
use Rattle.hg_model.specs.Graph.{name_in, name_at, HasDistinctNames}
use Rattle.hg_model.proofs.PushLaws.{nobody}

pub bytes_eq-same : (a b : List ℕ) → a ≡ b → bytes_eq a b ≡ true
bytes_eq-same a b same = (bytes_eq-Decides a b).1 same

pub bytes_same : (a b : List ℕ) → bytes_eq a b ≡ true → a ≡ b
bytes_same a b same = (bytes_eq-Decides a b).0 same

pub name-at : (G : List Row) (x : ℕ) → x < length G → name_at G x ≡ (get_or G x nobody).name
unfolding name_at
name-at G x inside = ap name_in (slice_get-get_or G x nobody inside)

-- where names are distinct, a row's name stands for its place
pub place_of_at : (G : List Row) → HasDistinctNames G → (x : ℕ) (name : List ℕ) → x < length G → name_at G x ≡ name → place_of G name ≡ x
place_of_at G distinct x name inside at_x =
    position_or_len_is (is_named name) G x nobody (omega arith)
    (λ k low. false_from_ne_true (is_named name (get_or G k nobody)) (λ same.
    let inside_k : k < length G = omega arith in
    let names : name_at G k ≡ name_at G x = name-at G k inside_k ∙ (bytes_same (get_or G k nobody).name name same ∙ sym at_x) in
    let places = distinct.one k x inside_k inside names in
    absurd (omega arith)))
    (λ h. bytes_eq-same (get_or G x nobody).name name (sym (name-at G x inside) ∙ at_x))

pub distinct-none : HasDistinctNames []
distinct-none = record { one = λ x y hx hy same. absurd (omega arith) }

not_before : (G : List Row) (row : Row) (k : ℕ) → length G ≤ place_of G row.name → k < length G → name_at (G ++ row ∷ []) k ≡ row.name → ⊥
not_before G row k free inside same =
    let longer = length_push G row in
    let at_k : name_at (G ++ row ∷ []) k ≡ (get_or G k nobody).name =
    name-at (G ++ row ∷ []) k (omega arith) ∙ ap (λ (r : Row). r.name) (get_or_append_left G (row ∷ []) nobody k inside) in
    let fails = fails_before_first (is_named row.name) G k nobody (omega arith) in
    true≢false (sym (bytes_eq-same (get_or G k nobody).name row.name (sym at_k ∙ same)) ∙ fails)

last_named : (G : List Row) (row : Row) (x : ℕ) → x ≡ length G → name_at (G ++ row ∷ []) x ≡ row.name
last_named G row x last =
    let longer = length_push G row in
    name-at (G ++ row ∷ []) x (omega arith)
    ∙ ap (λ (r : Row). r.name) (ap (λ (k : ℕ). get_or (G ++ row ∷ []) k nobody) last ∙ get_or_push G row nobody (length G) refl)

before_named : (G : List Row) (row : Row) (x : ℕ) → x < length G → name_at (G ++ row ∷ []) x ≡ name_at G x
before_named G row x inside =
    let longer = length_push G row in
    name-at (G ++ row ∷ []) x (omega arith)
    ∙ (ap (λ (r : Row). r.name) (get_or_append_left G (row ∷ []) nobody x inside) ∙ sym (name-at G x inside))

-- a row with a name that no row has keeps names distinct
pub distinct-push : (G : List Row) (row : Row) → HasDistinctNames G → length G ≤ place_of G row.name → HasDistinctNames (G ++ row ∷ [])
distinct-push G row distinct free = record {
  one = λ x y hx hy same. elim (cases_lt x (length G)) [
    | inl low_x ↦ elim (cases_lt y (length G)) [
      | inl low_y ↦ distinct.one x y low_x low_y (sym (before_named G row x low_x) ∙ (same ∙ before_named G row y low_y))
      | inr ge_y ↦ (let last : y ≡ length G = omega (arith, length_push G row) in
          absurd (not_before G row x free low_x (same ∙ last_named G row y last)))
    ]
    | inr ge_x ↦ (let last : x ≡ length G = omega (arith, length_push G row) in
        elim (cases_lt y (length G)) [
          | inl low_y ↦ absurd (not_before G row y free low_y (sym same ∙ last_named G row x last))
          | inr ge_y ↦ omega (arith, length_push G row)
        ])
  ];
}
