-- The laws of reaching along steps to earlier places
use Rattle.std.proofs.Common.{◌≡◌, ℕ, zero, suc, ◌<◌, ◌≤◌, Bool, true, false, ◌||◌, eqb, List, [], ◌∷◌, sym, refl, ap, ◌∙◌, inl, inr, ◌⊎◌, arith}
use Rattle.std.proofs.lemmas.Bool.{or_cases, or_left, or_right, true≢false, eq-eqb, eqb-true}
use Rattle.std.specs.List.{list_any}
use Rattle.hg_model.specs.Places.{by_place, has_place, reaches, IsEarlier}
use Rattle.hg_model.proofs.PlacesLaws.{only_below, only_below-at, by_place-at, by_place-same}

-- tests on a list of places

pub has_place_first : (p : ℕ) (ps : List ℕ) → has_place (p ∷ ps) p ≡ true
has_place_first p ps = or_left (eqb p p) (has_place ps p) (eq-eqb p p refl)

pub has_place_later : (p q : ℕ) (ps : List ℕ) → has_place ps q ≡ true → has_place (p ∷ ps) q ≡ true
has_place_later p q ps h = or_right (eqb p q) (has_place ps q) h

pub none_there : (p : ℕ) → has_place [] p ≡ true → ⊥
none_there p h = true≢false (sym h)

pub one_there : (a p : ℕ) → has_place (a ∷ []) p ≡ true → a ≡ p
one_there a p h = elim (or_cases (eqb a p) (has_place [] p) h) [ inl same ↦ eqb-true a p same | inr none ↦ absurd (none_there p none) ]

pub list_any-same : (one two : ℕ → Bool) (ps : List ℕ) → ((p : ℕ) → has_place ps p ≡ true → one p ≡ two p) → list_any one ps ≡ list_any two ps
list_any-same one two [] same = refl
list_any-same one two (p ∷ ps) same =
    let first = same p (has_place_first p ps) in
    let rest = list_any-same one two ps (λ q h. same q (has_place_later p q ps h)) in
    cc

pub list_any_found : (test : ℕ → Bool) (ps : List ℕ) → list_any test ps ≡ true → (p : ℕ) × (has_place ps p ≡ true) × (test p ≡ true)
list_any_found test [] e = absurd (true≢false (sym e))
list_any_found test (p ∷ ps) e = elim (or_cases (test p) (list_any test ps) e) [
  | inl first ↦ (p, has_place_first p ps, first)
  | inr rest ↦ (let found = list_any_found test ps rest in (found.0, has_place_later p found.0 ps found.1, found.2))
]

pub list_any_from : (test : ℕ → Bool) (ps : List ℕ) (p : ℕ) → has_place ps p ≡ true → test p ≡ true → list_any test ps ≡ true
list_any_from test [] p h e = h
list_any_from test (q ∷ ps) p h e = elim (or_cases (eqb q p) (has_place ps p) h) [
  | inl first ↦ or_left (test q) (list_any test ps) (rw (eqb-true q p first) e)
  | inr rest ↦ or_right (test q) (list_any test ps) (list_any_from test ps p rest e)
]

-- two tests that follow from each other are equal
pub bool_iff : (a b : Bool) → (a ≡ true → b ≡ true) → (b ≡ true → a ≡ true) → a ≡ b
bool_iff true b to from = sym (to refl)
bool_iff false true to from = from refl
bool_iff false false to from = refl

module _ (next : ℕ → List ℕ) (e : IsEarlier next) where
  -- the equation of reaching
  pub reaches-at : (x y : ℕ) → reaches next x y ≡ (eqb x y || list_any (λ p. reaches next p y) (next x))
  unfolding reaches
  reaches-at x y =
      let step = λ (reaches_y : ℕ → Bool) (x : ℕ). eqb x y || list_any reaches_y (next x) in
      by_place-at false step x
      ∙ ap (λ b. eqb x y || b) (list_any-same (only_below false x (by_place false step)) (by_place false step) (next x)
      (λ p h. only_below-at false x (by_place false step) p (e.earlier x p h)))

  pub reaches_self : (x : ℕ) → reaches next x x ≡ true
  reaches_self x = reaches-at x x ∙ or_left (eqb x x) (list_any (λ p. reaches next p x) (next x)) (eq-eqb x x refl)

  pub reaches_by : (x p y : ℕ) → has_place (next x) p ≡ true → reaches next p y ≡ true → reaches next x y ≡ true
  reaches_by x p y h r =
      reaches-at x y ∙ or_right (eqb x y) (list_any (λ q. reaches next q y) (next x)) (list_any_from (λ q. reaches next q y) (next x) p h r)

  -- how a place reaches another: at once, or by a step
  pub reaches_cases : (x y : ℕ) → reaches next x y ≡ true → (x ≡ y) ⊎ ((p : ℕ) × (has_place (next x) p ≡ true) × (reaches next p y ≡ true))
  reaches_cases x y r = elim (or_cases (eqb x y) (list_any (λ p. reaches next p y) (next x)) (sym (reaches-at x y) ∙ r)) [
    | inl same ↦ inl (eqb-true x y same)
    | inr by ↦ inr (list_any_found (λ p. reaches next p y) (next x) by)
  ]

  reaches-le_to : (n x y : ℕ) → x < n → reaches next x y ≡ true → y ≤ x
  reaches-le_to zero x y h r = absurd (omega arith)
  reaches-le_to (suc n) x y h r = elim (reaches_cases x y r) [
    | inl same ↦ omega arith
    | inr by ↦ (let low = e.earlier x by.0 by.1 in let le = reaches-le_to n by.0 y (omega arith) by.2 in omega arith)
  ]

  -- what is reached stands no later
  pub reaches-le : (x y : ℕ) → reaches next x y ≡ true → y ≤ x
  reaches-le x y r = reaches-le_to (suc x) x y (omega arith) r

  reaches-trans_to : (n x y z : ℕ) → x < n → reaches next x y ≡ true → reaches next y z ≡ true → reaches next x z ≡ true
  reaches-trans_to zero x y z h r s = absurd (omega arith)
  reaches-trans_to (suc n) x y z h r s = elim (reaches_cases x y r) [
    | inl same ↦ rw same s
    | inr by ↦ (let low = e.earlier x by.0 by.1 in reaches_by x by.0 z by.1 (reaches-trans_to n by.0 y z (omega arith) by.2 s))
  ]

  pub reaches-trans : (x y z : ℕ) → reaches next x y ≡ true → reaches next y z ≡ true → reaches next x z ≡ true
  reaches-trans x y z r s = reaches-trans_to (suc x) x y z (omega arith) r s

-- two graphs with the same steps below n have the same reach there
pub reaches-same : (next other : ℕ → List ℕ) (n : ℕ) → ((x : ℕ) → x < n → next x ≡ other x) → (x y : ℕ) → x < n → reaches next x y ≡ reaches other x y
unfolding reaches
reaches-same next other n same x y h =
    by_place-same false (λ r x. eqb x y || list_any r (next x)) (λ r x. eqb x y || list_any r (other x)) n
    (λ r k l. ap (λ ps. eqb k y || list_any r ps) (same k l)) x h
