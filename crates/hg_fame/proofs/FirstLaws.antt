-- The first that passes, of a list of places and by a key
use Rattle.std.proofs.Common.{◌≡◌, ◌≢◌, ℕ, zero, suc, ◌+◌, ◌<◌, ◌≤◌, Bool, true, false, cond, ◌&&◌, leb, eqb, List, [], ◌∷◌, length, take, get_or, find, Option, Some, None, IfSome, is_some, unwrap_or, refl, sym, ap, subst, ◌∙◌, inl, inr, arith, le-leb}
use Rattle.std.specs.Option.{option_or}
use Rattle.std.proofs.lemmas.Bool.{cases_Bool, cases_eq, eq-eqb, ne_eqb, eqb-true, and_parts, and_right, lt-leb, true≢false}
use Rattle.std.proofs.lemmas.List.{take_more}
use Rattle.std.proofs.lemmas.List.Folds.{find-append}
use Rattle.hg_model.specs.Places.{list_below, lesser_of, least_below}
use Rattle.hg_model.proofs.SearchLaws.{IsFoundBelow, least_below_found, least_below_some}

pub some_not_none : {A : Type 0} {found : Option A} {a : A} → found ≡ Some a → found ≡ None → ⊥
some_not_none some none = true≢false (ap is_some (sym some ∙ none))

-- the first element of a list that passes, where those before it fail
pub find_here : (test : ℕ → Bool) (xs : List ℕ) (i d : ℕ) → i < length xs → find test (take i xs) ≡ None → test (get_or xs i d) ≡ true → find test xs ≡ Some (get_or xs i d)
find_here test [] i d h none here = absurd (omega arith)
find_here test (x ∷ xs) zero d h none here = rw here refl
find_here test (x ∷ xs) (suc i) d h none here = elim (cases_Bool (test x)) [
  | inl passes ↦ absurd (some_not_none (ap (λ b. cond b (Some x) (find test (take i xs))) passes) none)
  | inr fails ↦ rw fails (find_here test xs i d (omega arith) (sym (ap (λ b. cond b (Some x) (find test (take i xs))) fails) ∙ none) here)
]

pub find_none_more : (test : ℕ → Bool) (xs : List ℕ) (i d : ℕ) → i < length xs → find test (take i xs) ≡ None → test (get_or xs i d) ≡ false → find test (take (i + 1) xs) ≡ None
find_none_more test xs i d h none fails =
    ap (find test) (take_more xs i d h) ∙ (find-append test (take i xs) (get_or xs i d ∷ []) ∙ rw (none, fails) refl)

-- in a list of places
pub find-list_below : (passes : ℕ → Bool) (n : ℕ) (test : ℕ → Bool) → find passes (list_below (λ k. k) n test) ≡ least_below (λ _. 0) n (λ k. test k && passes k)
unfolding list_below least_below
find-list_below passes zero test = refl
find-list_below passes (suc n) test =
    find-append passes (list_below (λ k. k) n test) (cond (test n) (n ∷ []) [])
    ∙ (ap (λ found. option_or found (find passes (cond (test n) (n ∷ []) []))) (find-list_below passes n test)
    ∙ last (least_below (λ _. 0) n (λ k. test k && passes k)) (test n) (passes n) refl)
  where
    last : (found : Option ℕ) (here good : Bool) → passes n ≡ good →
        option_or found (find passes (cond here (n ∷ []) [])) ≡ cond (here && good) (Some (lesser_of (λ _. 0) found n)) found
    last None true true e = rw e refl
    last None true false e = rw e refl
    last None false good e = refl
    last (Some k) true true e = refl
    last (Some k) true false e = refl
    last (Some k) false good e = refl

-- of those that pass none has a key below r, and the first of key r is y: then y is the first by key
module _ (key : ℕ → ℕ) (test : ℕ → Bool) (r : ℕ) where
  abbrev pub in_key : ℕ → Bool
  in_key k = test k && eqb (key k) r

  in_key_parts : (n y : ℕ) → least_below (λ _. 0) n in_key ≡ Some y → (test y ≡ true) × (key y ≡ r)
  in_key_parts n y is =
      let found = subst (λ o. IfSome o (IsFoundBelow in_key n)) is (least_below_found (λ _. 0) n in_key) in
      let parts = and_parts (test y) (eqb (key y) r) found.1 in
      (parts.0, eqb-true (key y) r parts.1)

  -- with no other of key r, what is found has a greater key
  above_found : (n : ℕ) → ((k : ℕ) → k < n → test k ≡ true → r ≤ key k) → least_below (λ _. 0) n in_key ≡ None → (found : Option ℕ) → least_below key n test ≡ found → IfSome found (λ j. r < key j)
  above_found n low none None is = tt
  above_found n low none (Some j) is =
      let found = subst (λ o. IfSome o (IsFoundBelow test n)) is (least_below_found key n test) in
      let le = low j found.0 found.1 in
      let apart : key j ≢ r = λ same.
      let passes : in_key j ≡ true = rw (found.1, same) (eq-eqb r r refl) in
      let some = least_below_some (λ _. 0) n in_key j found.0 passes in
      some_not_none some.1 none in
      omega (arith, le, apart)

  lesser_late : (n y : ℕ) (found : Option ℕ) → key n ≡ r → IfSome found (λ j. r < key j) → n ≡ y → Some (lesser_of key found n) ≡ Some y
  lesser_late n y None here above is = ap (λ k. Some k) is
  lesser_late n y (Some j) here above is = (let late : leb (key j) (key n) ≡ false = lt-leb (key j) (key n) (omega (arith, here, above)) in rw late (ap (λ k. Some k) is))

  lesser_early : (n y : ℕ) (found : Option ℕ) → found ≡ Some y → key y ≤ key n → Some (lesser_of key found n) ≡ Some y
  lesser_early n y found is le = rw (is, le-leb (key y) (key n) le) refl

  by_earlier : (n y : ℕ) → ((k : ℕ) → k < n → test k ≡ true → r ≤ key k) → key n ≡ r →
      (least_below (λ _. 0) n in_key ≡ Some y → least_below key n test ≡ Some y) → (found : Option ℕ) → least_below (λ _. 0) n in_key ≡ found → Some (lesser_of (λ _. 0) found n) ≡ Some y →
      Some (lesser_of key (least_below key n test) n) ≡ Some y
  by_earlier n y low same before None none here = lesser_late n y (least_below key n test) same (above_found n low none (least_below key n test) refl) (ap (λ o. unwrap_or o 0) here)
  by_earlier n y low same before (Some a) some here = lesser_early n y (least_below key n test) (before (some ∙ here)) (omega (arith, same, (in_key_parts n y (some ∙ here)).1))

  pub first_by_key : (n y : ℕ) → ((k : ℕ) → k < n → test k ≡ true → r ≤ key k) → least_below (λ _. 0) n in_key ≡ Some y → least_below key n test ≡ Some y
  unfolding least_below
  first_by_key zero y low is = absurd (some_not_none is refl)
  first_by_key (suc n) y low is =
      let less = λ (k : ℕ) (h : k < n). low k (omega arith) in
      let earlier = least_below (λ _. 0) n in_key in
      elim (cases_Bool (test n)) [
        | inr fails ↦ rw fails (first_by_key n y less (sym (ap (λ b. cond (b && eqb (key n) r) (Some (lesser_of (λ _. 0) earlier n)) earlier) fails) ∙ is))
        | inl passes ↦ elim (cases_eq (key n) r) [
          | inr apart ↦
              (let skips : in_key n ≡ false = and_right (test n) (eqb (key n) r) (ne_eqb (key n) r apart) in
              let before : earlier ≡ Some y = sym (ap (λ b. cond b (Some (lesser_of (λ _. 0) earlier n)) earlier) skips) ∙ is in
              rw passes (lesser_early n y (least_below key n test) (first_by_key n y less before) (omega (arith, (in_key_parts n y before).1, low n (omega arith) passes))))
          | inl same ↦
              (let counts : in_key n ≡ true = rw passes (eq-eqb (key n) r same) in
              let here : Some (lesser_of (λ _. 0) earlier n) ≡ Some y = sym (ap (λ b. cond b (Some (lesser_of (λ _. 0) earlier n)) earlier) counts) ∙ is in
              rw passes (by_earlier n y less same (first_by_key n y less) earlier refl here))
        ]
      ]

-- where no later place passes, the least is that of the first places
pub least_below-longer : (key : ℕ → ℕ) (len n : ℕ) (test : ℕ → Bool) → len ≤ n → ((k : ℕ) → len ≤ k → k < n → test k ≡ false) → least_below key n test ≡ least_below key len test
unfolding least_below
least_below-longer key zero zero test le none = refl
least_below-longer key (suc len) zero test le none = absurd (omega arith)
least_below-longer key len (suc n) test le none = elim (cases_eq len (suc n)) [
  | inl same ↦ ap (λ (k : ℕ). least_below key k test) (sym same)
  | inr other ↦
      ap (λ b. cond b (Some (lesser_of key (least_below key n test) n)) (least_below key n test)) (none n (omega (arith, other)) (omega arith))
      ∙ least_below-longer key len n test (omega (arith, other)) (λ k ge low. none k ge (omega arith))
]

-- keys that agree below n
lesser_same : (one two : ℕ → ℕ) (n : ℕ) (found : Option ℕ) → one n ≡ two n → IfSome found (λ k. one k ≡ two k) → Some (lesser_of one found n) ≡ Some (lesser_of two found n)
lesser_same one two n None here at = refl
lesser_same one two n (Some k) here at = rw (at, here) refl

same_at : (one two : ℕ → ℕ) (test : ℕ → Bool) (n : ℕ) (found : Option ℕ) → ((k : ℕ) → k < n → one k ≡ two k) → IfSome found (IsFoundBelow test n) → IfSome found (λ k. one k ≡ two k)
same_at one two test n None same found = tt
same_at one two test n (Some k) same found = same k found.0

pub least_below-keys : (one two : ℕ → ℕ) (n : ℕ) (test : ℕ → Bool) → ((k : ℕ) → k < n → one k ≡ two k) → least_below one n test ≡ least_below two n test
unfolding least_below
least_below-keys one two zero test same = refl
least_below-keys one two (suc n) test same =
    let before = least_below one n test in
    let lesser = lesser_same one two n before (same n (omega arith)) (same_at one two test n before (λ k h. same k (omega arith)) (least_below_found one n test)) in
    ap (λ found. cond (test n) found before) lesser
    ∙ ap (λ found. cond (test n) (Some (lesser_of two found n)) found) (least_below-keys one two n test (λ k h. same k (omega arith)))
