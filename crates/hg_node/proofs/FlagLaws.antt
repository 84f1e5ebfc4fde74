-- Flags of rows: those of the parents, and those of the ancestors of some rows, which a walk from the last row down sets
use Rattle.std.proofs.Common.{◌≡◌, ◌⊎◌, inl, inr, ℕ, zero, suc, ◌+◌, ◌<◌, ◌≤◌, Bool, true, false, cond, not, ◌||◌, eqb, List, [], ◌∷◌, ◌++◌, length, map, take, replicate, get_or, slice_get, Some, Result, Ok, Err, option_map, refl, sym, ap, ap₂, ◌∙◌, subst, arith}
use Rattle.std.specs.Prelude.{IfOk, slice_set}
use Rattle.std.specs.Borrow.{Bor}
use Rattle.std.specs.Global.{Vec}
use Rattle.std.proofs.lemmas.Bool.{or_cases, or_left, or_right, and_parts, and_from, true≢false, eq-eqb, eqb-true, lt-ltb, ltb-true}
use Rattle.std.proofs.lemmas.List.{map-append, map_more, take_more, length-set, get_or-set_same, get_or-set_other}
use Rattle.std.proofs.lemmas.Option.{slice_get-get_or}
use mathlib.Core.Logic.{dite}
use native.Mathlib.Decide.{ℕ_discrete}
use Rattle.hg_model.specs.declared.row.Row.{Row}
use Rattle.hg_model.specs.Places.{has_place, list_below, some_below, IsEarlier}
use Rattle.hg_model.specs.Links.{Link, links, no_row, parent_names, parents, place_of}
use Rattle.hg_model.specs.Ancestry.{is_ancestor}
use Rattle.hg_model.specs.Graph.{name_at, name_in}
use Rattle.hg_event.specs.Names.{lent_names}
use Rattle.hg_life.specs.Spelling.{spelling}
use Rattle.hg_model.proofs.LinkLaws.{length-links, parents-links}
use Rattle.hg_model.specs.Held.{is_held}
use Rattle.hg_model.proofs.PlacesLaws.{some_below_zero, some_below_next, list_below-same, list_below_passes, list_below_fails}
use Rattle.hg_model.proofs.ReachLaws.{bool_iff, has_place_first, has_place_later, none_there}
use Rattle.hg_model.proofs.AncestryLaws.{is_ancestor_self, is_ancestor_by, is_ancestor_cases, is_ancestor-trans}
use Rattle.hg_node.specs.Beyond.{AreBehindFlagged, AreFlagged, AreParentsFlagged, bytes_at, bytes_beyond, flagged, is_behind, is_behind_some, is_parent, list_unflagged, parents_if_flagged, tips}

-- flags that are set at places

pub length-flagged : (flags : List Bool) (ps : List ℕ) → length (flagged flags ps) ≡ length flags
length-flagged flags [] = refl
length-flagged flags (p ∷ ps) = length-flagged (slice_set flags p true) ps ∙ length-set flags p true

pub flagged-append : (flags : List Bool) (ps qs : List ℕ) → flagged flags (ps ++ qs) ≡ flagged (flagged flags ps) qs
flagged-append flags [] qs = refl
flagged-append flags (p ∷ ps) qs = flagged-append (slice_set flags p true) ps qs

-- a flag that was set stays set
flagged_stays : (flags : List Bool) (ps : List ℕ) (x : ℕ) → x < length flags → get_or flags x false ≡ true → get_or (flagged flags ps) x false ≡ true
flagged_stays flags [] x h is = is
flagged_stays flags (p ∷ ps) x h is = flagged_stays (slice_set flags p true) ps x (omega (arith, h, length-set flags p true)) (dite (ℕ_discrete x p)
    (λ e. rw e (get_or-set_same flags p true false (subst (λ (k : ℕ). k < length flags) e h)))
    (λ ne. get_or-set_other flags p x true false ne ∙ is))

-- one at the places is set
flagged_there : (flags : List Bool) (ps : List ℕ) (x : ℕ) → x < length flags → has_place ps x ≡ true → get_or (flagged flags ps) x false ≡ true
flagged_there flags [] x h there = absurd (none_there x there)
flagged_there flags (p ∷ ps) x h there =
    let long : x < length (slice_set flags p true) = omega (arith, h, length-set flags p true) in
    elim (or_cases (eqb p x) (has_place ps x) there) [
      | inl here ↦ flagged_stays (slice_set flags p true) ps x long
          (let e : p ≡ x = eqb-true p x here in subst (λ (k : ℕ). get_or (slice_set flags p true) k false ≡ true) e (get_or-set_same flags p true false (subst (λ (k : ℕ). k < length flags) (sym e) h)))
      | inr later ↦ flagged_there (slice_set flags p true) ps x long later
    ]

-- one that is set was set before, or is at the places
flagged_from : (flags : List Bool) (ps : List ℕ) (x : ℕ) → x < length flags → get_or (flagged flags ps) x false ≡ true → (get_or flags x false ≡ true) ⊎ (has_place ps x ≡ true)
flagged_from flags [] x h is = inl is
flagged_from flags (p ∷ ps) x h is = elim (flagged_from (slice_set flags p true) ps x (omega (arith, h, length-set flags p true)) is) [
  | inl before ↦ dite (ℕ_discrete x p)
      (λ e. inr (or_left (eqb p x) (has_place ps x) (eq-eqb p x (sym e))))
      (λ ne. inl (sym (get_or-set_other flags p x true false ne) ∙ before))
  | inr there ↦ inr (has_place_later p x ps there)
]

none_flagged : (n x : ℕ) → get_or (replicate n false) x false ≡ false
none_flagged zero x = refl
none_flagged (suc n) zero = refl
none_flagged (suc n) (suc x) = none_flagged n x

length-none : (n : ℕ) → length (replicate n false) ≡ n
length-none zero = refl
length-none (suc n) = ap suc (length-none n)

-- parents

pub parents_none : (L : List Link) (n : ℕ) → AreFlagged n (λ y. some_below 0 (λ z. has_place (parents L z) y)) (replicate n false)
parents_none L n = record { len = length-none n; each = λ y h. none_flagged n y ∙ sym (some_below_zero (λ z. has_place (parents L z) y)) }

pub parents_more : (L : List Link) (n x : ℕ) (old new : List Bool) → new ≡ flagged old (parents L x) → AreFlagged n (λ y. some_below x (λ z. has_place (parents L z) y)) old →
    AreFlagged n (λ y. some_below (x + 1) (λ z. has_place (parents L z) y)) new
parents_more L n x old new is before = record {
  len = ap length is ∙ (length-flagged old (parents L x) ∙ before.len);
  each = λ y h.
      let test = λ (z : ℕ). has_place (parents L z) y in
      let long : y < length old = omega (arith, h, before.len) in
      ap (λ (flags : List Bool). get_or flags y false) is
      ∙ (bool_iff (get_or (flagged old (parents L x)) y false) (some_below x test || test x)
      (λ set. elim (flagged_from old (parents L x) y long set) [ inl was ↦ or_left (some_below x test) (test x) (sym (before.each y h) ∙ was) | inr there ↦ or_right (some_below x test) (test x) there ])
      (λ some. elim (or_cases (some_below x test) (test x) some) [ inl was ↦ flagged_stays old (parents L x) y long (before.each y h ∙ was) | inr there ↦ flagged_there old (parents L x) y long there ])
      ∙ sym (some_below_next x test));
}

-- ancestors

-- a name whose row has y as ancestor
behind_found : (G : List Row) (names : List (List ℕ)) (y : ℕ) → is_behind_some G names y ≡ true →
    (t : ℕ) × (t < length G) × (has_place (map (place_of G) names) t ≡ true) × (is_ancestor (links G) t y ≡ true)
behind_found G [] y h = absurd (true≢false (sym h))
behind_found G (name ∷ names) y h = elim (or_cases (is_behind G y name) (is_behind_some G names y) h) [
  | inl here ↦
      (let parts = and_parts (is_held G name) (is_ancestor (links G) (place_of G name) y) here in
      (place_of G name, ltb-true (place_of G name) (length G) parts.0, has_place_first (place_of G name) (map (place_of G) names), parts.1))
  | inr later ↦ (let found = behind_found G names y later in (found.0, found.1, has_place_later (place_of G name) found.0 (map (place_of G) names) found.2, found.3))
]

behind_from : (G : List Row) (names : List (List ℕ)) (y t : ℕ) → t < length G → has_place (map (place_of G) names) t ≡ true → is_ancestor (links G) t y ≡ true → is_behind_some G names y ≡ true
behind_from G [] y t h there above = absurd (none_there t there)
behind_from G (name ∷ names) y t h there above = elim (or_cases (eqb (place_of G name) t) (has_place (map (place_of G) names) t) there) [
  | inl here ↦
      (let e : place_of G name ≡ t = eqb-true (place_of G name) t here in
      or_left (is_behind G y name) (is_behind_some G names y)
      (and_from (is_held G name) (is_ancestor (links G) (place_of G name) y) (lt-ltb (place_of G name) (length G) (subst (λ (k : ℕ). k < length G) (sym e) h))
      (subst (λ (k : ℕ). is_ancestor (links G) k y ≡ true) (sym e) above)))
  | inr later ↦ or_right (is_behind G y name) (is_behind_some G names y) (behind_from G names y t h later above)
]

-- what the walk keeps to behind the rows from x on: the named rows are flagged, and ancestors of named rows alone, and of those rows
-- the parents of each one that is
pub record WalksDown (G : List Row) (names : List (List ℕ)) (x : ℕ) (flags : List Bool) : Type 0 where
  pub inside : x ≤ length G
  pub len : length flags ≡ length G
  pub named : (p : ℕ) → p < length G → has_place (map (place_of G) names) p ≡ true → get_or flags p false ≡ true
  pub only : (y : ℕ) → y < length G → get_or flags y false ≡ true → is_behind_some G names y ≡ true
  pub closed : (z p : ℕ) → x ≤ z → z < length G → get_or flags z false ≡ true → has_place (parents (links G) z) p ≡ true → get_or flags p false ≡ true

module _ (G : List Row) (names : List (List ℕ)) (e : IsEarlier (parents (links G))) where
  pub walk_starts : (flags : List Bool) → flags ≡ flagged (replicate (length G) false) (map (place_of G) names) → WalksDown G names (length G) flags
  walk_starts flags is = subst (WalksDown G names (length G)) (sym is) (record {
    inside = omega arith;
    len = length-flagged (replicate (length G) false) (map (place_of G) names) ∙ length-none (length G);
    named = λ p h there. flagged_there (replicate (length G) false) (map (place_of G) names) p (omega (arith, h, length-none (length G))) there;
    only = λ y h set. elim (flagged_from (replicate (length G) false) (map (place_of G) names) y (omega (arith, h, length-none (length G))) set) [
      | inl was ↦ absurd (true≢false (sym was ∙ none_flagged (length G) y))
      | inr there ↦ behind_from G names y y h there (is_ancestor_self (links G) e y)
    ];
    closed = λ z p le lt set there. absurd (omega (arith, le, lt));
  })

  module _ (x : ℕ) (old : List Bool) (lt : x < length G) (before : WalksDown G names (x + 1) old) where
    by_test : (b : Bool) → get_or old x false ≡ b → WalksDown G names x (flagged old (cond b (parents (links G) x) []))
    by_test false is = record {
      inside = omega (arith, lt);
      len = before.len;
      named = before.named;
      only = before.only;
      closed = λ z p le h set there. dite (ℕ_discrete z x)
          (λ same. absurd (true≢false (sym set ∙ (ap (λ (k : ℕ). get_or old k false) same ∙ is))))
          (λ ne. before.closed z p (omega (arith, le, ne)) h set there);
    }
    by_test true is =
        let ps = parents (links G) x in
        let long : (y : ℕ) → y < length G → y < length old = λ y h. omega (arith, h, before.len) in
        let below : (z p : ℕ) → z < length G → has_place (parents (links G) z) p ≡ true → p < length G = λ z p h there. omega (arith, h, e.earlier z p there) in
        record {
          inside = omega (arith, lt);
          len = length-flagged old ps ∙ before.len;
          named = λ p h there. flagged_stays old ps p (long p h) (before.named p h there);
          only = λ y h set. elim (flagged_from old ps y (long y h) set) [
            | inl was ↦ before.only y h was
            | inr there ↦ (
                let found = behind_found G names x (before.only x lt is) in
                let above : is_ancestor (links G) x y ≡ true = is_ancestor_by (links G) e x y y there (is_ancestor_self (links G) e y) in
                behind_from G names y found.0 found.1 found.2 (is_ancestor-trans (links G) e found.0 x y found.3 above))
          ];
          closed = λ z p le h set there. dite (ℕ_discrete z x)
              (λ same. flagged_there old ps p (long p (below z p h there)) (subst (λ (k : ℕ). has_place (parents (links G) k) p ≡ true) same there))
              (λ ne. elim (flagged_from old ps z (long z h) set) [
                | inl was ↦ flagged_stays old ps p (long p (below z p h there)) (before.closed z p (omega (arith, le, ne)) h was there)
                | inr parent ↦ (let low = e.earlier x z parent in absurd (omega (arith, le, low)))
              ]);
        }

  pub walk_more : (x : ℕ) (old new : List Bool) → x < length G → new ≡ flagged old (parents_if_flagged (links G) old x) → WalksDown G names (x + 1) old → WalksDown G names x new
  walk_more x old new lt is before = subst (WalksDown G names x) (sym is) (by_test x old lt before (get_or old x false) refl)

  -- behind all rows

  reached_set : (flags : List Bool) → WalksDown G names 0 flags → (n t y : ℕ) → t < n → t < length G → get_or flags t false ≡ true → is_ancestor (links G) t y ≡ true → get_or flags y false ≡ true
  reached_set flags walks zero t y low h set above = absurd (omega (arith, low))
  reached_set flags walks (suc n) t y low h set above = elim (is_ancestor_cases (links G) e t y above) [
    | inl same ↦ subst (λ (k : ℕ). get_or flags k false ≡ true) same set
    | inr by ↦ (let less = e.earlier t by.0 by.1 in
        reached_set flags walks n by.0 y (omega (arith, low, less)) (omega (arith, h, less)) (walks.closed t by.0 (omega arith) h set by.1) by.2)
  ]

  pub walk_ends : (x : ℕ) (flags : List Bool) → x ≤ 0 → WalksDown G names x flags → AreFlagged (length G) (is_behind_some G names) flags
  walk_ends x flags le before =
      let walks : WalksDown G names 0 flags = subst (λ (k : ℕ). WalksDown G names k flags) (omega (arith, le)) before in
      record {
        len = walks.len;
        each = λ y h. bool_iff (get_or flags y false) (is_behind_some G names y) (walks.only y h)
            (λ behind. (let found = behind_found G names y behind in
            reached_set flags walks (suc found.0) found.0 y (omega arith) found.1 (walks.named found.0 found.1 found.2) found.3));
      }

-- lists of what is not flagged

pub unflagged : {A : Type 0} (value : ℕ → A) (n : ℕ) (test : ℕ → Bool) (flags : List Bool) → AreFlagged n test flags → list_unflagged value n flags ≡ list_below value n (λ x. not (test x))
unflagged value n test flags are = list_below-same value value n (λ x. not (get_or flags x false)) (λ x. not (test x)) (λ k h. ap not (are.each k h)) (λ k h passes. refl)

pub unflagged_more : {A : Type 0} (value : ℕ → A) (n : ℕ) (flags : List Bool) (old new : List A) (last : A) → get_or flags n false ≡ false → old ≡ list_unflagged value n flags → last ≡ value n →
    new ≡ old ++ last ∷ [] → new ≡ list_unflagged value (n + 1) flags
unflagged_more {A} value n flags old new last clear before is grown =
    grown ∙ (ap₂ (λ (xs : List A) (x : A). xs ++ x ∷ []) before is ∙ sym (list_below_passes value n (λ x. not (get_or flags x false)) (ap not clear)))

pub unflagged_same : {A : Type 0} (value : ℕ → A) (n : ℕ) (flags : List Bool) (old : List A) → get_or flags n false ≡ true → old ≡ list_unflagged value n flags → old ≡ list_unflagged value (n + 1) flags
unflagged_same value n flags old set before = before ∙ sym (list_below_fails value n (λ x. not (get_or flags x false)) (ap not set))

-- what is read of a row

pub name_read : (G : List Row) (x : ℕ) (row : Row) → slice_get G x ≡ Some row → row.name ≡ name_at G x
unfolding name_at
name_read G x row at = sym (ap name_in at)

pub bytes_read : (G : List Row) (x : ℕ) (bytes : List ℕ) → x < length G → option_map spelling (slice_get G x) ≡ Some bytes → bytes ≡ bytes_at G x
bytes_read G x bytes low at =
    let read : Some (bytes_at G x) ≡ Some bytes = sym (ap (option_map spelling) (slice_get-get_or G x no_row low)) ∙ at in
    cc

pub ruleset row_reads = (name_read, bytes_read)

pub parents_read : (G : List Row) (x : ℕ) (row : Row) → x < length G → slice_get G x ≡ Some row → map (place_of G) (parent_names row.parents) ≡ parents (links G) x
parents_read G x row low at =
    let there : Some (get_or G x row) ≡ Some row = sym (slice_get-get_or G x row low) ∙ at in
    let read : row ≡ get_or G x row = cc in
    sym (parents-links G x row low read)

-- names flagged one by one

flag_next : (G : List Row) (start old new : List Bool) (names longer : List (List ℕ)) (name : List ℕ) → longer ≡ names ++ name ∷ [] →
    old ≡ flagged start (map (place_of G) names) → new ≡ flagged old (place_of G name ∷ []) → new ≡ flagged start (map (place_of G) longer)
flag_next G start old new names longer name one before is =
    let places : map (place_of G) longer ≡ map (place_of G) names ++ place_of G name ∷ [] = ap (map (place_of G)) one ∙ map-append (place_of G) names (name ∷ []) in
    is ∙ (ap (λ (flags : List Bool). flagged flags (place_of G name ∷ [])) before
    ∙ (sym (flagged-append start (map (place_of G) names) (place_of G name ∷ [])) ∙ ap (flagged start) (sym places)))

pub flag_more : (G : List Row) (start old new : List Bool) (names : List (List ℕ)) (i : ℕ) (none : List ℕ) → i < length names →
    old ≡ flagged start (map (place_of G) (take i names)) → new ≡ flagged old (place_of G (get_or names i none) ∷ []) → new ≡ flagged start (map (place_of G) (take (i + 1) names))
flag_more G start old new names i none low = flag_next G start old new (take i names) (take (i + 1) names) (get_or names i none) (take_more names i none low)

pub flag_lent_more : (G : List Row) (start old new : List Bool) (names : List (Bor (List ℕ))) (i : ℕ) (none : Bor (List ℕ)) → i < length names →
    old ≡ flagged start (map (place_of G) (lent_names (take i names))) → new ≡ flagged old (place_of G (get_or names i none).now ∷ []) → new ≡ flagged start (map (place_of G) (lent_names (take (i + 1) names)))
flag_lent_more G start old new names i none low =
    flag_next G start old new (lent_names (take i names)) (lent_names (take (i + 1) names)) (get_or names i none).now (map_more (λ (name : Bor (List ℕ)). name.now) names i none low)

-- what is read off the flags

pub parents_flagged : (G : List Row) (x : ℕ) (flags : List Bool) → x ≡ length G → AreFlagged (length G) (λ y. some_below x (λ z. has_place (parents (links G) z) y)) flags → AreParentsFlagged G flags
parents_flagged G x flags is are = record {
  len = are.len;
  each = λ y h. are.each y h ∙ ap (λ (k : ℕ). some_below k (λ z. has_place (parents (links G) z) y)) (is ∙ sym (length-links G));
}

pub tips_listed : {E : Type 0} (G : List Row) (flags : List Bool) (result : Result (Vec (List ℕ)) E) → AreParentsFlagged G flags →
    IfOk result (λ names. names.items ≡ list_unflagged (name_at G) (length G) flags) → IfOk result (λ names. names.items ≡ tips G)
unfolding tips
tips_listed G flags (Ok names) are is = is ∙ unflagged (name_at G) (length G) (is_parent (links G)) flags are
tips_listed G flags (Err e) are is = tt

pub beyond_listed : {E : Type 0} {V : Type 0} (items : V → List (List ℕ)) (G : List Row) (names : List (List ℕ)) (flags : List Bool) (result : Result V E) → AreBehindFlagged G names flags →
    IfOk result (λ rows. items rows ≡ list_unflagged (bytes_at G) (length G) flags) → IfOk result (λ rows. items rows ≡ bytes_beyond G names)
unfolding bytes_beyond
beyond_listed items G names flags (Ok rows) are is = is ∙ unflagged (bytes_at G) (length G) (is_behind_some G names) flags are
beyond_listed items G names flags (Err e) are is = tt
