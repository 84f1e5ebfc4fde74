-- Marks that are added one after the other
use Rattle.std.proofs.Common.{◌≡◌, ◌⊎◌, inl, inr, ℕ, zero, suc, ◌+◌, ◌<◌, ◌≤◌, Bool, false, cond, ◌&&◌, ltb, List, [], ◌∷◌, length, take, fold, Option, Some, None, is_some, sym, refl, ap, ◌∙◌, subst, arith}
use Rattle.std.specs.Prelude.{is_none, slice_set, All, Contains}
use Rattle.std.specs.Option.{option_or}
use Rattle.std.specs.List.{AllByRecursion}
use Rattle.std.proofs.lemmas.Bool.{cases_lt, cases_eq, le-ltb, and_parts, false_from_ne_true, true≢false}
use Rattle.std.proofs.lemmas.List.{length-set, get_or-set_same, get_or-set_other, length-take-le, ext_get_or}
use Rattle.std.proofs.lemmas.List.Elements.{All-weaker, All-contains, All-from_recursion, recursion_from_All}
use Rattle.std.proofs.lemmas.List.FromFn.{length-map-range_with_len}
use Rattle.hg_model.specs.declared.row.Row.{Row}
use Rattle.hg_model.specs.Places.{count_below, weight_below, table}
use Rattle.hg_model.specs.Stakes.{Stakes}
use Rattle.hg_model.specs.Links.{Link}
use Rattle.hg_model.specs.Rounds.{is_witness}
use Rattle.hg_model.specs.Fame.{Marks, mark_at, fame_of}
use Rattle.hg_model.specs.Order.{coin_at}
use Rattle.hg_model.specs.Shares.{Share, is_of_share, share_fame, early_fame}
use Rattle.hg_life.specs.History.{State, news, new_mark, with_marks, replay}
use Rattle.hg_model.proofs.PlacesLaws.{weight_below-same, weight_below-longer, count_below-le}
use Rattle.hg_history.specs.Adding.{Adding, add_mark, add_marks}
use Rattle.hg_history.specs.News.{FindsNews}
use Rattle.hg_history.specs.Laws.{PublishingAddsMarks}
use Rattle.hg_history.proofs.StateLaws.{IsEven, even_after, mark_of_table}

-- 1 where there is no mark
abbrev bare : Option Bool → ℕ
bare mark = cond (is_none mark) 1 0

-- how many of the first n have no mark
abbrev unmarked : Marks → ℕ → ℕ
unmarked marks n = count_below n (λ x. is_none (mark_at marks x))

has_one : (o : Option Bool) (v : Bool) → is_none (option_or o (Some v)) ≡ false
has_one None v = refl
has_one (Some w) v = refl

-- the place has got this mark, if it had none
abbrev marked : Marks → ℕ → Bool → Marks
marked marks k v = slice_set marks k (option_or (mark_at marks k) (Some v))

module _ (marks : Marks) (k : ℕ) (v : Bool) (inside : k < length marks) where
  here : mark_at (marked marks k v) k ≡ option_or (mark_at marks k) (Some v)
  here = get_or-set_same marks k (option_or (mark_at marks k) (Some v)) None inside

  elsewhere : (x : ℕ) → (x ≡ k → ⊥) → mark_at (marked marks k v) x ≡ mark_at marks x
  elsewhere x other = get_or-set_other marks k x (option_or (mark_at marks k) (Some v)) None other

  -- a place that gets a mark is one fewer without
  one_fewer : (n : ℕ) → k < n → bare (mark_at marks k) + unmarked (marked marks k v) n ≡ unmarked marks n
  unfolding weight_below
  one_fewer zero below = absurd (omega arith)
  one_fewer (suc n) below = elim (cases_eq n k) [
    | inl last ↦ (
        let same = weight_below-same (λ _. 1) n (λ x. is_none (mark_at (marked marks k v) x)) (λ x. is_none (mark_at marks x)) (λ x low. ap is_none (elsewhere x (λ is. absurd (omega arith)))) in
        let none : bare (mark_at (marked marks k v) n) ≡ 0 = ap (λ (i : ℕ). bare (mark_at (marked marks k v) i)) last ∙ ap (λ (b : Bool). cond b 1 0) (ap is_none here ∙ has_one (mark_at marks k) v) in
        let at : bare (mark_at marks n) ≡ bare (mark_at marks k) = ap (λ (i : ℕ). bare (mark_at marks i)) last in
        omega (arith, same, none, at))
    | inr other ↦ (
        let before = one_fewer n (omega arith) in
        let same : bare (mark_at (marked marks k v) n) ≡ bare (mark_at marks n) = ap bare (elsewhere n other) in
        omega (arith, before, same))
  ]

-- the places are below n
abbrev AreBelow : ℕ → List (ℕ × Bool) → Type 0
AreBelow n found = AllByRecursion (λ (f : ℕ × Bool). f.0 < n) found

counted : (n : ℕ) (found : List (ℕ × Bool)) (a : Adding) → n ≤ length a.marks → AreBelow n found →
    let b = fold add_mark a found in b.count + unmarked b.marks n ≡ a.count + unmarked a.marks n
counted n [] a within below = refl
counted n (f ∷ found) a within below =
    let b = add_mark a f in
    let less = one_fewer a.marks f.0 f.1 (omega (arith, below.0)) n below.0 in
    let rest = counted n found b (omega (arith, length-set a.marks f.0 (option_or (mark_at a.marks f.0) (Some f.1)))) below.1 in
    rest ∙ omega (arith, less)

-- no more are marked than there are
pub few_added : (marks : Marks) (found : List (ℕ × Bool)) → All (λ (f : ℕ × Bool). f.0 < length marks) found → (add_marks marks found).count ≤ length marks
unfolding add_marks
few_added marks found within =
    let all = counted (length marks) found (record { marks = marks; count = 0 }) (omega arith) (recursion_from_All (λ (f : ℕ × Bool). f.0 < length marks) found within) in
    omega (arith, all, count_below-le (length marks) (λ x. is_none (mark_at marks x)))

-- by these fames marks have become others: each has stayed, or was none and is the fame
record IsAdded (fame : ℕ → Option Bool) (a b : Marks) : Type 0 where
  sized : length b ≡ length a
  each : (x : ℕ) → (mark_at b x ≡ mark_at a x) ⊎ ((mark_at a x ≡ None) × (mark_at b x ≡ fame x))

module _ (fame : ℕ → Option Bool) where
  by_one : (marks : Marks) (k : ℕ) (v : Bool) → k < length marks → fame k ≡ Some v → IsAdded fame marks (marked marks k v)
  by_one marks k v inside is = record {
    sized = length-set marks k (option_or (mark_at marks k) (Some v));
    each = λ x. elim (cases_eq x k) [
      | inl same ↦ subst (λ (i : ℕ). (mark_at (marked marks k v) i ≡ mark_at marks i) ⊎ ((mark_at marks i ≡ None) × (mark_at (marked marks k v) i ≡ fame i))) (sym same) (at (mark_at marks k) refl)
      | inr other ↦ inl (elsewhere marks k v inside x other)
    ];
  }
    where
      at : (o : Option Bool) → mark_at marks k ≡ o → (mark_at (marked marks k v) k ≡ mark_at marks k) ⊎ ((mark_at marks k ≡ None) × (mark_at (marked marks k v) k ≡ fame k))
      at None none = inr (none, here marks k v inside ∙ (ap (λ (o : Option Bool). option_or o (Some v)) none ∙ sym is))
      at (Some w) some = inl (here marks k v inside ∙ (ap (λ (o : Option Bool). option_or o (Some v)) some ∙ sym some))

  then_more : (a b d : Marks) → IsAdded fame a b → IsAdded fame b d → IsAdded fame a d
  then_more a b d one two = record {
    sized = two.sized ∙ one.sized;
    each = λ x. elim (two.each x) [
      | inl still ↦ elim (one.each x) [ inl same ↦ inl (still ∙ same) | inr new ↦ inr (new.0, still ∙ new.1) ]
      | inr newer ↦ elim (one.each x) [ inl same ↦ inr (sym same ∙ newer.0, newer.1) | inr new ↦ inr (new.0, newer.1) ]
    ];
  }

  -- each place has this fame, and is below the end
  abbrev AreFound : ℕ → List (ℕ × Bool) → Type 0
  AreFound n found = AllByRecursion (λ (f : ℕ × Bool). (f.0 < n) × (fame f.0 ≡ Some f.1)) found

  by_all : (found : List (ℕ × Bool)) (a : Adding) (n : ℕ) → length a.marks ≡ n → AreFound n found → IsAdded fame a.marks (fold add_mark a found).marks
  by_all [] a n sized are = record { sized = refl; each = λ x. inl refl }
  by_all (f ∷ found) a n sized are =
      let first = by_one a.marks f.0 f.1 (omega (arith, are.0.0)) are.0.1 in
      then_more a.marks (add_mark a f).marks (fold add_mark (add_mark a f) found).marks first (by_all found (add_mark a f) n (first.sized ∙ sized) are.1)

  -- what has a mark has one afterwards
  keeps_one : (a b : Marks) → IsAdded fame a b → (x : ℕ) → is_none (mark_at a x) ≡ false → is_none (mark_at b x) ≡ false
  keeps_one a b is x some = elim (is.each x) [
    | inl same ↦ ap is_none same ∙ some
    | inr new ↦ absurd (true≢false (sym (ap is_none new.0) ∙ some))
  ]

  -- and each that was found has one
  all_marked : (found : List (ℕ × Bool)) (a : Adding) (n : ℕ) → length a.marks ≡ n → AreFound n found →
      AllByRecursion (λ (f : ℕ × Bool). is_none (mark_at (fold add_mark a found).marks f.0) ≡ false) found
  all_marked [] a n sized are = are
  all_marked (f ∷ found) a n sized are =
      let inside : f.0 < length a.marks = omega (arith, are.0.0) in
      let b = add_mark a f in
      let sized' = length-set a.marks f.0 (option_or (mark_at a.marks f.0) (Some f.1)) ∙ sized in (
        keeps_one b.marks (fold add_mark b found).marks (by_all found b n sized' are.1) f.0 (ap is_none (here a.marks f.0 f.1 inside) ∙ has_one (mark_at a.marks f.0) f.1),
        all_marked found b n sized' are.1,
      )

  module _ (marks : Marks) (found : List (ℕ × Bool)) (are : AreFound (length marks) found)
      (all : (x : ℕ) (v : Bool) → fame x ≡ Some v → mark_at marks x ≡ None → Contains found (x, v)) where
    abbrev after : Adding
    after = fold add_mark (record { marks = marks; count = 0 }) found

    is : IsAdded fame marks after.marks
    is = by_all found (record { marks = marks; count = 0 }) (length marks) refl are

    -- each mark stays, and where there was none it is the fame
    new_mark_is : (x : ℕ) → mark_at after.marks x ≡ option_or (mark_at marks x) (fame x)
    new_mark_is x = by (mark_at marks x) refl (fame x) refl
      where
        by : (mark : Option Bool) → mark_at marks x ≡ mark → (o : Option Bool) → fame x ≡ o → mark_at after.marks x ≡ option_or (mark_at marks x) (fame x)
        by (Some w) some o is_o = elim (is.each x) [
          | inl same ↦ same ∙ (some ∙ sym (ap (λ (m : Option Bool). option_or m (fame x)) some))
          | inr new ↦ absurd (true≢false (sym (ap is_none new.0) ∙ ap is_none some))
        ]
        by None none None is_o = elim (is.each x) [
          | inl same ↦ same ∙ (none ∙ (sym is_o ∙ sym (ap (λ (m : Option Bool). option_or m (fame x)) none)))
          | inr new ↦ new.1 ∙ sym (ap (λ (m : Option Bool). option_or m (fame x)) none)
        ]
        by None none (Some v) is_o = elim (is.each x) [
          | inl same ↦ (
              let some = All-contains (λ (f : ℕ × Bool). is_none (mark_at after.marks f.0) ≡ false) found (x, v)
              (All-from_recursion (λ (f : ℕ × Bool). is_none (mark_at after.marks f.0) ≡ false) found (all_marked found (record { marks = marks; count = 0 }) (length marks) refl are))
              (all x v is_o none) in
              absurd (true≢false (sym (ap is_none (same ∙ none)) ∙ some)))
          | inr new ↦ new.1 ∙ sym (ap (λ (m : Option Bool). option_or m (fame x)) none)
        ]

    abbrev is_new : ℕ → Bool
    is_new x = is_none (mark_at marks x) && is_some (fame x)

    -- those that had none have none still, or are new
    parted : (n : ℕ) → unmarked marks n ≡ unmarked after.marks n + count_below n is_new
    unfolding weight_below
    parted zero = refl
    parted (suc n) =
        let last : bare (mark_at marks n) ≡ bare (mark_at after.marks n) + cond (is_new n) 1 0 =
        one (mark_at marks n) (fame n) ∙ ap (λ (o : Option Bool). bare o + cond (is_new n) 1 0) (sym (new_mark_is n)) in
        omega (arith, parted n, last)
      where
        one : (m o : Option Bool) → bare m ≡ bare (option_or m o) + cond (is_none m && is_some o) 1 0
        one None None = refl
        one None (Some v) = refl
        one (Some w) None = refl
        one (Some w) (Some v) = refl

    count_is : after.count ≡ count_below (length marks) is_new
    count_is =
        let all_counted = counted (length marks) found (record { marks = marks; count = 0 }) (omega arith)
        (recursion_from_All (λ (f : ℕ × Bool). f.0 < length marks) found
        (All-weaker (λ (f : ℕ × Bool). (f.0 < length marks) × (fame f.0 ≡ Some f.1)) (λ (f : ℕ × Bool). f.0 < length marks) (λ f p. p.0) found
        (All-from_recursion (λ (f : ℕ × Bool). (f.0 < length marks) × (fame f.0 ≡ Some f.1)) found are))) in
        omega (arith, all_counted, parted (length marks))

-- past the first rows a share finds nothing
pub found_below : (n : Stakes) (c : ℕ) (G : List Row) (L : List Link) (share : Share) (x : ℕ) → length L ≤ x → share_fame n c G L share x ≡ None
unfolding share_fame
found_below n c G L share x past =
    ap (λ (b : Bool). cond b (fame_of n c L (coin_at G) x) None) (false_from_ne_true (is_of_share n L share x) (λ h.
    let one = and_parts (ltb x (length L) && is_witness n L x) _ h in
    let two = and_parts (ltb x (length L)) (is_witness n L x) one.0 in
    true≢false (sym two.0 ∙ le-ltb x (length L) past)))

module _ (n : Stakes) (c : ℕ) (s : State) (even : IsEven s) (len : ℕ) (share : Share) (found : List (ℕ × Bool)) (finds : FindsNews n c s len share found) where
  abbrev fame_by : ℕ → Option Bool
  fame_by = early_fame n c s.rows s.links len share

  -- a place with fame is one of the first rows
  found_within : (x : ℕ) (v : Bool) → fame_by x ≡ Some v → x < len
  found_within x v is = elim (cases_lt x len) [
    | inl low ↦ low
    | inr past ↦ (
        let size : length (take len s.links) ≡ len = length-take-le len s.links (omega (arith, even.links, finds.within)) in
        let none = found_below n c (take len s.rows) (take len s.links) share x (omega (arith, size)) in
        absurd (true≢false (sym (ap is_none none) ∙ ap is_none is)))
  ]

  pub found_inside : All (λ (f : ℕ × Bool). f.0 < length s.marks) found
  found_inside =
      All-weaker (λ (f : ℕ × Bool). fame_by f.0 ≡ Some f.1) (λ (f : ℕ × Bool). f.0 < length s.marks)
      (λ f is. omega (arith, even.marks, finds.within, found_within f.0 f.1 is)) found finds.fame

  are_found : AreFound fame_by (length s.marks) found
  are_found =
      recursion_from_All (λ (f : ℕ × Bool). (f.0 < length s.marks) × (fame_by f.0 ≡ Some f.1)) found
      (All-weaker (λ (f : ℕ × Bool). fame_by f.0 ≡ Some f.1) (λ (f : ℕ × Bool). (f.0 < length s.marks) × (fame_by f.0 ≡ Some f.1))
      (λ f is. (omega (arith, even.marks, finds.within, found_within f.0 f.1 is), is)) found finds.fame)

  pub adds_marks : ((add_marks s.marks found).marks ≡ (with_marks n c s len share).marks) × ((add_marks s.marks found).count ≡ news n c s len share)
  unfolding add_marks news
  adds_marks =
      let a : Adding = fold add_mark (record { marks = s.marks; count = 0 }) found in
      let added = is fame_by s.marks found are_found finds.news in
      let sized = length-map-range_with_len (new_mark n c s len share) 0 (length s.rows) in (
        ext_get_or None a.marks (table (new_mark n c s len share) (length s.rows)) (added.sized ∙ (even.marks ∙ sym sized)) (λ x inside.
            new_mark_is fame_by s.marks found are_found finds.news x ∙ sym (mark_of_table (new_mark n c s len share) (length s.rows) x (omega (arith, added.sized, even.marks)))),
        count_is fame_by s.marks found are_found finds.news
            ∙ weight_below-longer (λ _. 1) len (length s.marks) (is_new fame_by s.marks found are_found finds.news) (omega (arith, even.marks, finds.within))
            (λ x past inside. false_from_ne_true (is_new fame_by s.marks found are_found finds.news x) (λ h.
            let parts = and_parts (is_none (mark_at s.marks x)) (is_some (fame_by x)) h in
            let size : length (take len s.links) ≡ len = length-take-le len s.links (omega (arith, even.links, finds.within)) in
            true≢false (sym parts.1 ∙ ap is_some (found_below n c (take len s.rows) (take len s.links) share x (omega (arith, size)))))),
      )

pub publishing_adds : PublishingAddsMarks
publishing_adds n c h len share found finds = adds_marks n c (replay n c h) (even_after n c h) len share found finds
