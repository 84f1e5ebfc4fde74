-- Steps of loops: of those that part a list, and add marks
use Rattle.std.proofs.Common.{◌≡◌, ℕ, ◌+◌, ◌<◌, ◌≤◌, Bool, true, false, cond, not, List, [], ◌∷◌, ◌++◌, length, take, get_or, fold, Option, Some, None, is_none, sym, refl, ap, ap₂, ◌∙◌, arith}
use Rattle.std.specs.Prelude.{All, filter, slice_set}
use Rattle.std.specs.Option.{option_or}
use Rattle.std.proofs.lemmas.List.{append-nil, length_push, length-set, get_or-set_other, take_more, take_more_set, set-get_or}
use Rattle.std.proofs.lemmas.List.Elements.{filter_more, All-take}
use Rattle.std.proofs.lemmas.List.Sums.{fold-append}
use Rattle.hg_model.specs.Fame.{Marks, mark_at}
use Rattle.hg_history.specs.Adding.{Adding, add_mark, add_marks}
use Rattle.hg_history.proofs.AddLaws.{few_added}

-- parting

-- of the first i places those that pass stand in `fresh`, and the others in front
pub record IsParted (test : ℕ → Bool) (i : ℕ) (old places fresh : List ℕ) (kept : ℕ) : Type 0 where
  pub low : kept ≤ i
  pub few : length fresh ≤ i
  pub passed : fresh ≡ filter test (take i old)
  pub others : take kept places ≡ filter (λ x. not (test x)) (take i old)
  pub later : (k : ℕ) → i ≤ k → get_or places k 0 ≡ get_or old k 0
  pub same : length places ≡ length old

pub parted_none : (test : ℕ → Bool) (old : List ℕ) → IsParted test 0 old old [] 0
parted_none test old = record { low = omega arith; few = omega arith; passed = refl; others = refl; later = λ k le. refl; same = refl }

pub parted_passes : (test : ℕ → Bool) (i : ℕ) (old places fresh : List ℕ) (kept x : ℕ) → IsParted test i old places fresh kept → i < length old → x ≡ get_or places i 0 → test x ≡ true →
    IsParted test (i + 1) old places (fresh ++ x ∷ []) kept
parted_passes test i old places fresh kept x is inside at passes =
    let here : x ≡ get_or old i 0 = at ∙ is.later i (omega arith) in
    let test_here : test (get_or old i 0) ≡ true = ap test (sym here) ∙ passes in
    let low = is.low in
    let few = is.few in
    record {
      low = omega arith;
      few = omega (arith, length_push fresh x);
      passed =
          ap₂ (λ (xs : List ℕ) (y : ℕ). xs ++ y ∷ []) is.passed here
          ∙ sym (filter_more test old i 0 inside ∙ ap (λ (b : Bool). filter test (take i old) ++ cond b (get_or old i 0 ∷ []) []) test_here);
      others =
          is.others
          ∙ sym (filter_more (λ y. not (test y)) old i 0 inside
          ∙ (ap (λ (b : Bool). filter (λ y. not (test y)) (take i old) ++ cond (not b) (get_or old i 0 ∷ []) []) test_here ∙ append-nil (filter (λ y. not (test y)) (take i old))));
      later = λ k le. is.later k (omega arith);
      same = is.same;
    }

pub parted_fails : (test : ℕ → Bool) (i : ℕ) (old places fresh : List ℕ) (kept x : ℕ) → IsParted test i old places fresh kept → i < length old → x ≡ get_or places i 0 → test x ≡ false →
    IsParted test (i + 1) old (slice_set places kept x) fresh (kept + 1)
parted_fails test i old places fresh kept x is inside at fails =
    let here : x ≡ get_or old i 0 = at ∙ is.later i (omega arith) in
    let test_here : test (get_or old i 0) ≡ false = ap test (sym here) ∙ fails in
    let low = is.low in
    let few = is.few in
    let same = is.same in
    record {
      low = omega arith;
      few = omega arith;
      passed =
          is.passed
          ∙ sym (filter_more test old i 0 inside ∙ (ap (λ (b : Bool). filter test (take i old) ++ cond b (get_or old i 0 ∷ []) []) test_here ∙ append-nil (filter test (take i old))));
      others =
          take_more_set places kept x (omega arith)
          ∙ (ap₂ (λ (xs : List ℕ) (y : ℕ). xs ++ y ∷ []) is.others here
          ∙ sym (filter_more (λ y. not (test y)) old i 0 inside
          ∙ ap (λ (b : Bool). filter (λ y. not (test y)) (take i old) ++ cond (not b) (get_or old i 0 ∷ []) []) test_here));
      later = λ k le. get_or-set_other places kept k x 0 (λ is_kept. absurd (omega arith)) ∙ is.later k (omega arith);
      same = length-set places kept x ∙ same;
    }

-- adding marks

kept_mark : (o : Option Bool) (v : Bool) → is_none o ≡ false → option_or o (Some v) ≡ o
kept_mark None v some = cc
kept_mark (Some w) v some = refl

new_mark : (o : Option Bool) (v : Bool) → is_none o ≡ true → option_or o (Some v) ≡ Some v
new_mark None v none = refl
new_mark (Some w) v none = cc

adding : Marks → ℕ → Adding
adding marks count = record { marks = marks; count = count }

pub added_none : (old : Marks) (found : List (ℕ × Bool)) → record { marks = old; count = 0 } ≡ add_marks old (take 0 found)
unfolding add_marks
added_none old found = refl

module _ (old : Marks) (found : List (ℕ × Bool)) (i : ℕ) (inside : i < length found) (marks : Marks) (count : ℕ) (before : record { marks = marks; count = count } ≡ add_marks old (take i found)) where
  one_more : add_marks old (take (i + 1) found) ≡ add_mark (add_marks old (take i found)) (get_or found i (0, false))
  unfolding add_marks
  one_more =
      ap (fold add_mark (record { marks = old; count = 0 })) (take_more found i (0, false) inside)
      ∙ fold-append add_mark (record { marks = old; count = 0 }) (take i found) (get_or found i (0, false) ∷ [])

  pub added_new : (f : ℕ × Bool) → f ≡ get_or found i (0, false) → is_none (mark_at marks f.0) ≡ true → record { marks = slice_set marks f.0 (Some f.1); count = count + 1 } ≡ add_marks old (take (i + 1) found)
  unfolding adding
  added_new f at none =
      ap₂ adding (ap (λ (o : Option Bool). slice_set marks f.0 o) (sym (new_mark (mark_at marks f.0) f.1 none))) (ap (λ (b : Bool). count + cond b 1 0) (sym none))
      ∙ (ap₂ add_mark before at ∙ sym one_more)

  pub added_old : (f : ℕ × Bool) → f ≡ get_or found i (0, false) → is_none (mark_at marks f.0) ≡ false → record { marks = marks; count = count } ≡ add_marks old (take (i + 1) found)
  unfolding adding
  added_old f at some =
      let none_more : count ≡ count + 0 = omega arith in
      ap₂ adding (sym (ap (λ (o : Option Bool). slice_set marks f.0 o) (kept_mark (mark_at marks f.0) f.1 some) ∙ set-get_or marks f.0 None)) (none_more ∙ ap (λ (b : Bool). count + cond b 1 0) (sym some))
      ∙ (ap₂ add_mark before at ∙ sym one_more)

-- no more are counted than there are places
pub one_more_fits : (marks : Marks) (found : List (ℕ × Bool)) (i : ℕ) {new : Marks} {count : ℕ} → All (λ (f : ℕ × Bool). f.0 < length marks) found →
    record { marks = new; count = count } ≡ add_marks marks (take i found) → count ≤ length marks
one_more_fits marks found i {new} {count} within is =
    let same : count ≡ (add_marks marks (take i found)).count = ap (λ (a : Adding). a.count) is in
    omega (arith, same, few_added marks (take i found) (All-take (λ (f : ℕ × Bool). f.0 < length marks) i found within))
