-- A loop that keeps what passes a test
use Rattle.std.proofs.Common.{◌≡◌, ℕ, suc, ◌+◌, ◌<◌, ◌≤◌, Bool, true, false, cond, List, [], ◌∷◌, ◌++◌, length, get_or, set, take, drop, filter, count_by, refl, sym, ap, ap₂, ◌∙◌, arith, add-one}
use Rattle.std.proofs.lemmas.List.{take_more_set, drop-set-lt, length-set, append-nil, take-append-drop}
use Rattle.std.proofs.Math.Seq.{drop-cons}
use Rattle.std.proofs.lemmas.List.Elements.{filter_more}
use Rattle.std.proofs.lemmas.List.Sums.{sum_by-append, count_by_more_yes, count_by_more_no}

-- of the first i items those that pass stand at the front of `out`, and behind them what was there
pub record Keeps (test : ℕ → Bool) (items old out : List ℕ) (i count : ℕ) : Type 0 where
  pub counted : count ≡ count_by test (take i items)
  pub front : take count out ≡ filter test (take i items)
  pub rest : drop count out ≡ drop count old
  pub long : length out ≡ length old

pub keeps_none : (test : ℕ → Bool) (items old : List ℕ) → Keeps test items old old 0 0
keeps_none test items old = record { counted = refl; front = refl; rest = refl; long = refl }

same_rest : (x y : ℕ) (xs ys : List ℕ) → x ∷ xs ≡ y ∷ ys → xs ≡ ys
same_rest x y xs ys same = cc

drop_next : (k : ℕ) (xs ys : List ℕ) → k < length xs → k < length ys → drop k xs ≡ drop k ys → drop (k + 1) xs ≡ drop (k + 1) ys
drop_next k xs ys hx hy same =
    rw (add-one k) (same_rest (get_or xs k 0) (get_or ys k 0) (drop (suc k) xs) (drop (suc k) ys) (sym (drop-cons xs k 0 hx) ∙ (same ∙ drop-cons ys k 0 hy)))

pub keeps_more : (test : ℕ → Bool) (items old out : List ℕ) (i count d : ℕ) → Keeps test items old out i count → i < length items → test (get_or items i d) ≡ true → count < length out →
    Keeps test items old (set out count (get_or items i d)) (i + 1) (count + 1)
keeps_more test items old out i count d k h here room =
    let long = k.long in
    let item = get_or items i d in
    record {
      counted = ap (λ c. c + 1) k.counted ∙ sym (count_by_more_yes test items i d h here);
      front = take_more_set out count item room
          ∙ (ap₂ (λ (xs ys : List ℕ). xs ++ ys) k.front (sym (ap (λ b. cond b (item ∷ []) []) here))
          ∙ sym (filter_more test items i d h));
      rest = drop-set-lt (count + 1) out count item (omega arith) ∙ drop_next count out old room (omega arith) k.rest;
      long = length-set out count item ∙ long;
    }

pub keeps_same : (test : ℕ → Bool) (items old out : List ℕ) (i count d : ℕ) → Keeps test items old out i count → i < length items → test (get_or items i d) ≡ false →
    Keeps test items old out (i + 1) count
keeps_same test items old out i count d k h here = record {
  counted = k.counted ∙ sym (count_by_more_no test items i d h here);
  front = k.front
      ∙ (sym (append-nil (filter test (take i items)))
      ∙ (ap (λ (ys : List ℕ). filter test (take i items) ++ ys) (sym (ap (λ b. cond b (get_or items i d ∷ []) []) here))
      ∙ sym (filter_more test items i d h)));
  rest = k.rest;
  long = k.long;
}

count_by_more : (test : ℕ → Bool) (items : List ℕ) (i d : ℕ) → i < length items → test (get_or items i d) ≡ true → count_by test (take i items) < count_by test items
count_by_more test items i d h here =
    let next = count_by_more_yes test items i d h here in
    let rest : count_by test items ≡ count_by test (take (i + 1) items) + count_by test (drop (i + 1) items) =
    ap (count_by test) (sym (take-append-drop (i + 1) items)) ∙ sum_by-append (λ x. cond (test x) 1 0) (take (i + 1) items) (drop (i + 1) items) in
    omega arith

-- there is room for one more
pub keeps_room : (test : ℕ → Bool) (items old out : List ℕ) (i count d : ℕ) → Keeps test items old out i count → i < length items → test (get_or items i d) ≡ true →
    count_by test items ≤ length old → count < length out
keeps_room test items old out i count d k h here fits =
    let more = count_by_more test items i d h here in
    let counted = k.counted in
    let long = k.long in
    omega arith

pub ruleset keep_steps = (keeps_none, keeps_more, keeps_same, keeps_room)
