-- Rows that are asked from the last one on: what they weigh, and when it is settled
use Rattle.std.proofs.Common.{◌≡◌, ◌∙◌, refl, ◌+◌, ◌-◌, ◌*◌, ◌<◌, ◌≤◌, ℕ, Bool, true, false, cond, List, [], ◌∷◌, length, take, get_or, count_by, nat_le, ap, sym, subst, inl, inr, arith, Option, None, Some, IfSome}
use Rattle.std.specs.Option.{unwrap_or}
use Rattle.std.specs.List.{AllByRecursion}
use Rattle.std.proofs.Math.Nat.{mul-add, mul-le-mul_left, add-zero}
use Rattle.std.proofs.lemmas.Bool.{leb-true, le-leb, ltb-true, lt-ltb, cases_lt, false_from_ne_true}
use Rattle.std.proofs.lemmas.List.{take_more}
use Rattle.std.proofs.lemmas.List.Sums.{sum_by-append, sum_by-cons}
use Rattle.hg_model.specs.Stakes.{Stakes, member_count, total, AllWeigh}
use Rattle.hg_model.specs.Among.{weight_among}
use Rattle.hg_model.specs.Places.{has_place, IsEarlier}
use Rattle.hg_model.specs.Links.{Link, creator, parents}
use Rattle.hg_model.specs.Shape.{Shape}
use Rattle.hg_model.specs.Ancestry.{is_ancestor}
use Rattle.hg_model.specs.Seeing.{is_supermajority, strongly_sees}
use Rattle.hg_model.specs.Rounds.{stake_at}
use Rattle.hg_model.specs.GraphWords.{IsShapedIn}
use Rattle.hg_model.proofs.StakeLaws.{total-even}
use Rattle.hg_model.proofs.ReachLaws.{bool_iff, none_there}
use Rattle.hg_model.proofs.AncestryLaws.{is_ancestor_cases}
use Rattle.hg_model.proofs.SightLaws.{strongly_sees-is_ancestor}

-- one row more
weight_more : (weight : ℕ → ℕ) (test : ℕ → Bool) (rows : List ℕ) (k : ℕ) → k < length rows →
    weight_among weight test (take (k + 1) rows) ≡ weight_among weight test (take k rows) + cond (test (get_or rows k 0)) (weight (get_or rows k 0)) 0
weight_more weight test rows k inside =
    let one : ℕ → ℕ = λ x. cond (test x) (weight x) 0 in
    let more = ap (weight_among weight test) (take_more rows k 0 inside) ∙ sum_by-append one (take k rows) (get_or rows k 0 ∷ []) in
    omega (arith, more, sum_by-cons one (get_or rows k 0) [])

missing_less : (missing stake rest : ℕ) → nat_le missing (rest + stake) ≡ nat_le (missing - stake) rest
missing_less missing stake rest = bool_iff (nat_le missing (rest + stake)) (nat_le (missing - stake) rest)
    (λ h. (let le = leb-true missing (rest + stake) h in le-leb (missing - stake) rest (omega arith)))
    (λ h. (let le = leb-true (missing - stake) rest h in le-leb missing (rest + stake) (omega arith)))

-- the last row that was left is seen, and has this stake
pub found : (weight : ℕ → ℕ) (test : ℕ → Bool) (rows : List ℕ) (left k missing stake : ℕ) → left ≡ k + 1 → left ≤ length rows →
    test (get_or rows k 0) ≡ true → stake ≡ weight (get_or rows k 0) →
    nat_le missing (weight_among weight test (take left rows)) ≡ nat_le (missing - stake) (weight_among weight test (take k rows))
found weight test rows left k missing stake last within passes is =
    let rest = weight_among weight test (take k rows) in
    let more : weight_among weight test (take (k + 1) rows) ≡ rest + stake =
    weight_more weight test rows k (omega arith) ∙ (ap (λ b. rest + cond b (weight (get_or rows k 0)) 0) passes ∙ ap (λ s. rest + s) (sym is)) in
    ap (λ j. nat_le missing (weight_among weight test (take j rows))) last ∙ (ap (nat_le missing) more ∙ missing_less missing stake rest)

-- the last row that was left is not seen
pub passed : (weight : ℕ → ℕ) (test : ℕ → Bool) (rows : List ℕ) (left k missing : ℕ) → left ≡ k + 1 → left ≤ length rows → test (get_or rows k 0) ≡ false →
    nat_le missing (weight_among weight test (take left rows)) ≡ nat_le missing (weight_among weight test (take k rows))
passed weight test rows left k missing last within fails =
    let rest = weight_among weight test (take k rows) in
    let same : weight_among weight test (take (k + 1) rows) ≡ rest =
    weight_more weight test rows k (omega arith) ∙ (ap (λ b. rest + cond b (weight (get_or rows k 0)) 0) fails ∙ add-zero rest) in
    ap (λ j. nat_le missing (weight_among weight test (take j rows))) last ∙ ap (nat_le missing) same

-- those that pass weigh no more than all
among_all : (weight : ℕ → ℕ) (test : ℕ → Bool) (rows : List ℕ) → weight_among weight test rows ≤ weight_among weight (λ y. true) rows
among_all weight test [] = omega arith
among_all weight test (y ∷ rows) =
    omega (arith, sum_by-cons (λ k. cond (test k) (weight k) 0) y rows, sum_by-cons (λ k. cond true (weight k) 0) y rows, among_all weight test rows, one (test y) (weight y))
  where
    one : (b : Bool) (w : ℕ) → cond b w 0 ≤ w
    one true w = omega arith
    one false w = omega arith

-- where all rows that are left weigh less than what is missing, too little of them is seen
pub too_light : (weight : ℕ → ℕ) (test : ℕ → Bool) (rows : List ℕ) (missing rest : ℕ) → rest ≡ weight_among weight (λ y. true) rows → rest < missing →
    nat_le missing (weight_among weight test rows) ≡ false
too_light weight test rows missing rest is less =
    false_from_ne_true (nat_le missing (weight_among weight test rows))
    (λ h. (let le = leb-true missing (weight_among weight test rows) h in absurd (omega (arith, among_all weight test rows))))

-- where all members have one stake

even_step : (seen : Bool) (weight each rest count : ℕ) → weight ≡ each → rest ≡ each * count → cond seen weight 0 + rest ≡ each * (cond seen 1 0 + count)
even_step true weight each rest count same before = omega (arith, same, before, mul-add each 1 count)
even_step false weight each rest count same before = omega (arith, before, mul-add each 0 count)

-- rows of one weight weigh as many times it as they are
pub weight_among-even : (weight : ℕ → ℕ) (test : ℕ → Bool) (each : ℕ) (rows : List ℕ) → AllByRecursion (λ y. weight y ≡ each) rows →
    weight_among weight test rows ≡ each * count_by test rows
weight_among-even weight test each [] same = omega arith
weight_among-even weight test each (y ∷ rows) same =
    sum_by-cons (λ k. cond (test k) (weight k) 0) y rows
    ∙ (even_step (test y) (weight y) each (weight_among weight test rows) (count_by test rows) same.0 (weight_among-even weight test each rows same.1)
    ∙ ap (λ k. each * k) (sym (sum_by-cons (λ k. cond (test k) 1 0) y rows)))

-- so many members of one stake have more than two thirds of it where they are more than two thirds of all
pub supermajority-even : (n : Stakes) (each weight count : ℕ) → AllWeigh n each → 0 < each → weight ≡ each * count →
    is_supermajority (total n) weight ≡ is_supermajority (member_count n) count
supermajority-even n each weight count even some is =
    let all = total-even n each even in
    let members : ℕ = member_count n in
    let twice : 2 * total n ≡ each * (2 * members) = omega (arith, all, mul-add each members members) in
    let thrice : 3 * weight ≡ each * (3 * count) = omega (arith, is, mul-add each count (2 * count), mul-add each count count) in
    bool_iff (is_supermajority (total n) weight) (is_supermajority members count)
    (λ h. (let more = ltb-true (2 * total n) (3 * weight) h in
    lt-ltb (2 * members) (3 * count) (elim (cases_lt (2 * members) (3 * count)) [
      | inl less ↦ less
      | inr past ↦ absurd (omega (arith, more, twice, thrice, mul-le-mul_left each past))
    ])))
    (λ h. (let more : 2 * members + 1 ≤ 3 * count = omega (arith, ltb-true (2 * members) (3 * count) h) in
    lt-ltb (2 * total n) (3 * weight) (omega (arith, some, twice, thrice, mul-le-mul_left each more, mul-add each (2 * members) 1))))

-- rows of a graph weigh their creators' stakes
pub stakes-even : (shape : Shape) (each : ℕ) (rows : List ℕ) (x : ℕ) → IsShapedIn shape → x < length shape.links → AllWeigh shape.members each →
    AllByRecursion (λ y. y < x) rows → AllByRecursion (λ y. stake_at shape.members shape.links y ≡ each) rows
stakes-even shape each [] x shaped place even below = tt
stakes-even shape each (y ∷ rows) x shaped place even below =
    (even (creator shape.links y) (shaped.members y (omega (arith, below.0))), stakes-even shape each rows x shaped place even below.1)

-- the stake that is told is each member's
pub stake-even : (n : Stakes) (even : Option ℕ) (each : ℕ) → IfSome even (λ stake. AllWeigh n stake) → each ≡ unwrap_or even 0 → 0 < each → AllWeigh n each
stake-even n None each all is some = absurd (omega (arith, is, some))
stake-even n (Some stake) each all is some = subst (AllWeigh n) (sym is) all

-- a row without parents strongly sees no earlier row

pub no_places : (ps : List ℕ) → length ps ≡ 0 → ps ≡ []
no_places [] none = refl
no_places (p ∷ ps) some = absurd (omega (arith, some))

module _ (n : Stakes) (L : List Link) (e : IsEarlier (parents L)) (x : ℕ) (none : parents L x ≡ []) where
  not_ancestor : (y : ℕ) → y < x → is_ancestor L x y ≡ true → ⊥
  not_ancestor y earlier up = elim (is_ancestor_cases L e x y up) [
    | inl same ↦ omega (arith, earlier, same)
    | inr by ↦ none_there by.0 (ap (λ ps. has_place ps by.0) (sym none) ∙ by.1)
  ]

  sees_no_earlier : (y : ℕ) → y < x → strongly_sees n L x y ≡ false
  sees_no_earlier y earlier =
      false_from_ne_true (strongly_sees n L x y) (λ h. absurd (not_ancestor y earlier (strongly_sees-is_ancestor L e n x y h)))

  sees_none : (rows : List ℕ) → AllByRecursion (λ y. y < x) rows → weight_among (stake_at n L) (strongly_sees n L x) rows ≡ 0
  sees_none [] below = refl
  sees_none (y ∷ rows) below =
      sum_by-cons (λ k. cond (strongly_sees n L x k) (stake_at n L k) 0) y rows
      ∙ omega (arith, ap (λ b. cond b (stake_at n L y) 0) (sees_no_earlier y below.0), sees_none rows below.1)

  pub rises_not : (rows : List ℕ) → AllByRecursion (λ y. y < x) rows →
      is_supermajority (total n) (weight_among (stake_at n L) (strongly_sees n L x) rows) ≡ false
  rises_not rows below =
      false_from_ne_true (is_supermajority (total n) (weight_among (stake_at n L) (strongly_sees n L x) rows))
      (λ h. (let more = ltb-true (2 * total n) (3 * weight_among (stake_at n L) (strongly_sees n L x) rows) h in
      absurd (omega (arith, sees_none rows below, more))))
