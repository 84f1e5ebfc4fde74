-- What the witnesses of each round weigh, row by row
use Rattle.std.proofs.Common.{◌≡◌, ◌∙◌, ◌+◌, ◌-◌, ◌^◌, ◌<◌, ◌≤◌, ◌&&◌, ℕ, zero, suc, Bool, true, false, cond, eqb, List, [], ◌∷◌, ◌++◌, length, get_or, slice_set, take, refl, sym, ap, ap₂, inl, inr, arith}
use Rattle.std.specs.List.{AllByRecursion}
use Rattle.std.proofs.lemmas.Bool.{cases_lt, cases_eq, eq-eqb, ne_eqb}
use Rattle.std.proofs.lemmas.List.{get_or_append_left, get_or-append_right, get_or_past, get_or-set_same, get_or-set_other, length-set, length_push, take_more}
use Rattle.std.proofs.lemmas.List.Sums.{sum_by-append, sum_by-cons}
use Rattle.hg_model.specs.Among.{weight_among}
use Rattle.hg_model.specs.Links.{Link}
use Rattle.hg_model.specs.Rounds.{stake_at}
use Rattle.hg_model.specs.Shape.{Shape, with_link}
use Rattle.hg_model.specs.Stakes.{stake_of}
use Rattle.hg_model.specs.Standings.{Standing, round_at, witness_at, witnesses_in}
use Rattle.hg_model.proofs.ListLaws.{all_list_below}
use Rattle.hg_model.proofs.LongerLaws.{creator-longer, longer-append}
use Rattle.hg_rounds.specs.Tabled.{AddsWeight, TellsWeights, WeighNothing, rows_weight, standing, weight_at}
use Rattle.hg_rounds.proofs.StandingLaws.{witnesses_in_push}
use Rattle.hg_rounds.proofs.KeepLaws.{no_witnesses}

-- what is kept for each round

nothing_at : (k : ℕ) → weight_at (0 ∷ []) k ≡ 0
nothing_at zero = refl
nothing_at (suc k) = refl

-- two rounds without witnesses
pub weigh_nothing : WeighNothing (0 ∷ 0 ∷ [])
weigh_nothing zero = refl
weigh_nothing (suc r) = nothing_at r

-- one round more, without witnesses
pub weight_at-opened : (weights : List ℕ) (r : ℕ) → weight_at (weights ++ 0 ∷ []) r ≡ weight_at weights r
weight_at-opened weights r = elim (cases_lt r (length weights)) [
  | inl before ↦ get_or_append_left weights (0 ∷ []) 0 r before
  | inr past ↦ get_or-append_right weights (0 ∷ []) (length weights) r 0 refl past ∙ (nothing_at (r - length weights) ∙ sym (get_or_past weights r 0 past))
]

pub adds_opened : (round : ℕ) (witness : Bool) (stake : ℕ) (old new : List ℕ) → AddsWeight round witness stake old new → AddsWeight round witness stake old (new ++ 0 ∷ [])
adds_opened round witness stake old new adds r = weight_at-opened new r ∙ adds r

pub adds_none : (round : ℕ) (witness : Bool) (stake : ℕ) (old : List ℕ) → witness ≡ false → AddsWeight round witness stake old old
adds_none round witness stake old fails r =
    let none = ap (λ b. cond (b && eqb round r) stake 0) fails in
    omega (arith, none)

pub adds_stake : (round : ℕ) (witness : Bool) (stake : ℕ) (old : List ℕ) (next : ℕ) → witness ≡ true → round < length old → next ≡ weight_at old round + stake →
    AddsWeight round witness stake old (slice_set old round next)
adds_stake round witness stake old next passes there is r =
    let by = ap (λ b. cond (b && eqb round r) stake 0) passes in
    elim (cases_eq r round) [
      | inl here ↦
          (let same : weight_at (slice_set old round next) r ≡ next = ap (weight_at (slice_set old round next)) here ∙ get_or-set_same old round next 0 there in
          let one = ap (λ b. cond b stake 0) (eq-eqb round r (sym here)) in
          omega (arith, same, is, by, one, ap (weight_at old) here))
      | inr other ↦
          (let same : weight_at (slice_set old round next) r ≡ weight_at old r = get_or-set_other old round r next 0 other in
          let none = ap (λ b. cond b stake 0) (ne_eqb round r (λ e. other (sym e))) in
          omega (arith, same, by, none))
    ]

-- a weight for each list stays one for each

pub weighed_set : (weights : List ℕ) (lists : List (List ℕ)) (round weight : ℕ) (list : List ℕ) → length weights ≡ length lists →
    length (slice_set weights round weight) ≡ length (slice_set lists round list)
weighed_set weights lists round weight list same = length-set weights round weight ∙ (same ∙ sym (length-set lists round list))

pub weighed_opened : (weights : List ℕ) (lists : List (List ℕ)) (weight : ℕ) (list : List ℕ) → length weights ≡ length lists →
    length (weights ++ weight ∷ []) ≡ length (lists ++ list ∷ [])
weighed_opened weights lists weight list same = length_push weights weight ∙ (ap (λ k. k + 1) same ∙ sym (length_push lists list))

-- what rows weigh

-- with another weight that is the same for each of them
rows_same : (one two : ℕ → ℕ) (rows : List ℕ) → AllByRecursion (λ y. one y ≡ two y) rows → weight_among one (λ y. true) rows ≡ weight_among two (λ y. true) rows
rows_same one two [] same = refl
rows_same one two (y ∷ rows) same =
    sym (sum_by-cons (λ k. cond true (two k) 0) y rows ∙ ap₂ (λ a b. a + b) (sym same.0) (sym (rows_same one two rows same.1)) ∙ sym (sum_by-cons (λ k. cond true (one k) 0) y rows))

-- the last of the first rows
pub rows_weight-last : (weight : ℕ → ℕ) (rows : List ℕ) (left k : ℕ) → left ≡ k + 1 → left ≤ length rows →
    weight_among weight (λ y. true) (take left rows) ≡ weight_among weight (λ y. true) (take k rows) + weight (get_or rows k 0)
rows_weight-last weight rows left k last within =
    let one : ℕ → ℕ = λ x. cond true (weight x) 0 in
    let more = ap (λ j. weight_among weight (λ y. true) (take j rows)) last ∙ (ap (weight_among weight (λ y. true)) (take_more rows k 0 (omega arith)) ∙ sum_by-append one (take k rows) (get_or rows k 0 ∷ [])) in
    omega (arith, more, sum_by-cons one (get_or rows k 0) [])

-- where they weigh something there is one
pub some_left : (weight : ℕ → ℕ) (rows : List ℕ) (left rest : ℕ) → rest ≡ weight_among weight (λ y. true) (take left rows) → 0 < rest → 0 < left
some_left weight rows zero rest is some = absurd (omega (arith, is))
some_left weight rows (suc left) rest is some = omega arith

either : (shape : Shape) (rows : List ℕ) (x : ℕ) (b : Bool) → rows_weight shape (rows ++ cond b (x ∷ []) []) ≡ rows_weight shape rows + cond b (stake_at shape.members shape.links x) 0
either shape rows x true =
    let one : ℕ → ℕ = λ y. cond true (stake_at shape.members shape.links y) 0 in
    omega (arith, sum_by-append one rows (x ∷ []), sum_by-cons one x [])
either shape rows x false =
    let one : ℕ → ℕ = λ y. cond true (stake_at shape.members shape.links y) 0 in
    omega (arith, sum_by-append one rows [])

-- of each round, in a graph

pub tells_none : (shape : Shape) (weights : List ℕ) → WeighNothing weights → TellsWeights shape [] weights
tells_none shape weights none = record {
  each = λ r. none r ∙ sym (ap (rows_weight shape) (no_witnesses r));
  low = λ r. omega (arith, none r);
}

all_same : (n : List ℕ) (L : List Link) (link : Link) (rows : List ℕ) → AllByRecursion (λ y. y < length L) rows →
    AllByRecursion (λ y. stake_at n (L ++ link ∷ []) y ≡ stake_at n L y) rows
all_same n L link [] below = tt
all_same n L link (y ∷ rows) below = (ap (stake_of n) (creator-longer L (L ++ link ∷ []) (longer-append L (link ∷ [])) y below.0), all_same n L link rows below.1)

-- the same in the graph with a row more
pub tells_longer : (shape : Shape) (link : Link) (S : List Standing) (weights : List ℕ) → length S ≡ length shape.links → TellsWeights shape S weights →
    TellsWeights (with_link shape link) S weights
unfolding witnesses_in
tells_longer shape link S weights long tells = record {
  each = λ r. tells.each r ∙ sym (rows_same (stake_at shape.members (shape.links ++ link ∷ [])) (stake_at shape.members shape.links) (witnesses_in S r)
      (all_same shape.members shape.links link (witnesses_in S r)
      (all_list_below (λ y. y < length shape.links) (λ x. x) (length S) (λ x. witness_at S x && eqb (round_at S x) r) (λ k lt passes. omega (arith, long)))));
  low = tells.low;
}

-- with the row's own standing
pub tells_next : (shape : Shape) (S : List Standing) (old new : List ℕ) (round : ℕ) (witness : Bool) (stake : ℕ) → TellsWeights shape S old → AddsWeight round witness stake old new →
    stake ≡ stake_at shape.members shape.links (length S) → stake < 2 ^ 32 → TellsWeights shape (S ++ standing round witness ∷ []) new
tells_next shape S old new round witness stake tells adds is low =
    let T : List Standing = S ++ standing round witness ∷ [] in
    record {
      each = λ r. (
          let b : Bool = witness && eqb round r in
          let pushed = ap (rows_weight shape) (witnesses_in_push S (standing round witness) r) ∙ either shape (witnesses_in S r) (length S) b in
          adds r ∙ (ap₂ (λ w s. w + cond b s 0) (tells.each r) is ∙ sym pushed));
      low = λ r. omega (arith, adds r, tells.low r, low, at_most (witness && eqb round r) stake, length_push S (standing round witness));
    }
  where
    at_most : (b : Bool) (stake : ℕ) → cond b stake 0 ≤ stake
    at_most true stake = omega arith
    at_most false stake = omega arith
