-- The members that have nodes, and the pairs of them that send to each other
use Rattle.std.proofs.Common.{not, ◌≡◌, ◌≢◌, ⊎_elim, ℕ, zero, suc, ◌+◌, ◌-◌, ◌<◌, ◌≤◌, ◌%◌, Bool, true, false, cond, eqb, eq-eqb, ne_eqb, List, [], ◌∷◌, ◌++◌, length, map, get_or, Option, Some, None, slice_get, refl, sym, ap, ◌∙◌, subst, sum_by, arith}
use Rattle.std.specs.Prelude.{All, unwrap_or}
use Rattle.std.specs.List.{AllByRecursion, filter, flat_map}
use mathlib.Core.Logic.{dite}
use native.Mathlib.Decide.{ℕ_discrete}
use Rattle.std.proofs.Math.Dec.{ltb}
use Rattle.std.proofs.lemmas.Bool.{cases_lt, eqb-true, lt-ltb, le-ltb}
use Rattle.std.proofs.lemmas.List.Elements.{All-weaker}
use Rattle.std.proofs.lemmas.List.Sums.{get_or-le-sum_by, sum_by-append, sum_by-cons, sum_by-le-sum_by}
use Rattle.std.proofs.lemmas.List.Quantifiers.{position-Some}
use Rattle.std.proofs.lemmas.Option.{get_or_from_slice_get, slice_get-get_or, slice_get_within}
use Rattle.hg_model.proofs.ListLaws.{IsPairwise-list_below}
use Rattle.hg_model.proofs.SortLaws.{IsPairwise}
use Rattle.hg_life.specs.Members.{MemberList, has_node}
use Rattle.hg_made.specs.Made.{peer_of}
use Rattle.hg_made.specs.Draws.{upper_half}
use Rattle.hg_storm.specs.declared.plan.Plan.{Plan}
use Rattle.hg_storm.specs.Drawing.{HasDrawn, circle_of, peer_at, place_in, state_at}
use Rattle.hg_storm.specs.Threads.{place_of, turns_at, turns_of}
use Rattle.hg_storm.specs.Joins.{sum_below}
use Rattle.hg_storm.specs.Mails.{pairs_from, pairs_in}

-- ---- elements

abbrev pub Stands : {A : Type 0} → List A → A → Type 0
Stands xs x = (k : ℕ) × (slice_get xs k ≡ Some x)

module _ {A : Type 0} where
  pub stands_left : (xs ys : List A) (x : A) → Stands xs x → Stands (xs ++ ys) x
  stands_left [] ys x at = absurd (cc at.1)
  stands_left (y ∷ xs) ys x (zero, at) = (0, at)
  stands_left (y ∷ xs) ys x (suc k, at) = let rest = stands_left xs ys x (k, at) in (suc rest.0, rest.1)

  pub stands_right : (xs ys : List A) (x : A) → Stands ys x → Stands (xs ++ ys) x
  stands_right [] ys x at = at
  stands_right (y ∷ xs) ys x at = let rest = stands_right xs ys x at in (suc rest.0, rest.1)

  stands_in_filter : (p : A → Bool) (xs : List A) (x : A) → Stands xs x → p x ≡ true → Stands (filter p xs) x
  stands_in_filter p [] x at passes = absurd (cc at.1)
  stands_in_filter p (y ∷ xs) x (zero, at) passes =
      let is : y ≡ x = cc in
      subst (λ (b : Bool). Stands (cond b (y ∷ filter p xs) (filter p xs)) x) (sym (ap p is ∙ passes)) (0, at)
  stands_in_filter p (y ∷ xs) x (suc k, at) passes = behind (p y) (stands_in_filter p xs x (k, at) passes)
    where
      behind : (b : Bool) → Stands (filter p xs) x → Stands (cond b (y ∷ filter p xs) (filter p xs)) x
      behind true rest = (suc rest.0, rest.1)
      behind false rest = rest

module _ {A B : Type 0} where
  stands_in_map : (f : A → B) (xs : List A) (x : A) → Stands xs x → Stands (map f xs) (f x)
  stands_in_map f [] x at = absurd (cc at.1)
  stands_in_map f (y ∷ xs) x (zero, at) = let is : y ≡ x = cc in (0, ap (λ (z : A). Some (f z)) is)
  stands_in_map f (y ∷ xs) x (suc k, at) = let rest = stands_in_map f xs x (k, at) in (suc rest.0, rest.1)

  stands_in_flat_map : (f : A → List B) (xs : List A) (x : A) (y : B) → Stands xs x → Stands (f x) y → Stands (flat_map f xs) y
  stands_in_flat_map f [] x y at there = absurd (cc at.1)
  stands_in_flat_map f (z ∷ xs) x y (zero, at) there = let is : z ≡ x = cc in stands_left (f z) (flat_map f xs) y (subst (λ (a : A). Stands (f a) y) (sym is) there)
  stands_in_flat_map f (z ∷ xs) x y (suc k, at) there = stands_right (f z) (flat_map f xs) y (stands_in_flat_map f xs x y (k, at) there)

  -- an element of a list of values is that of an element
  pub value_of : (f : A → B) (xs : List A) (k : ℕ) (y : B) → slice_get (map f xs) k ≡ Some y → (x : A) × (slice_get xs k ≡ Some x) × (f x ≡ y)
  value_of f [] k y at = absurd (cc at)
  value_of f (x ∷ xs) zero y at = (x, refl, (cc))
  value_of f (x ∷ xs) (suc k) y at = value_of f xs k y at

-- one of these members and another one are a pair
pub pair_in : (circle : List ℕ) (from to : ℕ) → Stands circle from → Stands circle to → to ≢ from → Stands (pairs_from circle from) (from, to)
pair_in circle from to sender taker apart =
    stands_in_map (λ k. (from, k)) (filter (λ k. not (eqb k from)) circle) to (stands_in_filter (λ k. not (eqb k from)) circle to taker (ap not (ne_eqb to from apart)))

pub pair_of_all : (circle : List ℕ) (from to : ℕ) → Stands circle from → Stands circle to → to ≢ from → Stands (pairs_in circle) (from, to)
pair_of_all circle from to sender taker apart = stands_in_flat_map (pairs_from circle) circle from (from, to) sender (pair_in circle from to sender taker apart)

-- ---- whom a member draws

-- each stands once among those with nodes
abbrev AreApart : List ℕ → Type 0
AreApart circle = (x y : ℕ) → x < length circle → y < length circle → get_or circle x 0 ≡ get_or circle y 0 → x ≡ y

all_apart : (m : ℕ) (ms : List ℕ) (k : ℕ) → AllByRecursion (λ x. m < x) ms → k < length ms → m < get_or ms k 0
all_apart m [] k all low = absurd (omega (arith, low))
all_apart m (x ∷ ms) zero all low = all.0
all_apart m (x ∷ ms) (suc k) all low = all_apart m ms k all.1 (omega (arith, low))

rising_apart : (ms : List ℕ) → IsPairwise (λ a b. a < b) ms → AreApart ms
rising_apart [] rising x y low_x low_y same = absurd (omega (arith, low_x))
rising_apart (m ∷ ms) rising zero zero low_x low_y same = refl
rising_apart (m ∷ ms) rising zero (suc y) low_x low_y same = let less = all_apart m ms y rising.0 (omega (arith, low_y)) in absurd (omega (arith, less, same))
rising_apart (m ∷ ms) rising (suc x) zero low_x low_y same = let less = all_apart m ms x rising.0 (omega (arith, low_x)) in absurd (omega (arith, less, same))
rising_apart (m ∷ ms) rising (suc x) (suc y) low_x low_y same = ap suc (rising_apart ms rising.1 x y (omega (arith, low_x)) (omega (arith, low_y)) same)

-- .. and they rise
abbrev pub AreRising : List ℕ → Type 0
AreRising ms = IsPairwise (λ (a b : ℕ). a < b) ms

pub circle_rises : (members : MemberList) (circle : List ℕ) → circle ≡ circle_of members → AreRising circle
circle_rises members circle is =
    subst AreRising (sym is) (IsPairwise-list_below (λ a b. a < b) (λ m. m) (length members.entries) (has_node members) (λ j k low. low))

circle_apart : (members : MemberList) (circle : List ℕ) → circle ≡ circle_of members → AreApart circle
circle_apart members circle is = rising_apart circle (circle_rises members circle is)

-- the other one is within and is not the member itself
other_inside : (place n b : ℕ) → b < n - 1 → place < n → peer_of place b < n
other_inside place n b low inside = ⊎_elim
    (λ (lt : b < place). subst (λ (t : Bool). cond t b (b + 1) < n) (sym (lt-ltb b place lt)) (omega (arith, low)))
    (λ (le : place ≤ b). subst (λ (t : Bool). cond t b (b + 1) < n) (sym (le-ltb b place le)) (omega (arith, low))) (cases_lt b place)

other_apart : (place b : ℕ) → peer_of place b ≢ place
other_apart place b is = ⊎_elim
    (λ (lt : b < place). let here : b ≡ place = ap (λ (t : Bool). cond t b (b + 1)) (sym (lt-ltb b place lt)) ∙ is in absurd (omega (arith, lt, here)))
    (λ (le : place ≤ b). let here : b + 1 ≡ place = ap (λ (t : Bool). cond t b (b + 1)) (sym (le-ltb b place le)) ∙ is in absurd (omega (arith, le, here))) (cases_lt b place)

rest_below : (h n : ℕ) → 1 < n → h % (n - 1) < n - 1
rest_below h n others = omega (arith, others)

-- a member that takes turns has a place
has_place : (plan : Plan) (me t : ℕ) (o : Option ℕ) → place_in plan.circle.items me ≡ o → t < turns_at plan o → (place : ℕ) × (place_in plan.circle.items me ≡ Some place)
has_place plan me t None is early = absurd (omega (arith, early))
has_place plan me t (Some place) is early = (place, is)

-- a member that drew another is one of those with nodes, as the other is, who is not itself
pub record ArePeers (circle : List ℕ) (from to : ℕ) : Type 0 where
  pub sender : Stands circle from
  pub taker : Stands circle to
  pub apart : to ≢ from

module _ (members : MemberList) (plan : Plan) (is : plan.circle.items ≡ circle_of members) (from to : ℕ) (drawn : HasDrawn plan from (place_of plan from) (turns_of plan from) to) where
  abbrev circle : List ℕ
  circle = plan.circle.items

  its_place : (place : ℕ) × (place_in circle from ≡ Some place)
  its_place = has_place plan from drawn.turn (place_in circle from) refl drawn.early

  abbrev at : ℕ
  at = its_place.0

  here : (at < length circle) × (eqb (get_or circle at 0) from ≡ true) × ((k : ℕ) → k < at → eqb (get_or circle k 0) from ≡ false)
  here = position-Some (λ m. eqb m from) circle at 0 its_place.1

  from_is : get_or circle at 0 ≡ from
  from_is = eqb-true (get_or circle at 0) from here.1

  abbrev peer : ℕ
  peer = peer_of at (upper_half (state_at plan from (drawn.turn + 1)) % (length circle - 1))

  to_is : to ≡ get_or circle peer 0
  to_is = drawn.draws.peer ∙ ap (λ (o : Option ℕ). peer_at plan from (unwrap_or o 0) drawn.turn) its_place.1

  peer_in : peer < length circle
  peer_in = other_inside at (length circle) (upper_half (state_at plan from (drawn.turn + 1)) % (length circle - 1)) (rest_below (upper_half (state_at plan from (drawn.turn + 1))) (length circle) drawn.draws.others) here.0

  pub are_peers : ArePeers circle from to
  are_peers = record {
    sender = (at, slice_get-get_or circle at 0 here.0 ∙ ap (λ (m : ℕ). Some m) from_is);
    taker = (peer, slice_get-get_or circle peer 0 peer_in ∙ ap (λ (m : ℕ). Some m) (sym to_is));
    apart = λ same. other_apart at (upper_half (state_at plan from (drawn.turn + 1)) % (length circle - 1)) (circle_apart members circle is peer at peer_in here.0 (sym to_is ∙ (same ∙ sym from_is)));
  }

-- ---- sums over all of them

module _ (f : ℕ → ℕ) where
  abbrev up_to : ℕ → ℕ → ℕ
  up_to n j = cond (ltb j n) (f j) 0

  abbrev only : ℕ → ℕ → ℕ
  only n j = cond (eqb j n) (f j) 0

  one_more : (n j : ℕ) → up_to (suc n) j ≡ up_to n j + only n j
  one_more n j = ⊎_elim
      (λ (lt : j < n).
      let now : ◌≡◌ {A = ℕ} (cond (ltb j (suc n)) (f j) 0) (f j) = ap (λ (b : Bool). cond b (f j) 0) (lt-ltb j (suc n) (omega (arith, lt))) in
      let was : ◌≡◌ {A = ℕ} (cond (ltb j n) (f j) 0) (f j) = ap (λ (b : Bool). cond b (f j) 0) (lt-ltb j n lt) in
      let not_it : ◌≡◌ {A = ℕ} (cond (eqb j n) (f j) 0) 0 = ap (λ (b : Bool). cond b (f j) 0) (ne_eqb j n (λ e. let same : j ≡ n = e in omega (arith, lt, same))) in
      omega (arith, now, was, not_it))
      (λ (le : n ≤ j).
      let was : ◌≡◌ {A = ℕ} (cond (ltb j n) (f j) 0) 0 = ap (λ (b : Bool). cond b (f j) 0) (le-ltb j n le) in
      dite (ℕ_discrete j n)
      (λ e.
      let same : j ≡ n = e in
      let now : ◌≡◌ {A = ℕ} (cond (ltb j (suc n)) (f j) 0) (f j) = ap (λ (b : Bool). cond b (f j) 0) (lt-ltb j (suc n) (omega (arith, same))) in
      let it : ◌≡◌ {A = ℕ} (cond (eqb j n) (f j) 0) (f j) = ap (λ (b : Bool). cond b (f j) 0) (eq-eqb j n same) in
      omega (arith, now, was, it))
      (λ ne.
      let now : ◌≡◌ {A = ℕ} (cond (ltb j (suc n)) (f j) 0) 0 = ap (λ (b : Bool). cond b (f j) 0) (le-ltb j (suc n) (omega (arith, le, ne))) in
      let not_it : ◌≡◌ {A = ℕ} (cond (eqb j n) (f j) 0) 0 = ap (λ (b : Bool). cond b (f j) 0) (ne_eqb j n ne) in
      omega (arith, now, was, not_it)))
      (cases_lt j n)

  sum_more : (n : ℕ) (ms : List ℕ) → sum_by (up_to (suc n)) ms ≡ sum_by (up_to n) ms + sum_by (only n) ms
  sum_more n [] = refl
  sum_more n (m ∷ ms) =
      omega (arith, sum_by-cons (up_to (suc n)) m ms, sum_by-cons (up_to n) m ms, sum_by-cons (only n) m ms, one_more n m, sum_more n ms)

  module _ (ms : List ℕ) where
    it_counts : (n : ℕ) → (0 < f n → Stands ms n) → f n ≤ sum_by (only n) ms
    it_counts n stands = dite (ℕ_discrete (f n) 0)
        (λ none. omega (arith, none))
        (λ some.
        let at = stands (omega (arith, some)) in
        let one = get_or-le-sum_by (only n) ms at.0 0 (slice_get_within ms at.0 n at.1) in
        let is : get_or ms at.0 0 ≡ n = get_or_from_slice_get ms at.0 n 0 at.1 in
        let it : only n (get_or ms at.0 0) ≡ f n = ap (only n) is ∙ ap (λ (b : Bool). cond b (f n) 0) (eq-eqb n n refl) in
        omega (arith, one, it))

    all_count : (n : ℕ) → ((j : ℕ) → j < n → 0 < f j → Stands ms j) → sum_below n f ≤ sum_by (up_to n) ms
    all_count zero stand = omega arith
    all_count (suc n) stand =
        omega (arith, all_count n (λ j low. stand j (omega (arith, low))), it_counts n (stand n (omega arith)), sum_more n ms)

    at_most : (n j : ℕ) → up_to n j ≤ f j
    at_most n j = no_more (ltb j n) (f j)
      where
        no_more : (b : Bool) (x : ℕ) → cond b x 0 ≤ x
        no_more true x = omega arith
        no_more false x = omega arith

    -- where each that counts is one of these, a sum over all is one over these
    pub sum_in : (n : ℕ) → ((j : ℕ) → j < n → 0 < f j → Stands ms j) → sum_below n f ≤ sum_by f ms
    sum_in n stand = omega (arith, all_count n stand, sum_by-le-sum_by (up_to n) f ms (at_most n))

  -- among numbers that rise one stands at most once
  only_past : (m : ℕ) (ms : List ℕ) → AllByRecursion (λ x. m < x) ms → sum_by (only m) ms ≡ 0
  only_past m [] all = refl
  only_past m (x ∷ ms) all =
      let not_it : ◌≡◌ {A = ℕ} (cond (eqb x m) (f x) 0) 0 = ap (λ (b : Bool). cond b (f x) 0) (ne_eqb x m (λ e. let same : x ≡ m = e in absurd (omega (arith, all.0, same)))) in
      omega (arith, sum_by-cons (only m) x ms, not_it, only_past m ms all.1)

  pub only_once : (n : ℕ) (ms : List ℕ) → AreRising ms → sum_by (only n) ms ≤ f n
  only_once n [] rising = omega arith
  only_once n (m ∷ ms) rising = dite (ℕ_discrete m n)
      (λ e.
      let same : m ≡ n = e in
      let it : ◌≡◌ {A = ℕ} (cond (eqb m n) (f m) 0) (f n) = ap (λ (b : Bool). cond b (f m) 0) (eq-eqb m n same) ∙ ap f same in
      let none : sum_by (only n) ms ≡ 0 = subst (λ (k : ℕ). sum_by (only k) ms ≡ 0) same (only_past m ms rising.0) in
      omega (arith, sum_by-cons (only n) m ms, it, none))
      (λ ne.
      let not_it : ◌≡◌ {A = ℕ} (cond (eqb m n) (f m) 0) 0 = ap (λ (b : Bool). cond b (f m) 0) (ne_eqb m n ne) in
      omega (arith, sum_by-cons (only n) m ms, not_it, only_once n ms rising.1))

  none_up_to : (ms : List ℕ) → sum_by (up_to 0) ms ≡ 0
  none_up_to [] = refl
  none_up_to (m ∷ ms) =
      let none : ◌≡◌ {A = ℕ} (cond (ltb m 0) (f m) 0) 0 = ap (λ (b : Bool). cond b (f m) 0) (le-ltb m 0 (omega arith)) in
      omega (arith, sum_by-cons (up_to 0) m ms, none, none_up_to ms)

  most_up_to : (n : ℕ) (ms : List ℕ) → AreRising ms → sum_by (up_to n) ms ≤ sum_below n f
  most_up_to zero ms rising = omega (arith, none_up_to ms)
  most_up_to (suc n) ms rising = omega (arith, most_up_to n ms rising, only_once n ms rising, sum_more n ms)

-- where the values of the elements are no less, their sum is not
sums_rise : {A : Type 0} (f g : A → ℕ) (xs : List A) → All (λ (x : A). f x ≤ g x) xs → sum_by f xs ≤ sum_by g xs
sums_rise f g [] all = omega arith
sums_rise {A} f g (x ∷ xs) all =
    omega (arith, sum_by-cons f x xs, sum_by-cons g x xs, all 0 x (omega arith), sums_rise f g xs (λ k d low. all (suc k) d (omega (arith, low))))

pub sums_same : {A : Type 0} (f g : A → ℕ) (xs : List A) → All (λ (x : A). f x ≡ g x) xs → sum_by f xs ≡ sum_by g xs
sums_same f g [] all = refl
sums_same {A} f g (x ∷ xs) all =
    let here : f x ≡ g x = all 0 x (omega arith) in
    omega (arith, sum_by-cons f x xs, sum_by-cons g x xs, here, sums_same f g xs (λ k d low. all (suc k) d (omega (arith, low))))

-- a sum over some of the first numbers, which rise, is no more than one over all of them
sum_of_some : (f : ℕ → ℕ) (n : ℕ) (ms : List ℕ) → AreRising ms → All (λ j. j < n) ms → sum_by f ms ≤ sum_below n f
sum_of_some f n ms rising below =
    let same : sum_by f ms ≡ sum_by (up_to f n) ms = sums_same f (up_to f n) ms
    (All-weaker (λ j. j < n) (λ j. f j ≡ up_to f n j) (λ j low. sym (ap (λ (b : Bool). cond b (f j) 0) (lt-ltb j n low))) ms below) in
    omega (arith, same, most_up_to f n ms rising)

-- one over those that pass is no more than one over all
sum_filter : {A : Type 0} (f : A → ℕ) (p : A → Bool) (xs : List A) → sum_by f (filter p xs) ≤ sum_by f xs
sum_filter f p [] = omega arith
sum_filter {A} f p (x ∷ xs) = let here : sum_by f (filter p (x ∷ xs)) ≤ f x + sum_by f (filter p xs) = passes (p x) in omega (arith, here, sum_by-cons f x xs, sum_filter f p xs)
  where
    passes : (b : Bool) → sum_by f (cond b (x ∷ filter p xs) (filter p xs)) ≤ f x + sum_by f (filter p xs)
    passes true = omega (arith, sum_by-cons f x (filter p xs))
    passes false = omega arith

pub sum_of_map : {A B : Type 0} (f : B → ℕ) (h : A → B) (xs : List A) → sum_by f (map h xs) ≡ sum_by (λ (x : A). f (h x)) xs
sum_of_map f h [] = refl
sum_of_map {A} f h (x ∷ xs) = omega (arith, sum_by-cons f (h x) (map h xs), sum_by-cons (λ (y : A). f (h y)) x xs, sum_of_map f h xs)

module _ {A : Type 0} (f : A → ℕ) where
  sum_flat : {X : Type 0} (h : X → List A) (xs : List X) → sum_by f (flat_map h xs) ≡ sum_by (λ (x : X). sum_by f (h x)) xs
  sum_flat h [] = refl
  sum_flat {X} h (x ∷ xs) = omega (arith, sum_by-append f (h x) (flat_map h xs), sum_by-cons (λ (y : X). sum_by f (h y)) x xs, sum_flat h xs)

-- what all sent to one is no more than what the pairs say
module _ (circle : List ℕ) (g : ℕ → ℕ → ℕ) (to : ℕ) where
  abbrev pub in_pair : ℕ × ℕ → ℕ
  in_pair p = cond (eqb p.1 to) (g p.0 p.1) 0

  pair_counts : (from : ℕ) → (0 < g from to → ArePeers circle from to) → g from to ≤ sum_by in_pair (pairs_from circle from)
  pair_counts from peers = dite (ℕ_discrete (g from to) 0)
      (λ none. omega (arith, none))
      (λ some.
      let are = peers (omega (arith, some)) in
      let at = pair_in circle from to are.sender are.taker are.apart in
      let one = get_or-le-sum_by in_pair (pairs_from circle from) at.0 (0, 0) (slice_get_within (pairs_from circle from) at.0 (from, to) at.1) in
      let is : get_or (pairs_from circle from) at.0 (0, 0) ≡ (from, to) = get_or_from_slice_get (pairs_from circle from) at.0 (from, to) (0, 0) at.1 in
      let it : in_pair (get_or (pairs_from circle from) at.0 (0, 0)) ≡ g from to = ap in_pair is ∙ ap (λ (b : Bool). cond b (g from to) 0) (eq-eqb to to refl) in
      omega (arith, one, it))

  pub sum_in_pairs : (n : ℕ) → All (λ j. j < n) circle → ((j : ℕ) → j < n → 0 < g j to → ArePeers circle j to) → sum_below n (λ j. g j to) ≤ sum_by in_pair (pairs_in circle)
  sum_in_pairs n below peers =
      let flat : sum_by in_pair (pairs_in circle) ≡ sum_by (λ j. sum_by in_pair (pairs_from circle j)) circle = sum_flat in_pair (pairs_from circle) circle in
      omega (
        arith,
        flat,
        sum_in (λ j. g j to) circle n (λ j low some. (peers j low some).sender),
        sums_rise (λ j. g j to) (λ j. sum_by in_pair (pairs_from circle j)) circle (All-weaker (λ j. j < n) (λ j. g j to ≤ sum_by in_pair (pairs_from circle j)) (λ j low. pair_counts j (peers j low)) circle below),
      )

  -- .. and no less than what the pairs say, as no member stands twice
  pair_once : (from : ℕ) → AreRising circle → sum_by in_pair (pairs_from circle from) ≤ g from to
  pair_once from rising =
      let others : ℕ → Bool = λ k. not (eqb k from) in
      let mapped : sum_by in_pair (pairs_from circle from) ≡ sum_by (only (g from) to) (filter others circle) = sum_of_map in_pair (λ (k : ℕ). (from, k)) (filter others circle) in
      omega (arith, mapped, sum_filter (only (g from) to) others circle, only_once (g from) to circle rising)

  pub sum_in_all : (n : ℕ) → AreRising circle → All (λ j. j < n) circle → sum_by in_pair (pairs_in circle) ≤ sum_below n (λ j. g j to)
  sum_in_all n rising below =
      let flat : sum_by in_pair (pairs_in circle) ≡ sum_by (λ j. sum_by in_pair (pairs_from circle j)) circle = sum_flat in_pair (pairs_from circle) circle in
      omega (
        arith,
        flat,
        sums_rise (λ j. sum_by in_pair (pairs_from circle j)) (λ j. g j to) circle (λ k d low. pair_once (get_or circle k d) rising),
        sum_of_some (λ j. g j to) n circle rising below,
      )
