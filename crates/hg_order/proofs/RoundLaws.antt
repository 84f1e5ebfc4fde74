-- What a sort leaves of the rows that a round places is their order
use Rattle.std.proofs.Common.{◌≡◌, ℕ, suc, ◌<◌, Bool, true, eqb, List, [], ◌∷◌, ◌++◌, length, map, slice_get, is_some, is_lt, is_eq, nat_cmp, IsPermutation, IsSortedBy, All, refl, sym, ap, ap₂, ◌∙◌, arith}
use Rattle.std.specs.List.{AllByRecursion}
use Rattle.std.specs.Ordering.{ordering_then}
use Rattle.std.specs.Cmp.{IsTotalOrder, IsStrictWeakOrder}
use Rattle.std.specs.Cmp.Lexicographic.{slice_cmp}
use Rattle.std.proofs.lemmas.Bool.{and_parts, eqb-true}
use Rattle.std.proofs.lemmas.Cmp.{nat_cmp_total, nat_list_cmp_total, on_total, then_total}
use Rattle.std.proofs.lemmas.List.Elements.{recursion_from_All}
use Rattle.std.proofs.lemmas.List.Sorted.{ranks_by}
use Rattle.std.proofs.lemmas.Option.{slice_get-get_or}
use Rattle.hg_model.specs.declared.row.Row.{Row}
use Rattle.hg_model.specs.declared.row.Placed.{Placed}
use Rattle.hg_model.specs.Places.{list_below}
use Rattle.hg_model.specs.Links.{no_row}
use Rattle.hg_model.specs.Graph.{IsShaped, name_at}
use Rattle.hg_model.specs.Fame.{Marks}
use Rattle.hg_model.specs.Prefix.{Graph, links_of}
use Rattle.hg_model.specs.Order.{sort_by, sig_at, median, xor_bytes, whitening, consensus_time, order_key, keyed_at, comes_before, received_or_zero, round_received, is_received_in, ordered_in}
use Rattle.hg_model.specs.GraphWords.{famous_of, received_order}
use Rattle.hg_model.proofs.ListLaws.{map-list_below, IsPairwise-list_below}
use Rattle.hg_model.proofs.PlacesLaws.{list_below-same}
use Rattle.hg_model.proofs.SortLaws.{IsPairwise, sort_by_cmp_is, sort_by-same, sort_by-map}
use Rattle.hg_model.proofs.CompareLaws.{then_assoc, slice_cmp-append, is_lt-then, is_eq-then, nat_cmp-same}
use Rattle.hg_model.proofs.LinkLaws.{length-links}
use Rattle.hg_order.specs.Famous.{IsBelowAll, times_of, whitening_of}
use Rattle.hg_order.specs.Round.{placed_by, is_placed_before, placed_in, received_places, placed_below, sig_or_zeros, name_or_zeros, rows_cmp, placed_cmp, placed_less, IsWide, IsRoundOf, ArePlacedBy, AreOrderedBy}
use Rattle.hg_order.proofs.FamousLaws.{whitening_is}
use Rattle.hg_order.proofs.FirstHolderLaws.{median_is_consensus}

-- the comparison of a round is a total order, and rows that tie are one

rows_cmp_total : (G : List Row) (white : List ℕ) → IsTotalOrder (λ (a b : Placed). rows_cmp G white a.place b.place)
unfolding rows_cmp
rows_cmp_total G white =
    then_total (on_total (λ (p : Placed). xor_bytes (sig_or_zeros (slice_get G p.place)) white) nat_list_cmp_total)
    (on_total (λ (p : Placed). name_or_zeros (slice_get G p.place)) nat_list_cmp_total)

placed_cmp_total : (G : List Row) (white : List ℕ) → IsTotalOrder (placed_cmp G white)
placed_cmp_total G white =
    then_total (on_total (λ (p : Placed). p.received) nat_cmp_total) (then_total (on_total (λ (p : Placed). p.time) nat_cmp_total)
    (then_total (rows_cmp_total G white) (on_total (λ (p : Placed). p.place) nat_cmp_total)))

same_placed : (r s t u p q : ℕ) → r ≡ s → t ≡ u → p ≡ q → ◌≡◌ {A = Placed} (record { place = p; received = r; time = t }) (record { place = q; received = s; time = u })
same_placed r s t u p q e1 e2 e3 = rw (e1, e2, e3) refl

one_placed : (G : List Row) (white : List ℕ) (a b : Placed) → is_eq (placed_cmp G white a b) ≡ true → a ≡ b
one_placed G white a b e =
    let received = is_eq-then (nat_cmp a.received b.received) _ e in
    let time = is_eq-then (nat_cmp a.time b.time) _ received.1 in
    let place = is_eq-then (rows_cmp G white a.place b.place) (nat_cmp a.place b.place) time.1 in
    same_placed a.received b.received a.time b.time a.place b.place (nat_cmp-same a.received b.received received.0) (nat_cmp-same a.time b.time time.0) (nat_cmp-same a.place b.place place.1)

pub placed_ranks : (G : List Row) (white : List ℕ) → IsStrictWeakOrder (placed_less G white)
placed_ranks G white = ranks_by (placed_cmp_total G white) (λ p. p)

pub sorted_placed : (G : List Row) (white : List ℕ) (xs ys : List Placed) → IsPermutation xs ys → IsSortedBy (placed_less G white) ys → ys ≡ sort_by (placed_less G white) xs
sorted_placed G white xs ys moved sorted = sort_by_cmp_is (placed_cmp G white) (placed_cmp_total G white) (one_placed G white) xs ys moved sorted

-- and of rows that one round places it is that of their keys

sig_here : (G : List Row) (x : ℕ) → x < length G → sig_or_zeros (slice_get G x) ≡ sig_at G x
unfolding sig_at
sig_here G x h = rw (slice_get-get_or G x no_row h) refl

name_here : (G : List Row) (x : ℕ) → x < length G → name_or_zeros (slice_get G x) ≡ name_at G x
unfolding name_at
name_here G x h = rw (slice_get-get_or G x no_row h) refl

length-xor : (xs ys : List ℕ) → length xs ≡ length ys → length (xor_bytes xs ys) ≡ length xs
length-xor [] ys same = refl
length-xor (x ∷ xs) [] same = absurd (omega arith)
length-xor (x ∷ xs) (y ∷ ys) same = ap suc (length-xor xs ys (omega arith))

-- x is a row with a signature as long as `white`
record IsRow (G : List Row) (white : List ℕ) (x : ℕ) : Type 0 where
  inside : x < length G
  wide : length (sig_at G x) ≡ length white

rows_by_keys : (G : List Row) (white : List ℕ) (x y : ℕ) → IsRow G white x → IsRow G white y →
    rows_cmp G white x y ≡ slice_cmp nat_cmp (xor_bytes (sig_at G x) white ++ name_at G x) (xor_bytes (sig_at G y) white ++ name_at G y)
unfolding rows_cmp
rows_by_keys G white x y row_x row_y =
    let one = length-xor (sig_at G x) white row_x.wide in
    let two = length-xor (sig_at G y) white row_y.wide in
    rw (sig_here G x row_x.inside, name_here G x row_x.inside, sig_here G y row_y.inside, name_here G y row_y.inside)
    (sym (slice_cmp-append (xor_bytes (sig_at G x) white) (xor_bytes (sig_at G y) white) (name_at G x) (name_at G y) (one ∙ (row_x.wide ∙ (sym row_y.wide ∙ sym two)))))

pairwise_of_all : {A : Type 0} (P : A → Type 0) (related : A → A → Type 0) (xs : List A) → ((x y : A) → P x → P y → related x y) → AllByRecursion P xs → IsPairwise related xs
pairwise_of_all P related [] at all = tt
pairwise_of_all {A} P related (x ∷ xs) at all = (later xs all.1, pairwise_of_all P related xs at all.1)
  where
    later : (ys : List A) → AllByRecursion P ys → AllByRecursion (related x) ys
    later [] rest = tt
    later (y ∷ ys) rest = (at x y all.0 rest.0, later ys rest.1)

module _ (g : Graph) (s : IsShaped g.members (links_of g)) (marks : Marks) (r : ℕ) where
  white : List ℕ
  white = whitening g.members g.rows (links_of g) marks r

  -- a placed row of the round
  record IsOfRound (p : Placed) : Type 0 where
    received : p.received ≡ r
    row : IsRow g.rows white p.place

  sorts_alike : (a b : Placed) → IsOfRound a → IsOfRound b → placed_less g.rows white b a ≡ is_placed_before g marks b a
  unfolding white
  sorts_alike a b of_a of_b =
      let by_keys = rows_by_keys g.rows white b.place a.place of_b.row of_a.row in
      let rest = slice_cmp nat_cmp (xor_bytes (sig_at g.rows b.place) white ++ name_at g.rows b.place) (xor_bytes (sig_at g.rows a.place) white ++ name_at g.rows a.place) in
      let last = nat_cmp b.place a.place in
      ap (λ o. is_lt (ordering_then (nat_cmp b.received a.received) (ordering_then (nat_cmp b.time a.time) (ordering_then o last)))) by_keys
      ∙ (ap is_lt (ap (ordering_then (nat_cmp b.received a.received)) (sym (then_assoc (nat_cmp b.time a.time) rest last))
      ∙ sym (then_assoc (nat_cmp b.received a.received) (ordering_then (nat_cmp b.time a.time) rest) last))
      ∙ rw (of_a.received, of_b.received) refl)

  of_round : (places : List ℕ) → AllByRecursion (λ x. x < length (links_of g)) places → AllByRecursion (IsWide g.rows) places → length white ≡ 64 → AllByRecursion IsOfRound (map (placed_by g marks r) places)
  of_round [] inside wide long = tt
  of_round (x ∷ places) inside wide long = (
    record { received = refl; row = record { inside = rw (← length-links g.rows) inside.0; wide = wide.0 ∙ sym long } },
    of_round places inside.1 wide.1 long,
  )

  same_rows : (famous fresh : List ℕ) → famous ≡ famous_of g marks r → AllByRecursion (IsBelowAll g famous) fresh → map (placed_below g famous r) fresh ≡ map (placed_by g marks r) fresh
  same_rows famous [] are below = refl
  same_rows famous (x ∷ fresh) are below =
      let time : median (times_of g.rows (links_of g) x famous) ≡ consensus_time g.members g.rows (links_of g) marks r x =
      rw are (median_is_consensus g.members (links_of g) s marks r x g.rows (rw are at below.0.1)) in
      ap₂ (λ (t : ℕ) (ps : List Placed). record { place = x; received = r; time = t } ∷ ps) time (same_rows famous fresh are below.1)

  all_inside : (famous fresh : List ℕ) → AllByRecursion (IsBelowAll g famous) fresh → AllByRecursion (λ x. x < length (links_of g)) fresh
  all_inside famous [] below = tt
  all_inside famous (x ∷ fresh) below = (below.0.0, all_inside famous fresh below.1)

  -- rows placed by a round that is this one, if there are any
  same_round : (famous fresh : List ℕ) (k : ℕ) → (0 < length fresh → k ≡ r) → map (placed_below g famous k) fresh ≡ map (placed_below g famous r) fresh
  same_round famous [] k same = refl
  same_round famous (x ∷ fresh) k same = ap (λ (j : ℕ). map (placed_below g famous j) (x ∷ fresh)) (same (omega arith))

  -- the sorted rows of the round
  pub sorted_is_placed : (famous fresh whitened : List ℕ) (k : ℕ) → (0 < length fresh → k ≡ r) → famous ≡ famous_of g marks r → AllByRecursion (IsBelowAll g famous) fresh → All (IsWide g.rows) fresh →
      whitened ≡ whitening_of g.rows famous → length whitened ≡ 64 →
      sort_by (placed_less g.rows whitened) (map (placed_below g famous k) fresh) ≡ placed_in g marks r fresh
  unfolding white
  sorted_is_placed famous fresh whitened k same are below wide is long =
      let white_is : whitened ≡ whitening g.members g.rows (links_of g) marks r = is ∙ (ap (whitening_of g.rows) are ∙ whitening_is g.members (links_of g) marks r g.rows) in
      ap₂ (λ (w : List ℕ) (ps : List Placed). sort_by (placed_less g.rows w) ps) white_is (same_round famous fresh k same ∙ same_rows famous fresh are below)
      ∙ sort_by-same (placed_less g.rows (whitening g.members g.rows (links_of g) marks r)) (is_placed_before g marks) (map (placed_by g marks r) fresh)
      (pairwise_of_all IsOfRound (λ a b. placed_less g.rows (whitening g.members g.rows (links_of g) marks r) b a ≡ is_placed_before g marks b a) (map (placed_by g marks r) fresh) sorts_alike
      (of_round fresh (all_inside famous fresh below) (recursion_from_All (IsWide g.rows) fresh wide) (ap (λ (w : List ℕ). length w) (sym white_is) ∙ long)))

  -- where the rows are all that the round receives, by their places

  key_of : Placed → List ℕ
  key_of p = order_key g.members g.rows (links_of g) marks p

  pub placed_is_ordered : placed_in g marks r (received_places g marks r) ≡ received_order g marks r
  unfolding ordered_in key_of
  placed_is_ordered =
      let n = g.members in
      let L = links_of g in
      let received = is_received_in n L marks (λ k. eqb k r) in
      let keyed : Placed → List ℕ × Placed = λ p. (key_of p, p) in
      let rows = list_below (placed_by g marks r) (length L) received in
      let by_key : Placed → Placed → Bool = λ a b. is_lt (slice_cmp nat_cmp (key_of a) (key_of b)) in
      let places : map (placed_by g marks r) (received_places g marks r) ≡ rows = map-list_below (placed_by g marks r) (λ x. x) (length L) received in
      let keys : list_below (keyed_at n g.rows L marks) (length L) received ≡ map keyed rows =
      list_below-same (keyed_at n g.rows L marks) (λ x. keyed (placed_by g marks r x)) (length L) received received (λ x h. refl)
      (λ x h e.
      let is : received_or_zero n L marks x ≡ r = eqb-true (received_or_zero n L marks x) r (and_parts (is_some (round_received n L marks x)) (eqb (received_or_zero n L marks x) r) e).1 in
      ap (λ k. keyed (record { place = x; received = k; time = consensus_time n g.rows L marks k x })) is)
      ∙ sym (map-list_below keyed (placed_by g marks r) (length L) received) in
      let ties = sort_by-same (is_placed_before g marks) by_key rows
      (IsPairwise-list_below (λ a b. is_placed_before g marks b a ≡ by_key b a) (placed_by g marks r) (length L) received
      (λ j k h. is_lt-then (slice_cmp nat_cmp (key_of (placed_by g marks r k)) (key_of (placed_by g marks r j))) k j (omega arith))) in
      ap (sort_by (is_placed_before g marks)) places
      ∙ (ties
      ∙ sym (ap (λ xs. map (λ (k : List ℕ × Placed). k.1) (sort_by comes_before xs)) keys
      ∙ (ap (map (λ (k : List ℕ × Placed). k.1)) (sort_by-map keyed comes_before rows) ∙ seconds (sort_by by_key rows))))
    where
      seconds : (ps : List Placed) → map (λ (k : List ℕ × Placed). k.1) (map (λ (p : Placed). (order_key g.members g.rows (links_of g) marks p, p)) ps) ≡ ps
      seconds [] = refl
      seconds (p ∷ ps) = ap (λ (qs : List Placed). p ∷ qs) (seconds ps)

-- what a round makes of its rows, once they are placed and sorted

pub round_placed : (g : Graph) → IsShaped g.members (links_of g) → (famous fresh : List ℕ) (placed out : List Placed) (k : ℕ) →
    IsRoundOf g famous k → (0 < length fresh → 0 < length famous) → AllByRecursion (IsBelowAll g famous) fresh → placed ≡ map (placed_below g famous k) fresh → All (IsWide g.rows) fresh →
    out ≡ sort_by (placed_less g.rows (whitening_of g.rows famous)) placed → length (whitening_of g.rows famous) ≡ 64 → ArePlacedBy g famous fresh out
round_placed g s famous fresh placed out k round some below is wide sorted long marks r are =
    sorted
    ∙ (ap (sort_by (placed_less g.rows (whitening_of g.rows famous))) is
    ∙ sorted_is_placed g s marks r famous fresh (whitening_of g.rows famous) k (λ h. round marks r are (some h)) are below wide refl long)

pub round_ordered : (g : Graph) → IsShaped g.members (links_of g) → (famous fresh : List ℕ) (out : List Placed) → ArePlacedBy g famous fresh out → AreOrderedBy g famous fresh out
round_ordered g s famous fresh out placed marks r are whole = placed marks r are ∙ (ap (placed_in g marks r) whole ∙ placed_is_ordered g s marks r)
