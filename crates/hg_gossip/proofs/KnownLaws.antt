-- What each of some nodes has heard of each: what is set, handed on and kept
use Rattle.std.proofs.Common.{◌≡◌, ◌≢◌, ◌⊎◌, inl, inr, ℕ, zero, suc, ◌<◌, ◌≤◌, ◌==◌, ◌&&◌, Bool, true, false, cond, List, [], ◌∷◌, length, get_or, replicate, slice_set, sym, refl, ap, ◌∙◌, subst, ne_eqb, arith}
use Rattle.std.specs.Prelude.{nat_lt}
use Rattle.std.proofs.lemmas.Bool.{cases_eq}
use Rattle.std.proofs.lemmas.List.{get_or-replicate, get_or-set_same, get_or-set_other, length-replicate, length-set}
use Rattle.hg_model.specs.declared.row.Row.{Row}
use Rattle.hg_gossip.specs.Handing.{AreKnown, HeardView, Knows, all_heard, heard_of, none_heard}
use Rattle.hg_gossip.specs.Known.{IsSquare, KeepsAll, KeepsAny, KeepsKnown, KeepsRest, KnownForGood, all_noted, handed, handed_on, heard_by, is_more, nothing_heard, nth_rows, with_heard}
use Rattle.hg_gossip.proofs.HandLaws.{knows_all, knows_more, knows_none, knows_rest, knows_through}

-- nothing is heard yet
row_of_none : (count x : ℕ) → x < count → get_or (nothing_heard count) x [] ≡ replicate count none_heard
row_of_none count x low = get_or-replicate count x (replicate count none_heard) [] low

pub none_square : (count : ℕ) → IsSquare (nothing_heard count)
none_square count x low =
    let many = length-replicate count (replicate count none_heard) in
    ap length (row_of_none count x (omega (arith, low, many))) ∙ (length-replicate count none_heard ∙ sym many)

pub knows_nothing : (count : ℕ) → KeepsAny count (nothing_heard count)
knows_nothing count rows many = record {
  long = length-replicate count (replicate count none_heard) ∙ sym many;
  each = λ x y low inside. (
      let none : heard_by (nothing_heard count) x y ≡ none_heard =
      ap (λ (r : List HeardView). get_or r y none_heard) (row_of_none count x (omega (arith, low, many))) ∙ get_or-replicate count y none_heard none_heard (omega (arith, inside, many)) in
      subst (Knows (nth_rows rows x) (nth_rows rows y)) (sym none) (knows_none (nth_rows rows x) (nth_rows rows y)));
}

-- one has heard of one

pub set_count : (known : List (List HeardView)) (x y : ℕ) (heard : HeardView) → length (with_heard known x y heard) ≡ length known
set_count known x y heard = length-set known x (slice_set (get_or known x []) y heard)

module _ (known : List (List HeardView)) (x y : ℕ) (heard : HeardView) (square : IsSquare known) (low : x < length known) where
  abbrev after : List HeardView
  after = slice_set (get_or known x []) y heard

  count : length (with_heard known x y heard) ≡ length known
  count = set_count known x y heard

  here : get_or (with_heard known x y heard) x [] ≡ after
  here = get_or-set_same known x after [] low

  pub set_square : IsSquare (with_heard known x y heard)
  set_square a low_a = by (cases_eq a x)
    where
      by : (a ≡ x) ⊎ (a ≢ x) → length (get_or (with_heard known x y heard) a []) ≡ length (with_heard known x y heard)
      by (inl is) = subst (λ (j : ℕ). length (get_or (with_heard known x y heard) j []) ≡ length (with_heard known x y heard)) (sym is)
          (ap length here ∙ (length-set (get_or known x []) y heard ∙ (square x low ∙ sym count)))
      by (inr other) = ap length (get_or-set_other known x a after [] other) ∙ (square a (omega (arith, low_a, count)) ∙ sym count)

  pub knows_set : (rows : List (List Row)) → y < length known → KeepsKnown rows known → Knows (nth_rows rows x) (nth_rows rows y) heard → KeepsKnown rows (with_heard known x y heard)
  knows_set rows inside keeps knows = record {
    long = count ∙ keeps.long;
    each = λ a z low_a low_z. by a z low_a low_z (cases_eq a x) (cases_eq z y);
  }
    where
      at_row : (z : ℕ) → z < length rows → (z ≡ y) ⊎ (z ≢ y) → Knows (nth_rows rows x) (nth_rows rows z) (get_or after z none_heard)
      at_row z low_z (inl is) = subst (λ (j : ℕ). Knows (nth_rows rows x) (nth_rows rows j) (get_or after j none_heard)) (sym is)
          (subst (Knows (nth_rows rows x) (nth_rows rows y)) (sym (get_or-set_same (get_or known x []) y heard none_heard (omega (arith, inside, square x low)))) knows)
      at_row z low_z (inr other) = subst (Knows (nth_rows rows x) (nth_rows rows z)) (sym (get_or-set_other (get_or known x []) y z heard none_heard other)) (keeps.each x z (omega (arith, low, keeps.long)) low_z)

      by : (a z : ℕ) → a < length rows → z < length rows → (a ≡ x) ⊎ (a ≢ x) → (z ≡ y) ⊎ (z ≢ y) → Knows (nth_rows rows a) (nth_rows rows z) (heard_by (with_heard known x y heard) a z)
      by a z low_a low_z (inl is) place = subst (λ (j : ℕ). Knows (nth_rows rows j) (nth_rows rows z) (heard_by (with_heard known x y heard) j z)) (sym is)
          (subst (λ (r : List HeardView). Knows (nth_rows rows x) (nth_rows rows z) (get_or r z none_heard)) (sym here) (at_row z low_z place))
      by a z low_a low_z (inr other) place = subst (λ (r : List HeardView). Knows (nth_rows rows a) (nth_rows rows z) (get_or r z none_heard)) (sym (get_or-set_other known x a after [] other)) (keeps.each a z low_a low_z)

-- handed on

either : (P : List (List HeardView) → Type 0) (b : Bool) (set known : List (List HeardView)) → P set → P known → P (cond b set known)
either P true set known one other = one
either P false set known one other = other

pub handed_count : (known : List (List HeardView)) (x y count : ℕ) → length (handed_on known x y count) ≡ length known
handed_count known x y zero = refl
handed_count known x y (suc z) =
    let first = handed_on known x y z in
    either (λ (k : List (List HeardView)). length k ≡ length first) (is_more (heard_by first y z) (heard_by first x z)) (with_heard first x z (all_heard (heard_by first y z).len)) first (set_count first x z (all_heard (heard_by first y z).len)) refl
    ∙ handed_count known x y z

-- a square still, and kept for the same rows
record Stays (rows : List (List Row)) (x y : ℕ) (old new : List (List HeardView)) : Type 0 where
  square : IsSquare new
  keeps : KeepsKnown rows old → AreKnown (nth_rows rows x) (nth_rows rows y) → KeepsKnown rows new

module _ (rows : List (List Row)) (x y : ℕ) where
  stays_same : (known : List (List HeardView)) → IsSquare known → Stays rows x y known known
  stays_same known square = record { square = square; keeps = λ keeps all. keeps }

  module _ (known : List (List HeardView)) (z : ℕ) (square : IsSquare known) (low_x : x < length known) (low_y : y < length known) (low_z : z < length known) where
    whole : (len : ℕ) → heard_by known y z ≡ all_heard len → Stays rows x y known (with_heard known x z (all_heard len))
    whole len is = record {
      square = set_square known x z (all_heard len) square low_x;
      keeps = λ keeps all. knows_set known x z (all_heard len) square low_x rows low_z keeps
          (knows_through (nth_rows rows x) (nth_rows rows y) (nth_rows rows z) len all
          (subst (Knows (nth_rows rows y) (nth_rows rows z)) is (keeps.each y z (omega (arith, low_y, keeps.long)) (omega (arith, low_z, keeps.long)))));
    }

    some : (len other : ℕ) (refused : List Row) → heard_by known y z ≡ heard_of len refused →
        Stays rows x y known (cond ((length refused == 0) && nat_lt other len) (with_heard known x z (all_heard len)) known)
    some len other [] is = either (Stays rows x y known) (nat_lt other len) (with_heard known x z (all_heard len)) known (whole len is) (stays_same known square)
    some len other (first ∷ refused) is =
        subst (λ (b : Bool). Stays rows x y known (cond (b && nat_lt other len) (with_heard known x z (all_heard len)) known))
        (sym (ne_eqb (suc (length refused)) 0 (λ e. omega (arith, e)))) (stays_same known square)

    one_handed : Stays rows x y known (handed known x y z)
    one_handed = some (heard_by known y z).len (heard_by known x z).len (heard_by known y z).refused refl

  all_handed : (known : List (List HeardView)) (count : ℕ) → IsSquare known → x < length known → y < length known → count ≤ length known → Stays rows x y known (handed_on known x y count)
  all_handed known zero square low_x low_y few = stays_same known square
  all_handed known (suc z) square low_x low_y few =
      let first : Stays rows x y known (handed_on known x y z) = all_handed known z square low_x low_y (omega (arith, few)) in
      let same = handed_count known x y z in
      let next : Stays rows x y (handed_on known x y z) (handed_on known x y (suc z)) =
      one_handed (handed_on known x y z) z first.square (omega (arith, same, low_x)) (omega (arith, same, low_y)) (omega (arith, same, few)) in
      record {
        square = next.square;
        keeps = λ keeps all. next.keeps (first.keeps keeps all) all;
      }

-- all of the peer's rows, and what it has
pub all_kept : (known : List (List HeardView)) (x y len : ℕ) → IsSquare known → x < length known → y < length known → KeepsAll known x y len (all_noted known x y len)
all_kept known x y len square low_x low_y rows keeps has =
    let on : Stays rows x y known (handed_on known x y (length known)) = all_handed rows x y known (length known) square low_x low_y (omega arith) in
    let same = handed_count known x y (length known) in
    knows_set (handed_on known x y (length known)) x y (all_heard len) on.square (omega (arith, low_x, same)) rows (omega (arith, low_y, same)) (on.keeps keeps has.all)
    (subst (λ (k : ℕ). Knows (nth_rows rows x) (nth_rows rows y) (all_heard k)) (sym has.count) (knows_all (nth_rows rows x) (nth_rows rows y) has.all))

-- all of them but for the rest
pub rest_kept : (known : List (List HeardView)) (x y len : ℕ) (rest : List Row) → IsSquare known → x < length known → y < length known → KeepsRest known x y len rest (with_heard known x y (heard_of len rest))
rest_kept known x y len rest square low_x low_y rows keeps has =
    knows_set known x y (heard_of len rest) square low_x rows low_y keeps
    (subst (λ (k : ℕ). Knows (nth_rows rows x) (nth_rows rows y) (heard_of k rest)) (sym has.count) (knows_rest (nth_rows rows x) (nth_rows rows y) rest has.lacks))

-- rows only get more
pub known_for_good : KnownForGood
known_for_good rows longer known more keeps = record {
  long = keeps.long ∙ sym more.count;
  each = λ x y low_x low_y. (
      let in_x : x < length rows = omega (arith, low_x, more.count) in
      let in_y : y < length rows = omega (arith, low_y, more.count) in
      knows_more (nth_rows rows x) (nth_rows longer x) (nth_rows rows y) (nth_rows longer y) (heard_by known x y) (more.each x in_x) (more.each y in_y) (keeps.each x y in_x in_y));
}
