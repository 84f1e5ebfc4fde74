-- Flags of the rows from a place on, and what is listed by them
use Rattle.std.proofs.Common.{◌≡◌, ◌⊎◌, inl, inr, ℕ, zero, suc, ◌+◌, ◌<◌, ◌≤◌, Bool, true, false, not, ◌&&◌, List, [], ◌∷◌, ◌++◌, length, map, take, get_or, refl, sym, ap, ap₂, ◌∙◌, subst, arith, length-append}
use Rattle.std.specs.Prelude.{min, nat_le}
use Rattle.std.proofs.lemmas.Bool.{or_cases, and_parts, true≢false, ltb-true, le-leb, cases_lt, lt-leb}
use Rattle.std.proofs.lemmas.List.{take_all, take-append-le}
use Rattle.hg_model.specs.Ancestry.{is_ancestor}
use Rattle.hg_model.specs.Held.{is_held}
use Rattle.hg_model.specs.Links.{links, parents, place_of}
use Rattle.hg_model.specs.Places.{IsEarlier, has_place}
use Rattle.hg_model.specs.declared.row.Row.{Row}
use Rattle.hg_model.proofs.AncestryLaws.{is_ancestor-le, is_ancestor_cases}
use Rattle.hg_model.proofs.PlacesLaws.{list_below-same, list_below_fails, list_below_none, list_below_passes}
use Rattle.hg_model.proofs.ReachLaws.{bool_iff, has_place_first, has_place_later}
use Rattle.hg_model.specs.Prefix.{Graph}
use Rattle.hg_life.specs.NodeView.{NodeView, node_rows}
use Rattle.hg_service.specs.declared.answer.Answer.TheVariants as answer
use Rattle.hg_node.specs.ChronicleView.{graph_in}
use Rattle.hg_node.specs.Beyond.{bytes_at, is_behind, is_behind_some}
use Rattle.hg_node.proofs.FlagLaws.{WalksDown}
use Rattle.hg_answering.specs.Beyond.{AreFlaggedFrom, BeginWith, beyond_before, beyond_flagged, is_unflagged_from}
use Rattle.hg_answering.specs.Telling.{beyond_told, bytes_beyond_from, is_beyond_from}

-- a named row that has y as ancestor
named_above : (G : List Row) (names : List (List ℕ)) (y : ℕ) → is_behind_some G names y ≡ true →
    (t : ℕ) × (t < length G) × (has_place (map (place_of G) names) t ≡ true) × (is_ancestor (links G) t y ≡ true)
named_above G [] y behind = absurd (true≢false (sym behind))
named_above G (name ∷ names) y behind = elim (or_cases (is_behind G y name) (is_behind_some G names y) behind) [
  | inl here ↦
      (let parts = and_parts (is_held G name) (is_ancestor (links G) (place_of G name) y) here in
      (place_of G name, ltb-true (place_of G name) (length G) parts.0, has_place_first (place_of G name) (map (place_of G) names), parts.1))
  | inr later ↦ (let found = named_above G names y later in (found.0, found.1, has_place_later (place_of G name) found.0 (map (place_of G) names) found.2, found.3))
]

module _ (G : List Row) (names : List (List ℕ)) (e : IsEarlier (parents (links G))) (start : ℕ) (flags : List Bool) (walks : WalksDown G names start flags) where
  -- an ancestor of a flagged row is flagged, where no row between them stands below the place
  reached : (n t y : ℕ) → t < n → t < length G → start ≤ y → get_or flags t false ≡ true → is_ancestor (links G) t y ≡ true → get_or flags y false ≡ true
  reached zero t y low inside from set above = absurd (omega (arith, low))
  reached (suc n) t y low inside from set above = elim (is_ancestor_cases (links G) e t y above) [
    | inl same ↦ subst (λ (k : ℕ). get_or flags k false ≡ true) same set
    | inr by ↦ (
        let less = e.earlier t by.0 by.1 in
        let over = is_ancestor-le (links G) e t y above in
        reached n by.0 y (omega (arith, low, less)) (omega (arith, inside, less)) from (walks.closed t by.0 (omega (arith, from, over)) inside set by.1) by.2)
  ]

  pub flagged_from : AreFlaggedFrom G names start flags
  flagged_from = record {
    len = walks.len;
    each = λ y from inside. bool_iff (get_or flags y false) (is_behind_some G names y) (walks.only y inside)
        (λ behind. (let found = named_above G names y behind in
        reached (suc found.0) found.0 y (omega arith) found.1 from (walks.named found.0 found.1 found.2) found.3));
  }

-- ---- lists by flags

module _ (G : List Row) (flags : List Bool) (start : ℕ) where
  pub none_before : [] ≡ beyond_before G flags start start
  none_before = sym (list_below_none (bytes_at G) start (is_unflagged_from flags start) (λ k below. ap (λ (b : Bool). b && not (get_or flags k false)) (lt-leb start k below)))

  pub one_passes : (x : ℕ) → start ≤ x → get_or flags x false ≡ false → beyond_before G flags start (x + 1) ≡ beyond_before G flags start x ++ bytes_at G x ∷ []
  one_passes x from clear = list_below_passes (bytes_at G) x (is_unflagged_from flags start) (ap₂ (λ (a b : Bool). a && not b) (le-leb start x from) clear)

  and_false : (a : Bool) → (a && false) ≡ false
  and_false true = refl
  and_false false = refl

  pub one_fails : (x : ℕ) → get_or flags x false ≡ true → beyond_before G flags start (x + 1) ≡ beyond_before G flags start x
  one_fails x set = list_below_fails (bytes_at G) x (is_unflagged_from flags start) (ap (λ (b : Bool). nat_le start x && not b) set ∙ and_false (nat_le start x))

module _ (limit : ℕ) (xs : List (List ℕ)) (count : ℕ) (some : List (List ℕ)) (are : BeginWith limit xs count some) where
  pub one_kept : (ys : List (List ℕ)) (x : List ℕ) (more : List (List ℕ)) → count < limit → ys ≡ xs ++ x ∷ [] → more ≡ some ++ x ∷ [] → BeginWith limit ys (count + 1) more
  one_kept ys x more room grown is =
      let all = are.all in
      let long = length-append xs (x ∷ []) in
      let longer = ap (λ (zs : List (List ℕ)). length zs) grown in
      record {
        all = omega (arith, all, long, longer);
        first = is ∙ (ap (λ (zs : List (List ℕ)). zs ++ x ∷ []) (are.first ∙ take_all limit xs (omega (arith, all, room))) ∙ (sym grown ∙ sym (take_all limit ys (omega (arith, all, room, long, longer)))));
      }

  pub one_over : (ys : List (List ℕ)) (x : List ℕ) → limit ≤ count → ys ≡ xs ++ x ∷ [] → BeginWith limit ys (count + 1) some
  one_over ys x full grown =
      let all = are.all in
      let long = length-append xs (x ∷ []) in
      let longer = ap (λ (zs : List (List ℕ)). length zs) grown in
      record {
        all = omega (arith, all, long, longer);
        first = are.first ∙ (sym (take-append-le limit xs (x ∷ []) (omega (arith, all, full))) ∙ ap (take limit) (sym grown));
      }

pub none_begin : (limit : ℕ) (xs : List (List ℕ)) → [] ≡ xs → BeginWith limit xs 0 []
none_begin limit xs none = subst (λ (ys : List (List ℕ)). BeginWith limit ys 0 []) none (record { all = refl; first = sym (take_all limit [] (omega arith)) })

-- the same of equal counts and lists
pub told : (limit : ℕ) (xs : List (List ℕ)) {count more : ℕ} {some others : List (List ℕ)} → count ≡ more → some ≡ others → BeginWith limit xs more others → BeginWith limit xs count some
told limit xs same_count same_list are = record { all = same_count ∙ are.all; first = same_list ∙ are.first }

-- ---- what is told

pub beyond_is : (G : List Row) (names : List (List ℕ)) (from start : ℕ) (flags : List Bool) → start ≡ min from (length G) → AreFlaggedFrom G names start flags
    → beyond_flagged G flags start ≡ bytes_beyond_from G from names
unfolding bytes_beyond_from
beyond_is G names from start flags is are =
    list_below-same (bytes_at G) (bytes_at G) (length G) (is_unflagged_from flags start) (is_beyond_from G from names) (λ x inside. at x inside (cases_lt x start)) (λ x inside passes. refl)
  where
    at : (x : ℕ) → x < length G → (x < start) ⊎ (start ≤ x) → is_unflagged_from flags start x ≡ is_beyond_from G from names x
    at x inside (inl below) =
        let first : nat_le start x ≡ false = lt-leb start x below in
        let second : nat_le from x ≡ false = lt-leb from x (omega (arith, is, below, inside)) in
        ap (λ (b : Bool). b && not (get_or flags x false)) first ∙ sym (ap (λ (b : Bool). b && not (is_behind_some G names x)) second)
    at x inside (inr over) =
        let first : nat_le start x ≡ true = le-leb start x over in
        let second : nat_le from x ≡ true = le-leb from x (omega (arith, is, over, inside)) in
        ap₂ (λ (a b : Bool). a && not b) (first ∙ sym second) (are.each x over inside)

pub beyond_answer : {K : Type 0} (v : NodeView K) (g : Graph) (names : List (List ℕ)) (from limit start rows all : ℕ) (flags : List Bool) (events : List (List ℕ))
    → g ≡ graph_in v → rows ≡ length g.rows → start ≡ min from rows → AreFlaggedFrom g.rows names start flags → BeginWith limit (beyond_flagged g.rows flags start) all events
    → answer.Beyond all rows events ≡ beyond_told v from limit names
beyond_answer v g names from limit start rows all flags events same count is are begin =
    let found : beyond_flagged g.rows flags start ≡ bytes_beyond_from (node_rows v) from names =
    beyond_is g.rows names from start flags (is ∙ ap (min from) count) are ∙ ap (λ (h : Graph). bytes_beyond_from h.rows from names) same in
    let here : all ≡ length (bytes_beyond_from (node_rows v) from names) = begin.all ∙ ap (λ (xs : List (List ℕ)). length xs) found in
    let first : events ≡ take limit (bytes_beyond_from (node_rows v) from names) = begin.first ∙ ap (take limit) found in
    let long : rows ≡ length (node_rows v) = count ∙ ap (λ (h : Graph). length h.rows) same in
    rw (here, first, long) refl
