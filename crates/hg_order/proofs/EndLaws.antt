-- The ends of the lines of several rows, and the rows that stand below them
use Rattle.std.proofs.Common.{◌≡◌, ℕ, ◌+◌, ◌<◌, ◌≤◌, Bool, true, false, ◌||◌, ltb, leb, max, List, [], ◌∷◌, ◌++◌, length, get_or, set, take, replicate, refl, sym, ap, ap₂, ◌∙◌, inl, inr, arith}
use Rattle.std.proofs.lemmas.Bool.{cases_eq, and_from, and_left, and_right, leb-true, le-leb, lt-leb, lt-ltb, le-ltb, false_from_ne_true}
use Rattle.std.proofs.lemmas.Bool.Decides.{nat_tests}
use Rattle.std.proofs.lemmas.List.{get_or-set_same, get_or-set_other}
use Rattle.std.proofs.lemmas.List.Folds.{list_any_more}
use Rattle.hg_model.specs.Stakes.{Stakes}
use Rattle.hg_model.specs.Links.{Link, creator}
use Rattle.hg_model.specs.Ancestry.{is_self_ancestor}
use Rattle.hg_model.specs.Graph.{IsShaped}
use Rattle.hg_model.specs.Prefix.{Graph, links_of}
use Rattle.hg_model.proofs.AncestryLaws.{is_self_ancestor-le}
use Rattle.hg_model.proofs.PlacesLaws.{list_below_passes, list_below_fails, list_below_none}
use Rattle.hg_order.specs.Counted.{AreLines, JustBelow}
use Rattle.hg_order.specs.Timers.{line_row_at, line_rows_below, is_line_row, is_on_some_line}
use Rattle.hg_order.proofs.BoundLaws.{no_number}
use Rattle.hg_order.proofs.LineLaws.{creator_of_line}
use Rattle.hg_order.proofs.TimerLaws.{same_tests}

ltb_max : (z a w : ℕ) → ltb z (max a (w + 1)) ≡ (ltb z a || leb z w)
ltb_max z a w = grind (arith, nat_tests)

or_false : (b : Bool) → b ≡ (b || false)
or_false true = refl
or_false false = refl

pub ends_none : (L : List Link) (wide : ℕ) → JustBelow L (replicate wide 0) (is_on_some_line L [])
ends_none L wide z h = le-ltb z (get_or (replicate wide 0) (creator L z) 0) (rw (no_number wide (creator L z)) (omega arith))

pub ends_next : (n : Stakes) (L : List Link) (s : IsShaped n L) (lines : AreLines L) (places ends : List ℕ) (i : ℕ) → i < length places → get_or places i 0 < length L →
    creator L (get_or places i 0) < length ends → JustBelow L ends (is_on_some_line L (take i places)) →
    JustBelow L (set ends (creator L (get_or places i 0)) (max (get_or ends (creator L (get_or places i 0)) 0) (get_or places i 0 + 1))) (is_on_some_line L (take (i + 1) places))
ends_next n L s lines places ends i h inside room just z low =
    let w = get_or places i 0 in
    let m = creator L w in
    let raised = max (get_or ends m 0) (w + 1) in
    let more = list_any_more (λ w. is_self_ancestor L w z) places i 0 h in
    elim (cases_eq (creator L z) m) [
      | inl same ↦
          (let at = get_or-set_same ends m raised 0 room in
          let before = rw same at (just z low) in
          let on : leb z w ≡ is_self_ancestor L w z = same_tests (leb z w) (is_self_ancestor L w z) (λ e. lines.line w z inside (leb-true z w e) (sym same)) (λ e. le-leb z w (is_self_ancestor-le L s.earlier w z e)) in
          rw same (ap (ltb z) at ∙ (ltb_max z (get_or ends m 0) w ∙ (ap₂ (λ (p q : Bool). p || q) before on ∙ sym more))))
      | inr other ↦
          (let off : is_self_ancestor L w z ≡ false = false_from_ne_true (is_self_ancestor L w z) (λ e. other (creator_of_line n L s w z e)) in
          ap (ltb z) (get_or-set_other ends m (creator L z) raised 0 other)
          ∙ (just z low ∙ (or_false (is_on_some_line L (take i places) z) ∙ (ap (λ (b : Bool). is_on_some_line L (take i places) z || b) (sym off) ∙ sym more))))
    ]

pub ends_within : (ends : List ℕ) (k v last m : ℕ) → k < length ends → ((m : ℕ) → get_or ends m 0 ≤ last) → get_or (set ends k (max (get_or ends k 0) v)) m 0 ≤ max last v
ends_within ends k v last m room within = elim (cases_eq m k) [
  | inl same ↦ (let at = get_or-set_same ends k (max (get_or ends k 0) v) 0 room in let below = within k in rw (same, at) (omega arith))
  | inr other ↦ (let below = within m in rw (get_or-set_other ends k m (max (get_or ends k 0) v) 0 other) (omega arith))
]

pub below_next : (places : List ℕ) (last i k : ℕ) → k < i + 1 → ((k : ℕ) → k < i → get_or places k 0 < last) → get_or places k 0 < max last (get_or places i 0 + 1)
below_next places last i k h below = elim (cases_eq k i) [
  | inl here ↦ rw here (omega arith)
  | inr other ↦ (let less = below k (omega arith) in omega arith)
]

module _ (g : Graph) (ends : List ℕ) (low : ℕ) where
  pub listed_none : line_rows_below g ends low low ≡ []
  listed_none = list_below_none (line_row_at g.rows) low (is_line_row (links_of g) ends low)
      (λ z h. and_left (leb low z) (ltb z (get_or ends (creator (links_of g) z) 0)) (lt-leb low z h))

  pub listed_yes : (z : ℕ) → low ≤ z → z < get_or ends (creator (links_of g) z) 0 → line_rows_below g ends low (z + 1) ≡ line_rows_below g ends low z ++ line_row_at g.rows z ∷ []
  listed_yes z from below = list_below_passes (line_row_at g.rows) z (is_line_row (links_of g) ends low)
      (and_from (leb low z) (ltb z (get_or ends (creator (links_of g) z) 0)) (le-leb low z from) (lt-ltb z (get_or ends (creator (links_of g) z) 0) below))

  pub listed_no : (z : ℕ) → get_or ends (creator (links_of g) z) 0 ≤ z → line_rows_below g ends low (z + 1) ≡ line_rows_below g ends low z
  listed_no z past = list_below_fails (line_row_at g.rows) z (is_line_row (links_of g) ends low)
      (and_right (leb low z) (ltb z (get_or ends (creator (links_of g) z) 0)) (le-ltb z (get_or ends (creator (links_of g) z) 0) past))
