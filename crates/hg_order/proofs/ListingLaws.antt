-- Lines that are listed one behind the other, and the first holder found in one by halves
use Rattle.std.proofs.Common.{◌≡◌, ℕ, zero, suc, ◌+◌, ◌-◌, ◌<◌, ◌≤◌, true, false, List, [], ◌∷◌, ◌++◌, length, take, get_or, set, refl, sym, ap, ◌∙◌, subst, inl, inr, arith}
use Rattle.std.proofs.lemmas.Bool.{cases_lt, and_parts, false_from_ne_true}
use Rattle.std.proofs.lemmas.List.{length_push, get_or_append_left, get_or_push, get_or-take, get_or-set_same, get_or-set_other, take-append-le, length-take-le}
use Rattle.std.proofs.Math.Seq.{take-append_seam}
use Rattle.hg_model.specs.declared.row.Row.{Row}
use Rattle.hg_model.specs.Places.{IsEarlier}
use Rattle.hg_model.specs.Links.{Link, parents, self_parent}
use Rattle.hg_model.specs.Ancestry.{is_ancestor, is_self_ancestor}
use Rattle.hg_model.specs.Order.{time_at}
use Rattle.hg_model.proofs.AncestryLaws.{is_ancestor-le, is_self_ancestor_self}
use Rattle.hg_model.proofs.ForkLaws.{self_parent_cases}
use Rattle.hg_order.specs.declared.timer.LineRow.{LineRow}
use Rattle.hg_order.specs.Famous.{all_have, first_holder}
use Rattle.hg_order.specs.Lined.{no_line_row, place_at, HasLine, HaveTimes, AddsLine, AreLinesOf, WalksLine}
use Rattle.hg_order.specs.Timers.{line_row_at}
use Rattle.hg_order.proofs.LineLaws.{is_new_to_line, first_holder_is, line_down, new_by_parent, new_without_parent}

-- one line row more

read_before : (now : List LineRow) (h : LineRow) (k : ℕ) → k < length now → get_or (now ++ h ∷ []) k no_line_row ≡ get_or now k no_line_row
read_before now h k lt = get_or_append_left now (h ∷ []) no_line_row k lt

read_last : (now : List LineRow) (h : LineRow) (k : ℕ) → k ≡ length now → get_or (now ++ h ∷ []) k no_line_row ≡ h
read_last now h k is = get_or_push now h no_line_row k (sym is)

place_before : (now : List LineRow) (h : LineRow) (k : ℕ) → k < length now → place_at (now ++ h ∷ []) k ≡ place_at now k
place_before now h k lt = ap (λ (h : LineRow). h.place) (read_before now h k lt)

place_last : (now : List LineRow) (h : LineRow) (k : ℕ) → k ≡ length now → place_at (now ++ h ∷ []) k ≡ h.place
place_last now h k is = ap (λ (h : LineRow). h.place) (read_last now h k is)

times_next : (G : List Row) (now : List LineRow) (z : ℕ) → HaveTimes G now → HaveTimes G (now ++ line_row_at G z ∷ [])
times_next G now z times k lt = elim (cases_lt k (length now)) [
  | inl before ↦
      ap (λ (h : LineRow). h.time) (read_before now (line_row_at G z) k before) ∙ (times k before ∙ ap (time_at G) (sym (place_before now (line_row_at G z) k before)))
  | inr past ↦
      (let is : k ≡ length now = omega (arith, length_push now (line_row_at G z)) in
      ap (λ (h : LineRow). h.time) (read_last now (line_row_at G z) k is) ∙ ap (time_at G) (sym (place_last now (line_row_at G z) k is)))
]

module _ (G : List Row) (L : List Link) (e : IsEarlier (parents L)) (w : ℕ) (old : List LineRow) where
  pub walk_one : WalksLine G L w old (old ++ line_row_at G w ∷ []) w
  walk_one =
      let long = length_push old (line_row_at G w) in
      record {
        some = omega arith;
        top = place_last old (line_row_at G w) (length old) refl;
        at = place_last old (line_row_at G w) (length (old ++ line_row_at G w ∷ []) - 1) (omega arith);
        on = λ k from lt. (let is : k ≡ length old = omega arith in rw (place_last old (line_row_at G w) k is) (is_self_ancestor_self L e w));
        next = λ k from lt. absurd (omega arith);
        before = take-append_seam old (line_row_at G w ∷ []);
        times = times_next G old w;
      }

  pub walk_next : (now : List LineRow) (z p : ℕ) → WalksLine G L w old now z → p ∷ [] ≡ self_parent L z → WalksLine G L w old (now ++ line_row_at G p ∷ []) p
  walk_next now z p walk is =
      let h = line_row_at G p in
      let long = length_push now h in
      let some = walk.some in
      let last : place_at now (length now - 1) ≡ z = walk.at in
      record {
        some = omega arith;
        top = place_before now h (length old) some ∙ walk.top;
        at = place_last now h (length (now ++ h ∷ []) - 1) (omega arith);
        on = λ k from lt. elim (cases_lt k (length now)) [
          | inl before ↦ rw (place_before now h k before) (walk.on k from before)
          | inr past ↦
              (let at : k ≡ length now = omega arith in
              let on_z : is_self_ancestor L w z ≡ true = rw last at (walk.on (length now - 1) (omega arith) (omega arith)) in
              rw (place_last now h k at) (line_down L e w z p on_z is))
        ];
        next = λ k from lt. elim (cases_lt (k + 1) (length now)) [
          | inl before ↦ rw (place_before now h (k + 1) before, place_before now h k (omega arith)) (walk.next k from before)
          | inr past ↦
              (let at : k ≡ length now - 1 = omega arith in
              let here : place_at now k ≡ z = ap (place_at now) at ∙ last in
              rw (place_last now h (k + 1) (omega arith), place_before now h k (omega arith), here) is)
        ];
        before = take-append-le (length old) now (h ∷ []) (omega arith) ∙ walk.before;
        times = λ times. times_next G now p (walk.times times);
      }

  pub walk_done : (low : ℕ) (now : List LineRow) (z : ℕ) → WalksLine G L w old now z → ((p : ℕ) → p ∷ [] ≡ self_parent L z → p < low) → AddsLine G L w low old now
  walk_done low now z walk last = record {
    line = record {
      some = walk.some;
      within = omega arith;
      on = λ k from lt. rw walk.top (walk.on k from lt);
      next = walk.next;
      last = λ p is. last p (is ∙ ap (self_parent L) walk.at);
    };
    top = walk.top;
    before = walk.before;
    times = walk.times;
  }

-- one line more

module _ (G : List Row) (L : List Link) (low : ℕ) where
  pub lines_none : (places starts : List ℕ) → AreLinesOf G L (take 0 places) low [] starts
  lines_none places starts = record {
    line = λ i lt. absurd (omega arith);
    top = λ i lt. absurd (omega arith);
    times = λ k lt. absurd (omega arith);
  }

  place_same : (old new : List LineRow) → take (length old) new ≡ old → (k : ℕ) → k < length old → place_at new k ≡ place_at old k
  place_same old new before k lt =
      ap (λ (h : LineRow). h.place) (sym (get_or-take (length old) new k no_line_row lt) ∙ ap (λ (xs : List LineRow). get_or xs k no_line_row) before)

  line_same : (old new : List LineRow) (start «end» : ℕ) → take (length old) new ≡ old → length old ≤ length new → HasLine L low old start «end» → HasLine L low new start «end»
  line_same old new start «end» before more line =
      let same = place_same old new before in
      let within = line.within in
      let some = line.some in
      record {
        some = line.some;
        within = omega arith;
        on = λ k from lt. rw (same start (omega arith), same k (omega arith)) (line.on k from lt);
        next = λ k from lt. rw (same (k + 1) (omega arith), same k (omega arith)) (line.next k from lt);
        last = λ p is. line.last p (is ∙ ap (self_parent L) (same («end» - 1) (omega arith)));
      }

  pub lines_next : (places starts : List ℕ) (i : ℕ) (old new : List LineRow) → AreLinesOf G L (take i places) low old starts → get_or starts i 0 ≡ length old →
      AddsLine G L (get_or places i 0) low old new → i < length places → i + 1 < length starts → AreLinesOf G L (take (i + 1) places) low new (set starts (i + 1) (length new))
  lines_next places starts i old new are begins adds lt room =
      let kept : (j : ℕ) → j ≤ i → get_or (set starts (i + 1) (length new)) j 0 ≡ get_or starts j 0 = λ j le. get_or-set_other starts (i + 1) j (length new) 0 (λ is. omega arith) in
      let set_here : get_or (set starts (i + 1) (length new)) (i + 1) 0 ≡ length new = get_or-set_same starts (i + 1) (length new) 0 room in
      let short : length (take i places) ≡ i = length-take-le i places (omega arith) in
      let long : length (take (i + 1) places) ≡ i + 1 = length-take-le (i + 1) places (omega arith) in
      let more : length old < length new = adds.line.some in
      record {
        line = λ j here. elim (cases_lt j i) [
          | inl before ↦ rw (kept j (omega arith), kept (j + 1) (omega arith)) (line_same old new _ _ adds.before (omega arith) (are.line j (omega arith)))
          | inr past ↦ (let is : j ≡ i = omega arith in rw (is, kept i (omega arith), set_here, begins) adds.line)
        ];
        top = λ j here. elim (cases_lt j i) [
          | inl before ↦
              (let old_line = are.line j (omega arith) in
              let inside : get_or starts j 0 < length old = (let some = old_line.some in let within = old_line.within in omega arith) in
              ap (place_at new) (kept j (omega arith)) ∙ (place_same old new adds.before (get_or starts j 0) inside ∙ (are.top j (omega arith)
              ∙ (get_or-take i places j 0 before ∙ sym (get_or-take (i + 1) places j 0 (omega arith))))))
          | inr past ↦
              (let is : j ≡ i = omega arith in
              ap (λ k. place_at new (get_or (set starts (i + 1) (length new)) k 0)) is ∙ (ap (place_at new) (kept i (omega arith) ∙ begins) ∙ (adds.top
              ∙ (ap (λ k. get_or places k 0) (sym is) ∙ sym (get_or-take (i + 1) places j 0 (omega arith))))))
        ];
        times = adds.times are.times;
      }

-- a line that goes down to an earlier place goes down to a later one
pub line_to : (L : List Link) (low x : ℕ) (lines : List LineRow) (start «end» : ℕ) → HasLine L low lines start «end» → low ≤ x → HasLine L x lines start «end»
line_to L low x lines start «end» line le = record {
  some = line.some;
  within = line.within;
  on = line.on;
  next = line.next;
  last = λ p is. (let under = line.last p is in omega arith);
}

pub lines_to : (G : List Row) (L : List Link) (places : List ℕ) (low x : ℕ) (lines : List LineRow) (starts : List ℕ) → AreLinesOf G L places low lines starts → low ≤ x → AreLinesOf G L places x lines starts
lines_to G L places low x lines starts are le = record {
  line = λ i lt. line_to L low x lines _ _ (are.line i lt) le;
  top = are.top;
  times = are.times;
}

-- each of these has what all of them have as ancestor
pub one_has : (L : List Link) (places : List ℕ) (x i : ℕ) → all_have L places x ≡ true → i < length places → is_ancestor L (get_or places i 0) x ≡ true
one_has L [] x i all lt = absurd (omega arith)
one_has L (w ∷ places) x zero all lt = (and_parts (is_ancestor L w x) (all_have L places x) all).0
one_has L (w ∷ places) x (suc i) all lt = one_has L places x i (and_parts (is_ancestor L w x) (all_have L places x) all).1 (omega arith)

-- by halves: `has` has x as ancestor, and `lacks` has not, if it is in the line
pub record IsBetween (L : List Link) (x : ℕ) (lines : List LineRow) (start «end» has lacks : ℕ) : Type 0 where
  pub from : start ≤ has
  pub order : has < lacks
  pub to : lacks ≤ «end»
  pub holds : is_ancestor L (place_at lines has) x ≡ true
  pub beyond : lacks < «end» → is_ancestor L (place_at lines lacks) x ≡ false

pub found_by_halves : (L : List Link) (e : IsEarlier (parents L)) (x : ℕ) (lines : List LineRow) (start «end» has lacks : ℕ) → HasLine L x lines start «end» →
    IsBetween L x lines start «end» has lacks → lacks ≤ has + 1 → place_at lines has ≡ first_holder L x (place_at lines start)
found_by_halves L e x lines start «end» has lacks line between close =
    let order = between.order in
    let to = between.to in
    let z = place_at lines has in
    let first : is_new_to_line L x z ≡ true = elim (cases_lt lacks «end») [
      | inl inside ↦
          (let next : place_at lines (has + 1) ∷ [] ≡ self_parent L z = line.next has between.from (omega arith) in
          let is : lacks ≡ has + 1 = omega arith in
          new_by_parent L x z (place_at lines (has + 1)) next (sym (subst (λ k. is_ancestor L (place_at lines k) x ≡ false) is (between.beyond inside))))
      | inr outside ↦ elim (self_parent_cases L z) [
        | inl none ↦ new_without_parent L x z (sym none)
        | inr one ↦
            (let at : «end» - 1 ≡ has = omega arith in
            let under : one.0 < x = line.last one.0 (sym (ap (λ k. self_parent L (place_at lines k)) at ∙ one.1)) in
            new_by_parent L x z one.0 (sym one.1) (sym (false_from_ne_true (is_ancestor L one.0 x) (λ up. (let le : x ≤ one.0 = is_ancestor-le L e one.0 x up in omega arith)))))
      ]
    ] in
    sym (first_holder_is L e x (place_at lines start) z (record { on_line = line.on has between.from (omega arith); holds = between.holds; first = first }))
