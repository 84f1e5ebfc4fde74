-- Ticks that are raised row by row, down a line and member by member
use Rattle.std.proofs.Common.{◌≡◌, ℕ, ◌+◌, ◌-◌, ◌<◌, ◌≤◌, Bool, true, false, cond, ◌&&◌, ◌||◌, ltb, leb, eqb, min, max, List, [], ◌∷◌, length, get_or, set, refl, sym, ap, ◌∙◌, inl, inr, ◌⊎◌, arith}
use Rattle.std.proofs.lemmas.Bool.{true≢false, false≢true, cases_eq, cases_lt, and_parts, and_from, or_cases, or_left, or_right, eqb-true, eq-eqb, ne_eqb, leb-true, le-leb, ltb-true, lt-ltb, le-ltb, and_left, false_from_ne_true}
use Rattle.std.proofs.lemmas.Bool.Decides.{same_from_decides}
use Rattle.std.proofs.lemmas.List.{get_or-set_same, get_or-set_other, get_or_past, length-set}
use Rattle.hg_model.specs.Places.{IsEarlier}
use Rattle.hg_model.specs.Links.{Link, creator, parents, self_parent}
use Rattle.hg_model.proofs.AncestryLaws.{is_self_ancestor_cases, is_self_ancestor-le}
use Rattle.hg_model.proofs.ForkLaws.{self_parent_only}
use Rattle.hg_order.specs.declared.timer.Timer.{Timer}
use Rattle.hg_order.specs.Counted.{AreLines, EndsBefore}
use Rattle.hg_order.specs.Timers.{no_timer, timer_at, ticked, is_in_line, is_between, AreEnds, AreTicked}
use Rattle.hg_order.proofs.LineLaws.{self_parent_before}

pub same_tests : (a b : Bool) → (a ≡ true → b ≡ true) → (b ≡ true → a ≡ true) → a ≡ b
same_tests a b to back = same_from_decides {P = b ≡ true} a b (to, back) ((λ e. e), (λ e. e))

pub ticked_none : (low time : ℕ) (test : ℕ → Bool) (ts : List Timer) → ((x : ℕ) → low ≤ x → test x ≡ false) → AreTicked low time test ts ts
ticked_none low time test ts fails = record { each = λ k. rw (fails (low + k) (omega arith)) refl; long = refl }

pub ticked_here : (low time y k : ℕ) (ts : List Timer) → low + k ≡ y → k < length ts → AreTicked low time (λ x. eqb x y) ts (set ts k (ticked time (timer_at ts k)))
ticked_here low time y k ts at room = record {
  each = λ j. elim (cases_eq j k) [
    | inl same ↦ rw (same, eq-eqb (low + k) y at) (get_or-set_same ts k (ticked time (timer_at ts k)) no_timer room)
    | inr other ↦ rw (ne_eqb (low + j) y (λ is. other (omega arith))) (get_or-set_other ts k j (ticked time (timer_at ts k)) no_timer other)
  ];
  long = length-set ts k (ticked time (timer_at ts k));
}

twice : (time : ℕ) (one two both : Bool) (t : Timer) → both ≡ (one || two) → (one ≡ true → two ≡ false) →
    cond two (ticked time (cond one (ticked time t) t)) (cond one (ticked time t) t) ≡ cond both (ticked time t) t
twice time true true both t is apart = absurd (true≢false (apart refl))
twice time true false both t is apart = rw is refl
twice time false true both t is apart = rw is refl
twice time false false both t is apart = rw is refl

-- one after the other, where no row passes both tests
pub ticked_both : (low time : ℕ) (one two both : ℕ → Bool) (old mid new : List Timer) → AreTicked low time one old mid → AreTicked low time two mid new →
    ((x : ℕ) → low ≤ x → both x ≡ (one x || two x)) → ((x : ℕ) → low ≤ x → one x ≡ true → two x ≡ false) → AreTicked low time both old new
ticked_both low time one two both old mid new a b is apart = record {
  each = λ k.
      b.each k
      ∙ (ap (λ (t : Timer). cond (two (low + k)) (ticked time t) t) (a.each k)
      ∙ twice time (one (low + k)) (two (low + k)) (both (low + k)) (timer_at old k) (is (low + k) (omega arith)) (apart (low + k) (omega arith)));
  long = b.long ∙ a.long;
}

pub ticked_same : (low time : ℕ) (one two : ℕ → Bool) (old new : List Timer) → AreTicked low time one old new → ((x : ℕ) → low ≤ x → one x ≡ two x) → AreTicked low time two old new
ticked_same low time one two old new a same = record {
  each = λ k. rw (← same (low + k) (omega arith)) (a.each k);
  long = a.long;
}

-- the row before on a line

module _ (L : List Link) (e : IsEarlier (parents L)) (lines : AreLines L) where
  pub none_before : (x : ℕ) → x < length L → [] ≡ self_parent L x → EndsBefore L x 0
  none_before x h none = record {
    low = omega arith;
    same = λ some. absurd (omega arith);
    all = λ z before same. elim (is_self_ancestor_cases L e x z (lines.line x z h (omega arith) (sym same))) [
      | inl one ↦ absurd (omega arith)
      | inr by ↦ absurd (false≢true (rw (← none) at by.1))
    ];
  }

  pub parent_before : (x p : ℕ) → x < length L → p ∷ [] ≡ self_parent L x → creator L p ≡ creator L x → EndsBefore L x (p + 1)
  parent_before x p h is by_same = record {
    low = (let low : p < x = self_parent_before L e x p is in omega arith);
    same = λ some. (let at : p + 1 - 1 ≡ p = omega arith in ap (creator L) at ∙ by_same);
    all = λ z before same. elim (is_self_ancestor_cases L e x z (lines.line x z h (omega arith) (sym same))) [
      | inl one ↦ absurd (omega arith)
      | inr by ↦
          (let only : by.0 ≡ p = same_first by.0 p (sym (self_parent_only L x by.0 by.1) ∙ sym is) in
          let le = is_self_ancestor-le L e by.0 z by.2 in
          omega arith)
    ];
  }
    where
      same_first : (p q : ℕ) → p ∷ [] ≡ q ∷ [] → p ≡ q
      same_first p q same = cc

-- what it is to stand in a line

record InLine (L : List Link) (m bottom top x : ℕ) : Type 0 where
  by : creator L x ≡ m
  from : bottom ≤ x
  to : x < top

in_line : (L : List Link) (m bottom top x : ℕ) → is_in_line L m bottom top x ≡ true → InLine L m bottom top x
in_line L m bottom top x e =
    let parts = and_parts (eqb (creator L x) m) (leb bottom x && ltb x top) e in
    let ends = and_parts (leb bottom x) (ltb x top) parts.1 in
    record { by = eqb-true (creator L x) m parts.0; from = leb-true bottom x ends.0; to = ltb-true x top ends.1 }

is_in_line_from : (L : List Link) (m bottom top x : ℕ) → InLine L m bottom top x → is_in_line L m bottom top x ≡ true
is_in_line_from L m bottom top x i =
    and_from (eqb (creator L x) m) (leb bottom x && ltb x top) (eq-eqb (creator L x) m i.by)
    (and_from (leb bottom x) (ltb x top) (le-leb bottom x i.from) (lt-ltb x top i.to))

-- down a line

pub record IsWalked (L : List Link) (bottom top low time : ℕ) (old : List Timer) (last : ℕ) (now : List Timer) : Type 0 where
  pub within : last ≤ top
  pub same : 0 < last → creator L (last - 1) ≡ creator L (top - 1)
  pub above : (x : ℕ) → creator L x ≡ creator L (top - 1) → last ≤ x → x < top → bottom ≤ x
  pub ticked : AreTicked low time (is_in_line L (creator L (top - 1)) last top) old now

module _ (L : List Link) (bottom top low time : ℕ) (old : List Timer) where
  pub walk_none : IsWalked L bottom top low time old top old
  walk_none = record {
    within = omega arith;
    same = λ some. refl;
    above = λ x by from to. absurd (omega arith);
    ticked = ticked_none low time (is_in_line L (creator L (top - 1)) top top) old
        (λ x h. false_from_ne_true (is_in_line L (creator L (top - 1)) top top x) (λ e. let i = in_line L (creator L (top - 1)) top top x e in omega (arith, i.from, i.to)));
  }

  pub walk_next : (last next : ℕ) (now : List Timer) → IsWalked L bottom top low time old last now → bottom < last → low ≤ bottom → top ≤ low + length old →
      EndsBefore L (last - 1) next → IsWalked L bottom top low time old next (set now (last - 1 - low) (ticked time (timer_at now (last - 1 - low))))
  walk_next last next now w some low_bottom room before =
      let m = creator L (top - 1) in
      let y = last - 1 in
      let within = w.within in
      let next_low = before.low in
      let long = w.ticked.long in record {
        within = omega arith;
        same = λ more. before.same more ∙ w.same (omega arith);
        above = λ x by from to. elim (cases_lt x last) [
          | inl under ↦ elim (cases_eq x y) [
            | inl here ↦ omega arith
            | inr other ↦ (let less : x < next = before.all x (omega arith) (by ∙ sym (w.same (omega arith))) in absurd (omega arith))
          ]
          | inr over ↦ w.above x by over to
        ];
        ticked = ticked_both low time (is_in_line L m last top) (λ x. eqb x y) (is_in_line L m next top) old now _ w.ticked
            (ticked_here low time y (y - low) now (omega arith) (omega arith))
            (λ x h. same_tests (is_in_line L m next top x) (is_in_line L m last top x || eqb x y) (λ e. to x (in_line L m next top x e)) (λ e. back x (or_cases (is_in_line L m last top x) (eqb x y) e)))
            (λ x h e. let i = in_line L m last top x e in ne_eqb x y (λ here. omega (arith, i.from)));
      }
    where
      to : (x : ℕ) → InLine L (creator L (top - 1)) next top x → (is_in_line L (creator L (top - 1)) last top x || eqb x (last - 1)) ≡ true
      to x i = elim (cases_lt x last) [
        | inl under ↦ elim (cases_eq x (last - 1)) [
          | inl here ↦ or_right (is_in_line L (creator L (top - 1)) last top x) (eqb x (last - 1)) (eq-eqb x (last - 1) here)
          | inr other ↦ (let less : x < next = before.all x (omega arith) (i.by ∙ sym (w.same (omega arith))) in let from = i.from in absurd (omega arith))
        ]
        | inr over ↦ or_left (is_in_line L (creator L (top - 1)) last top x) (eqb x (last - 1)) (is_in_line_from L (creator L (top - 1)) last top x (record { by = i.by; from = over; to = i.to }))
      ]

      back : (x : ℕ) → (is_in_line L (creator L (top - 1)) last top x ≡ true) ⊎ (eqb x (last - 1) ≡ true) → is_in_line L (creator L (top - 1)) next top x ≡ true
      back x (inl e) =
          let i = in_line L (creator L (top - 1)) last top x e in
          let from = i.from in
          let low = before.low in
          is_in_line_from L (creator L (top - 1)) next top x (record { by = i.by; from = omega arith; to = i.to })
      back x (inr e) =
          let here = eqb-true x (last - 1) e in
          let low = before.low in
          let within = w.within in
          is_in_line_from L (creator L (top - 1)) next top x (record { by = ap (creator L) here ∙ w.same (omega arith); from = omega arith; to = omega arith })

  pub walk_done : (last : ℕ) (now : List Timer) → IsWalked L bottom top low time old last now → last ≤ bottom → AreTicked low time (is_in_line L (creator L (top - 1)) bottom top) old now
  walk_done last now w done =
      let m = creator L (top - 1) in
      ticked_same low time (is_in_line L m last top) (is_in_line L m bottom top) old now w.ticked
      (λ x h. same_tests (is_in_line L m last top x) (is_in_line L m bottom top x)
      (λ e. let i = in_line L m last top x e in is_in_line_from L m bottom top x (record { by = i.by; from = w.above x i.by i.from i.to; to = i.to }))
      (λ e. let i = in_line L m bottom top x e in let from = i.from in is_in_line_from L m last top x (record { by = i.by; from = omega arith; to = i.to })))

-- member by member: of the rows between the numbers those by the first members

abbrev pub is_between_under : List Link → List ℕ → List ℕ → List ℕ → ℕ → ℕ → Bool
is_between_under L before counts least m x = ltb (creator L x) m && is_between L before counts least x

record Between (L : List Link) (before counts least : List ℕ) (x : ℕ) : Type 0 where
  from : get_or before (creator L x) 0 ≤ x
  to : x < min (get_or counts (creator L x) 0) (get_or least (creator L x) 0)

between : (L : List Link) (before counts least : List ℕ) (x : ℕ) → is_between L before counts least x ≡ true → Between L before counts least x
between L before counts least x e =
    let m = creator L x in
    let ends = and_parts (leb (get_or before m 0) x) (ltb x (min (get_or counts m 0) (get_or least m 0))) e in
    record { from = leb-true (get_or before m 0) x ends.0; to = ltb-true x (min (get_or counts m 0) (get_or least m 0)) ends.1 }

is_between_from : (L : List Link) (before counts least : List ℕ) (x : ℕ) → Between L before counts least x → is_between L before counts least x ≡ true
is_between_from L before counts least x b =
    let m = creator L x in
    and_from (leb (get_or before m 0) x) (ltb x (min (get_or counts m 0) (get_or least m 0))) (le-leb (get_or before m 0) x b.from) (lt-ltb x (min (get_or counts m 0) (get_or least m 0)) b.to)

module _ (L : List Link) (before counts least : List ℕ) (low time : ℕ) (old : List Timer) where
  pub members_none : AreTicked low time (is_between_under L before counts least 0) old old
  members_none = ticked_none low time (is_between_under L before counts least 0) old
      (λ x h. and_left (ltb (creator L x) 0) (is_between L before counts least x) (le-ltb (creator L x) 0 (omega arith)))

  pub members_next : (m : ℕ) (mid new : List Timer) → AreEnds L counts least → AreTicked low time (is_between_under L before counts least m) old mid →
      AreTicked low time (is_in_line L (creator L (min (get_or counts m 0) (get_or least m 0) - 1)) (max low (get_or before m 0)) (min (get_or counts m 0) (get_or least m 0))) mid new →
      AreTicked low time (is_between_under L before counts least (m + 1)) old new
  members_next m mid new ends a b = ticked_both low time (is_between_under L before counts least m) here (is_between_under L before counts least (m + 1)) old mid new a b
      (λ x h. same_tests (is_between_under L before counts least (m + 1) x) (is_between_under L before counts least m x || here x) (to x h) (back x h)) apart
    where
      top : ℕ
      top = min (get_or counts m 0) (get_or least m 0)

      here : ℕ → Bool
      here = is_in_line L (creator L (min (get_or counts m 0) (get_or least m 0) - 1)) (max low (get_or before m 0)) (min (get_or counts m 0) (get_or least m 0))

      to : (x : ℕ) → low ≤ x → is_between_under L before counts least (m + 1) x ≡ true → (is_between_under L before counts least m x || here x) ≡ true
      to x h e =
          let parts = and_parts (ltb (creator L x) (m + 1)) (is_between L before counts least x) e in
          let b = between L before counts least x parts.1 in
          let next = ltb-true (creator L x) (m + 1) parts.0 in
          elim (cases_lt (creator L x) m) [
            | inl under ↦ or_left (is_between_under L before counts least m x) (here x) (and_from (ltb (creator L x) m) (is_between L before counts least x) (lt-ltb (creator L x) m under) parts.1)
            | inr over ↦
                (let is : creator L x ≡ m = omega arith in
                let from = rw is at b.from in
                let below = rw is at b.to in
                or_right (is_between_under L before counts least m x) (here x) (is_in_line_from L (creator L (top - 1)) (max low (get_or before m 0)) top x
                (record { by = is ∙ sym (ends m (omega arith)).1; from = omega arith; to = below })))
          ]

      back : (x : ℕ) → low ≤ x → (is_between_under L before counts least m x || here x) ≡ true → is_between_under L before counts least (m + 1) x ≡ true
      back x h e = elim (or_cases (is_between_under L before counts least m x) (here x) e) [
        | inl under ↦
            (let parts = and_parts (ltb (creator L x) m) (is_between L before counts least x) under in
            let less = ltb-true (creator L x) m parts.0 in
            and_from (ltb (creator L x) (m + 1)) (is_between L before counts least x) (lt-ltb (creator L x) (m + 1) (omega arith)) parts.1)
        | inr at ↦
            (let i = in_line L (creator L (top - 1)) (max low (get_or before m 0)) top x at in
            let from = i.from in
            let below = i.to in
            let is : creator L x ≡ m = i.by ∙ (ends m (omega arith)).1 in
            and_from (ltb (creator L x) (m + 1)) (is_between L before counts least x) (lt-ltb (creator L x) (m + 1) (omega arith))
            (is_between_from L before counts least x (record { from = rw is (omega arith); to = rw is below })))
      ]

      apart : (x : ℕ) → low ≤ x → is_between_under L before counts least m x ≡ true → here x ≡ false
      apart x h e = false_from_ne_true (here x) (λ at.
          let i = in_line L (creator L (top - 1)) (max low (get_or before m 0)) top x at in
          let below = i.to in
          let is : creator L x ≡ m = i.by ∙ (ends m (omega arith)).1 in
          let less = ltb-true (creator L x) m (and_parts (ltb (creator L x) m) (is_between L before counts least x) e).0 in
          omega arith)

  pub members_done : (m : ℕ) (new : List Timer) → length counts ≤ m → AreTicked low time (is_between_under L before counts least m) old new → AreTicked low time (is_between L before counts least) old new
  members_done m new all a = ticked_same low time (is_between_under L before counts least m) (is_between L before counts least) old new a
      (λ x h. same_tests (is_between_under L before counts least m x) (is_between L before counts least x)
      (λ e. (and_parts (ltb (creator L x) m) (is_between L before counts least x) e).1)
      (λ e. and_from (ltb (creator L x) m) (is_between L before counts least x) (lt-ltb (creator L x) m (under x (between L before counts least x e))) e))
    where
      under : (x : ℕ) → Between L before counts least x → creator L x < m
      under x b = elim (cases_lt (creator L x) m) [
        | inl less ↦ less
        | inr past ↦ (let none = get_or_past counts (creator L x) 0 (omega arith) in let to = b.to in absurd (omega arith))
      ]
