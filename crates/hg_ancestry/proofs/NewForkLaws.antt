-- Which members have a fork among the ancestors of a new row, parent by parent
use Rattle.std.proofs.Common.{◌≡◌, ℕ, ◌<◌, ◌≤◌, ◌||◌, ◌&&◌, eqb, true, false, Bool, List, [], ◌∷◌, ◌++◌, length, sym, subst, ap, ap₂, ◌∙◌, refl, inl, inr, ◌⊎◌, arith}
use Rattle.std.proofs.lemmas.Bool.{cases_Bool, both_ways, false_from_ne_true, or_cases, or_left, or_right, and_parts, and_from, eq-eqb, eqb-true, true≢false}
use Rattle.hg_model.specs.Places.{has_place, IsEarlier}
use Rattle.hg_model.specs.Stakes.{Stakes}
use Rattle.hg_model.specs.Links.{Link, parents, self_parent, first_place, creator}
use Rattle.hg_model.specs.Ancestry.{is_ancestor, is_self_ancestor, some_ancestor}
use Rattle.hg_model.specs.Forks.{is_fork, has_fork_below}
use Rattle.hg_model.specs.Graph.{IsShaped}
use Rattle.hg_model.specs.Shape.{FitsLink, link_of}
use Rattle.hg_model.proofs.ReachLaws.{bool_iff, has_place_first, one_there, list_any_found, list_any_from}
use Rattle.hg_model.proofs.AncestryLaws.{is_ancestor_self, is_ancestor-le, is_ancestor_cases, is_ancestor-trans, is_self_ancestor_self, is_self_ancestor_by, is_self_ancestor_cases, is_self_ancestor-le}
use Rattle.hg_model.proofs.SightLaws.{some_ancestor_found, is_ancestor-from_self, has_fork_below_from}
use Rattle.hg_model.proofs.ForkLaws.{Fork, fork_is, is_fork_from}
use Rattle.hg_model.proofs.PushLaws.{creator_last, shape-push}
use Rattle.hg_model.proofs.LongerLaws.{IsLonger, longer-append, creator-longer, is_self_ancestor-longer}
use Rattle.hg_ancestry.specs.Held.{is_above, is_apart, forks_with}
use Rattle.hg_ancestry.proofs.GrowLaws.{parents_last, above_last}
use Rattle.hg_ancestry.proofs.UnionLaws.{IsClosed, fork_in, fork_in_found, fork_in_from, fork_in_grows, union, union_forks, apart_found, apart_from, apart-same}

pub has_fork_below_found : (L : List Link) → IsEarlier (parents L) → (x m : ℕ) → has_fork_below L x m ≡ true →
    (a : ℕ) × (b : ℕ) × (is_ancestor L x a ≡ true) × (is_ancestor L x b ≡ true) × Fork L m a b
unfolding has_fork_below
has_fork_below_found L e x m h =
    let one = some_ancestor_found L e x (λ a. some_ancestor L x (is_fork L m a)) h in
    let two = some_ancestor_found L e x (is_fork L m one.0) one.3 in
    (one.0, two.0, one.2, two.2, fork_is L m one.0 two.0 two.3)

-- a row without parents has no fork above it
pub no_fork_alone : (n : Stakes) (L : List Link) (m by : ℕ) → IsShaped n L → FitsLink n L (link_of by []) → has_fork_below (L ++ link_of by [] ∷ []) (length L) m ≡ false
no_fork_alone n L m by s fits =
    let link : Link = link_of by [] in
    let M = L ++ link ∷ [] in
    let e = (shape-push n L link s fits).earlier in
    let only : (a : ℕ) → is_ancestor M (length L) a ≡ true → length L ≡ a = λ a up. elim (is_ancestor_cases M e (length L) a up) [
      | inl same ↦ same
      | inr above ↦ absurd (true≢false (sym (subst (λ ps. has_place ps above.0 ≡ true) (parents_last n L link s fits) above.1)))
    ] in
    false_from_ne_true (has_fork_below M (length L) m) (λ h.
    let f = has_fork_below_found M e (length L) m h in
    let same : f.0 ≡ f.1 = sym (only f.0 f.2) ∙ only f.1 f.3 in
    absurd (both_ways (is_self_ancestor M f.0 f.1) f.4.not_above (subst (λ b. is_self_ancestor M f.0 b ≡ true) same (is_self_ancestor_self M e f.0))))

-- m has a fork among the rows of this set and a new row by this member on the self-parent p: it is among the rows of the set, or
-- the new row is its first row, and the other is off the line of p
abbrev pub forks_next : List Link → ℕ → ℕ → (ℕ → Bool) → ℕ → Bool
forks_next L p by S m = fork_in L S m || (eqb m by && is_apart L S (is_self_ancestor L p) m)

pub forks_with-same : (L : List Link) (by : ℕ) (A B : ℕ → Bool) (q m : ℕ) → ((a : ℕ) → a < length L → A a ≡ B a) → forks_with L by A q m ≡ forks_with L by B q m
forks_with-same L by A B q m same =
    ap₂ (λ (here there : Bool). has_fork_below L q m || ((eqb m by || here) && there))
    (apart-same L m A (is_ancestor L q) B (is_ancestor L q) same (λ a h. refl)) (apart-same L m (is_ancestor L q) A (is_ancestor L q) B (λ a h. refl) same)

module _ (L : List Link) (e : IsEarlier (parents L)) where
  closed_one : (q : ℕ) → IsClosed L (is_ancestor L q)
  closed_one q = record { closed = λ a b up line. is_ancestor-trans L e q a b up (is_ancestor-from_self L e a b line) }

  pub closed_above : (ps : List ℕ) → IsClosed L (is_above L ps)
  closed_above ps = record {
    closed = λ a b up line.
        let p = list_any_found (λ p. is_ancestor L p a) ps up in
        list_any_from (λ p. is_ancestor L p b) ps p.0 p.1 (is_ancestor-trans L e p.0 a b p.2 (is_ancestor-from_self L e a b line));
  }

  -- the forks below a row are those among its ancestors
  pub forks_of_one : (q m : ℕ) → q < length L → fork_in L (is_ancestor L q) m ≡ has_fork_below L q m
  forks_of_one q m hq = bool_iff (fork_in L (is_ancestor L q) m) (has_fork_below L q m)
      (λ h.
      let f = fork_in_found L m (is_ancestor L q) h in
      has_fork_below_from L e q f.0 f.1 m f.4 f.5 (is_fork_from L m f.0 f.1 f.6))
      (λ h.
      let f = has_fork_below_found L e q m h in
      let low_a : f.0 ≤ q = is_ancestor-le L e q f.0 f.2 in
      let low_b : f.1 ≤ q = is_ancestor-le L e q f.1 f.3 in
      fork_in_from L m (is_ancestor L q) f.0 f.1 (omega arith) (omega arith) f.2 f.3 f.4)

module _ (L : List Link) (p by m : ℕ) where
  next_inside : (S : ℕ → Bool) → fork_in L S m ≡ true → forks_next L p by S m ≡ true
  next_inside S h = or_left (fork_in L S m) (eqb m by && is_apart L S (is_self_ancestor L p) m) h

  next_on_new : (S : ℕ → Bool) (b : ℕ) → m ≡ by → b < length L → S b ≡ true → is_self_ancestor L p b ≡ false → creator L b ≡ m → forks_next L p by S m ≡ true
  next_on_new S b made hb here off by_m =
      or_right (fork_in L S m) (eqb m by && is_apart L S (is_self_ancestor L p) m)
      (and_from (eqb m by) (is_apart L S (is_self_ancestor L p) m) (eq-eqb m by made) (apart_from L m S (is_self_ancestor L p) b hb here off by_m))

  next_cases : (S : ℕ → Bool) → forks_next L p by S m ≡ true →
      (fork_in L S m ≡ true) ⊎ ((b : ℕ) × (m ≡ by) × (b < length L) × (S b ≡ true) × (is_self_ancestor L p b ≡ false) × (creator L b ≡ m))
  next_cases S h = elim (or_cases (fork_in L S m) (eqb m by && is_apart L S (is_self_ancestor L p) m) h) [
    | inl inside ↦ inl inside
    | inr on_new ↦
        (let parts = and_parts (eqb m by) (is_apart L S (is_self_ancestor L p) m) on_new in
        let b = apart_found L m S (is_self_ancestor L p) parts.1 in
        inr (b.0, eqb-true m by parts.0, b.1, b.2, b.3, b.4))
  ]

  forks_next-grows : (A B : ℕ → Bool) → ((a : ℕ) → a < length L → A a ≡ true → B a ≡ true) → forks_next L p by A m ≡ true → forks_next L p by B m ≡ true
  forks_next-grows A B more h = elim (next_cases A h) [
    | inl inside ↦ next_inside B (fork_in_grows L m A B more inside)
    | inr b ↦ next_on_new B b.0 b.1 b.2 (more b.0 b.2 b.3) b.4 b.5
  ]

  -- of two sets with the same rows
  pub forks_next-same : (A B : ℕ → Bool) → ((a : ℕ) → a < length L → A a ≡ B a) → forks_next L p by A m ≡ forks_next L p by B m
  forks_next-same A B same =
      bool_iff (forks_next L p by A m) (forks_next L p by B m) (forks_next-grows A B (λ a h here. sym (same a h) ∙ here)) (forks_next-grows B A (λ a h here. same a h ∙ here))

  module _ (e : IsEarlier (parents L)) (S : ℕ → Bool) (closed : IsClosed L S) (from_p : S p ≡ true) (q : ℕ) (hq : q < length L) where
    abbrev both : ℕ → Bool
    both = union S (is_ancestor L q)

    abbrev here : Bool
    here = eqb m by || is_apart L S (is_ancestor L q) m

    abbrev there : Bool
    there = is_apart L (is_ancestor L q) S m

    abbrev two : Bool
    two = (fork_in L S m || fork_in L (is_ancestor L q) m) || (is_apart L S (is_ancestor L q) m && there)

    two_are : fork_in L both m ≡ two
    two_are = union_forks L m S (is_ancestor L q) closed (closed_one L e q)

    known : forks_next L p by S m ≡ true → (forks_next L p by S m || forks_with L by S q m) ≡ true
    known h = or_left (forks_next L p by S m) (forks_with L by S q m) h

    below_q : has_fork_below L q m ≡ true → (forks_next L p by S m || forks_with L by S q m) ≡ true
    below_q h = or_right (forks_next L p by S m) (forks_with L by S q m) (or_left (has_fork_below L q m) (here && there) h)

    anew : here ≡ true → there ≡ true → (forks_next L p by S m || forks_with L by S q m) ≡ true
    anew one other = or_right (forks_next L p by S m) (forks_with L by S q m) (or_right (has_fork_below L q m) (here && there) (and_from here there one other))

    more_told : forks_next L p by both m ≡ true → (forks_next L p by S m || forks_with L by S q m) ≡ true
    more_told h = elim (next_cases both h) [
      | inl inside ↦ elim (or_cases (fork_in L S m || fork_in L (is_ancestor L q) m) (is_apart L S (is_ancestor L q) m && there) (sym two_are ∙ inside)) [
        | inl one_set ↦ elim (or_cases (fork_in L S m) (fork_in L (is_ancestor L q) m) one_set) [
          | inl first ↦ known (next_inside S first)
          | inr second ↦ below_q (sym (forks_of_one L e q m hq) ∙ second)
        ]
        | inr apart ↦
            (let parts = and_parts (is_apart L S (is_ancestor L q) m) there apart in
            anew (or_right (eqb m by) (is_apart L S (is_ancestor L q) m) parts.0) parts.1)
      ]
      | inr b ↦ elim (cases_Bool (S b.0)) [
        | inl first ↦ known (next_on_new S b.0 b.1 b.2 first b.4 b.5)
        | inr out ↦
            (let above : is_ancestor L q b.0 ≡ true = elim (or_cases (S b.0) (is_ancestor L q b.0) b.3) [
              | inl first ↦ absurd (both_ways (S b.0) out first)
              | inr second ↦ second
            ] in
            anew (or_left (eqb m by) (is_apart L S (is_ancestor L q) m) (eq-eqb m by b.1)) (apart_from L m (is_ancestor L q) S b.0 b.2 above out b.5))
      ]
    ]

    more_there : (forks_next L p by S m || forks_with L by S q m) ≡ true → forks_next L p by both m ≡ true
    more_there h = elim (or_cases (forks_next L p by S m) (forks_with L by S q m) h) [
      | inl before ↦ forks_next-grows S both (λ a ha up. or_left (S a) (is_ancestor L q a) up) before
      | inr with_q ↦ elim (or_cases (has_fork_below L q m) (here && there) with_q) [
        | inl below ↦ next_inside both (fork_in_grows L m (is_ancestor L q) both (λ a ha up. or_right (S a) (is_ancestor L q a) up) (forks_of_one L e q m hq ∙ below))
        | inr apart ↦
            (let parts = and_parts here there apart in
            elim (or_cases (eqb m by) (is_apart L S (is_ancestor L q) m) parts.0) [
              | inl made ↦
                  (let b = apart_found L m (is_ancestor L q) S parts.1 in
                  next_on_new both b.0 (eqb-true m by made) b.1 (or_right (S b.0) (is_ancestor L q b.0) b.2)
                  (false_from_ne_true (is_self_ancestor L p b.0) (λ line. both_ways (S b.0) b.3 (closed.closed p b.0 from_p line))) b.4)
              | inr first ↦ next_inside both (two_are
                  ∙ or_right (fork_in L S m || fork_in L (is_ancestor L q) m) (is_apart L S (is_ancestor L q) m && there) (and_from (is_apart L S (is_ancestor L q) m) there first parts.1))
            ])
      ]
    ]

    -- with one parent more
    pub forks_more : forks_next L p by (union S (is_ancestor L q)) m ≡ (forks_next L p by S m || forks_with L by S q m)
    forks_more = bool_iff (forks_next L p by both m) (forks_next L p by S m || forks_with L by S q m) more_told more_there

module _ (n : Stakes) (L : List Link) (s : IsShaped n L) (by p : ℕ) (ps : List ℕ) (fits : FitsLink n L (link_of by (p ∷ ps))) (m : ℕ) where
  abbrev new_link : Link
  new_link = link_of by (p ∷ ps)

  abbrev grown : List Link
  grown = L ++ new_link ∷ []

  longer : IsLonger L grown
  longer = longer-append L (new_link ∷ [])

  before : IsEarlier (parents L)
  before = s.earlier

  after : IsEarlier (parents grown)
  after = (shape-push n L new_link s fits).earlier

  first_below : p < length L
  first_below = fits.earlier p (has_place_first p ps)

  self_is : self_parent grown (length L) ≡ p ∷ []
  unfolding self_parent
  self_is = ap first_place (parents_last n L new_link s fits)

  -- with the self-parent alone: its forks
  pub forks_first : forks_next L p by (is_ancestor L p) m ≡ has_fork_below L p m
  forks_first = bool_iff (forks_next L p by (is_ancestor L p) m) (has_fork_below L p m)
      (λ h. elim (next_cases L p by m (is_ancestor L p) h) [
        | inl inside ↦ sym (forks_of_one L before p m first_below) ∙ inside
        | inr b ↦
            (let le : b.0 ≤ p = is_ancestor-le L before p b.0 b.3 in
            has_fork_below_from L before p p b.0 m (is_ancestor_self L before p) b.3 (is_fork_from L m p b.0 (record {
              first = fits.self_by_same p (has_place_first p []) ∙ sym b.1;
              second = b.5;
              not_above = b.4;
              not_below = false_from_ne_true (is_self_ancestor L b.0 p) (λ up.
                  let ge : p ≤ b.0 = is_self_ancestor-le L before b.0 p up in
                  let same : b.0 ≡ p = omega arith in
                  both_ways (is_self_ancestor L p b.0) b.4 (subst (λ k. is_self_ancestor L p k ≡ true) (sym same) (is_self_ancestor_self L before p)));
            })))
      ])
      (λ h. next_inside L p by m (is_ancestor L p) (forks_of_one L before p m first_below ∙ h))

  -- the ancestors of the new row
  above_there : (a : ℕ) → is_above L (p ∷ ps) a ≡ true → is_ancestor grown (length L) a ≡ true
  above_there a up = above_last n L new_link s fits a ∙ or_right (eqb a (length L)) (is_above L (p ∷ ps) a) up

  above_cases : (a : ℕ) → is_ancestor grown (length L) a ≡ true → (a ≡ length L) ⊎ ((a < length L) × (is_above L (p ∷ ps) a ≡ true))
  above_cases a up = elim (or_cases (eqb a (length L)) (is_above L (p ∷ ps) a) (sym (above_last n L new_link s fits a) ∙ up)) [
    | inl last ↦ inl (eqb-true a (length L) last)
    | inr above ↦
        (let q = list_any_found (λ q. is_ancestor L q a) (p ∷ ps) above in
        let low : q.0 < length L = fits.earlier q.0 q.1 in
        let le : a ≤ q.0 = is_ancestor-le L before q.0 a q.2 in
        inr (omega arith, above))
  ]

  -- forks of rows before it
  fork_kept : (a b : ℕ) → a < length L → b < length L → Fork L m a b → Fork grown m a b
  fork_kept a b ha hb f = record {
    first = creator-longer L grown longer a ha ∙ f.first;
    second = creator-longer L grown longer b hb ∙ f.second;
    not_above = is_self_ancestor-longer L grown longer a b ha ∙ f.not_above;
    not_below = is_self_ancestor-longer L grown longer b a hb ∙ f.not_below;
  }

  fork_before : (a b : ℕ) → a < length L → b < length L → Fork grown m a b → Fork L m a b
  fork_before a b ha hb f = record {
    first = sym (creator-longer L grown longer a ha) ∙ f.first;
    second = sym (creator-longer L grown longer b hb) ∙ f.second;
    not_above = sym (is_self_ancestor-longer L grown longer a b ha) ∙ f.not_above;
    not_below = sym (is_self_ancestor-longer L grown longer b a hb) ∙ f.not_below;
  }

  -- forks of the new row: with rows by its creator off the line of its self-parent
  off_line : (b : ℕ) → b < length L → is_self_ancestor grown (length L) b ≡ false → is_self_ancestor L p b ≡ false
  off_line b hb off = false_from_ne_true (is_self_ancestor L p b) (λ line. both_ways (is_self_ancestor grown (length L) b) off
      (is_self_ancestor_by grown after (length L) p b (rw self_is (has_place_first p [])) (is_self_ancestor-longer L grown longer p b first_below ∙ line)))

  still_off : (b : ℕ) → b < length L → is_self_ancestor L p b ≡ false → is_self_ancestor grown (length L) b ≡ false
  still_off b hb off = false_from_ne_true (is_self_ancestor grown (length L) b) (λ up. elim (is_self_ancestor_cases grown after (length L) b up) [
    | inl same ↦ absurd (omega arith)
    | inr line ↦
        (let first : p ≡ line.0 = one_there p line.0 (subst (λ ps. has_place ps line.0 ≡ true) self_is line.1) in
        both_ways (is_self_ancestor L p b) off (sym (is_self_ancestor-longer L grown longer p b first_below) ∙ subst (λ k. is_self_ancestor grown k b ≡ true) (sym first) line.2))
  ])

  made_new : creator grown (length L) ≡ by
  made_new = creator_last n L new_link (length L) refl

  new_told : (b : ℕ) → b < length L → is_above L (p ∷ ps) b ≡ true → creator grown (length L) ≡ m → creator grown b ≡ m → is_self_ancestor grown (length L) b ≡ false →
      forks_next L p by (is_above L (p ∷ ps)) m ≡ true
  new_told b hb above by_new by_m off =
      next_on_new L p by m (is_above L (p ∷ ps)) b (sym by_new ∙ made_new) hb above (off_line b hb off) (sym (creator-longer L grown longer b hb) ∙ by_m)

  all_there : forks_next L p by (is_above L (p ∷ ps)) m ≡ true → has_fork_below grown (length L) m ≡ true
  all_there h = elim (next_cases L p by m (is_above L (p ∷ ps)) h) [
    | inl inside ↦
        (let f = fork_in_found L m (is_above L (p ∷ ps)) inside in
        has_fork_below_from grown after (length L) f.0 f.1 m (above_there f.0 f.4) (above_there f.1 f.5) (is_fork_from grown m f.0 f.1 (fork_kept f.0 f.1 f.2 f.3 f.6)))
    | inr b ↦
        (let low : b.0 < length L = b.2 in
        has_fork_below_from grown after (length L) (length L) b.0 m (is_ancestor_self grown after (length L)) (above_there b.0 b.3)
        (is_fork_from grown m (length L) b.0 (record {
          first = made_new ∙ sym b.1;
          second = creator-longer L grown longer b.0 b.2 ∙ b.5;
          not_above = still_off b.0 b.2 b.4;
          not_below = false_from_ne_true (is_self_ancestor grown b.0 (length L)) (λ up. absurd (omega (arith, is_self_ancestor-le grown after b.0 (length L) up)));
        })))
  ]

  all_told : has_fork_below grown (length L) m ≡ true → forks_next L p by (is_above L (p ∷ ps)) m ≡ true
  all_told h =
      let f = has_fork_below_found grown after (length L) m h in
      let a : ℕ = f.0 in
      let b : ℕ = f.1 in
      elim (above_cases a f.2) [
        | inl a_last ↦ elim (above_cases b f.3) [
          | inl b_last ↦ absurd (both_ways (is_self_ancestor grown a b) f.4.not_above (subst (λ k. is_self_ancestor grown a k ≡ true) (a_last ∙ sym b_last) (is_self_ancestor_self grown after a)))
          | inr old ↦ new_told b old.0 old.1 (subst (λ k. creator grown k ≡ m) a_last f.4.first) f.4.second (subst (λ k. is_self_ancestor grown k b ≡ false) a_last f.4.not_above)
        ]
        | inr a_old ↦ elim (above_cases b f.3) [
          | inl b_last ↦ new_told a a_old.0 a_old.1 (subst (λ k. creator grown k ≡ m) b_last f.4.second) f.4.first (subst (λ k. is_self_ancestor grown k a ≡ false) b_last f.4.not_below)
          | inr b_old ↦ next_inside L p by m (is_above L (p ∷ ps)) (fork_in_from L m (is_above L (p ∷ ps)) a b a_old.0 b_old.0 a_old.1 b_old.1 (fork_before a b a_old.0 b_old.0 f.4))
        ]
      ]

  -- with all parents: those of the new row
  pub forks_all : forks_next L p by (is_above L (p ∷ ps)) m ≡ has_fork_below (L ++ link_of by (p ∷ ps) ∷ []) (length L) m
  forks_all = bool_iff (forks_next L p by (is_above L (p ∷ ps)) m) (has_fork_below grown (length L) m) all_there all_told
