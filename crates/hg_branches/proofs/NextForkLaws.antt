-- Who has a fork above the next row, by the masks and the counts of its parents, one after the other
use Rattle.std.proofs.Common.{◌≡◌, ◌≢◌, ℕ, zero, suc, ◌+◌, ◌<◌, ◌≤◌, ◌||◌, ◌&&◌, eqb, true, false, Bool, List, [], ◌∷◌, ◌++◌, length, get_or, take, ◌-◌, ◌^◌, sym, ap, ap₂, ◌∙◌, subst, inl, inr, arith}
use Rattle.std.proofs.lemmas.Bool.{cases_Bool, cases_lt, eqb-true, ltb-true, or_cases, or_left, or_right}
use Rattle.std.proofs.lemmas.List.{length_push, take_all}
use Rattle.std.proofs.Math.Bool.{or-false, or_assoc}
use Rattle.hg_model.specs.Places.{has_place}
use Rattle.hg_model.specs.Stakes.{Stakes, member_count}
use Rattle.hg_model.specs.Links.{Link}
use Rattle.hg_model.specs.Ancestry.{is_ancestor}
use Rattle.hg_model.specs.Forks.{has_fork_below}
use Rattle.hg_model.specs.Shape.{FitsLink, link_of}
use Rattle.hg_model.proofs.AncestryLaws.{is_ancestor_self}
use Rattle.hg_model.proofs.ReachLaws.{has_place_first, has_place_later, none_there}
use Rattle.hg_bits.specs.Masks.{mask_has}
use Rattle.hg_ancestry.specs.Held.{HoldsForks, is_above, is_apart}
use Rattle.hg_ancestry.proofs.HeldLaws.{filled_next, other_there}
use Rattle.hg_ancestry.proofs.UnionLaws.{union}
use Rattle.hg_ancestry.proofs.NewForkLaws.{closed_above, no_fork_alone, forks_next as forks_above, forks_next-same, forks_first, forks_more, forks_all}
use Rattle.hg_branches.specs.Branches.{Branching}
use Rattle.hg_branches.specs.Columns.{branching_of, count_in, counts_more, forks_anew, forks_next, forks_up_to, joined_counts, put_at, with_branch, HoldsBranches, HoldsCounts}
use Rattle.hg_branches.proofs.HeldLaws.{Serves, branches_hold, in_reach}
use Rattle.hg_branches.proofs.PutLaws.{made_none}
use Rattle.hg_branches.proofs.SeenLaws.{CountsRows, counts_of_one, counts_of_all, apart_told, no_fork_on_one}

-- no member has a fork while each has one branch
pub no_fork_on_own : (n : Stakes) (L : List Link) (branches makers ends : List ℕ) → HoldsBranches n L branches makers ends → length makers ≡ member_count n → (x m : ℕ) → x < length L → has_fork_below L x m ≡ false
no_fork_on_own n L branches makers ends held one x m hx =
    no_fork_on_one L held.shaped.earlier (branching_of branches makers) held.lines (length makers) held.known x m m hx (λ a ha up by_m.
    let known : get_or branches a 0 < length makers = held.known a ha in
    sym (held.own (get_or branches a 0) (omega arith)) ∙ (sym (held.lines.made a ha) ∙ by_m))

-- nor where x counts rows of the members' own branches alone
pub no_fork_counted : (n : Stakes) (L : List Link) (branches makers ends : List ℕ) → HoldsBranches n L branches makers ends → (counts : List (List ℕ)) → HoldsCounts n L branches makers counts →
    (x m : ℕ) → x < length L → ((b : ℕ) → member_count n ≤ b → b < length makers → count_in counts x b ≡ 0) → has_fork_below L x m ≡ false
no_fork_counted n L branches makers ends held counts rows x m hx alone =
    no_fork_on_one L held.shaped.earlier (branching_of branches makers) held.lines (length makers) held.known x m m hx (λ a ha up by_m.
    let b : ℕ = get_or branches a 0 in
    let known : b < length makers = held.known a ha in
    let over : a < count_in counts x b = ltb-true a (count_in counts x b) ((rows.row x hx).told a ha ∙ up) in
    let own : b < member_count n = elim (cases_lt b (member_count n)) [ inl low ↦ low | inr past ↦ (let none = alone b past known in absurd (omega arith)) ] in
    sym (held.own b own) ∙ (sym (held.lines.made a ha) ∙ by_m))

-- the first of some places are among them
has_place_take : (ps : List ℕ) (i p : ℕ) → has_place (take i ps) p ≡ true → has_place ps p ≡ true
has_place_take ps zero p h = absurd (none_there p h)
has_place_take [] (suc i) p h = h
has_place_take (q ∷ ps) (suc i) p h = elim (or_cases (eqb q p) (has_place (take i ps) p) h) [
  | inl first ↦ or_left (eqb q p) (has_place ps p) first
  | inr later ↦ or_right (eqb q p) (has_place ps p) (has_place_take ps i p later)
]

module _ (n : Stakes) (L : List Link) (branches makers ends : List ℕ) (held : HoldsBranches n L branches makers ends) (counts : List (List ℕ)) (rows : HoldsCounts n L branches makers counts)
    (masks : List ℕ) (forks : HoldsForks L masks) (short : length L + 1 < 2 ^ 32 - 1) where
  abbrev B : Branching
  B = branching_of branches makers

  more_told : (A C : ℕ → Bool) (count other : ℕ → ℕ) → CountsRows L B A count → CountsRows L B C other → (m : ℕ) → counts_more makers count other m ≡ is_apart L A C m
  more_told A C count other = apart_told L held.shaped.earlier B held.lines (length makers) held.known A C count other

  module _ (by p : ℕ) (others : List ℕ) (fits : FitsLink n L (link_of by (p ∷ others))) (m : ℕ) where
    first_there : p < length L
    first_there = fits.earlier p (has_place_first p others)

    -- what the first parents count together
    joined_count : (i : ℕ) → CountsRows L B (is_above L (p ∷ take i others)) (joined_counts counts p (take i others))
    joined_count i = counts_of_all L B (count_in counts) (p ∷ take i others) (λ q h. rows.row q (elim (or_cases (eqb p q) (has_place (take i others) q) h) [
      | inl first ↦ subst (λ r. r < length L) (eqb-true p q first) first_there
      | inr later ↦ fits.earlier q (has_place_later p q others (has_place_take others i q later))
    ]))

    -- parent after parent, where counts are compared
    forks_told_up_to : (i : ℕ) → i ≤ length others → forks_up_to makers counts masks true p others by m i ≡ forks_above L p by (is_above L (p ∷ take i others)) m
    forks_told_up_to zero h =
        forks.mask p first_there m ∙ (sym (forks_first n L held.shaped by p others fits m)
        ∙ forks_next-same L p by m (is_ancestor L p) (is_above L (p ∷ [])) (λ a _. sym (or-false (is_ancestor L p a))))
    forks_told_up_to (suc i) h =
        let q : ℕ = get_or others i 0 in
        let inside : i < length others = omega arith in
        let hq : q < length L = other_there n L by p others fits i inside in
        let S : ℕ → Bool = is_above L (p ∷ take i others) in
        let one = counts_of_one L B q (count_in counts q) (rows.row q hq) in
        let anew : forks_anew makers (joined_counts counts p (take i others)) (count_in counts q) by m ≡ ((eqb m by || is_apart L S (is_ancestor L q) m) && is_apart L (is_ancestor L q) S m) =
        ap₂ (λ (a b : Bool). (eqb m by || a) && b) (more_told S (is_ancestor L q) (joined_counts counts p (take i others)) (count_in counts q) (joined_count i) one m)
        (more_told (is_ancestor L q) S (count_in counts q) (joined_counts counts p (take i others)) one (joined_count i) m) in
        or_assoc (forks_up_to makers counts masks true p others by m i) (mask_has (get_or masks q 0) m) (forks_anew makers (joined_counts counts p (take i others)) (count_in counts q) by m)
        ∙ (ap₂ (λ (a b : Bool). a || b) (forks_told_up_to i (omega arith)) (ap₂ (λ (a b : Bool). a || b) (forks.mask q hq m) anew)
        ∙ (sym (forks_more L p by m held.shaped.earlier S (closed_above L held.shaped.earlier (p ∷ take i others))
        (or_left (is_ancestor L p p) (is_above L (take i others) p) (is_ancestor_self L held.shaped.earlier p)) q hq)
        ∙ (forks_next-same L p by m (union S (is_ancestor L q)) (is_above L (p ∷ take (i + 1) others)) (λ a _. filled_next L p others i inside a)
        ∙ ap (λ k. forks_above L p by (is_above L (p ∷ take k others)) m) (let e : i + 1 ≡ suc i = omega arith in e))))

    -- and where each member has one branch
    none_told_up_to : length makers ≡ member_count n → (i : ℕ) → i ≤ length others → forks_up_to makers counts masks false p others by m i ≡ false
    none_told_up_to one zero h = forks.mask p first_there m ∙ no_fork_on_own n L branches makers ends held one p m first_there
    none_told_up_to one (suc i) h =
        let q : ℕ = get_or others i 0 in
        let hq : q < length L = other_there n L by p others fits i (omega arith) in
        ap₂ (λ (a b : Bool). (a || b) || false) (none_told_up_to one i (omega arith)) (forks.mask q hq m ∙ no_fork_on_own n L branches makers ends held one q m hq)

  -- the mask of the next row tells who has a fork above it
  pub forks_told : (on : List ℕ) (by : ℕ) (fits : FitsLink n L (link_of by on)) (b : ℕ) (serves : Serves L branches makers (link_of by on) b) (many : Bool) →
      (many ≡ false → (length makers ≡ member_count n) × (b ≢ length makers)) →
      (m : ℕ) → forks_next makers counts masks many on by m ≡ has_fork_below (L ++ link_of by on ∷ []) (length L) m
  forks_told [] by fits b serves many one m = sym (no_fork_alone n L m by held.shaped fits)
  forks_told (p ∷ others) by fits b serves many one m =
      let link : Link = link_of by (p ∷ others) in
      elim (cases_Bool many) [
        | inl is ↦
            ap (λ c. forks_up_to makers counts masks c p others by m (length others)) is
            ∙ (forks_told_up_to by p others fits m (length others) (omega arith)
            ∙ (ap (λ ps. forks_above L p by (is_above L (p ∷ ps)) m) (take_all (length others) others (omega arith)) ∙ forks_all n L held.shaped by p others fits m))
        | inr is_not ↦
            (let parts = one is_not in
            let same : with_branch makers b by ≡ makers = made_none makers b by (in_reach n L branches makers ends held link fits b serves) parts.1 in
            let after = branches_hold n L branches makers ends held link fits b serves short in
            let free : has_fork_below (L ++ link ∷ []) (length L) m ≡ false = no_fork_on_own n (L ++ link ∷ []) (branches ++ b ∷ []) (with_branch makers b by) (put_at ends b (length L + 1)) after
            (ap length same ∙ parts.0) (length L) m (omega (arith, length_push L link)) in
            ap (λ c. forks_up_to makers counts masks c p others by m (length others)) is_not ∙ (none_told_up_to by p others fits m parts.0 (length others) (omega arith) ∙ sym free))
      ]
