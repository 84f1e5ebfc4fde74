-- What a watch keeps, and how one row more changes it
use Rattle.std.proofs.Common.{◌≡◌, ◌≢◌, inl, inr, ℕ, zero, suc, ◌+◌, ◌<◌, ◌≤◌, ◌^◌, Bool, true, false, cond, List, [], ◌∷◌, ◌++◌, length, get_or, Option, refl, sym, ap, ◌∙◌, subst, arith, replicate, slice_set}
use Rattle.std.specs.Int.{from_bool}
use Rattle.std.proofs.lemmas.Bool.{cases_eq, true≢false}
use Rattle.std.proofs.lemmas.List.{length-set, get_or-set_same, get_or-set_other, get_or-replicate, length-replicate}
use Rattle.hg_model.specs.Places.{weight_below, some_below}
use Rattle.hg_model.specs.Stakes.{Stakes, member_count, stake_of}
use Rattle.hg_model.specs.Links.{Link, creator, parents, self_parent, other_parents}
use Rattle.hg_model.specs.Forks.{has_fork, forkers, forking}
use Rattle.hg_model.specs.Graph.{IsShaped}
use Rattle.hg_model.specs.Shape.{FitsLink}
use Rattle.hg_model.proofs.PlacesLaws.{weight_below-same, weight_below_none, count_below-le}
use Rattle.hg_model.proofs.StakeLaws.{stake_where-total, total-low}
use Rattle.hg_model.proofs.PushLaws.{shape-push}
use Rattle.hg_forks.specs.declared.line.Line.{Line}
use Rattle.hg_forks.specs.declared.line.Line.TheVariants.{Empty, Ends, Forked}
use Rattle.hg_forks.specs.SelfLinks.{self_link_of}
use Rattle.hg_forks.specs.Pairs.{IsForkPair}
use Rattle.hg_forks.specs.Lines.{fork_in, makes_fork, next_line, line_at, new_forkers, new_forking, lengthened, IsLineOf, KeepsLines}
use Rattle.hg_forks.proofs.LineLaws.{is_forked, has_fork_known, other_line, self_line, is_forked_next}

-- what passes weighs, by two tests that agree but at m
weight-changed : (weight : ℕ → ℕ) (n m : ℕ) (one two : ℕ → Bool) → m < n → ((k : ℕ) → k < n → k ≢ m → one k ≡ two k) →
    weight_below weight n two + cond (one m) (weight m) 0 ≡ weight_below weight n one + cond (two m) (weight m) 0
unfolding weight_below
weight-changed weight zero m one two h same = absurd (omega arith)
weight-changed weight (suc n) m one two h same = elim (cases_eq m n) [
  | inl last ↦ (let before = weight_below-same weight n one two (λ k hk. same k (omega arith) (λ e. absurd (omega arith))) in rw last (omega (arith, before)))
  | inr other ↦ (let before = weight-changed weight n m one two (omega arith) (λ k hk e. same k (omega arith) e) in
      let here : cond (one n) (weight n) 0 ≡ cond (two n) (weight n) 0 = ap (λ b. cond b (weight n) 0) (same n (omega arith) (λ e. other (sym e))) in
      omega (arith, before, here))
]

-- a weight that comes at a first fork is that of a fork from then on
weighed_next : (was makes is : Bool) (weight : ℕ) → from_bool is ≡ from_bool was + from_bool makes → cond is weight 0 ≡ cond was weight 0 + cond makes weight 0
weighed_next was makes is weight h = grind arith

one_each : (b : Bool) → from_bool b ≡ cond b 1 0
one_each true = refl
one_each false = refl

module _ (n : Stakes) (L : List Link) (lines : List Line) (forks weight : ℕ) (keeps : KeepsLines n L lines forks weight) where
  -- the fork that a line keeps
  pub fork_known : (m : ℕ) → m < member_count n → IsForkPair L m (fork_in (line_at lines m))
  fork_known m h = matches (line_at lines m) (keeps.matches m h)
    where
      matches : (line : Line) → IsLineOf L m line → IsForkPair L m (fork_in line)
      matches Empty t = has_fork_known n L keeps.shaped m Empty t
      matches (Ends last) t = has_fork_known n L keeps.shaped m (Ends last) t
      matches (Forked a b) t = t

  module _ (m : ℕ) (self_parent_of : Option ℕ) (fits : FitsLink n L (self_link_of m self_parent_of)) where
    abbrev pub M : List Link
    M = L ++ self_link_of m self_parent_of ∷ []

    abbrev line : Line
    line = line_at lines m

    abbrev next : Line
    next = next_line line self_parent_of (length L)

    member : m < member_count n
    member = fits.member

    shaped : IsShaped n M
    shaped = shape-push n L (self_link_of m self_parent_of) keeps.shaped fits

    other_line_kept : (k : ℕ) → k < member_count n → k ≢ m → IsLineOf M k (line_at lines k)
    other_line_kept k h other = other_line n L keeps.shaped m self_parent_of fits k (line_at lines k) other (keeps.matches k h)

    self_line_kept : IsLineOf M m next
    self_line_kept = self_line n L keeps.shaped m self_parent_of fits line (keeps.matches m member)

    -- what the members weigh that have a fork with the row
    weighed : (by : ℕ → ℕ) → weight_below by (member_count n) (has_fork M) ≡ weight_below by (member_count n) (has_fork L) + cond (makes_fork line self_parent_of) (by m) 0
    weighed by =
        let changed = weight-changed by (member_count n) m (has_fork L) (has_fork M) member (λ k h other.
        has_fork_known n L keeps.shaped k (line_at lines k) (keeps.matches k h)
        ∙ sym (has_fork_known n M shaped k (line_at lines k) (other_line_kept k h other))) in
        let old : cond (has_fork L m) (by m) 0 ≡ cond (is_forked line) (by m) 0 = ap (λ b. cond b (by m) 0) (has_fork_known n L keeps.shaped m line (keeps.matches m member)) in
        let new : cond (has_fork M m) (by m) 0 ≡ cond (is_forked next) (by m) 0 = ap (λ b. cond b (by m) 0) (has_fork_known n M shaped m next self_line_kept) in
        let step = weighed_next (is_forked line) (makes_fork line self_parent_of) (is_forked next) (by m) (is_forked_next line self_parent_of (length L)) in
        omega (arith, changed, old, new, step)

    -- how many members have a fork with the row, and their stake
    pub forkers_next : forks + new_forkers lines m self_parent_of ≡ forkers n M
    unfolding forkers
    forkers_next = (let before = keeps.count in omega (arith, weighed (λ _. 1), one_each (makes_fork line self_parent_of), before))

    pub forking_next : weight + new_forking n lines m self_parent_of ≡ forking n M
    unfolding forking
    forking_next = (let before = keeps.stake in omega (arith, weighed (stake_of n), before))

    pub forkers-fit : forks + new_forkers lines m self_parent_of < 2 ^ 32
    unfolding forkers
    forkers-fit = (let few = keeps.few in omega (arith, forkers_next, count_below-le (member_count n) (has_fork M)))

    pub forking-fit : weight + new_forking n lines m self_parent_of < 2 ^ 64
    unfolding forking
    forking-fit = (let low = keeps.low in omega (arith, forking_next, stake_where-total n (has_fork M)))

    -- one row more
    pub keeps_next : KeepsLines n M (lengthened lines m self_parent_of (length L)) (forks + new_forkers lines m self_parent_of) (weight + new_forking n lines m self_parent_of)
    keeps_next = record {
      few = keeps.few;
      low = keeps.low;
      long = length-set lines m next ∙ keeps.long;
      shaped = shaped;
      matches = λ k h. elim (cases_eq k m) [
        | inl self_place ↦ subst (λ j. IsLineOf M j (get_or (slice_set lines m next) j Empty)) (sym self_place)
            (subst (λ l. IsLineOf M m l) (sym (get_or-set_same lines m next Empty (rw keeps.long member))) self_line_kept)
        | inr other ↦ subst (λ l. IsLineOf M k l) (sym (get_or-set_other lines m k next Empty other)) (other_line_kept k h other)
      ];
      count = forkers_next;
      stake = forking_next;
    }

    -- what the fields then are
    pub keeps_added : (links : List Link) (longer : List Line) (count stake at : ℕ) → links ≡ M → at ≡ m → longer ≡ slice_set lines at next →
        count ≡ new_forkers lines m self_parent_of → stake ≡ new_forking n lines m self_parent_of → KeepsLines n links longer (forks + count) (weight + stake)
    keeps_added links longer count stake at is_links is_at is_longer is_count is_stake =
        rw (is_links, is_count, is_stake, is_longer ∙ ap (λ i. slice_set lines i next) is_at) keeps_next

-- no rows
pub keeps_none : (n : Stakes) (many : ℕ) → many ≡ member_count n → member_count n ≤ 128 → ((m : ℕ) → m < member_count n → stake_of n m < 2 ^ 32) → KeepsLines n [] (replicate many Empty) 0 0
unfolding forkers forking has_fork creator parents self_parent other_parents some_below
keeps_none n many is few low = record {
  few = omega arith;
  low = total-low n few low;
  long = length-replicate many Empty ∙ is;
  shaped = record {
    members = λ x inside. absurd (omega arith);
    earlier = record { earlier = λ x p h. absurd (true≢false (sym h)) };
    self_by_same = λ x p h. absurd (true≢false (sym h));
    others_by_others = λ x p h. absurd (true≢false (sym h));
  };
  matches = λ m h. subst (IsLineOf [] m) (sym (get_or-replicate many m Empty Empty (omega (arith, is)))) (λ x inside. absurd (omega arith));
  count = sym (weight_below_none (λ _. 1) (member_count n) (has_fork []) (λ k h e. true≢false (sym e)));
  stake = sym (weight_below_none (stake_of n) (member_count n) (has_fork []) (λ k h e. true≢false (sym e)));
}
