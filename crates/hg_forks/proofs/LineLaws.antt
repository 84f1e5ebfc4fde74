-- A member whose rows stand in one line has no fork, and a row that stands on another than the last makes one
use Rattle.std.proofs.Common.{◌≡◌, ◌≢◌, ◌⊎◌, inl, inr, ℕ, ◌+◌, ◌<◌, ◌≤◌, Bool, true, false, not, cond, eqb, List, [], ◌∷◌, ◌++◌, length, Option, Some, None, refl, sym, ap, ◌∙◌, subst, arith}
use Rattle.std.specs.Int.{from_bool}
use Rattle.std.proofs.lemmas.Bool.{cases_lt, cases_Bool, both_ways, false_from_ne_true, eqb-true, true≢false}
use Rattle.std.proofs.lemmas.List.{length_push, get_or_push}
use Rattle.hg_model.specs.Places.{has_place}
use Rattle.hg_model.specs.Stakes.{Stakes}
use Rattle.hg_model.specs.Links.{Link, first_place, self_parent, creator}
use Rattle.hg_model.specs.Ancestry.{is_self_ancestor}
use Rattle.hg_model.specs.Forks.{has_fork}
use Rattle.hg_model.specs.Graph.{IsShaped}
use Rattle.hg_model.specs.Shape.{FitsLink, place_list}
use Rattle.hg_model.proofs.ReachLaws.{has_place_first}
use Rattle.hg_model.proofs.LinkLaws.{parents_read}
use Rattle.hg_model.proofs.AncestryLaws.{is_self_ancestor_self, is_self_ancestor_by, is_self_ancestor_cases, is_self_ancestor-le}
use Rattle.hg_model.proofs.ForkLaws.{Fork, fork_is, is_fork_from, has_fork_from, has_fork_found, one_line}
use Rattle.hg_model.proofs.PushLaws.{creator_before, creator_last, shape-push}
use Rattle.hg_model.proofs.LongerLaws.{longer-append, is_self_ancestor-longer}
use Rattle.hg_forks.specs.declared.line.Line.{Line}
use Rattle.hg_forks.specs.declared.line.Line.TheVariants.{Empty, Ends, Forked}
use Rattle.hg_forks.specs.SelfLinks.{self_link_of}
use Rattle.hg_forks.specs.Pairs.{IsForkOf}
use Rattle.hg_forks.specs.Lines.{is_on, makes_fork, next_line, IsLast, IsLineOf}

-- the line keeps a fork
abbrev pub is_forked : Line → Bool
is_forked Empty = false
is_forked (Ends last) = false
is_forked (Forked a b) = true

module _ (n : Stakes) (L : List Link) (s : IsShaped n L) where
  none_without_rows : (m : ℕ) → ((x : ℕ) → x < length L → creator L x ≢ m) → has_fork L m ≡ false
  none_without_rows m none = false_from_ne_true (has_fork L m) (λ h.
      let found = has_fork_found L m h in none found.0 found.2 found.4.first)

  none_in_line : (m last : ℕ) → IsLast L m last → has_fork L m ≡ false
  none_in_line m last l = false_from_ne_true (has_fork L m) (λ h.
      let found = has_fork_found L m h in
      let a : ℕ = found.0 in
      let b : ℕ = found.1 in
      let fork : Fork L m a b = found.4 in
      elim (one_line L s.earlier last a b (l.above a found.2 fork.first) (l.above b found.3 fork.second)) [
        | inl above ↦ both_ways (is_self_ancestor L a b) fork.not_above above
        | inr below ↦ both_ways (is_self_ancestor L b a) fork.not_below below
      ])

  -- a line says whether its member has a fork
  pub has_fork_known : (m : ℕ) (line : Line) → IsLineOf L m line → has_fork L m ≡ is_forked line
  has_fork_known m Empty matches = none_without_rows m matches
  has_fork_known m (Ends last) matches = none_in_line m last matches
  has_fork_known m (Forked a b) matches = (let order = matches.order in let there = matches.there in has_fork_from L m a b (omega arith) there matches.fork)

  module _ (k : ℕ) (self_parent_of : Option ℕ) (fits : FitsLink n L (self_link_of k self_parent_of)) where
    abbrev pub link : Link
    link = self_link_of k self_parent_of

    abbrev pub M : List Link
    M = L ++ link ∷ []

    long : length M ≡ length L + 1
    long = length_push L link

    shaped : IsShaped n M
    shaped = shape-push n L link s fits

    creator_kept : (x : ℕ) → x < length L → creator M x ≡ creator L x
    creator_kept = creator_before n L link

    creator_new : creator M (length L) ≡ k
    creator_new = creator_last n L link (length L) refl

    kept : (x y : ℕ) → x < length L → is_self_ancestor M x y ≡ is_self_ancestor L x y
    kept = is_self_ancestor-longer L M (longer-append L (link ∷ []))

    self_parent_new : self_parent M (length L) ≡ place_list self_parent_of
    unfolding self_parent
    self_parent_new =
        ap first_place (parents_read M (length L) link (omega (arith, long)) (sym (get_or_push L link link (length L) refl)))
        ∙ first_of self_parent_of
      where
        first_of : (o : Option ℕ) → first_place (place_list o) ≡ place_list o
        first_of None = refl
        first_of (Some p) = refl

    -- each row is an old one or the new one
    row_cases : (x : ℕ) → x < length M → (x < length L) ⊎ (x ≡ length L)
    row_cases x h = elim (cases_lt x (length L)) [ inl before ↦ inl before | inr past ↦ inr (omega (arith, long)) ]

    fork_kept : (m a b : ℕ) → IsForkOf L m a b → IsForkOf M m a b
    fork_kept m a b f =
        let order = f.order in
        let there = f.there in
        let fork = fork_is L m a b f.fork in
        record {
          fork = is_fork_from M m a b (record {
            first = creator_kept a (omega arith) ∙ fork.first;
            second = creator_kept b there ∙ fork.second;
            not_above = kept a b (omega arith) ∙ fork.not_above;
            not_below = kept b a there ∙ fork.not_below;
          });
          order = order;
          there = omega (arith, long);
        }

    -- the lines of the other members stay
    pub other_line : (m : ℕ) (line : Line) → m ≢ k → IsLineOf L m line → IsLineOf M m line
    other_line m Empty other matches = λ x h by_m. elim (row_cases x h) [
      | inl before ↦ matches x before (sym (creator_kept x before) ∙ by_m)
      | inr last ↦ other (sym by_m ∙ (ap (creator M) last ∙ creator_new))
    ]
    other_line m (Ends last) other matches = (let there = matches.there in record {
      there = omega (arith, long);
      by_m = creator_kept last there ∙ matches.by_m;
      above = λ x h by_m. elim (row_cases x h) [
        | inl before ↦ kept last x there ∙ matches.above x before (sym (creator_kept x before) ∙ by_m)
        | inr new ↦ absurd (other (sym by_m ∙ (ap (creator M) new ∙ creator_new)))
      ];
    })
    other_line m (Forked a b) other matches = fork_kept m a b matches

    -- the new row is the last where all old ones of its member are self-ancestors of it
    new_last : ((x : ℕ) → x < length L → creator L x ≡ k → is_self_ancestor M (length L) x ≡ true) → IsLast M k (length L)
    new_last above = record {
      there = omega (arith, long);
      by_m = creator_new;
      above = λ x h by_m. elim (row_cases x h) [
        | inl before ↦ above x before (sym (creator_kept x before) ∙ by_m)
        | inr new ↦ subst (λ y. is_self_ancestor M (length L) y ≡ true) (sym new) (is_self_ancestor_self M shaped.earlier (length L))
      ];
    }

    is_on_self_parent : (o : Option ℕ) (last : ℕ) → is_on o last ≡ true → has_place (place_list o) last ≡ true
    is_on_self_parent None last h = absurd (true≢false (sym h))
    is_on_self_parent (Some p) last h = subst (λ q. has_place (p ∷ []) q ≡ true) (eqb-true p last h) (has_place_first p [])

    self_parent_is_on : (o : Option ℕ) (last : ℕ) → has_place (place_list o) last ≡ true → is_on o last ≡ true
    self_parent_is_on None last h = h
    self_parent_is_on (Some p) last h = elim (Rattle.std.proofs.lemmas.Bool.or_cases (eqb p last) false h) [
      | inl same ↦ same
      | inr none ↦ absurd (true≢false (sym none))
    ]

    on_last : (last : ℕ) → is_on self_parent_of last ≡ true → IsLast L k last → IsLast M k (length L)
    on_last last on l = new_last (λ x h by_k.
        is_self_ancestor_by M shaped.earlier (length L) last x
        (subst (λ ps. has_place ps last ≡ true) (sym self_parent_new) (is_on_self_parent self_parent_of last on))
        (kept last x l.there ∙ l.above x h by_k))

    -- on another row than the last, the new row does not have the last as self-ancestor
    not_below_last : (last : ℕ) → is_on self_parent_of last ≡ false → IsLast L k last → is_self_ancestor M (length L) last ≡ false
    not_below_last last off l = false_from_ne_true (is_self_ancestor M (length L) last) (λ up.
        let there = l.there in
        elim (is_self_ancestor_cases M shaped.earlier (length L) last up) [
          | inl same ↦ absurd (omega arith)
          | inr by ↦
              (let p : ℕ = by.0 in
              let on : has_place (place_list self_parent_of) p ≡ true = subst (λ ps. has_place ps p ≡ true) self_parent_new by.1 in
              let before : p < length L = fits.earlier p on in
              let by_k : creator L p ≡ k = fits.self_by_same p (subst (λ ps. has_place ps p ≡ true) (sym (first_of self_parent_of)) on) in
              let above : p ≤ last = is_self_ancestor-le L s.earlier last p (l.above p before by_k) in
              let below : last ≤ p = is_self_ancestor-le L s.earlier p last (sym (kept p last before) ∙ by.2) in
              let same : p ≡ last = omega arith in
              both_ways (is_on self_parent_of last) off (self_parent_is_on self_parent_of last (subst (λ q. has_place (place_list self_parent_of) q ≡ true) same on)))
        ])
      where
        first_of : (o : Option ℕ) → first_place (place_list o) ≡ place_list o
        first_of None = refl
        first_of (Some p) = refl

    off_last : (last : ℕ) → is_on self_parent_of last ≡ false → IsLast L k last → IsForkOf M k last (length L)
    off_last last off l =
        let there = l.there in
        record {
          fork = is_fork_from M k last (length L) (record {
            first = creator_kept last there ∙ l.by_m;
            second = creator_new;
            not_above = false_from_ne_true (is_self_ancestor M last (length L)) (λ up.
                let le = is_self_ancestor-le M shaped.earlier last (length L) up in absurd (omega arith));
            not_below = not_below_last last off l;
          });
          order = there;
          there = omega (arith, long);
        }

    -- the line of the new row's member
    pub self_line : (line : Line) → IsLineOf L k line → IsLineOf M k (next_line line self_parent_of (length L))
    self_line Empty matches = new_last (λ x h by_k. absurd (matches x h by_k))
    self_line (Ends last) matches = elim (cases_Bool (is_on self_parent_of last)) [
      | inl on ↦ subst (λ b. IsLineOf M k (cond b (Ends (length L)) (Forked last (length L)))) (sym on) (on_last last on matches)
      | inr off ↦ subst (λ b. IsLineOf M k (cond b (Ends (length L)) (Forked last (length L)))) (sym off) (off_last last off matches)
    ]
    self_line (Forked a b) matches = fork_kept k a b matches

-- a row makes a line forked where it makes the first fork
pub is_forked_next : (line : Line) (self_parent_of : Option ℕ) (x : ℕ) →
    from_bool (is_forked (next_line line self_parent_of x)) ≡ from_bool (is_forked line) + from_bool (makes_fork line self_parent_of)
is_forked_next Empty o x = refl
is_forked_next (Ends last) o x = either (is_on o last)
  where
    either : (b : Bool) → from_bool (is_forked (cond b (Ends x) (Forked last x))) ≡ 0 + from_bool (not b)
    either true = refl
    either false = refl
is_forked_next (Forked a b) o x = refl
