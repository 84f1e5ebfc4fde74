-- What a table keeps, and how one row more changes it
use Rattle.std.proofs.Common.{◌≡◌, inl, inr, ℕ, zero, suc, ◌+◌, ◌<◌, ◌≤◌, Bool, true, false, cond, ◌&&◌, eqb, max, List, [], ◌∷◌, ◌++◌, length, slice_set, refl, sym, ap, ◌∙◌, subst, arith}
use Rattle.std.proofs.lemmas.Bool.{cases_lt, cases_eq, ne_eqb, eq-eqb}
use Rattle.std.proofs.lemmas.List.{length_push, length-set, get_or_append_left, get_or_push, get_or-set_same, get_or-set_other, append-nil}
use Rattle.hg_model.specs.Places.{list_below, maximum_below}
use Rattle.hg_model.specs.Standings.{Standing, witnesses_in, greatest_in}
use Rattle.hg_rounds.specs.Tabled.{standing, list_at, KeepsLists}
use Rattle.hg_rounds.proofs.StandingLaws.{witnesses_in_above, witnesses_in_push, greatest_in_push, by_row_push}

none_of : (lists : List (List ℕ)) → length lists ≡ 2 → list_at lists 0 ≡ [] → list_at lists 1 ≡ [] → (r : ℕ) → r < length lists → list_at lists r ≡ []
none_of lists two zeroth one zero h = zeroth
none_of lists two zeroth one (suc zero) h = one
none_of lists two zeroth one (suc (suc r)) h = absurd (omega arith)

pub no_witnesses : (r : ℕ) → witnesses_in [] r ≡ []
unfolding witnesses_in list_below
no_witnesses r = refl

-- no rows: the lists of round 0 and of round 1
pub keeps_none : (zeroth one : List ℕ) → zeroth ≡ [] → one ≡ [] → KeepsLists [] (zeroth ∷ one ∷ []) 0 0
unfolding greatest_in maximum_below
keeps_none zeroth one none_zeroth none_one =
    let none = none_of (zeroth ∷ one ∷ []) refl none_zeroth none_one in
    record {
      by_row = record { first = λ x h. absurd (omega arith); next = λ x h. absurd (omega arith) };
      greatest = refl;
      long = refl;
      matches = λ r h. none r h ∙ sym (no_witnesses r);
      within = λ r h. omega (arith, ap length (none r h));
    }

module _ (S : List Standing) (lists : List (List ℕ)) (top longest : ℕ) (keeps : KeepsLists S lists top longest) where
  module _ (round : ℕ) (witness : Bool) (first : 1 ≤ round) (next : round ≤ top + 1) where
    abbrev pub T : List Standing
    T = S ++ standing round witness ∷ []

    -- the lists once the new row is in its own, if it is a witness
    pub record Marked (marked : List (List ℕ)) (most : ℕ) : Type 0 where
      pub long : length marked ≡ length lists
      pub matches : (r : ℕ) → r < length lists → list_at marked r ≡ witnesses_in T r
      pub within : (r : ℕ) → r < length lists → length (list_at marked r) ≤ most

    pub marked_not : witness ≡ false → Marked lists longest
    marked_not fails = record {
      long = refl;
      matches = λ r h. keeps.matches r h
          ∙ (sym (append-nil (witnesses_in S r))
          ∙ (ap (λ b. witnesses_in S r ++ cond (b && eqb round r) (length S ∷ []) []) (sym fails)
          ∙ sym (witnesses_in_push S (standing round witness) r)));
      within = keeps.within;
    }

    pub marked_set : (grown : List ℕ) (most : ℕ) → witness ≡ true → grown ≡ list_at lists round ++ length S ∷ [] → most ≡ max longest (length grown) → Marked (slice_set lists round grown) most
    marked_set grown most passes is most_is =
        let there : round < length lists = (let long = keeps.long in omega arith) in
        record {
          long = length-set lists round grown;
          matches = λ r h. elim (cases_eq r round) [
            | inl here ↦ subst (λ k. list_at (slice_set lists round grown) k ≡ witnesses_in T k) (sym here)
                (get_or-set_same lists round grown [] there
                ∙ (is
                ∙ (ap (λ xs. xs ++ length S ∷ []) (keeps.matches round there)
                ∙ (ap (λ b. witnesses_in S round ++ cond b (length S ∷ []) []) (sym (ap (λ b. b && eqb round round) passes ∙ eq-eqb round round refl))
                ∙ sym (witnesses_in_push S (standing round witness) round)))))
            | inr other ↦
                get_or-set_other lists round r grown [] other
                ∙ (keeps.matches r h
                ∙ (sym (append-nil (witnesses_in S r))
                ∙ (ap (λ b. witnesses_in S r ++ cond b (length S ∷ []) []) (sym (ap (λ b. b && eqb round r) passes ∙ ne_eqb round r (λ e. other (sym e))))
                ∙ sym (witnesses_in_push S (standing round witness) r))))
          ];
          within = λ r h. elim (cases_eq r round) [
            | inl here ↦ omega (arith, ap (λ k. length (list_at (slice_set lists round grown) k)) here, ap length (get_or-set_same lists round grown [] there))
            | inr other ↦ omega (arith, ap length (get_or-set_other lists round r grown [] other), keeps.within r h)
          ];
        }

    module _ (marked : List (List ℕ)) (most : ℕ) (m : Marked marked most) where
      by_row : Rattle.hg_rounds.specs.Tabled.IsByRow T
      by_row = by_row_push S (standing round witness) keeps.by_row first (rw (← keeps.greatest) next)

      greatest_is : greatest_in T ≡ max top round
      greatest_is = greatest_in_push S (standing round witness) ∙ ap (λ k. max k round) (sym keeps.greatest)

      -- in a round that is there
      pub keeps_stayed : round ≤ top → KeepsLists T marked top most
      keeps_stayed low = record {
        by_row = by_row;
        greatest = omega (arith, greatest_is);
        long = m.long ∙ keeps.long;
        matches = λ r h. m.matches r (omega (arith, m.long));
        within = λ r h. m.within r (omega (arith, m.long));
      }

      -- in the next round, which has a list after it then
      pub keeps_opened : (empty : List ℕ) → top < round → empty ≡ [] → KeepsLists T (marked ++ empty ∷ []) round most
      keeps_opened empty high none =
          let long : length (marked ++ empty ∷ []) ≡ length lists + 1 = length_push marked empty ∙ ap (λ k. k + 1) m.long in
          let all : length lists ≡ top + 2 = keeps.long in
          let top_is : greatest_in T ≡ round = omega (arith, greatest_is) in
          let last : (r : ℕ) → length lists ≤ r → r < length (marked ++ empty ∷ []) → list_at (marked ++ empty ∷ []) r ≡ [] =
          λ r past h. get_or_push marked empty [] r (omega (arith, m.long)) ∙ none in
          record {
            by_row = by_row;
            greatest = sym top_is;
            long = omega arith;
            matches = λ r h. elim (cases_lt r (length lists)) [
              | inl before ↦ get_or_append_left marked (empty ∷ []) [] r (omega (arith, m.long)) ∙ m.matches r before
              | inr past ↦ last r past h ∙ sym (witnesses_in_above T r (omega arith))
            ];
            within = λ r h. elim (cases_lt r (length lists)) [
              | inl before ↦ omega (arith, ap length (get_or_append_left marked (empty ∷ []) [] r (omega (arith, m.long))), m.within r before)
              | inr past ↦ omega (arith, ap length (last r past h))
            ];
          }
