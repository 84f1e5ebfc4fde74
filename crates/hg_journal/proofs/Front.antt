-- The first bytes of a file say whether it is to be made anew.
use Rattle.std.proofs.Common.{◌≡◌, ◌⊎◌, inl, inr, ⊎_elim, ℕ, ◌≤◌, List, length, take, drop, sym, ◌∙◌, ap, subst, arith, length-take}
use Rattle.std.proofs.lemmas.List.{take_all, take-take}
use Rattle.hg_io.specs.FileView.{IsFilled}
use Rattle.hg_journal.specs.Writing.{AnewCases}
use Rattle.hg_journal.proofs.Fresh.{anew_short}

module _ (head : List ℕ) (eight : length head ≡ 8) (file : List ℕ) (k : ℕ) (filled : (length file ≤ k) ⊎ (11 ≤ k)) where
  all_there : length file ≤ 10 → take k file ≡ file
  all_there short = ⊎_elim (λ all. take_all k file all) (λ many. take_all k file (omega (arith, short, many))) filled

  -- where they say so, they are all of it
  pub front_whole : AnewCases head (take k file) → take k file ≡ file
  front_whole cases =
      let short = anew_short head eight (take k file) cases in
      ⊎_elim (λ all. take_all k file all) (λ many. all_there (omega (arith, short, many, length-take k file))) filled

  pub front_anew : AnewCases head (take k file) → AnewCases head file
  front_anew cases = subst (AnewCases head) (front_whole cases) cases

  pub front_old : (AnewCases head (take k file) → ⊥) → AnewCases head file → ⊥
  front_old old cases = old (subst (AnewCases head) (sym (all_there (anew_short head eight file cases))) cases)

  -- the head is there as in the file
  pub front_head : take 9 (take k file) ≡ take 9 file
  front_head = ⊎_elim (λ all. ap (λ (l : List ℕ). take 9 l) (take_all k file all)) (λ many. take-take 9 k file (omega (arith, many))) filled

-- the same of a buffer of eleven bytes that was filled with them
module _ (head : List ℕ) (eight : length head ≡ 8) (file : List ℕ) (k : ℕ) (buf : List ℕ) (long : length buf ≡ 11) (filled : IsFilled k buf (drop 0 file)) where
  enough : (length file ≤ k) ⊎ (11 ≤ k)
  enough = ⊎_elim (λ all. inl all) (λ full. inr (omega (arith, full, long))) filled.1

  pub says_whole : AnewCases head (take k buf) → take k buf ≡ file
  says_whole cases = filled.0 ∙ front_whole head eight file k enough (subst (AnewCases head) filled.0 cases)

  pub says_anew : AnewCases head (take k buf) → AnewCases head file
  says_anew cases = front_anew head eight file k enough (subst (AnewCases head) filled.0 cases)

  pub says_old : (AnewCases head (take k buf) → ⊥) → AnewCases head file → ⊥
  says_old old = front_old head eight file k enough (λ cases. old (subst (AnewCases head) (sym filled.0) cases))

  pub says_head : take 9 (take k buf) ≡ take 9 file
  says_head = ap (λ (l : List ℕ). take 9 l) filled.0 ∙ front_head head eight file k enough
