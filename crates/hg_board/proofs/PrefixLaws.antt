-- Prefixes of one list, and of two of them the longer
use Rattle.std.proofs.Common.{◌≡◌, ◌≤◌, List, [], ◌∷◌, ◌++◌, length, length-append, Bool, true, false, cond, nat_le, refl, ap, ◌∙◌, arith}
use Rattle.std.proofs.lemmas.List.{append-nil}
use Rattle.std.proofs.lemmas.Bool.Decides.{nat_tests}
use Rattle.hg_model.specs.Orders.{IsPrefix}
use Rattle.hg_life.specs.History.{Change}
use Rattle.hg_history.proofs.StateLaws.{prefix_same}
use Rattle.hg_board.specs.Steps.{longer, shorter}

module _ {A : Type 0} where
  pub prefix_self : (xs : List A) → IsPrefix xs xs
  prefix_self xs = prefix_same xs xs refl

  pub prefix_front : (xs ys : List A) → IsPrefix xs (xs ++ ys)
  prefix_front xs ys = (ys, refl)

  pub prefix_none : (ys : List A) → IsPrefix [] ys
  prefix_none ys = (ys, refl)

  pub prefix_length : (xs ys : List A) → IsPrefix xs ys → length xs ≤ length ys
  prefix_length xs ys p = omega (arith, length-append xs p.0, ap length p.1)

  -- of two prefixes of one list that which is not longer is a prefix of the other
  pub prefix_of_prefix : (xs ys zs : List A) → IsPrefix xs zs → IsPrefix ys zs → length xs ≤ length ys → IsPrefix xs ys
  prefix_of_prefix [] ys zs p q le = prefix_none ys
  prefix_of_prefix (x ∷ xs) [] zs p q le = absurd (omega arith)
  prefix_of_prefix (x ∷ xs) (y ∷ ys) [] p q le = absurd (cc (p.1))
  prefix_of_prefix (x ∷ xs) (y ∷ ys) (z ∷ zs) p q le =
      let here : x ≡ y = cc (p.1, q.1) in
      let front : IsPrefix xs zs = (p.0, cc (p.1)) in
      let other : IsPrefix ys zs = (q.0, cc (q.1)) in
      let rest = prefix_of_prefix xs ys zs front other (omega arith) in
      (rest.0, cc (here, rest.1))

  -- a prefix that is not shorter is the whole
  pub prefix_whole : (xs ys : List A) → IsPrefix xs ys → length ys ≤ length xs → ys ≡ xs
  prefix_whole xs ys p le = by p.0 p.1
    where
      by : (rest : List A) → ys ≡ xs ++ rest → ys ≡ xs
      by [] is = is ∙ append-nil xs
      by (z ∷ zs) is = absurd (omega (arith, le, ap length is, length-append xs (z ∷ zs)))

-- what is so of both is so of the longer and of the shorter
longer_by : (P : List Change → Type 0) (xs ys : List Change) (b : Bool) → P xs → P ys → P (cond b ys xs)
longer_by P xs ys true first second = second
longer_by P xs ys false first second = first

pub of_longer : (P : List Change → Type 0) (xs ys : List Change) → P xs → P ys → P (longer xs ys)
of_longer P xs ys first second = longer_by P xs ys (nat_le (length xs) (length ys)) first second

pub of_shorter : (P : List Change → Type 0) (xs ys : List Change) → P xs → P ys → P (shorter xs ys)
of_shorter P xs ys first second = longer_by P ys xs (nat_le (length xs) (length ys)) second first

pub record IsLongest (xs ys : List Change) (b : Bool) : Type 0 where
  pub first : length xs ≤ length (cond b ys xs)
  pub second : length ys ≤ length (cond b ys xs)
  pub other : length (cond b xs ys) ≤ length (cond b ys xs)

longest_by : (xs ys : List Change) (b : Bool) → nat_le (length xs) (length ys) ≡ b → IsLongest xs ys b
longest_by xs ys true e =
    let le : length xs ≤ length ys = grind (arith, nat_tests) in record { first = omega arith; second = omega arith; other = omega arith }
longest_by xs ys false e =
    let le : length ys ≤ length xs = grind (arith, nat_tests) in record { first = omega arith; second = omega arith; other = omega arith }

pub longest : (xs ys : List Change) → IsLongest xs ys (nat_le (length xs) (length ys))
longest xs ys = longest_by xs ys (nat_le (length xs) (length ys)) refl
