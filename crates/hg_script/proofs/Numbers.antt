-- What is spelled never falls as digits follow.
use Rattle.std.proofs.Common.{◌≡◌, ℕ, ◌<◌, ◌≤◌, ◌+◌, ◌-◌, ◌*◌, ◌^◌, List, [], ◌∷◌, length, get_or, drop, true, Err, sym, arith, inl, inr}
use Rattle.std.proofs.lemmas.Bool.{cases_Bool, le-ltb}
use Rattle.std.proofs.lemmas.List.{drop_more}
use Rattle.hg_life.specs.Members.{is_digit}
use Rattle.hg_script.specs.declared.fault.Why.TheVariants.{Number}
use Rattle.hg_script.specs.Argument.{below, value_after}

below_large : (n : ℕ) (rest : List ℕ) → 2 ^ 64 ≤ n → below (2 ^ 64) (value_after n rest) ≡ Err Number
below_large n [] large = rw (le-ltb n (2 ^ 64) large)
below_large n (b ∷ rest) large =
    elim (cases_Bool (is_digit b)) [
      | inl digit ↦ rw digit (below_large (n * 10 + (b - 48)) rest (omega arith))
      | inr other ↦ rw other
    ]

-- a digit too many, at the place i
pub below_stops : (word : List ℕ) (i n : ℕ) → i < length word → value_after 0 word ≡ value_after n (drop i word) → is_digit (get_or word i 0) ≡ true
    → 2 ^ 64 ≤ n * 10 + (get_or word i 0 - 48) → Err Number ≡ below (2 ^ 64) (value_after 0 word)
below_stops word i n within spelled digit large =
    rw (spelled, drop_more word i 0 within, digit) (sym (below_large (n * 10 + (get_or word i 0 - 48)) (drop (i + 1) word) large))
