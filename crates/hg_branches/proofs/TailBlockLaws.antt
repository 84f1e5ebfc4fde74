-- Tails in sealed blocks and an open one, read as one list
use Rattle.std.proofs.Common.{ℕ, zero, suc, ◌≡◌, ◌≤◌, ◌<◌, ◌+◌, ◌-◌, ◌*◌, ◌/◌, ◌%◌, List, [], ◌∷◌, ◌++◌, length, take, drop, get_or, refl, sym, ap, ap₂, ◌∙◌, arith}
use Rattle.std.proofs.lemmas.List.{append_assoc, length-append, length-take, length-drop, take-append-drop, take-take, drop-take, get_or-take, get_or-drop}
use Rattle.std.specs.List.{flat_map, AllByRecursion, AllZip}
use Rattle.std.specs.declared.sync.Arc.{Arc}
use Rattle.hg_blocks.proofs.Flat.{length_flat, take_flat, list_flat, rest_flat}
use Rattle.hg_branches.specs.Tails.{Tail, TailsWithRoom, no_tail, tail_at}
use Rattle.hg_branches.specs.TailBlocks.{IsFull, joined_tails, tails_in}

-- where row x stands in its block
pub read_block : (xs : List Tail) (x : ℕ) → tail_at (take 64 (drop (64 * (x / 64)) xs)) (x % 64) ≡ tail_at xs x
read_block xs x =
    let place : 64 * (x / 64) + x % 64 ≡ x = omega arith in
    get_or-take 64 (drop (64 * (x / 64)) xs) (x % 64) no_tail (omega arith)
    ∙ (get_or-drop (64 * (x / 64)) xs (x % 64) no_tail ∙ ap (λ n. get_or xs n no_tail) place)

pub read_below : (xs : List Tail) (x : ℕ) → x < length xs → x % 64 < length (take 64 (drop (64 * (x / 64)) xs))
read_below xs x lt = omega (arith, length-take 64 (drop (64 * (x / 64)) xs), length-drop (64 * (x / 64)) xs)

module _ {A : Type 0} where
  pub full_more : (sealed : List (Arc TailsWithRoom A)) (block : Arc TailsWithRoom A) → AllByRecursion IsFull sealed → IsFull block → AllByRecursion IsFull (sealed ++ block ∷ [])
  full_more [] block full one = (one, tt)
  full_more (first ∷ sealed) block full one = (full.0, full_more sealed block full.1 one)

  full_take : (n : ℕ) (sealed : List (Arc TailsWithRoom A)) → AllByRecursion IsFull sealed → AllByRecursion IsFull (take n sealed)
  full_take zero sealed full = tt
  full_take (suc n) [] full = tt
  full_take (suc n) (block ∷ sealed) full = (full.0, full_take n sealed full.1)

  -- shared blocks have the same tails
  pub same_tails : (ones others : List (Arc TailsWithRoom A)) → AllZip (λ (one other : Arc TailsWithRoom A). other.value ≡ one.value) ones others → flat_map tails_in others ≡ flat_map tails_in ones
  same_tails [] [] same = refl
  same_tails [] (other ∷ others) same = elim same [ ]
  same_tails (one ∷ ones) [] same = elim same [ ]
  same_tails (one ∷ ones) (other ∷ others) same = ap₂ (λ xs ys. xs ++ ys) (ap (λ (block : TailsWithRoom). block.rows) same.0) (same_tails ones others same.1)

  full_same : (ones others : List (Arc TailsWithRoom A)) → AllZip (λ (one other : Arc TailsWithRoom A). other.value ≡ one.value) ones others → AllByRecursion IsFull ones → AllByRecursion IsFull others
  full_same [] [] same full = tt
  full_same [] (other ∷ others) same full = elim same [ ]
  full_same (one ∷ ones) [] same full = elim same [ ]
  full_same (one ∷ ones) (other ∷ others) same full = (ap (λ (block : TailsWithRoom). length block.rows) same.0 ∙ full.0, full_same ones others same.1 full.1)

  pub full_shared : (n : ℕ) (sealed others : List (Arc TailsWithRoom A)) → AllZip (λ (one other : Arc TailsWithRoom A). other.value ≡ one.value) (take n sealed) others → AllByRecursion IsFull sealed → AllByRecursion IsFull others
  full_shared n sealed others same full = full_same (take n sealed) others same (full_take n sealed full)

  -- sealing moves a block
  pub joined_sealed : (sealed : List (Arc TailsWithRoom A)) (block : Arc TailsWithRoom A) (open_rows : List Tail) → tails_in block ≡ open_rows → joined_tails (sealed ++ block ∷ []) [] ≡ joined_tails sealed open_rows
  joined_sealed [] block open_rows is = none ((tails_in block ++ [])) ∙ (none (tails_in block) ∙ is)
    where
      none : (xs : List Tail) → xs ++ [] ≡ xs
      none [] = refl
      none (x ∷ xs) = ap (λ ys. x ∷ ys) (none xs)
  joined_sealed (first ∷ sealed) block open_rows is =
      append_assoc (tails_in first) (flat_map tails_in (sealed ++ block ∷ [])) []
      ∙ (ap (λ xs. tails_in first ++ xs) (joined_sealed sealed block open_rows is) ∙ sym (append_assoc (tails_in first) (flat_map tails_in sealed) open_rows))

  module _ (sealed : List (Arc TailsWithRoom A)) (open_rows : List Tail) (full : AllByRecursion IsFull sealed) where
    pub length_joined : length (joined_tails sealed open_rows) ≡ 64 * length sealed + length open_rows
    length_joined = length-append (flat_map tails_in sealed) open_rows ∙ ap (λ n. n + length open_rows) (length_flat tails_in 64 sealed full)

    pub block_at : (n : ℕ) (e : Arc TailsWithRoom A) → n < length sealed → take 64 (drop (64 * n) (joined_tails sealed open_rows)) ≡ tails_in (get_or sealed n e)
    block_at n e lt = list_flat tails_in 64 sealed open_rows n e full lt

    module _ (few : length open_rows ≤ 64) where
      pub open_at : take 64 (drop (64 * length sealed) (joined_tails sealed open_rows)) ≡ open_rows
      open_at = rest_flat tails_in 64 sealed open_rows full few

      pub block_within : (x : ℕ) → x < length (joined_tails sealed open_rows) → x / 64 ≤ length sealed
      block_within x lt = omega (arith, length_joined)

      module _ (len : ℕ) (within : len ≤ length (joined_tails sealed open_rows)) where
        pub whole_within : (len - 1) / 64 ≤ length sealed
        whole_within = omega (arith, length_joined)

        pub open_within : len - 64 * ((len - 1) / 64) ≤ length (take 64 (drop (64 * ((len - 1) / 64)) (joined_tails sealed open_rows)))
        open_within = omega (arith, length-take 64 (drop (64 * ((len - 1) / 64)) (joined_tails sealed open_rows)), length-drop (64 * ((len - 1) / 64)) (joined_tails sealed open_rows))

        pub few_open : len - 64 * ((len - 1) / 64) ≤ 64
        few_open = omega arith

        -- the first blocks, and the first tails of the next one
        pub first_joined : flat_map tails_in (take ((len - 1) / 64) sealed) ++ take (len - 64 * ((len - 1) / 64)) (take 64 (drop (64 * ((len - 1) / 64)) (joined_tails sealed open_rows))) ≡ take len (joined_tails sealed open_rows)
        first_joined =
            let count = (len - 1) / 64 in
            let all = joined_tails sealed open_rows in
            let sum : 64 * count + (len - 64 * count) ≡ len = omega arith in
            ap₂ (λ xs ys. xs ++ ys)
            (take_flat tails_in 64 sealed open_rows count full whole_within ∙ sym (take-take (64 * count) (64 * count + (len - 64 * count)) all (omega arith)))
            (take-take (len - 64 * count) 64 (drop (64 * count) all) few_open ∙ sym (drop-take (64 * count) (len - 64 * count) all))
            ∙ (take-append-drop (64 * count) (take (64 * count + (len - 64 * count)) all)
            ∙ ap (λ n. take n all) sum)
