-- Items in blocks and a tail
use Rattle.std.proofs.Common.{ℕ, ◌≡◌, ◌≤◌, ◌<◌, ◌+◌, ◌-◌, ◌*◌, ◌/◌, ◌%◌, List, [], ◌∷◌, ◌++◌, length, take, drop, get_or, refl, sym, ap, ap₂, ◌∙◌, arith}
use Rattle.std.proofs.lemmas.List.{length-append, length-take, length-drop, take-append-drop, take-take, drop-take, get_or-take, get_or-drop}
use Rattle.std.specs.List.{flat_map, AllByRecursion, AllZip}
use Rattle.std.specs.declared.sync.Arc.{Arc}
use Rattle.hg_blocks.specs.declared.block.Block.{Block}
use Rattle.hg_blocks.specs.Joined.{items_of, joined, IsSplit, HoldsItems}
use Rattle.hg_blocks.proofs.Flat.{HasLength, length_flat, take_flat, list_flat, rest_flat}

module _ {T A : Type 0} where
  all_full : (sealed : List (Arc (Block T) A)) → AllByRecursion (HasLength {X = Arc (Block T) A} {T = T} items_of 64) sealed
  all_full [] = tt
  all_full (block ∷ sealed) = (block.value.full, all_full sealed)

  pub length_joined : (sealed : List (Arc (Block T) A)) (tail : List T) → length (joined sealed tail) ≡ 64 * length sealed + length tail
  length_joined sealed tail = length-append (flat_map items_of sealed) tail ∙ ap (λ n. n + length tail) (length_flat items_of 64 sealed (all_full sealed))

  pub is_split : (len : ℕ) (sealed : List (Arc (Block T) A)) (tail : List T) → HoldsItems len sealed tail → IsSplit (length (joined sealed tail)) (length sealed) (length tail)
  is_split len sealed tail holds = record { whole = sym (length_joined sealed tail); few = holds.few }

  pub block_at : (sealed : List (Arc (Block T) A)) (tail : List T) (n : ℕ) (e : Arc (Block T) A) → n < length sealed → take 64 (drop (64 * n) (joined sealed tail)) ≡ items_of (get_or sealed n e)
  block_at sealed tail n e lt = list_flat items_of 64 sealed tail n e (all_full sealed) lt

  pub tail_at : (sealed : List (Arc (Block T) A)) (tail : List T) → length tail ≤ 64 → take 64 (drop (64 * length sealed) (joined sealed tail)) ≡ tail
  tail_at sealed tail few = rest_flat items_of 64 sealed tail (all_full sealed) few

  -- shared blocks have the same items
  pub same_items : (ones others : List (Arc (Block T) A)) → AllZip (λ (one other : Arc (Block T) A). other.value ≡ one.value) ones others → flat_map items_of others ≡ flat_map items_of ones
  same_items [] [] same = refl
  same_items [] (other ∷ others) same = elim same [ ]
  same_items (one ∷ ones) [] same = elim same [ ]
  same_items (one ∷ ones) (other ∷ others) same = ap₂ (λ xs ys. xs ++ ys) (ap (λ (block : Block T). block.items.items) same.0) (same_items ones others same.1)

  -- where an item stands
  pub read_within : (sealed : List (Arc (Block T) A)) (tail : List T) → length tail ≤ 64 → (x : ℕ) → x < length (joined sealed tail) → x / 64 ≤ length sealed
  read_within sealed tail few x lt = omega (arith, length_joined sealed tail)

  pub read_below : (sealed : List (Arc (Block T) A)) (tail : List T) (x : ℕ) → x < length (joined sealed tail) → x % 64 < length (take 64 (drop (64 * (x / 64)) (joined sealed tail)))
  read_below sealed tail x lt = omega (arith, length-take 64 (drop (64 * (x / 64)) (joined sealed tail)), length-drop (64 * (x / 64)) (joined sealed tail))

  pub read_joined : (sealed : List (Arc (Block T) A)) (tail : List T) (x : ℕ) (d : T) → get_or (take 64 (drop (64 * (x / 64)) (joined sealed tail))) (x % 64) d ≡ get_or (joined sealed tail) x d
  read_joined sealed tail x d =
      let place : 64 * (x / 64) + x % 64 ≡ x = omega arith in
      get_or-take 64 (drop (64 * (x / 64)) (joined sealed tail)) (x % 64) d (omega arith)
      ∙ (get_or-drop (64 * (x / 64)) (joined sealed tail) (x % 64) d
      ∙ ap (λ n. get_or (joined sealed tail) n d) place)

  module _ (sealed : List (Arc (Block T) A)) (tail : List T) (few : length tail ≤ 64) (len : ℕ) (within : len ≤ length (joined sealed tail)) where
    whole : ℕ
    whole = (len - 1) / 64

    pub whole_within : (len - 1) / 64 ≤ length sealed
    whole_within = omega (arith, length_joined sealed tail)

    pub open_within : len - 64 * ((len - 1) / 64) ≤ length (take 64 (drop (64 * ((len - 1) / 64)) (joined sealed tail)))
    open_within = omega (arith, length-take 64 (drop (64 * ((len - 1) / 64)) (joined sealed tail)), length-drop (64 * ((len - 1) / 64)) (joined sealed tail))

    pub few_open : len - 64 * ((len - 1) / 64) ≤ 64
    few_open = omega arith

    -- the first blocks, and the first items of the next one
    pub first_joined : flat_map items_of (take ((len - 1) / 64) sealed) ++ take (len - 64 * ((len - 1) / 64)) (take 64 (drop (64 * ((len - 1) / 64)) (joined sealed tail))) ≡ take len (joined sealed tail)
    first_joined =
        let count = (len - 1) / 64 in
        let all = joined sealed tail in
        let sum : 64 * count + (len - 64 * count) ≡ len = omega arith in
        ap₂ (λ xs ys. xs ++ ys)
        (take_flat items_of 64 sealed tail count (all_full sealed) whole_within ∙ sym (take-take (64 * count) (64 * count + (len - 64 * count)) all (omega arith)))
        (take-take (len - 64 * count) 64 (drop (64 * count) all) few_open ∙ sym (drop-take (64 * count) (len - 64 * count) all))
        ∙ (take-append-drop (64 * count) (take (64 * count + (len - 64 * count)) all)
        ∙ ap (λ n. take n all) sum)
