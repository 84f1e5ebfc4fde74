-- Rounds received, consensus timestamps, whitened signatures and the order. SWIRLDS-TR-2016-01, section 4, procedure findOrder.
-- A departure: a round without a unique famous witness receives nothing.
-- Where the report leaves room: of an even number of times the median is the lower of the middle two; signatures compare
-- as bytes from the first on; a last tie is broken by the name. The coin is the highest bit of byte 32 of the signature.
use Rattle.std.specs.Prelude.{ℕ, suc, ◌-◌, ◌/◌, Bool, true, cond, not, ◌&&◌, nat_lt, nat_le, List, [], ◌∷◌, ◌++◌, length, get_or, fold, map, replicate, unwrap_or, is_some, Option, Some, None, slice_get, bit_xor}
use Rattle.std.specs.List.{list_all}
use Rattle.std.specs.Cmp.Lexicographic.{slice_cmp}
use Rattle.std.specs.Ordering.{nat_cmp, is_lt}
use Rattle.hg_model.specs.declared.row.Row.{Row}
use Rattle.hg_model.specs.declared.row.Placed.{Placed}
use Rattle.hg_model.specs.Places.{some_below, list_below, least_below, greatest_below, count_below}
use Rattle.hg_model.specs.Stakes.{Stakes}
use Rattle.hg_model.specs.Links.{Link, links, self_parent}
use Rattle.hg_model.specs.Ancestry.{is_ancestor, is_self_ancestor}
use Rattle.hg_model.specs.Graph.{name_at}
use Rattle.hg_model.specs.Fame.{Marks, is_closed, is_unique_famous, fame_marks}

abbrev pub row_time : Option Row → ℕ
row_time None = 0
row_time (Some row) = row.time

abbrev pub row_sig : Option Row → List ℕ
row_sig None = []
row_sig (Some row) = row.sig

-- the time that the creator of row x claims
unfoldable pub time_at : List Row → ℕ → ℕ
time_at G x = row_time (slice_get G x)

-- the signature of row x
unfoldable pub sig_at : List Row → ℕ → List ℕ
sig_at G x = row_sig (slice_get G x)

-- the highest bit of byte 32, bytes counted from 0
abbrev pub middle_bit : List ℕ → Bool
middle_bit sig = nat_le 128 (get_or sig 32 0)

-- the coin of row x: the middle bit of its signature
unfoldable pub coin_at : List Row → ℕ → Bool
coin_at G x = middle_bit (sig_at G x)

-- a list in ascending order, with one more element, which comes before its equals
abbrev pub insert_by : {A : Type 0} → (A → A → Bool) → A → List A → List A
insert_by less x [] = x ∷ []
insert_by less x (y ∷ ys) = cond (less y x) (y ∷ insert_by less x ys) (x ∷ y ∷ ys)

-- the elements in ascending order, an earlier one before its equals
unfoldable pub sort_by : {A : Type 0} → (A → A → Bool) → List A → List A
sort_by less [] = []
sort_by less (x ∷ xs) = insert_by less x (sort_by less xs)

-- of k times in ascending order that at place (k - 1) / 2
unfoldable pub median : List ℕ → ℕ
median times = get_or (sort_by nat_lt times) ((length times - 1) / 2) 0

-- w is a unique famous witness of round r that does not have x as ancestor
abbrev pub is_without : Stakes → List Link → Marks → ℕ → ℕ → ℕ → Bool
is_without n L marks r x w = is_unique_famous n L marks r w && not (is_ancestor L w x)

-- round r can receive x: it is closed, has a unique famous witness, and all of these have x as ancestor
unfoldable pub can_receive : Stakes → List Link → Marks → ℕ → ℕ → Bool
can_receive n L marks x r =
    is_closed n L marks r && some_below (length L) (is_unique_famous n L marks r)
    && not (some_below (length L) (is_without n L marks r x))

-- the round that receives x: the least that can. A round is at most the number of rows
unfoldable pub round_received : Stakes → List Link → Marks → ℕ → Option ℕ
round_received n L marks x = least_below (λ r. r) (suc (length L)) (can_receive n L marks x)

-- the places of the unique famous witnesses of round r
unfoldable pub famous_places : Stakes → List Link → Marks → ℕ → List ℕ
famous_places n L marks r = list_below (λ w. w) (length L) (is_unique_famous n L marks r)

-- z is a self-ancestor of a unique famous witness of round r
abbrev pub is_below_famous : Stakes → List Link → Marks → ℕ → ℕ → Bool
is_below_famous n L marks r z = some_below (length L) (λ w. is_unique_famous n L marks r w && is_self_ancestor L w z)

-- z is the first of its line that has x as ancestor, below a unique famous witness of round r
abbrev pub is_first_holder : Stakes → List Link → Marks → ℕ → ℕ → ℕ → Bool
is_first_holder n L marks r x z =
    is_below_famous n L marks r z && is_ancestor L z x && list_all (λ p. not (is_ancestor L p x)) (self_parent L z)

-- the consensus timestamp of x, where round r receives it: the median of the times of its first holders
unfoldable pub consensus_time : Stakes → List Row → List Link → Marks → ℕ → ℕ → ℕ
consensus_time n G L marks r x = median (list_below (time_at G) (length L) (is_first_holder n L marks r x))

-- bytes XORed with bytes
abbrev pub xor_bytes : List ℕ → List ℕ → List ℕ
xor_bytes [] ys = []
xor_bytes (x ∷ xs) [] = []
xor_bytes (x ∷ xs) (y ∷ ys) = bit_xor x y ∷ xor_bytes xs ys

-- the signatures of all unique famous witnesses of round r, XORed
unfoldable pub whitening : Stakes → List Row → List Link → Marks → ℕ → List ℕ
whitening n G L marks r = fold xor_bytes (replicate 64 0) (list_below (sig_at G) (length L) (is_unique_famous n L marks r))

-- the round that receives x, or 0
abbrev pub received_or_zero : Stakes → List Link → Marks → ℕ → ℕ
received_or_zero n L marks x = unwrap_or (round_received n L marks x) 0

-- how x is placed in the order
abbrev pub placed_at : Stakes → List Row → List Link → Marks → ℕ → Placed
placed_at n G L marks x =
    let r = received_or_zero n L marks x in
    record { place = x; received = r; time = consensus_time n G L marks r x }

-- what a placed row is ordered by: round received, consensus timestamp, whitened signature, name
abbrev pub order_key : Stakes → List Row → List Link → Marks → Placed → List ℕ
order_key n G L marks p =
    p.received ∷ p.time ∷ (xor_bytes (sig_at G p.place) (whitening n G L marks p.received) ++ name_at G p.place)

-- a placed row, with what it is ordered by
abbrev pub keyed_at : Stakes → List Row → List Link → Marks → ℕ → List ℕ × Placed
keyed_at n G L marks x = (order_key n G L marks (placed_at n G L marks x), placed_at n G L marks x)

-- a has the lesser key
abbrev pub comes_before : List ℕ × Placed → List ℕ × Placed → Bool
comes_before a b = is_lt (slice_cmp nat_cmp a.0 b.0)

-- x is received, in a round that passes the test
abbrev pub is_received_in : Stakes → List Link → Marks → (ℕ → Bool) → ℕ → Bool
is_received_in n L marks test x = is_some (round_received n L marks x) && test (received_or_zero n L marks x)

-- the rows received in rounds that pass the test, in order
unfoldable pub ordered_in : Stakes → List Row → List Link → Marks → (ℕ → Bool) → List Placed
ordered_in n G L marks test =
    map (λ (keyed : List ℕ × Placed). keyed.1) (sort_by comes_before (list_below (keyed_at n G L marks) (length L) (is_received_in n L marks test)))

-- all received rows, in order
abbrev pub ordered : Stakes → List Row → List Link → Marks → List Placed
ordered n G L marks = ordered_in n G L marks (λ _. true)

-- the order of a graph, with its own fame
unfoldable pub order_of : Stakes → ℕ → List Row → List Placed
order_of n c G = let L = links G in ordered n G L (fame_marks n c L (coin_at G))

-- a row of the order by its name
pub record Ordered : Type 0 where
  pub name : List ℕ
  pub received : ℕ
  pub time : ℕ

abbrev pub named_in : List Row → Placed → Ordered
named_in G p = record { name = name_at G p.place; received = p.received; time = p.time }

-- the order by names, which does not depend on places
abbrev pub order_by_names : Stakes → ℕ → List Row → List Ordered
order_by_names n c G = map (named_in G) (order_of n c G)

-- the greatest closed round, or 0. A round is at most the number of rows
unfoldable pub last_closed : Stakes → List Link → Marks → ℕ
last_closed n L marks = greatest_below (suc (length L)) (is_closed n L marks)

-- the greatest round that the graph's own fame closes, or 0
unfoldable pub closed_of : Stakes → ℕ → List Row → ℕ
closed_of n c G = let L = links G in last_closed n L (fame_marks n c L (coin_at G))

-- how many self-ancestors x has other than itself
unfoldable pub sequence_of : List Link → ℕ → ℕ
sequence_of L x = count_below x (is_self_ancestor L x)
