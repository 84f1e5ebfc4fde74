-- The order of what one round receives. SWIRLDS-TR-2016-01, section 4, procedure findOrder
use Rattle.std.specs.Prelude.{ℕ, ◌≡◌, Bool, ◌==◌, List, length, map, replicate, Option, Some, None, slice_get, ◌<◌}
use Rattle.std.specs.declared.cmp.Ordering.{Ordering}
use Rattle.std.specs.Ordering.{nat_cmp, ordering_then, is_lt}
use Rattle.std.specs.Cmp.Lexicographic.{slice_cmp}
use Rattle.hg_model.specs.declared.row.Row.{Row}
use Rattle.hg_model.specs.declared.row.Placed.{Placed}
use Rattle.hg_model.specs.Places.{list_below}
use Rattle.hg_model.specs.Fame.{Marks}
use Rattle.hg_model.specs.Prefix.{Graph, links_of}
use Rattle.hg_model.specs.Order.{median, order_key, sig_at, sort_by, xor_bytes}
use Rattle.hg_model.specs.GraphWords.{is_received_by, consensus_time_in, famous_of, received_order}
use Rattle.hg_order.specs.Famous.{times_of, whitening_of}

-- x as round r places it
abbrev pub placed_by : Graph → Marks → ℕ → ℕ → Placed
placed_by g marks r x = record { place = x; received = r; time = consensus_time_in g marks r x }

-- a comes before b: by what placed rows are ordered by, and where that is the same by the place
abbrev pub is_placed_before : Graph → Marks → Placed → Placed → Bool
is_placed_before g marks a b =
    is_lt (ordering_then (slice_cmp nat_cmp (order_key g.members g.rows (links_of g) marks a) (order_key g.members g.rows (links_of g) marks b))
    (nat_cmp a.place b.place))

-- these rows as round r places them, in order
abbrev pub placed_in : Graph → Marks → ℕ → List ℕ → List Placed
placed_in g marks r places = sort_by (is_placed_before g marks) (map (placed_by g marks r) places)

-- the places of all rows that round r receives
abbrev pub received_places : Graph → Marks → ℕ → List ℕ
received_places g marks r = list_below (λ x. x) (length (links_of g)) (is_received_by g marks (λ k. k == r))

-- how two signatures compare when both are XORed with a third, and where that is the same how the names do
abbrev pub whitened_cmp : List ℕ → List ℕ → List ℕ → List ℕ → List ℕ → Ordering
whitened_cmp white a a_name b b_name =
    ordering_then (slice_cmp nat_cmp (xor_bytes a white) (xor_bytes b white)) (slice_cmp nat_cmp a_name b_name)

-- x as a round places it whose unique famous witnesses are these
abbrev pub placed_below : Graph → List ℕ → ℕ → ℕ → Placed
placed_below g famous r x = record { place = x; received = r; time = median (times_of g.rows (links_of g) x famous) }

abbrev pub sig_or_zeros : Option Row → List ℕ
sig_or_zeros None = replicate 64 0
sig_or_zeros (Some row) = row.sig

abbrev pub name_or_zeros : Option Row → List ℕ
name_or_zeros None = replicate 48 0
name_or_zeros (Some row) = row.name

-- how the rows at two places compare by their whitened signatures and their names; zeros stand for what is not there
unfoldable pub rows_cmp : List Row → List ℕ → ℕ → ℕ → Ordering
rows_cmp G white x y =
    whitened_cmp white (sig_or_zeros (slice_get G x)) (name_or_zeros (slice_get G x)) (sig_or_zeros (slice_get G y)) (name_or_zeros (slice_get G y))

-- how placed rows compare where the whitening is the same: by round received, consensus timestamp, whitened signature,
-- name and place
abbrev pub placed_cmp : List Row → List ℕ → Placed → Placed → Ordering
placed_cmp G white a b =
    ordering_then (nat_cmp a.received b.received) (ordering_then (nat_cmp a.time b.time)
    (ordering_then (rows_cmp G white a.place b.place) (nat_cmp a.place b.place)))

abbrev pub placed_less : List Row → List ℕ → Placed → Placed → Bool
placed_less G white a b = is_lt (placed_cmp G white a b)

-- these in the order of a round whose unique famous witnesses are those of `famous`
abbrev pub sorted_below : List Row → List ℕ → List Placed → List Placed
sorted_below G famous placed = sort_by (placed_less G (whitening_of G famous)) placed

-- the row at x has a signature of 64 bytes
abbrev pub IsWide : List Row → ℕ → Type 0
IsWide G x = length (sig_at G x) ≡ 64

-- where these are the unique famous witnesses of a round by some marks: it is the consensus timestamp of x, the round
-- itself, these rows as the round places them, and the order of all that it receives
abbrev pub IsTimeBy : Graph → List ℕ → ℕ → ℕ → Type 0
IsTimeBy g famous x time = (marks : Marks) (r : ℕ) → famous ≡ famous_of g marks r → time ≡ consensus_time_in g marks r x

abbrev pub IsRoundOf : Graph → List ℕ → ℕ → Type 0
IsRoundOf g famous round = (marks : Marks) (r : ℕ) → famous ≡ famous_of g marks r → 0 < length famous → round ≡ r

abbrev pub ArePlacedBy : Graph → List ℕ → List ℕ → List Placed → Type 0
ArePlacedBy g famous fresh placed = (marks : Marks) (r : ℕ) → famous ≡ famous_of g marks r → placed ≡ placed_in g marks r fresh

abbrev pub AreOrderedBy : Graph → List ℕ → List ℕ → List Placed → Type 0
AreOrderedBy g famous fresh placed =
    (marks : Marks) (r : ℕ) → famous ≡ famous_of g marks r → fresh ≡ received_places g marks r → placed ≡ received_order g marks r
