-- A worked example: two graphs of two members in which rows stand at other places, and the one has more rows. They meet
-- all premises of the core law, and the order of the one is a proper prefix of the other's.
use Rattle.std.proofs.Common.{replicate, map, ◌≡◌, ◌⊎◌, ℕ, zero, suc, ◌<◌, true, false, eqb, List, [], ◌∷◌, ◌++◌, length, Some, None, refl, arith}
use Rattle.std.specs.List.{list_all}
use Rattle.std.proofs.lemmas.Bool.{and_parts, eqb-true}
use Rattle.hg_model.specs.declared.row.Row.{Row}
use Rattle.hg_model.specs.Places.{weight_below, some_below, list_below, least_below, values_below, by_place, reaches}
use Rattle.hg_model.specs.Stakes.{Stakes, total}
use Rattle.hg_model.specs.Links.{links, parents, self_parent, other_parents, creator}
use Rattle.hg_model.specs.Ancestry.{is_ancestor, is_self_ancestor}
use Rattle.hg_model.specs.Forks.{is_fork, has_fork_below, has_fork, forking}
use Rattle.hg_model.specs.Seeing.{sees, sees_through, strongly_sees}
use Rattle.hg_model.specs.Graph.{IsGraph, name_at}
use Rattle.hg_model.proofs.TestLaws.{is_graph}
use Rattle.hg_model.specs.Rounds.{round_of, is_witness}
use Rattle.hg_model.specs.Votes.{vote_of, decides}
use Rattle.hg_model.specs.Fame.{fame_of, fame_marks, is_closed, is_unique_famous}
use Rattle.hg_model.specs.Order.{coin_at, sig_at, time_at, sort_by, median, can_receive, round_received, consensus_time, whitening, ordered_in, order_of, order_by_names, Ordered}
use Rattle.hg_model.specs.Orders.{IsPrefix, HasNameSizes}
use Rattle.hg_model.proofs.TestLaws.{graph_from_test}
use Rattle.hg_model.proofs.LongerLaws.{slice_get-append}
use Rattle.hg_model.proofs.PushLaws.{nobody}
use Rattle.hg_prefix.specs.Standing.{StandsIn, IsRowOf}
use Rattle.hg_prefix.proofs.LineLaws.{equal_rows_of_part, one_chain_of_part}
use Rattle.hg_prefix.proofs.CoreLaws.{own_chain_orders}

-- the stakes of so many members
abbrev members : ℕ → Stakes
members k = replicate k 1

-- an event with no parents, and one with parents of these names; names and signatures are of one byte, the time
abbrev first : ℕ → ℕ → Row
first m time = record { creator = m; parents = None; time = time; payload = []; sig = time ∷ []; name = time ∷ [] }

abbrev made : ℕ → ℕ → ℕ → ℕ → Row
made m own other time =
    record { creator = m; parents = Some (own ∷ [], (other ∷ []) ∷ []); time = time; payload = []; sig = time ∷ []; name = time ∷ [] }

abbrev common : List Row
common = made 0 1 2 3 ∷ made 1 2 3 4 ∷ made 0 3 4 5 ∷ made 1 4 5 6 ∷ made 0 5 6 7 ∷ made 1 6 7 8 ∷ []

abbrev more : List Row
more = made 0 7 8 9 ∷ made 1 8 9 10 ∷ []

abbrev early : List Row
early = first 0 1 ∷ first 1 2 ∷ common

abbrev late : List Row
late = first 1 2 ∷ first 0 1 ∷ (common ++ more)

early_is_graph : IsGraph (members 2) early
unfolding is_graph forking total has_fork is_fork is_self_ancestor name_at weight_below some_below reaches by_place values_below parents self_parent other_parents creator links
early_is_graph = graph_from_test (members 2) early refl

late_is_graph : IsGraph (members 2) late
unfolding is_graph forking total has_fork is_fork is_self_ancestor name_at weight_below some_below reaches by_place values_below parents self_parent other_parents creator links
late_is_graph = graph_from_test (members 2) late refl

early_stands : StandsIn early late
early_stands = record { row_in = row_in }
  where
    row_in : (x : ℕ) → x < 8 → IsRowOf early x late
    row_in zero low = (1, omega arith, refl)
    row_in (suc zero) low = (0, omega arith, refl)
    row_in (suc (suc x)) low = (suc (suc x), omega arith, slice_get-append common more nobody x (omega arith))

no_fork_of : (m : ℕ) → m < 2 → has_fork (links late) m ≡ false
unfolding has_fork is_fork is_self_ancestor weight_below some_below reaches by_place values_below parents self_parent creator links
no_fork_of zero low = refl
no_fork_of (suc zero) low = refl
no_fork_of (suc (suc m)) low = absurd (omega arith)

sized_at : (size : ℕ) (G : List Row) → list_all (λ row. eqb (length row.name) size) G ≡ true → (x : ℕ) → x < length G → length (name_at G x) ≡ size
unfolding name_at
sized_at size [] all x inside = absurd (omega arith)
sized_at size (row ∷ G) all zero inside = eqb-true (length row.name) size (and_parts (eqb (length row.name) size) (list_all (λ row. eqb (length row.name) size) G) all).0
sized_at size (row ∷ G) all (suc x) inside = sized_at size G (and_parts (eqb (length row.name) size) (list_all (λ row. eqb (length row.name) size) G) all).1 x (omega arith)

sizes : (size : ℕ) (G : List Row) → list_all (λ row. eqb (length row.name) size) G ≡ true → HasNameSizes size G
sizes size G all = record { sized = λ x inside. sized_at size G all x inside }

-- the core law holds of them
worked_orders : IsPrefix (order_by_names (members 2) 10 early) (order_by_names (members 2) 10 late) ⊎ IsPrefix (order_by_names (members 2) 10 late) (order_by_names (members 2) 10 early)
unfolding total weight_below
worked_orders =
    own_chain_orders (members 2) 10 1 early late (λ m. false) (omega arith) early_is_graph late_is_graph (equal_rows_of_part early late late_is_graph.distinct early_stands)
    (sizes 1 early refl) (sizes 1 late refl) (omega arith) (λ m low none. one_chain_of_part (members 2) m early late late_is_graph early_stands (no_fork_of m low))

abbrev matches : ℕ → ℕ → ℕ → Ordered
matches name received time = record { name = name ∷ []; received = received; time = time }

early_order : order_by_names (members 2) 10 early ≡ matches 1 2 1 ∷ matches 2 2 2 ∷ matches 3 2 3 ∷ matches 4 2 4 ∷ []
unfolding order_of fame_marks fame_of decides vote_of coin_at ordered_in whitening consensus_time median sort_by round_received can_receive is_closed is_unique_famous least_below is_witness round_of strongly_sees sees_through sees has_fork_below is_fork is_ancestor is_self_ancestor total weight_below some_below list_below reaches by_place values_below parents self_parent creator links time_at sig_at name_at
early_order = refl

late_order : order_by_names (members 2) 10 late ≡ matches 1 2 1 ∷ matches 2 2 2 ∷ matches 3 2 3 ∷ matches 4 2 4 ∷ matches 5 3 5 ∷ matches 6 3 6 ∷ []
unfolding order_of fame_marks fame_of decides vote_of coin_at ordered_in whitening consensus_time median sort_by round_received can_receive is_closed is_unique_famous least_below is_witness round_of strongly_sees sees_through sees has_fork_below is_fork is_ancestor is_self_ancestor total weight_below some_below list_below reaches by_place values_below parents self_parent creator links time_at sig_at name_at
late_order = refl

-- why names have one size: without it a byte of a signature can stand for one of a name. Of these two first events the one
-- has no signature and a name of two bytes, the other one byte of each; they tie, and each graph has them in its own order

abbrev longer_name : Row
longer_name = record { creator = 0; parents = None; time = 2; payload = []; sig = []; name = 7 ∷ 9 ∷ [] }

abbrev shorter_name : Row
shorter_name = record { creator = 1; parents = None; time = 2; payload = []; sig = 6 ∷ []; name = 9 ∷ [] }

abbrev made_on : List ℕ → List ℕ → ℕ → ℕ → Row
made_on own other m time =
    record { creator = m; parents = Some (own, other ∷ []); time = time; payload = []; sig = time ∷ []; name = time ∷ [] }

abbrev above_both : List Row
above_both = made_on (7 ∷ 9 ∷ []) (9 ∷ []) 0 3 ∷ made_on (9 ∷ []) (3 ∷ []) 1 4 ∷ made 0 3 4 5 ∷ made 1 4 5 6 ∷ made 0 5 6 7 ∷ made 1 6 7 8 ∷ []

longer_first : map (λ (row : Ordered). row.name) (order_by_names (members 2) 10 (longer_name ∷ shorter_name ∷ above_both)) ≡ (7 ∷ 9 ∷ []) ∷ (9 ∷ []) ∷ (3 ∷ []) ∷ (4 ∷ []) ∷ []
unfolding order_of fame_marks fame_of decides vote_of coin_at ordered_in whitening consensus_time median sort_by round_received can_receive is_closed is_unique_famous least_below is_witness round_of strongly_sees sees_through sees has_fork_below is_fork is_ancestor is_self_ancestor total weight_below some_below list_below reaches by_place values_below parents self_parent creator links time_at sig_at name_at
longer_first = refl

shorter_first : map (λ (row : Ordered). row.name) (order_by_names (members 2) 10 (shorter_name ∷ longer_name ∷ above_both)) ≡ (9 ∷ []) ∷ (7 ∷ 9 ∷ []) ∷ (3 ∷ []) ∷ (4 ∷ []) ∷ []
unfolding order_of fame_marks fame_of decides vote_of coin_at ordered_in whitening consensus_time median sort_by round_received can_receive is_closed is_unique_famous least_below is_witness round_of strongly_sees sees_through sees has_fork_below is_fork is_ancestor is_self_ancestor total weight_below some_below list_below reaches by_place values_below parents self_parent creator links time_at sig_at name_at
shorter_first = refl
