-- Worked examples, computed: two members who sync in turn, three who sync in a ring and a fourth who comes late,
-- a tie and a fork among four
use Rattle.std.proofs.Common.{◌≡◌, ℕ, true, false, List, [], ◌∷◌, ◌++◌, take, replicate, Some, None, refl}
use Rattle.hg_model.specs.declared.row.Row.{Row}
use Rattle.hg_model.specs.declared.row.Placed.{Placed}
use Rattle.hg_model.specs.Places.{weight_below, some_below, list_below, least_below, greatest_below, maximum_below, values_below, by_place, reaches, table}
use Rattle.hg_model.specs.Stakes.{Stakes, total}
use Rattle.hg_model.specs.Links.{links, parents, self_parent, other_parents, creator}
use Rattle.hg_model.specs.Ancestry.{is_ancestor, is_self_ancestor}
use Rattle.hg_model.specs.Forks.{is_fork, has_fork_below, has_fork, forkers, forking}
use Rattle.hg_model.specs.Seeing.{sees, sees_through, strongly_sees, sees_by, strongly_sees_in_report}
use Rattle.hg_model.proofs.TestLaws.{graph_from_test, is_graph}
use Rattle.hg_model.specs.Graph.{IsGraph, name_at}
use Rattle.hg_model.specs.Rounds.{round_of, is_witness, is_seen_witness, last_round}
use Rattle.hg_model.specs.Votes.{weighed_vote, weighed_decides, yes_votes, no_votes, vote_of, decides}
use Rattle.hg_model.specs.Fame.{fame_of, fame_marks, is_closed, is_unique_famous, Marks}
use Rattle.hg_model.specs.Order.{coin_at, sig_at, time_at, sort_by, median, can_receive, round_received, consensus_time, whitening, ordered_in, ordered, last_closed}

-- the stakes of so many members
abbrev pub members : ℕ → Stakes
members k = replicate k 1

-- an event with no parents, and one with parents of these names; a name is one byte here, and so is a signature
abbrev pub first : ℕ → ℕ → Row
first m time = record { creator = m; parents = None; time = time; payload = []; sig = time ∷ []; name = time ∷ [] }

abbrev pub made : ℕ → ℕ → ℕ → ℕ → Row
made m own other time =
    record { creator = m; parents = Some (own ∷ [], (other ∷ []) ∷ []); time = time; payload = []; sig = time ∷ []; name = time ∷ [] }

-- the graph of the second of two members after six syncs in turn
abbrev pub two_members : List Row
two_members =
    first 1 2 ∷ first 0 1 ∷ made 0 1 2 3 ∷ made 1 2 3 4 ∷ made 0 3 4 5 ∷ made 1 4 5 6 ∷ made 0 5 6 7 ∷ made 1 6 7 8 ∷ []

two_parents : table (parents (links two_members)) 8 ≡ [] ∷ [] ∷ (1 ∷ 0 ∷ []) ∷ (0 ∷ 2 ∷ []) ∷ (2 ∷ 3 ∷ []) ∷ (3 ∷ 4 ∷ []) ∷ (4 ∷ 5 ∷ []) ∷ (5 ∷ 6 ∷ []) ∷ []
unfolding parents links
two_parents = refl

two_graph : is_graph (members 2) two_members ≡ true
unfolding is_graph forking total has_fork is_fork is_self_ancestor name_at weight_below some_below reaches by_place values_below parents self_parent other_parents creator links
two_graph = refl

two_is_graph : IsGraph (members 2) two_members
two_is_graph = graph_from_test (members 2) two_members two_graph

-- the second member's second event and the first member's third are the witnesses of round 2
two_rounds : table (round_of (members 2) (links two_members)) 8 ≡ 1 ∷ 1 ∷ 1 ∷ 2 ∷ 2 ∷ 3 ∷ 3 ∷ 4 ∷ []
unfolding round_of strongly_sees sees_through sees has_fork_below is_fork is_ancestor is_self_ancestor total weight_below some_below reaches by_place values_below parents self_parent creator links
two_rounds = refl

-- where the first of the two has 3 of 4, its witnesses alone make the next round
heavy_rounds : table (round_of (3 ∷ 1 ∷ []) (links two_members)) 8 ≡ 1 ∷ 1 ∷ 2 ∷ 3 ∷ 3 ∷ 4 ∷ 4 ∷ 5 ∷ []
unfolding round_of strongly_sees sees_through sees has_fork_below is_fork is_ancestor is_self_ancestor total weight_below some_below reaches by_place values_below parents self_parent creator links
heavy_rounds = refl

two_fame : fame_marks (members 2) 10 (links two_members) (coin_at two_members) ≡ Some true ∷ Some true ∷ None ∷ Some true ∷ Some true ∷ None ∷ None ∷ None ∷ []
unfolding fame_marks fame_of least_below decides vote_of is_witness coin_at sig_at round_of strongly_sees sees_through sees has_fork_below is_fork is_ancestor is_self_ancestor total weight_below some_below reaches by_place values_below parents self_parent creator links
two_fame = refl

-- those marks, written out
abbrev pub two_marks : Marks
two_marks = Some true ∷ Some true ∷ None ∷ Some true ∷ Some true ∷ None ∷ None ∷ None ∷ []

abbrev pub placed : ℕ → ℕ → ℕ → Placed
placed place received time = record { place = place; received = received; time = time }

-- all of round 2, by their times: the medians of 1 and 4, 2 and 3, 3 and 4, 4 and 5
two_order : ordered (members 2) two_members (links two_members) two_marks ≡ placed 1 2 1 ∷ placed 0 2 2 ∷ placed 2 2 3 ∷ placed 3 2 4 ∷ []
unfolding ordered_in whitening consensus_time median sort_by round_received can_receive is_closed is_unique_famous least_below is_witness round_of strongly_sees sees_through sees has_fork_below is_fork is_ancestor is_self_ancestor total weight_below some_below list_below reaches by_place values_below parents self_parent creator links time_at sig_at name_at
two_order = refl

-- the same with equal times of the two first events, whose signatures are 6 and 7: whitened by 4 and 5, those of the
-- famous witnesses of round 2, they are 7 and 6, so the second comes first; by place, by name and by the bare signature
-- the first would
abbrev equal_times : List Row
equal_times =
    record { creator = 1; parents = None; time = 1; payload = []; sig = 6 ∷ []; name = 1 ∷ [] }
    ∷ record { creator = 0; parents = None; time = 1; payload = []; sig = 7 ∷ []; name = 2 ∷ [] }
    ∷ made 0 2 1 3 ∷ made 1 1 3 4 ∷ made 0 3 4 5 ∷ made 1 4 5 6 ∷ made 0 5 6 7 ∷ made 1 6 7 8 ∷ []

whitened_order : ordered (members 2) equal_times (links equal_times) two_marks ≡ placed 1 2 1 ∷ placed 0 2 1 ∷ placed 2 2 3 ∷ placed 3 2 4 ∷ []
unfolding ordered_in whitening consensus_time median sort_by round_received can_receive is_closed is_unique_famous least_below is_witness round_of strongly_sees sees_through sees has_fork_below is_fork is_ancestor is_self_ancestor total weight_below some_below list_below reaches by_place values_below parents self_parent creator links time_at sig_at name_at
whitened_order = refl

two_closed : last_closed (members 2) (links two_members) two_marks ≡ 2
unfolding last_closed greatest_below is_closed is_witness round_of strongly_sees sees_through sees has_fork_below is_fork is_ancestor is_self_ancestor total weight_below some_below reaches by_place values_below parents self_parent creator links
two_closed = refl

two_greatest : last_round (members 2) (links two_members) ≡ 4
unfolding last_round maximum_below round_of strongly_sees sees_through sees has_fork_below is_fork is_ancestor is_self_ancestor total weight_below some_below reaches by_place values_below parents self_parent creator links
two_greatest = refl

-- three first events, two of them by one member: where both of these are famous, neither is a unique famous witness
abbrev pub rival_rows : List Row
rival_rows = first 0 1 ∷ first 1 2 ∷ first 1 3 ∷ []

rivals : (list_below (λ w. w) 3 (is_unique_famous (members 4) (links rival_rows) (Some true ∷ Some true ∷ Some true ∷ []) 1) ≡ 0 ∷ [])
    × (list_below (λ w. w) 3 (is_unique_famous (members 4) (links rival_rows) (Some true ∷ Some true ∷ Some false ∷ []) 1) ≡ 0 ∷ 1 ∷ [])
unfolding list_below is_unique_famous is_witness round_of strongly_sees sees_through sees has_fork_below is_fork is_ancestor is_self_ancestor total weight_below some_below reaches by_place values_below parents self_parent creator links
rivals = (refl, refl)

-- three members who sync in a ring; the third's second event claims an earlier time than its first
abbrev pub three_members : List Row
three_members =
    first 0 1 ∷ first 2 65 ∷ first 1 52 ∷ made 1 52 1 55 ∷ made 2 65 55 50 ∷ made 0 1 50 60 ∷ made 1 55 60 70 ∷ made 2 50 70 80
    ∷ made 0 60 80 90 ∷ made 1 70 90 100 ∷ made 2 80 100 110 ∷ made 0 90 110 120 ∷ made 1 100 120 130 ∷ made 2 110 130 140
    ∷ made 0 120 140 150 ∷ []

three_rounds : table (round_of (members 3) (links three_members)) 15 ≡ 1 ∷ 1 ∷ 1 ∷ 1 ∷ 1 ∷ 1 ∷ 2 ∷ 2 ∷ 2 ∷ 2 ∷ 3 ∷ 3 ∷ 3 ∷ 3 ∷ 4 ∷ []
unfolding round_of strongly_sees sees_through sees has_fork_below is_fork is_ancestor is_self_ancestor total weight_below some_below reaches by_place values_below parents self_parent creator links
three_rounds = refl

-- a fourth member's first event, which comes when the others have voted, is not famous
late_fame : fame_of (members 4) 10 (links (take 11 three_members ++ first 3 160 ∷ [])) (coin_at (take 11 three_members ++ first 3 160 ∷ [])) 11 ≡ Some false
unfolding fame_of least_below decides vote_of is_witness coin_at sig_at round_of strongly_sees sees_through sees has_fork_below is_fork is_ancestor is_self_ancestor total weight_below some_below reaches by_place values_below parents self_parent creator links
late_fame = refl

-- four members; the last event, of round 3, strongly sees four witnesses of round 2, of which two see the event at
-- place 2 and two do not
abbrev pub tied_members : List Row
tied_members =
    first 0 1 ∷ first 1 2 ∷ first 2 3 ∷ first 3 4 ∷ made 0 1 2 5 ∷ made 0 5 4 6
    ∷ made 3 4 6 7 ∷ made 2 3 7 8 ∷ made 1 2 7 9 ∷ made 3 7 8 10 ∷ made 2 8 9 11
    ∷ made 0 6 9 12 ∷ made 2 11 12 13 ∷ made 2 13 10 14 ∷ made 1 9 14 15 ∷ []

-- and a tie is a vote for fame
tied_vote : (yes_votes (members 4) (links tied_members) (vote_of (members 4) 10 (links tied_members) (coin_at tied_members) 2) 14 ≡ 2)
    × (no_votes (members 4) (links tied_members) (vote_of (members 4) 10 (links tied_members) (coin_at tied_members) 2) 14 ≡ 2)
    × (vote_of (members 4) 10 (links tied_members) (coin_at tied_members) 2 14 ≡ true)
unfolding vote_of is_witness coin_at sig_at round_of strongly_sees sees_through sees has_fork_below is_fork is_ancestor is_self_ancestor total weight_below some_below reaches by_place values_below parents self_parent creator links
tied_vote = (refl, refl, refl)

-- of four members, with coin period 3: in a coin round two votes against one leave it to the coin, and three against none
-- do not; three decide in a normal round alone, and not in the round next to the candidate's
coin_votes : (weighed_vote 4 3 3 2 1 true ≡ true) × (weighed_vote 4 3 3 2 1 false ≡ false) × (weighed_vote 4 3 2 2 1 false ≡ true)
    × (weighed_vote 4 3 3 3 0 false ≡ true) × (weighed_vote 4 3 3 0 3 true ≡ false)
coin_votes = (refl, refl, refl, refl, refl)

coin_decisions : (weighed_decides 4 3 2 3 0 ≡ true) × (weighed_decides 4 3 3 3 0 ≡ false) × (weighed_decides 4 3 1 3 0 ≡ false) × (weighed_decides 4 3 2 2 1 ≡ false)
coin_decisions = (refl, refl, refl, refl)

-- of 5 in all, the votes of 4 decide in a normal round, and those of 3 only outweigh
stake_votes : (weighed_vote 5 3 2 4 1 false ≡ true) × (weighed_decides 5 3 2 4 1 ≡ true) × (weighed_vote 5 3 2 3 2 false ≡ true)
    × (weighed_decides 5 3 2 3 2 ≡ false) × (weighed_vote 5 3 2 2 3 true ≡ false) × (weighed_decides 5 3 2 2 3 ≡ false)
stake_votes = (refl, refl, refl, refl, refl, refl)

-- four members, of whom the last makes two second events, at the places 3 and 7; the first member takes the one and
-- the second the other, and the third syncs from both
abbrev pub forked_members : List Row
forked_members =
    first 2 3 ∷ first 0 1 ∷ first 3 4 ∷ made 3 4 1 5 ∷ made 0 1 5 7 ∷ made 2 3 7 9 ∷ first 1 2 ∷ made 3 4 1 6 ∷ made 1 2 6 8
    ∷ made 2 9 8 10 ∷ []

-- one member has a fork; the last event has all events as ancestors, and sees none by that member
fork_seen : (forkers (members 4) (links forked_members) ≡ 1)
    × (list_below (λ y. y) 10 (sees (links forked_members) 9) ≡ 0 ∷ 1 ∷ 4 ∷ 5 ∷ 6 ∷ 8 ∷ 9 ∷ [])
unfolding list_below forkers has_fork sees has_fork_below is_fork is_ancestor is_self_ancestor weight_below some_below reaches by_place values_below parents self_parent creator links
fork_seen = (refl, refl)

-- yet it strongly sees that member's first event, at place 2, and of the other witnesses of round 1 just that at place 1
fork_strongly_seen : list_below (λ y. y) 10 (is_seen_witness (round_of (members 4) (links forked_members)) (members 4) (links forked_members) 1 9) ≡ 1 ∷ 2 ∷ []
unfolding list_below round_of strongly_sees sees_through sees has_fork_below is_fork is_ancestor is_self_ancestor total weight_below some_below reaches by_place values_below parents self_parent creator links
fork_strongly_seen = refl

-- by the report's own wording it strongly sees just that at place 1
fork_seen_in_report : list_below (λ y. y) 10 (strongly_sees_in_report (members 4) (links forked_members) 9) ≡ 1 ∷ []
unfolding list_below strongly_sees_in_report sees_by sees has_fork_below is_fork is_ancestor is_self_ancestor total weight_below some_below reaches by_place values_below parents self_parent creator links
fork_seen_in_report = refl
