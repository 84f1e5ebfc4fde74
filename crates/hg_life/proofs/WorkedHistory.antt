-- Worked histories, computed: the eight rows of two members and what their marks keep, marks by shares, and a late witness
use Rattle.std.proofs.Common.{◌≡◌, true, false, List, [], ◌∷◌, ◌++◌, map, take, Some, None, refl}
use Rattle.hg_life.specs.declared.entry.Entry.TheVariants as entry
use Rattle.hg_model.specs.Places.{weight_below, some_below, list_below, least_below, values_below, by_place, reaches}
use Rattle.hg_model.specs.Stakes.{total}
use Rattle.hg_model.specs.Links.{links, parents, self_parent, creator}
use Rattle.hg_model.specs.Ancestry.{is_ancestor, is_self_ancestor}
use Rattle.hg_model.specs.Forks.{is_fork, has_fork_below}
use Rattle.hg_model.specs.Seeing.{sees, sees_through, strongly_sees}
use Rattle.hg_model.specs.Rounds.{round_of, is_witness}
use Rattle.hg_model.specs.Votes.{vote_of, decides}
use Rattle.hg_model.specs.Fame.{fame_of, is_closed, is_unique_famous, Marks}
use Rattle.hg_model.specs.Order.{coin_at, sig_at, time_at, sort_by, median, can_receive, round_received, consensus_time, whitening, ordered_in}
use Rattle.hg_model.specs.Graph.{name_at}
use Rattle.hg_model.specs.Shares.{Share, whole, share_fame}
use Rattle.hg_life.specs.History.{Change, replay, news}
use Rattle.hg_life.specs.Kept.{kept}
use Rattle.hg_life.specs.History.Change.{Took, Made, Marked}
use Rattle.hg_life.specs.NodeView.{log_from}
use Rattle.hg_model.proofs.Worked.{members, first, made, placed, two_members, two_marks, three_members}

-- what the second of two members did in six syncs in turn
abbrev eight_rows : List Change
eight_rows =
    Made (first 1 2) ∷ Took (first 0 1) ∷ Took (made 0 1 2 3) ∷ Made (made 1 2 3 4) ∷ Took (made 0 3 4 5)
    ∷ Made (made 1 4 5 6) ∷ Took (made 0 5 6 7) ∷ Made (made 1 6 7 8) ∷ []

abbrev unmarked : Marks
unmarked = None ∷ None ∷ None ∷ None ∷ None ∷ None ∷ None ∷ None ∷ []

-- it has the graph of the worked example
two_state : replay (members 2) 10 eight_rows ≡ record { rows = two_members; links = links two_members; marks = unmarked }
unfolding replay is_closed is_witness round_of strongly_sees sees_through sees has_fork_below is_fork is_ancestor is_self_ancestor total weight_below some_below reaches by_place values_below parents self_parent creator links
two_state = refl

-- and when all fame is published, the marks and the order of that example
two_kept : kept (members 2) (replay (members 2) 10 (eight_rows ++ Marked 8 whole ∷ [])) ≡ placed 1 2 1 ∷ placed 0 2 2 ∷ placed 2 2 3 ∷ placed 3 2 4 ∷ []
unfolding replay share_fame fame_of least_below decides vote_of coin_at ordered_in whitening consensus_time median sort_by round_received can_receive is_closed is_unique_famous is_witness round_of strongly_sees sees_through sees has_fork_below is_fork is_ancestor is_self_ancestor total weight_below some_below list_below reaches by_place values_below parents self_parent creator links time_at sig_at name_at
two_kept = refl

-- the log tells the rows by their places
two_log : log_from 0 (eight_rows ++ Marked 8 whole ∷ []) ≡
    entry.Made 0 ∷ entry.Took 1 ∷ entry.Took 2 ∷ entry.Made 3 ∷ entry.Took 4 ∷ entry.Made 5 ∷ entry.Took 6 ∷ entry.Made 7 ∷ entry.Marked 8 whole ∷ []
two_log = refl

-- the witnesses are at the places 0, 1, 3, 4, 5, 6, 7; share 0 of 2 has the first, the third and so on

abbrev even_share : Share
even_share = record { k = 0; «of» = 2 }

abbrev odd_share : Share
odd_share = record { k = 1; «of» = 2 }

-- share 0 of 2 marks two witnesses, which closes no round
even_marks : ((replay (members 2) 10 (eight_rows ++ Marked 8 even_share ∷ [])).marks ≡ Some true ∷ None ∷ None ∷ Some true ∷ None ∷ None ∷ None ∷ None ∷ [])
    × (news (members 2) 10 (replay (members 2) 10 eight_rows) 8 even_share ≡ 2)
    × (kept (members 2) (replay (members 2) 10 (eight_rows ++ Marked 8 even_share ∷ [])) ≡ [])
unfolding replay news share_fame fame_of least_below decides vote_of coin_at ordered_in whitening consensus_time median sort_by round_received can_receive is_closed is_unique_famous is_witness round_of strongly_sees sees_through sees has_fork_below is_fork is_ancestor is_self_ancestor total weight_below some_below list_below reaches by_place values_below parents self_parent creator links time_at sig_at name_at
even_marks = (refl, refl, refl)

-- share 1 of 2 then marks the other two
both_marks : (replay (members 2) 10 (eight_rows ++ Marked 8 even_share ∷ Marked 8 odd_share ∷ [])).marks ≡ two_marks
unfolding replay share_fame fame_of least_below decides vote_of coin_at sig_at is_closed is_witness round_of strongly_sees sees_through sees has_fork_below is_fork is_ancestor is_self_ancestor total weight_below some_below reaches by_place values_below parents self_parent creator links
both_marks = refl

-- the first seven rows decide the first two witnesses only
early_marks : (replay (members 2) 10 (eight_rows ++ Marked 7 whole ∷ [])).marks ≡ Some true ∷ Some true ∷ None ∷ None ∷ None ∷ None ∷ None ∷ None ∷ []
unfolding replay share_fame fame_of least_below decides vote_of coin_at sig_at is_closed is_witness round_of strongly_sees sees_through sees has_fork_below is_fork is_ancestor is_self_ancestor total weight_below some_below reaches by_place values_below parents self_parent creator links
early_marks = refl

-- of four members three sync in a ring and all fame is published; the fourth's first event comes into a closed round, and
-- is marked at once
late_mark : (replay (members 4) 10 (map Took (take 11 three_members) ++ Marked 11 whole ∷ Took (first 3 160) ∷ [])).marks ≡
    Some true ∷ Some true ∷ Some true ∷ None ∷ None ∷ None ∷ None ∷ None ∷ None ∷ None ∷ None ∷ Some false ∷ []
unfolding replay share_fame fame_of least_below decides vote_of coin_at sig_at is_closed is_witness round_of strongly_sees sees_through sees has_fork_below is_fork is_ancestor is_self_ancestor total weight_below some_below reaches by_place values_below parents self_parent creator links
late_mark = refl
