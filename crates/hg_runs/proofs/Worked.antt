-- A worked run of two members with the names that SHA-384 gives: six syncs in turn, after which each publishes all fame.
-- It meets all premises of safety together, and a node of it keeps an order that is not empty
use Rattle.std.proofs.Common.{◌≡◌, ℕ, zero, suc, ◌<◌, List, [], ◌∷◌, ◌++◌, Some, None, slice_get, sym, refl, ap, ◌∙◌, subst, arith}
use Rattle.std.specs.Prelude.{replicate}
use Rattle.sha2.specs.Sha512.{sha384, first_words, schedule, rounds, compress, hash_after, digest_bytes}
use Rattle.hg_model.specs.declared.row.Row.{Row}
use Rattle.hg_life.specs.declared.answers.MakeAnswer.TheVariants as answer
use Rattle.hg_model.specs.Places.{weight_below, some_below, list_below, least_below, values_below, by_place, reaches}
use Rattle.hg_model.specs.Links.{links, parents, self_parent, creator}
use Rattle.hg_model.specs.Stakes.{total}
use Rattle.hg_model.specs.Ancestry.{is_ancestor, is_self_ancestor}
use Rattle.hg_model.specs.Forks.{is_fork, has_fork_below, has_fork, forking}
use Rattle.hg_model.specs.Seeing.{sees, sees_through, strongly_sees}
use Rattle.hg_model.specs.Graph.{name_in, name_at, HasDistinctNames}
use Rattle.hg_model.specs.Rounds.{round_of, is_witness}
use Rattle.hg_model.specs.Votes.{vote_of, decides}
use Rattle.hg_model.specs.Fame.{fame_of, is_closed, is_unique_famous}
use Rattle.hg_model.specs.Order.{coin_at, sig_at, time_at, sort_by, median, can_receive, round_received, consensus_time, whitening, famous_places, ordered_in, Ordered}
use Rattle.hg_life.specs.Spelling.{body_of, spelling}
use Rattle.hg_life.specs.Verdict.{making}
use Rattle.hg_model.specs.Shares.{whole, share_fame}
use Rattle.hg_life.specs.Terms.{Terms, row_limit}
use Rattle.hg_life.specs.History.{Change, replay, news, IsTaken, IsMade, MarksSome, IsHistory}
use Rattle.hg_life.specs.History.Change.{Took, Made, Marked}
use Rattle.hg_prefix.specs.Standing.{StandsIn, IsRowOf}
use Rattle.hg_prefix.specs.Chains.{HaveEqualRows}
use Rattle.hg_prefix.proofs.GrowthLaws.{stands_in_itself}
use Rattle.hg_history.proofs.SoundLaws.{node_graph}
use Rattle.hg_history.proofs.Worked.{members, row, all, name0, name1, name2, name3, name4, name5, row0, row1, row2, row3, row4, row5, row6, row7, named1, named2, named4, named6, event0, event1, event2, event3, event4, event5, event6, event7, events, two_weigh, worked}
use Rattle.hg_runs.specs.Run.{Run, IsRun, graph_at}
use Rattle.hg_runs.specs.Honest.{is_dishonest, dishonest, AreApart}
use Rattle.hg_runs.specs.Safety.{OrdersAgree, order_after}
use Rattle.hg_runs.proofs.SafetyLaws.{runs_safe}

-- the first member has its own first row before that of the other, so rows stand at other places than in the node of the second

making1 : making row_limit 0 ([]) [] 1 [] (replicate 64 1) ≡ answer.Made 0
unfolding first_words schedule rounds compress hash_after digest_bytes sha384
making1 = refl

made1 : IsMade all 0 ([]) row1
unfolding body_of spelling
made1 = record {
  others = [];
  time = 1;
  payload = [];
  sig = replicate 64 1;
  fields = ap (λ (name : List ℕ). row 0 None 1 name) (sym named1);
  spelled = event1;
  signed = refl;
  made = making1;
}

taken0 : IsTaken all (members 2) 0 (row1 ∷ []) row0
unfolding forking total has_fork is_fork is_self_ancestor weight_below some_below reaches by_place values_below self_parent parents creator links
taken0 = record { spelled = event0; accepted = refl }

making2 : making row_limit 0 (row1 ∷ row0 ∷ []) (name0 ∷ []) 3 [] (replicate 64 3) ≡ answer.Made 2
unfolding first_words schedule rounds compress hash_after digest_bytes sha384
making2 = refl

made2 : IsMade all 0 (row1 ∷ row0 ∷ []) row2
unfolding body_of spelling
made2 = record {
  others = name0 ∷ [];
  time = 3;
  payload = [];
  sig = replicate 64 3;
  fields = ap (λ (name : List ℕ). row 0 (Some (name1, name0 ∷ [])) 3 name) (sym named2);
  spelled = event2;
  signed = refl;
  made = making2;
}

taken3 : IsTaken all (members 2) 0 (row1 ∷ row0 ∷ row2 ∷ []) row3
unfolding forking total has_fork is_fork is_self_ancestor weight_below some_below reaches by_place values_below self_parent parents creator links
taken3 = record { spelled = event3; accepted = refl }

making4 : making row_limit 0 (row1 ∷ row0 ∷ row2 ∷ row3 ∷ []) (name3 ∷ []) 5 [] (replicate 64 5) ≡ answer.Made 4
unfolding first_words schedule rounds compress hash_after digest_bytes sha384
making4 = refl

made4 : IsMade all 0 (row1 ∷ row0 ∷ row2 ∷ row3 ∷ []) row4
unfolding body_of spelling
made4 = record {
  others = name3 ∷ [];
  time = 5;
  payload = [];
  sig = replicate 64 5;
  fields = ap (λ (name : List ℕ). row 0 (Some (name2, name3 ∷ [])) 5 name) (sym named4);
  spelled = event4;
  signed = refl;
  made = making4;
}

taken5 : IsTaken all (members 2) 0 (row1 ∷ row0 ∷ row2 ∷ row3 ∷ row4 ∷ []) row5
unfolding forking total has_fork is_fork is_self_ancestor weight_below some_below reaches by_place values_below self_parent parents creator links
taken5 = record { spelled = event5; accepted = refl }

making6 : making row_limit 0 (row1 ∷ row0 ∷ row2 ∷ row3 ∷ row4 ∷ row5 ∷ []) (name5 ∷ []) 7 [] (replicate 64 7) ≡ answer.Made 6
unfolding first_words schedule rounds compress hash_after digest_bytes sha384
making6 = refl

made6 : IsMade all 0 (row1 ∷ row0 ∷ row2 ∷ row3 ∷ row4 ∷ row5 ∷ []) row6
unfolding body_of spelling
made6 = record {
  others = name5 ∷ [];
  time = 7;
  payload = [];
  sig = replicate 64 7;
  fields = ap (λ (name : List ℕ). row 0 (Some (name4, name5 ∷ [])) 7 name) (sym named6);
  spelled = event6;
  signed = refl;
  made = making6;
}

taken7 : IsTaken all (members 2) 0 (row1 ∷ row0 ∷ row2 ∷ row3 ∷ row4 ∷ row5 ∷ row6 ∷ []) row7
unfolding forking total has_fork is_fork is_self_ancestor weight_below some_below reaches by_place values_below self_parent parents creator links
taken7 = record { spelled = event7; accepted = refl }

abbrev first_events : List Change
first_events = Made row1 ∷ Took row0 ∷ Made row2 ∷ Took row3 ∷ Made row4 ∷ Took row5 ∷ Made row6 ∷ Took row7 ∷ []

four_news : news (members 2) 10 (replay (members 2) 10 first_events) 8 whole ≡ 4
unfolding replay news share_fame fame_of least_below decides vote_of coin_at sig_at is_closed is_witness round_of strongly_sees sees_through sees has_fork_below is_fork is_ancestor is_self_ancestor total weight_below some_below reaches by_place values_below parents self_parent creator links
four_news = refl

some_news : MarksSome (members 2) 10 (replay (members 2) 10 first_events) 8 whole
unfolding replay
some_news = record { within = omega arith; some = omega (arith, four_news) }

abbrev history_0 : List Change
history_0 = first_events ++ Marked 8 whole ∷ []

abbrev history_1 : List Change
history_1 = events ++ Marked 8 whole ∷ []

is_history_0 : IsHistory all (members 2) 10 0 history_0
unfolding replay
is_history_0 = record {
  member = omega arith;
  stake = two_weigh;
  steps = (made1, (taken0, (made2, (taken3, (made4, (taken5, (made6, (taken7, (some_news, tt)))))))));
}

abbrev run : Run
run zero = history_0
run (suc m) = history_1

-- each node accepts each signature
abbrev terms : ℕ → Terms
terms m = all

is_run : IsRun terms (members 2) 10 run
is_run = record { coin = omega arith; histories = of }
  where
    of : (m : ℕ) → m < 2 → IsHistory all (members 2) 10 m (run m)
    of zero inside = is_history_0
    of (suc zero) inside = worked
    of (suc (suc m)) inside = absurd (omega arith)

none_dishonest : dishonest (members 2) 10 run ≡ 0
unfolding dishonest is_dishonest weight_below some_below replay spelling body_of
none_dishonest = refl

-- the rows of both

abbrev first_rows : List Row
first_rows = row1 ∷ row0 ∷ row2 ∷ row3 ∷ row4 ∷ row5 ∷ row6 ∷ row7 ∷ []

abbrev second_rows : List Row
second_rows = row0 ∷ row1 ∷ row2 ∷ row3 ∷ row4 ∷ row5 ∷ row6 ∷ row7 ∷ []

rows_of_0 : graph_at (members 2) 10 run 0 ≡ first_rows
unfolding replay
rows_of_0 = refl

rows_of_1 : (m : ℕ) → graph_at (members 2) 10 run (suc m) ≡ second_rows
unfolding replay
rows_of_1 m = refl

first_stands : StandsIn first_rows second_rows
first_stands = record { row_in = row_in }
  where
    row_in : (x : ℕ) → x < 8 → IsRowOf first_rows x second_rows
    row_in zero inside = (1, omega arith, refl)
    row_in (suc zero) inside = (0, omega arith, refl)
    row_in (suc (suc x)) inside = (suc (suc x), inside, refl)

stands : (m : ℕ) → StandsIn (graph_at (members 2) 10 run m) second_rows
stands zero = subst (λ (G : List Row). StandsIn G second_rows) (sym rows_of_0) first_stands
stands (suc m) = subst (λ (G : List Row). StandsIn G second_rows) (sym (rows_of_1 m)) (stands_in_itself second_rows)

distinct : HasDistinctNames second_rows
distinct = subst (λ (G : List Row). HasDistinctNames G) (rows_of_1 0) (node_graph all (members 2) 10 1 history_1 (omega arith) worked).graph.distinct

-- of two graphs that stand in one with distinct names
pub equal_in_one : (G H U : List Row) → HasDistinctNames U → StandsIn G U → StandsIn H U → HaveEqualRows G H
unfolding name_at
equal_in_one G H U distinct stands_G stands_H = record {
  equal = λ x y inside_x inside_y same.
      let u = stands_G.row_in x inside_x in
      let v = stands_H.row_in y inside_y in
      sym u.2 ∙ (ap (slice_get U) (distinct.one u.0 v.0 u.1 v.1 (ap name_in u.2 ∙ (same ∙ sym (ap name_in v.2)))) ∙ v.2);
}

are_apart : AreApart (members 2) 10 run
are_apart = record {
  equal = λ j k member_j member_k. equal_in_one (graph_at (members 2) 10 run j) (graph_at (members 2) 10 run k) second_rows distinct (stands j) (stands k);
}

-- so its orders agree
orders_agree : OrdersAgree (members 2) 10 run
orders_agree = runs_safe terms (members 2) 10 run is_run (omega (arith, none_dishonest, two_weigh)) are_apart

-- received in round 2
abbrev ordered : List ℕ → ℕ → Ordered
ordered name time = record { name = name; received = 2; time = time }

-- the order that the second node keeps at the end
four_ordered : order_after (members 2) 10 history_1 ≡ ordered name1 1 ∷ ordered name0 2 ∷ ordered name2 3 ∷ ordered name3 4 ∷ []
unfolding ordered_in consensus_time whitening median sort_by round_received can_receive is_unique_famous famous_places time_at name_at list_below replay news share_fame fame_of least_below decides vote_of coin_at sig_at is_closed is_witness round_of strongly_sees sees_through sees has_fork_below is_fork is_ancestor is_self_ancestor total weight_below some_below reaches by_place values_below parents self_parent creator links
four_ordered = refl
