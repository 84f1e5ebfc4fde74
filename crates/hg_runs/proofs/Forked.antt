-- A worked run of four members of whom one is dishonest: of its two first events its own node made one, and each was taken
-- by another node. It is counted, it has a fork, and the premises of safety are met
use Rattle.std.proofs.Common.{◌≡◌, ℕ, zero, suc, ◌<◌, true, List, [], ◌∷◌, ◌++◌, length, None, sym, refl, ap, arith}
use Rattle.std.specs.Prelude.{replicate}
use Rattle.std.specs.Int.{w64, to_be_bytes}
use Rattle.std.proofs.lemmas.List.{length-replicate}
use Rattle.sha2.specs.Sha512.{sha384, first_words, schedule, rounds, compress, hash_after, digest_bytes}
use Rattle.hg_model.specs.declared.row.Row.{Row}
use Rattle.hg_life.specs.declared.answers.MakeAnswer.TheVariants as answer
use Rattle.hg_model.specs.Places.{weight_below, some_below, values_below, by_place, reaches}
use Rattle.hg_model.specs.Links.{links, parents, self_parent, other_parents, creator}
use Rattle.hg_model.specs.Stakes.{total}
use Rattle.hg_model.specs.Ancestry.{is_self_ancestor}
use Rattle.hg_model.specs.Forks.{is_fork, has_fork, forking}
use Rattle.hg_model.specs.Graph.{name_at, IsGraph}
use Rattle.hg_life.specs.Spelling.{body_of, spelling, Spells}
use Rattle.hg_life.specs.Verdict.{making}
use Rattle.hg_life.specs.Terms.{Terms, row_limit}
use Rattle.hg_life.specs.History.{replay, IsTaken, IsMade, IsHistory}
use Rattle.hg_life.specs.History.Change.{Took, Made}
use Rattle.hg_model.proofs.TestLaws.{is_graph, graph_from_test}
use Rattle.hg_prefix.specs.Standing.{StandsIn, IsRowOf}
use Rattle.hg_prefix.specs.Chains.{union}
use Rattle.hg_history.proofs.Worked.{members, row, all}
use Rattle.hg_runs.specs.Run.{Run, IsRun, graph_at}
use Rattle.hg_runs.specs.Honest.{is_dishonest, dishonest, AreApart}
use Rattle.hg_runs.specs.Safety.{OrdersAgree}
use Rattle.hg_runs.proofs.SafetyLaws.{runs_safe}
use Rattle.hg_runs.proofs.Worked.{equal_in_one}

-- the names, as another program computes them

abbrev one_name : List ℕ
one_name = to_be_bytes w64 0x30A93B1D20721EEB ++ (to_be_bytes w64 0x1773D51072A858AA ++ (to_be_bytes w64 0xE34C317C35995550 ++ (to_be_bytes w64 0x138CBCF1A62B8A18 ++ (to_be_bytes w64 0xF2DE91790D257190 ++ to_be_bytes w64 0xCEA2AB8CC2FCFD63))))

abbrev other_name : List ℕ
other_name = to_be_bytes w64 0xC7B3F73608EFD30F ++ (to_be_bytes w64 0xB461B774F1BC66EE ++ (to_be_bytes w64 0x152447012361CC6B ++ (to_be_bytes w64 0x43FED7A8E118547E ++ (to_be_bytes w64 0xF6B48F8CB58AD758 ++ to_be_bytes w64 0x7179B6EA4C351207))))

abbrev one : Row
one = row 3 None 1 one_name

abbrev other : Row
other = row 3 None 2 other_name

one_named : sha384 (spelling one) ≡ one_name
unfolding body_of spelling first_words schedule rounds compress hash_after digest_bytes sha384
one_named = refl

other_named : sha384 (spelling other) ≡ other_name
unfolding body_of spelling first_words schedule rounds compress hash_after digest_bytes sha384
other_named = refl

one_spelled : Spells (spelling one) one
one_spelled = record {
  sized = record { creator = omega arith; parents = tt; time = omega arith; payload = omega arith; sig = length-replicate {A = ℕ} 64 1 };
  spelled = refl;
  named = sym one_named;
}

other_spelled : Spells (spelling other) other
other_spelled = record {
  sized = record { creator = omega arith; parents = tt; time = omega arith; payload = omega arith; sig = length-replicate {A = ℕ} 64 2 };
  spelled = refl;
  named = sym other_named;
}

one_making : making row_limit 3 [] [] 1 [] (replicate 64 1) ≡ answer.Made 0
unfolding first_words schedule rounds compress hash_after digest_bytes sha384
one_making = refl

one_made : IsMade all 3 [] one
unfolding body_of spelling
one_made = record {
  others = [];
  time = 1;
  payload = [];
  sig = replicate 64 1;
  fields = ap (λ (name : List ℕ). row 3 None 1 name) (sym one_named);
  spelled = one_spelled;
  signed = refl;
  made = one_making;
}

one_taken : IsTaken all (members 4) 0 [] one
unfolding forking total has_fork is_fork is_self_ancestor weight_below some_below reaches by_place values_below self_parent parents creator links
one_taken = record { spelled = one_spelled; accepted = refl }

other_taken : IsTaken all (members 4) 1 [] other
unfolding forking total has_fork is_fork is_self_ancestor weight_below some_below reaches by_place values_below self_parent parents creator links
other_taken = record { spelled = other_spelled; accepted = refl }

abbrev run : Run
run zero = Took one ∷ []
run (suc zero) = Took other ∷ []
run (suc (suc zero)) = []
run (suc (suc (suc m))) = Made one ∷ []

abbrev terms : ℕ → Terms
terms m = all

four_weigh : total (members 4) ≡ 4
unfolding total weight_below
four_weigh = refl

is_run : IsRun terms (members 4) 10 run
is_run = record { coin = omega arith; histories = of }
  where
    stake : 0 < total (members 4)
    stake = omega (arith, four_weigh)

    of : (m : ℕ) → m < 4 → IsHistory all (members 4) 10 m (run m)
    of zero inside = record { member = omega arith; stake = stake; steps = (one_taken, tt) }
    of (suc zero) inside = record { member = omega arith; stake = stake; steps = (other_taken, tt) }
    of (suc (suc zero)) inside = record { member = omega arith; stake = stake; steps = tt }
    of (suc (suc (suc zero))) inside = record { member = omega arith; stake = stake; steps = (one_made, tt) }
    of (suc (suc (suc (suc m)))) inside = absurd (omega arith)

one_dishonest : dishonest (members 4) 10 run ≡ 1
unfolding dishonest is_dishonest weight_below some_below replay spelling body_of
one_dishonest = refl

-- the fork stands in no node's graph, but in that of two nodes

abbrev both : List Row
both = one ∷ other ∷ []

both_are_the_union : union (graph_at (members 4) 10 run 0) (graph_at (members 4) 10 run 1) ≡ both
unfolding replay
both_are_the_union = refl

is_forked : has_fork (links both) 3 ≡ true
unfolding has_fork is_fork is_self_ancestor some_below reaches by_place values_below self_parent parents creator links
is_forked = refl

both_are_a_graph : IsGraph (members 4) both
unfolding is_graph forking total has_fork is_fork is_self_ancestor name_at weight_below some_below reaches by_place values_below parents self_parent other_parents creator links
both_are_a_graph = graph_from_test (members 4) both refl

stands : (m : ℕ) → StandsIn (graph_at (members 4) 10 run m) both
unfolding replay
stands m = record { row_in = row_in m }
  where
    row_in : (m x : ℕ) → x < length (graph_at (members 4) 10 run m) → IsRowOf (graph_at (members 4) 10 run m) x both
    row_in zero zero inside = (0, omega arith, refl)
    row_in zero (suc x) inside = absurd (omega arith)
    row_in (suc zero) zero inside = (1, omega arith, refl)
    row_in (suc zero) (suc x) inside = absurd (omega arith)
    row_in (suc (suc zero)) x inside = absurd (omega arith)
    row_in (suc (suc (suc m))) zero inside = (0, omega arith, refl)
    row_in (suc (suc (suc m))) (suc x) inside = absurd (omega arith)

are_apart : AreApart (members 4) 10 run
are_apart = record {
  equal = λ j k member_j member_k. equal_in_one (graph_at (members 4) 10 run j) (graph_at (members 4) 10 run k) both both_are_a_graph.distinct (stands j) (stands k);
}

orders_agree : OrdersAgree (members 4) 10 run
orders_agree = runs_safe terms (members 4) 10 run is_run (omega (arith, one_dishonest, four_weigh)) are_apart
