use Rattle.std.proofs.Common.{ap, length, subst, sym}
use Rattle.hg_rounds.specs.Tabled.{WeighNothing}
use Rattle.hg_rounds.proofs.WeightLaws.{weigh_nothing}
use Rattle.hg_rounds.proofs.CutLaws.{no_tops}
use Rattle.hg_rounds.proofs.KeepLaws.{keeps_none}
use Rattle.hg_rounds.proofs.table.RoundTable.new.Goals as goal

pub invariant_of-result : goal.invariant_of-result
invariant_of-result c =
    rw (c.new-3.ensures, c.new-4.ensures, c.in_ok-push-2.ensures.items, c.in_ok-push.ensures.items, c.new-lists.ensures.items) (record { lists_kept = keeps_none _ _ c.new.ensures c.new-2.ensures; tops_kept = no_tops; weighed = ap length (c.in_ok-vec.ensures.items_if_clones_equal (λ y h. h)); there = tt; empty = c.new-5.ensures.items })

pub returns-clause-weights : goal.returns-clause-weights
returns-clause-weights c = subst WeighNothing (sym (c.in_ok-vec.ensures.items_if_clones_equal (λ y h. h))) weigh_nothing
