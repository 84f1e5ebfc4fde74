use Rattle.std.proofs.Common.{◌+◌, ◌≡◌, drop}
use Rattle.std.specs.List.{list_any}
use Rattle.hg_answering.proofs.MakingLaws.{is_other}
use Rattle.hg_answering.proofs.making.is_last_of_all.Given as goal

abbrev pub invariant-loop-x : goal.invariant-loop-x
invariant-loop-x l =
    list_any (is_other l.own) (drop l.x l.graph.graph.rows) ≡ list_any (is_other l.own) (drop (l.place + 1) l.graph.graph.rows)
