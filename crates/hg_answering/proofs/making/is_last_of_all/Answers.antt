use Rattle.std.proofs.Common.{◌<◌, ◌∙◌, add-one, ap, arith, drop, length, not, sym, ℕ}
use Rattle.std.specs.List.{list_any}
use Rattle.hg_answering.proofs.MakingLaws.{is_other, none_left, other_there, own_next}
use Rattle.hg_answering.proofs.making.is_last_of_all.Goals as goal

pub overflow_step-x : goal.overflow_step-x
overflow_step-x c = omega (arith, c.requires, c.is_of_graph.ensures.short)

pub returns-then-row-own : goal.returns-then-row-own
returns-then-row-own c =
    let G = c.args.graph.now.graph.rows in
    let own = c.args.own in
    let inside : c.loop-x.x < length G = omega (arith, c.loop-x-test.true, c.len-x-end.ensures.value) in
    let there = other_there own G c.loop-x.x c.row.result.now inside c.row.ensures c.if-row-own.true in
    sym (ap not (ap (λ (k : ℕ). list_any (is_other own) (drop k G)) (sym (add-one c.args.place)) ∙ (sym c.loop-x.invariant ∙ there)))

pub loop-x-preserved : goal.loop-x-preserved
loop-x-preserved c =
    let G = c.args.graph.now.graph.rows in
    own_next c.args.own G c.loop-x.x c.row.result.now (omega (arith, c.loop-x-test.true, c.len-x-end.ensures.value)) c.row.ensures c.if-row-own.false ∙ c.loop-x.invariant

pub returns : goal.returns
returns c =
    let G = c.args.graph.now.graph.rows in
    let own = c.args.own in
    let none = none_left own G c.loop-x.x (omega (arith, c.loop-x-test.false, c.len-x-end.ensures.value)) in
    sym (ap not (ap (λ (k : ℕ). list_any (is_other own) (drop k G)) (sym (add-one c.args.place)) ∙ (sym c.loop-x.invariant ∙ none)))
