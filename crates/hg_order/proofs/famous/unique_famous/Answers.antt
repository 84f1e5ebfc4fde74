use Rattle.std.proofs.Common.{ap, arith, count_by, List, ℕ}
use Rattle.hg_order.specs.Famous.{is_lone}
use Rattle.hg_order.proofs.FamousLaws.{witnesses_within, lone_is, lone_counted, lone_few}
use Rattle.hg_order.proofs.famous.unique_famous.Goals as goal

pub keep_lone-requires-clause-places : goal.keep_lone-requires-clause-places
keep_lone-requires-clause-places g c = rw c.witnesses.ensures (witnesses_within _ _ _ c.is_of_graph.ensures.matches c.is_of_graph.ensures.shaped c.args.marks.now c.args.r)

pub keep_lone-requires-clause-fits : goal.keep_lone-requires-clause-fits
keep_lone-requires-clause-fits g c =
    let L = (g.P.Sight.shape c.args.p.now).links in
    let wide = c.requires in
    let count = ap (λ (ws : List ℕ). count_by (is_lone L c.args.marks.now ws) ws) c.witnesses.ensures in
    omega (arith, count, lone_few _ _ _ c.is_of_graph.ensures.matches c.is_of_graph.ensures.shaped c.args.marks.now c.args.r)

pub returns-clause-count : goal.returns-clause-count
returns-clause-count g c = rw (c.keep_lone.ensures.count, c.witnesses.ensures) (lone_counted _ _ _ c.is_of_graph.ensures.matches c.is_of_graph.ensures.shaped c.args.marks.now c.args.r)

pub returns-clause-front : goal.returns-clause-front
returns-clause-front g c = rw (c.keep_lone.ensures.front, c.witnesses.ensures) (lone_is _ _ _ c.is_of_graph.ensures.matches c.is_of_graph.ensures.shaped c.args.marks.now c.args.r)

pub returns-clause-famous : goal.returns-clause-famous
returns-clause-famous g c = record { marks = c.args.marks.now; round = c.args.r; are = returns-clause-front g c }

pub returns-clause-fits : goal.returns-clause-fits
returns-clause-fits g c = rw (c.keep_lone.ensures.count, c.witnesses.ensures) (lone_few _ _ _ c.is_of_graph.ensures.matches c.is_of_graph.ensures.shaped c.args.marks.now c.args.r)
