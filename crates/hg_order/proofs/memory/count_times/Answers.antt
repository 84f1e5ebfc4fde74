use Rattle.std.proofs.Common.{arith}
use Rattle.hg_order.proofs.FamousLaws.{famous_within}
use Rattle.hg_order.proofs.CountLaws.{line_rows_inside, window_reaches, have_medians}
use Rattle.hg_order.proofs.memory.count_times.Goals as goal

pub raise_ends-end-requires-clause-places : goal.raise_ends-end-requires-clause-places
raise_ends-end-requires-clause-places g c = rw c.is_of_graph.ensures.matches.shaped (famous_within _ _ c.requires.famous)

pub find_times-requires-clause-places : goal.find_times-requires-clause-places
find_times-requires-clause-places g c =
    let graph = g.P.Prefix.graph c.args.p.now in
    let end = rw c.is_of_graph.ensures.matches.shaped at c.raise_ends-end.ensures.end in
    rw (c.is_of_graph.ensures.matches.shaped, c.deref.ensures.value, c.sort_line_rows.ensures.sorted, c.list_line_rows.ensures.listed)
    (line_rows_inside graph c.is_of_graph.ensures.shaped c.args.famous.now c.args.wanted.now.least c.raise_ends-end.new.ends c.args.wanted.now.low c.raise_ends-end.result end)

pub find_times-requires-clause-reach : goal.find_times-requires-clause-reach
find_times-requires-clause-reach g c =
    rw c.is_of_graph.ensures.matches.shaped
    (window_reaches (g.P.Prefix.graph c.args.p.now) c.is_of_graph.ensures.shaped c.args.famous.now c.args.wanted.now.least c.raise_ends-end.new.ends c.args.wanted.now.low c.raise_ends-end.result
    c.requires.some c.requires.least c.raise_ends-end.ensures.below (omega (arith, c.raise_ends-end.ensures.below 0 0 c.requires.some, c.requires.low)))

pub returns-clause-medians : goal.returns-clause-medians
returns-clause-medians g c = λ done.
    let graph = g.P.Prefix.graph c.args.p.now in
    let matches = c.is_of_graph.ensures.matches in
    let just = rw matches.shaped at c.raise_ends-end.ensures.just in
    let end = rw matches.shaped at c.raise_ends-end.ensures.end in
    let all = rw (matches.shaped, c.deref.ensures.value, c.sort_line_rows.ensures.sorted, c.list_line_rows.ensures.listed, c.requires.need) at (c.find_times.ensures.times done) in
    have_medians graph c.is_of_graph.ensures.shaped c.args.famous.now c.args.wanted.now.least c.raise_ends-end.new.ends c.args.wanted.now.low c.raise_ends-end.result c.requires.some c.requires.least c.raise_ends-end.ensures.below
    c.requires.famous just c.raise_ends-end.ensures.within end _ all (c.find_times.ensures.long done)
