use Rattle.std.proofs.Common.{rules, ◌≡◌, ◌-◌, Some, subst}
use Rattle.hg_graph.specs.Held.{GraphWithRoom}
use Rattle.hg_graph.specs.RowsWithRoom.{found_place}
use Rattle.hg_graph.proofs.NamedLaws.{named_found}
use Rattle.hg_graph.proofs.graph.EventGraph.last_named.Goals as goal

pub returns : goal.returns
returns c =
    let named : c.row.result.now.name ≡ c.args.name.now = search rules in
    subst (λ (v : GraphWithRoom). found_place v.graph.rows c.args.name.now ≡ Some (c.own_end-end.result - 1)) c.self.view_is
    (named_found c.self.inside.store.rows c.self.invariant.held.graph.distinct (c.own_end-end.result - 1) c.row.result.now c.args.name.now c.row.ensures named)
