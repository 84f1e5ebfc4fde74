use Rattle.std.proofs.Common.{◌∙◌, refl, subst, sym, ◌≤◌, length}
use Rattle.hg_graph.specs.Held.{GraphWithRoom}
use Rattle.hg_graph.proofs.HeldLaws.{first_links_are}
use Rattle.hg_graph.proofs.graph.EventGraph.prefix.Goals as goal

pub prefix-requires-2 : goal.prefix-requires-2
prefix-requires-2 c = (first_links_are c.self.invariant c.args.len (subst (λ (g : GraphWithRoom). c.args.len ≤ length g.graph.rows) (sym c.self.view_is) c.requires)).0

pub prefix-requires-3 : goal.prefix-requires-3
prefix-requires-3 c = (first_links_are c.self.invariant c.args.len (subst (λ (g : GraphWithRoom). c.args.len ≤ length g.graph.rows) (sym c.self.view_is) c.requires)).1

pub of-requires-clause-sight : goal.of-requires-clause-sight
of-requires-clause-sight c =
    let all = first_links_are c.self.invariant c.args.len (subst (λ (g : GraphWithRoom). c.args.len ≤ length g.graph.rows) (sym c.self.view_is) c.requires) in
    rw (c.in_ok-prefix-2.ensures ∙ all.2, c.into_parts-blocks.ensures.items, c.in_ok-prefix.ensures.rows) refl

pub of-requires-clause-rounds : goal.of-requires-clause-rounds
of-requires-clause-rounds c =
    let all = first_links_are c.self.invariant c.args.len (subst (λ (g : GraphWithRoom). c.args.len ≤ length g.graph.rows) (sym c.self.view_is) c.requires) in
    rw (c.in_ok-prefix-3.ensures.standings ∙ all.3, c.in_ok-prefix-2.ensures ∙ all.2, c.into_parts-blocks.ensures.items, c.in_ok-prefix.ensures.rows) refl
