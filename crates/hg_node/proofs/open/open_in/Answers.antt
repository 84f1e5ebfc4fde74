use Rattle.std.proofs.Common.{ℕ, ◌≡◌, ◌∙◌, length, subst, sym, rules}
use Rattle.std.proofs.lemmas.Bool.{eqb-true}
use Rattle.hg_node.specs.Opening.{OpensAll}
use Rattle.hg_node.proofs.OpenLaws.{none_open, some_items}
use Rattle.hg_node.proofs.open.open_in.Goals as goal

pub returns-then-is_empty-clause-opens : goal.returns-then-is_empty-clause-opens
returns-then-is_empty-clause-opens c =
    let g = c.args.graph.now.graph in
    let marks = c.args.kept.now.published.marks in
    let places = c.in_ok-places.places.items in
    let none : length places ≡ 0 = (let is = eqb-true _ _ (sym c.is_empty.ensures ∙ c.if-is_empty.true) in search rules) in
    none_open g marks c.args.share places c.requires.made.shaped c.requires.keeps.fame (subst (λ (k : ℕ). OpensAll g marks c.args.share k places) c.len-rows.ensures.value c.in_ok-places.ensures) none

pub returns-clause-opens : goal.returns-clause-opens
returns-clause-opens c =
    let g = c.args.graph.now.graph in
    record {
      graph = c.in_ok-frozen.ensures.graph;
      votes = c.in_ok-table.ensures.made g c.requires.made;
      places = subst (λ (k : ℕ). OpensAll g c.args.kept.now.published.marks c.args.share k c.in_ok-places.places.items) c.len-rows.ensures.value c.in_ok-places.ensures;
      some = (let is = some_items _ (sym c.is_empty.ensures ∙ c.if-is_empty.false) in search rules);
    }
