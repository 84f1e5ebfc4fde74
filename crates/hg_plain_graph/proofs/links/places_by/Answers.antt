use Rattle.std.proofs.Common.{◌∙◌, ◌∷◌, ◌++◌, ℕ, List, [], ap, ap₂, sym}
use Rattle.std.proofs.lemmas.List.{map_more}
use Rattle.hg_model.specs.Links.{place_of}
use Rattle.hg_plain_graph.proofs.links.places_by.Goals as goal

pub loop-name-preserved : goal.loop-name-preserved
loop-name-preserved c =
    let place = place_of c.args.rows.now in
    c.in_ok-push-2.ensures.items
    ∙ (ap₂ (λ (ps : List ℕ) (p : ℕ). ps ++ p ∷ []) c.loop-name.invariant c.place_in-in-loop-name.ensures
    ∙ ap (λ (ps : List ℕ). place c.args.first.now ∷ ps) (sym (map_more place c.args.others.now c.loop-name.name-index [] c.loop-name-test.true)))
