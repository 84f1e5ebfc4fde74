use Rattle.std.proofs.Common.{◌∙◌, sym, ap, not}
use Rattle.std.proofs.lemmas.Bool.{eqb-true}
use Rattle.hg_rounds.proofs.SeenLaws.{no_places, rises_not}
use Rattle.hg_rounds.proofs.place.rises.Goals as goal

pub returns-else-not-is_empty : goal.returns-else-not-is_empty
returns-else-not-is_empty g c =
    let shape = g.S.Sight.shape c.args.sight.now in
    let none = no_places c.args.on.now (eqb-true _ _ (sym c.is_empty.ensures ∙ c.if-not-is_empty.false)) in
    ap not c.if-not-is_empty.false
    ∙ sym (rises_not shape.members shape.links c.is_shaped.ensures.shaped.earlier c.args.x (sym c.requires.on ∙ none) c.args.rows.now c.requires.places)
