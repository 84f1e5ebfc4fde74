use Rattle.std.proofs.Common.{◌∙◌, ap, subst, sym}
use Rattle.hg_model.specs.Shape.{Shape, FitsLink, with_link}
use Rattle.hg_forks.specs.SelfLinks.{self_link_of, self_shape}
use Rattle.check_sights.proofs.WatchLaws.{self_fits, self_push}
use Rattle.check_sights.proofs.forks.add.Goals as goal

pub add-requires-clause-fits : goal.add-requires-clause-fits
add-requires-clause-fits c =
    subst (λ (s : Shape). FitsLink s.members s.links (self_link_of c.args.creator c.self_place.result)) (sym c.requires.same)
    (self_fits c.args.sight.now.shape.members c.args.sight.now.shape.links c.args.creator c.args.parents.now c.self_place.result c.self_place.ensures c.requires.fits)

pub returns : goal.returns
returns c =
    c.add.ensures
    ∙ (ap (λ (s : Shape). with_link s (self_link_of c.args.creator c.self_place.result)) c.requires.same
    ∙ (self_push c.args.sight.now.shape c.args.creator c.args.parents.now c.self_place.result c.self_place.ensures
    ∙ ap self_shape (sym c.extend.ensures)))
