use Rattle.std.proofs.Common.{subst, sym}
use Rattle.hg_model.specs.Shape.{Shape, FitsLink}
use Rattle.hg_forks.specs.SelfLinks.{self_link_of}
use Rattle.check_sights.proofs.WatchLaws.{self_fits}
use Rattle.check_sights.proofs.forks.would.Goals as goal

pub would-requires : goal.would-requires
would-requires c =
    subst (λ (s : Shape). FitsLink s.members s.links (self_link_of c.args.creator c.self_place.result)) (sym c.requires.same)
    (self_fits c.args.sight.now.shape.members c.args.sight.now.shape.links c.args.creator c.args.parents.now c.self_place.result c.self_place.ensures c.requires.fits)
