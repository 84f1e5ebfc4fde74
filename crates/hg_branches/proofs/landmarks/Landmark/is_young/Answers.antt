use Rattle.std.proofs.Common.{◌∙◌, sym, ap}
use Rattle.std.proofs.lemmas.Bool.{not-true}
use Rattle.hg_model.specs.Stakes.{total}
use Rattle.hg_model.specs.Seeing.{is_supermajority}
use Rattle.hg_branches.specs.Landmarks.{LandmarkView}
use Rattle.hg_branches.proofs.ReachedLaws.{never_strong}
use Rattle.hg_branches.proofs.landmarks.Landmark.is_young.Goals as goal

pub returns-clause-never : goal.returns-clause-never
returns-clause-never c = λ young.
    let n = c.args.stakes.now in
    never_strong n c.args.self.now c.requires
    (ap (λ (k : LandmarkView). is_supermajority (total n) k.reached) (sym c.self.view_is) ∙ (sym c.is_over.ensures ∙ not-true c.is_over.result young))
