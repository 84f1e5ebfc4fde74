use Rattle.std.proofs.Common.{ap, sym, ◌∙◌, subst}
use Rattle.hg_wire.specs.Ears.{Answers, GoesOn, IsOn, Place, means, place_of}
use Rattle.hg_wire.proofs.Settled.{heard_answers, heard_goes_on, heard_waits, means_shut, on_waits}
use Rattle.hg_wire.proofs.ear.Ear.feed.Goals as goal

pub returns-in-Shut-clause-answers : goal.returns-in-Shut-clause-answers
returns-in-Shut-clause-answers c = ap (λ (p : Place). means p c.args.piece.now) (sym c.self.view_is) ∙ means_shut c.self.inside.hearing c.in-Shut.fault c.in-Shut.is c.args.piece.now

pub returns-in-Shut-clause-goes_on : goal.returns-in-Shut-clause-goes_on
returns-in-Shut-clause-goes_on c = λ more. ap (λ (p : Place). means p more) (sym c.self.view_is) ∙ means_shut c.self.inside.hearing c.in-Shut.fault c.in-Shut.is more

pub hear-requires : goal.hear-requires
hear-requires c = on_waits c.self.inside.hearing c.self.invariant c.in_default.not-Shut (subst (λ (p : Place). IsOn p) (sym c.self.view_is) c.requires)

pub returns-clause-answers : goal.returns-clause-answers
returns-clause-answers c =
    subst (λ (p : Place). Answers c.args.piece.now (means p c.args.piece.now) c.in_ok-fed.fed) c.self.view_is (heard_answers c.self.inside.hearing c.hear.new.h c.args.piece.now c.in_ok-fed.fed c.in_ok-fed.ensures.heard)

pub returns-clause-goes_on : goal.returns-clause-goes_on
returns-clause-goes_on c =
    subst (λ (p : Place). GoesOn p (place_of c.hear.new.h) c.args.piece.now c.in_ok-fed.fed) c.self.view_is (heard_goes_on c.self.inside.hearing c.hear.new.h c.args.piece.now c.in_ok-fed.fed c.in_ok-fed.ensures.heard)

pub returns-clause-waits : goal.returns-clause-waits
returns-clause-waits c = heard_waits c.self.inside.hearing c.hear.new.h c.args.piece.now c.in_ok-fed.fed c.in_ok-fed.ensures.heard
