use Rattle.std.proofs.Common.{◌∙◌, refl, subst}
use Rattle.hg_wire.specs.declared.progress.Turn.{Turn}
use Rattle.hg_wire.specs.Ears.{Steps, StepsKept}
use Rattle.hg_wire.specs.Views.{state_of}
use Rattle.hg_wire.proofs.Onward.{less_left, onward_on, same_onward}
use Rattle.hg_wire.proofs.hearing.hear_on.Goals as goal

pub fields-init : goal.fields-init
fields-init c = record {
  within = c.requires.left.0;
  behind = c.requires.left.1;
  waits = c.requires.waits;
  empty = c.requires.empty;
  onward = same_onward (state_of c.args.h.now.progress);
  same = λ more. refl;
}

pub fields-preserved : goal.fields-preserved
fields-preserved c =
    let steps = subst (λ (t : Turn). Steps c.fields.h c.step_within.new.h c.fields.rest.now t) c.in-On.is c.in_ok-step_within.ensures.steps in
    let kept = subst (λ (t : Turn). StepsKept c.fields.h c.step_within.new.h t) c.in-On.is c.in_ok-step_within.ensures.kept in
    let left = less_left c.args.piece.now c.fields.rest.now c.in-On.behind.now (c.fields.invariant.within, c.fields.invariant.behind) steps.1 in record {
      within = left.0;
      behind = left.1;
      waits = steps.0;
      empty = kept.0;
      onward = onward_on (state_of c.args.h.now.progress) (state_of c.fields.h.progress) (state_of c.step_within.new.h.progress) c.fields.invariant.onward kept.1;
      same = λ more. steps.2 more ∙ c.fields.invariant.same more;
    }
