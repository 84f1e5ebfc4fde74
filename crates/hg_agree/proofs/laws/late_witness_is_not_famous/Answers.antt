use Rattle.std.proofs.Common.{◌++◌}
use Rattle.hg_model.specs.Links.{links}
use Rattle.hg_model.specs.Fame.{fame_marks}
use Rattle.hg_model.specs.Order.{coin_at}
use Rattle.hg_model.proofs.LinkLaws.{length-links}
use Rattle.hg_agree.proofs.LateLaws.{fame_of_mark}
use Rattle.hg_model.proofs.LongerLaws.{links-longer, coin_at-longer}
use Rattle.hg_agree.proofs.LaterLaws.{late_is_not_famous, closed_stays}
use Rattle.hg_agree.proofs.laws.late_witness_is_not_famous.Goals as goal

pub returns-clause-late : goal.returns-clause-late
returns-clause-late c = λ n period G more g h hc r x closed late hx.
    late_is_not_famous n period (links G) (links (G ++ more)) g.shaped h.shaped h.few_forkers (links-longer n G more g.shaped) (coin_at G) (coin_at (G ++ more))
    (λ y hy. coin_at-longer G more y (rw length-links at hy))
    (fame_marks n period (links G) (coin_at G)) r x (fame_of_mark n period (links G) (coin_at G)) closed hc (rw length-links late) (rw length-links hx)

pub returns-clause-stays : goal.returns-clause-stays
returns-clause-stays c = λ n period G more g h hc r closed.
    closed_stays n period (links G) (links (G ++ more)) g.shaped h.shaped h.few_forkers (links-longer n G more g.shaped) (coin_at G) (coin_at (G ++ more))
    (λ y hy. coin_at-longer G more y (rw length-links at hy)) r closed hc
