use Rattle.std.proofs.Common.{◌++◌}
use Rattle.hg_model.specs.Links.{links}
use Rattle.hg_model.specs.Order.{coin_at}
use Rattle.hg_model.proofs.LinkLaws.{length-links}
use Rattle.hg_agree.proofs.AgreeLaws as agree
use Rattle.hg_model.proofs.LongerLaws.{links-longer, coin_at-longer}
use Rattle.hg_agree.proofs.LaterLaws.{deciders_agree-later, fame_kept}
use Rattle.hg_agree.proofs.laws.deciders_agree.Goals as goal

pub returns-clause-agree : goal.returns-clause-agree
returns-clause-agree c = λ n period G g x a b ha hb.
    agree.deciders_agree n (links G) g.shaped g.few_forkers period (coin_at G) x a b (rw length-links ha) (rw length-links hb)

pub returns-clause-later : goal.returns-clause-later
returns-clause-later c = λ n period G more g h x a b hx ha hb.
    deciders_agree-later n period (links G) (links (G ++ more)) g.shaped h.shaped h.few_forkers (links-longer n G more g.shaped) (coin_at G) (coin_at (G ++ more))
    (λ y hy. coin_at-longer G more y (rw length-links at hy)) x a b (rw length-links hx) (rw length-links ha) (rw length-links hb)

pub returns-clause-kept : goal.returns-clause-kept
returns-clause-kept c = λ n period G more g h.
    fame_kept n period (links G) (links (G ++ more)) g.shaped h.shaped h.few_forkers (links-longer n G more g.shaped) (coin_at G) (coin_at (G ++ more))
    (λ y hy. coin_at-longer G more y (rw length-links at hy))
