use Rattle.std.proofs.Common.{◌∙◌, ap}
use Rattle.hg_model.specs.Shape.{Shape}
use Rattle.hg_order.specs.Famous.{all_have}
use Rattle.hg_order.proofs.FamousLaws.{famous_within, received_where_closed}
use Rattle.hg_order.proofs.received.received_in.Goals as goal

pub have_all-requires-clause-places : goal.have_all-requires-clause-places
have_all-requires-clause-places g c = rw c.is_of_graph.ensures.matches.shaped (famous_within _ _ c.requires.famous)

pub returns-clause-receives : goal.returns-clause-receives
returns-clause-receives g c marks r are closed =
    c.have_all.ensures
    ∙ (ap (λ (s : Shape). all_have s.links c.args.famous.now c.args.x) c.is_of_graph.ensures.matches.shaped
    ∙ rw are (received_where_closed _ _ marks r c.args.x (rw are at c.requires.some) closed))
