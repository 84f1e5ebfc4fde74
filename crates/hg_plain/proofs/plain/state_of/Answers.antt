use Rattle.std.proofs.Common.{◌∙◌, ap, List, Bool, false, length, get_or}
use Rattle.hg_model.specs.Places.{greatest_below}
use Rattle.hg_plain.proofs.ClosedLaws.{last_closed_is}
use Rattle.hg_plain.proofs.plain.state_of.Goals as goal

pub returns-clause-closed : goal.returns-clause-closed
returns-clause-closed c =
    c.last_closed.ensures
    ∙ (ap (λ (closed : List Bool). greatest_below (length closed) (λ r. get_or closed r false)) c.deref.ensures.value
    ∙ last_closed_is _ _ _ c.args.graph.now.closed.items c.requires.closed)
