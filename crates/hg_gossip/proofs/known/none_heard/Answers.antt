use Rattle.std.proofs.Common.{◌∙◌, ◌++◌, ◌∷◌, [], List, ap₂}
use Rattle.std.proofs.lemmas.List.{replicate-append-replicate}
use Rattle.hg_gossip.specs.Handing.{HeardView, none_heard}
use Rattle.hg_gossip.proofs.known.none_heard.Goals as goal

pub loop-preserved : goal.loop-preserved
loop-preserved c =
    c.in_ok-push.ensures.items
    ∙ (ap₂ (λ (before : List HeardView) (heard : HeardView). before ++ heard ∷ []) c.loop.invariant c.all_heard.ensures
    ∙ replicate-append-replicate c.loop.counter 1 none_heard)
