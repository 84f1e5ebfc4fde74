use Rattle.std.proofs.Common.{◌≡◌, ◌∙◌, ◌++◌, ◌∷◌, [], List, ℕ, ap, ap₂, replicate, subst, sym, arith}
use Rattle.std.proofs.lemmas.List.{replicate-append-replicate}
use Rattle.hg_gossip.specs.Handing.{HeardView, none_heard}
use Rattle.hg_gossip.specs.Known.{IsSquare, KeepsAny}
use Rattle.hg_gossip.proofs.KnownLaws.{knows_nothing, none_square}
use Rattle.hg_gossip.proofs.known.Known.none.Goals as goal

pub loop-preserved : goal.loop-preserved
loop-preserved c =
    c.in_ok-push.ensures.items
    ∙ (ap₂ (λ (before : List (List HeardView)) (row : List HeardView). before ++ row ∷ []) c.loop.invariant c.in_ok-none_heard.ensures
    ∙ replicate-append-replicate c.loop.counter 1 (replicate c.args.count none_heard))

pub invariant_of-result : goal.invariant_of-result
invariant_of-result c =
    let all : c.loop.counter ≡ c.args.count = omega arith in
    subst IsSquare (sym (c.loop.invariant ∙ ap (λ (k : ℕ). replicate k (replicate c.args.count none_heard)) all)) (none_square c.args.count)

pub returns-clause-keeps : goal.returns-clause-keeps
returns-clause-keeps c =
    let all : c.loop.counter ≡ c.args.count = omega arith in
    subst (KeepsAny c.args.count) (sym (c.loop.invariant ∙ ap (λ (k : ℕ). replicate k (replicate c.args.count none_heard)) all)) (knows_nothing c.args.count)
