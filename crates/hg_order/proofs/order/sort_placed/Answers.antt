use Rattle.std.proofs.Common.{rules}
use Rattle.std.proofs.lemmas.Fn.{always_returns_same}
use Rattle.hg_order.specs.Round.{placed_less}
use Rattle.hg_order.proofs.RoundLaws.{sorted_placed, placed_ranks}
use Rattle.hg_order.proofs.order.sort_placed.Goals as goal

pub returns : goal.returns
returns g c =
    let G = (g.P.Prefix.graph c.args.p.now).rows in
    let white = c.args.white.now in
    sorted_placed G white c.args.placed.now c.sort_unstable_by.new.self c.sort_unstable_by.ensures.permutation
    (c.sort_unstable_by.ensures.sorted (placed_less G white) (placed_ranks G white) (always_returns_same _ _ _ (λ a r f called. search rules)))
