use Rattle.std.proofs.Common.{◌∙◌, ap, length, List, arith}
use Rattle.hg_model.specs.Standings.{Standing}
use Rattle.hg_model.proofs.StandingLaws.{length-standings}
use Rattle.hg_order.proofs.FamousLaws.{famous_within, round_is}
use Rattle.hg_order.proofs.order.round_of.Goals as goal

pub round-requires : goal.round-requires
round-requires g c =
    let long = ap (λ (s : List Standing). length s) c.is_of_graph.ensures.matches.standing ∙ length-standings _ _ in
    rw long (famous_within _ _ c.requires 0 0 (omega arith))

pub returns-in-len1-up : goal.returns-in-len1-up
returns-in-len1-up g c marks r are some = c.round.ensures ∙ round_is _ _ _ c.is_of_graph.ensures.matches marks r 0 0 c.args.famous.now are some
