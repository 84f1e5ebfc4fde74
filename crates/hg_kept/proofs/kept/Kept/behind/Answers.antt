use Rattle.std.proofs.Common.{◌≡◌, sym, subst, rules}
use Rattle.hg_kept.specs.Published.{Published, Keeps, unpublished_of}
use Rattle.hg_kept.specs.Receiving.{published_as}
use Rattle.hg_kept.proofs.NothingLaws.{keeps_unpublished}
use Rattle.hg_kept.proofs.kept.Kept.behind.Goals as goal

pub returns-clause-keeps : goal.returns-clause-keeps
returns-clause-keeps g c = λ lawful.
    let graph = g.P.Prefix.graph c.args.p.now in
    let is : published_as c.in_ok-marks.marks.items 0 c.in_ok-order.order.items c.reserve.new.self ≡ unpublished_of graph = search rules in
    subst (λ (v : Published). Keeps graph v) (sym is) (keeps_unpublished graph lawful)
