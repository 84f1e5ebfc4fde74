use Rattle.std.proofs.Common.{sym, subst}
use Rattle.hg_kept.specs.Published.{PublishedWithRoom, HasCome, TookRow}
use Rattle.hg_kept.specs.Receiving.{published_as}
use Rattle.hg_kept.proofs.RowLaws.{row_keeps, took}
use Rattle.hg_kept.proofs.kept.Kept.add.Goals as goal

pub returns-clause-took : goal.returns-clause-took
returns-clause-took g c =
    let graph = g.P.Prefix.graph c.args.p.now in
    let come = subst (λ (t : PublishedWithRoom). HasCome graph t.published) (sym c.self.view_is) c.requires.come in
    let new = published_as c.push_reserved.new.self.items c.self.inside.closed c.self.inside.order.items c.self.inside.pending in
    subst (λ (t : PublishedWithRoom). TookRow graph t.published new) c.self.view_is
    (rw c.push_reserved.ensures.items (took graph c.is_of_graph.ensures.matches.coin _ come _ c.first_mark-mark.ensures))

pub returns-clause-keeps : goal.returns-clause-keeps
returns-clause-keeps g c =
    let graph = g.P.Prefix.graph c.args.p.now in
    let come = subst (λ (t : PublishedWithRoom). HasCome graph t.published) (sym c.self.view_is) c.requires.come in
    rw c.push_reserved.ensures.items (row_keeps graph c.is_of_graph.ensures.matches.coin _ come _ c.first_mark-mark.ensures)
