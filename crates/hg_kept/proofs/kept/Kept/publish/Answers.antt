use Rattle.std.proofs.Common.{◌≡◌, subst, sym, arith}
use Rattle.hg_life.specs.StateWords.{news_by, marks_by}
use Rattle.hg_kept.specs.Published.{PublishedWithRoom, Keeps, FindsNewsOf}
use Rattle.hg_kept.proofs.PublishLaws.{inside, marks_published, count_published, keeps_published}
use Rattle.hg_kept.proofs.kept.Kept.publish.Goals as goal

pub mark_found-count-requires-clause-within : goal.mark_found-count-requires-clause-within
mark_found-count-requires-clause-within g c =
    let graph = g.P.Prefix.graph c.args.p.now in
    let keeps = subst (λ (t : PublishedWithRoom). Keeps graph t.published) (sym c.self.view_is) c.requires.keeps in
    let finds = subst (λ (t : PublishedWithRoom). FindsNewsOf graph t.published.marks c.args.found.now) (sym c.self.view_is) c.requires.news in
    rw c.as_slice.ensures (inside graph c.is_of_graph.ensures.matches.coin _ keeps c.args.found.now finds)

pub mark_found-count-requires-clause-few : goal.mark_found-count-requires-clause-few
mark_found-count-requires-clause-few g c =
    let graph = g.P.Prefix.graph c.args.p.now in
    let keeps = subst (λ (t : PublishedWithRoom). Keeps graph t.published) (sym c.self.view_is) c.requires.keeps in
    let even = keeps.even in
    omega (arith, c.is_of_graph.ensures.short)

pub close_rounds-self-inside-requires-clause-keeps : goal.close_rounds-self-inside-requires-clause-keeps
close_rounds-self-inside-requires-clause-keeps g c =
    let graph = g.P.Prefix.graph c.args.p.now in
    let keeps = subst (λ (t : PublishedWithRoom). Keeps graph t.published) (sym c.self.view_is) c.requires.keeps in
    let finds = subst (λ (t : PublishedWithRoom). FindsNewsOf graph t.published.marks c.args.found.now) (sym c.self.view_is) c.requires.news in
    rw c.deref.ensures.value (keeps_published graph c.is_of_graph.ensures.matches.coin _ keeps c.args.found.now finds _ _ (rw c.as_slice.ensures at c.mark_found-count.ensures.added))

pub returns-clause-count : goal.returns-clause-count
returns-clause-count g c =
    let graph = g.P.Prefix.graph c.args.p.now in
    let keeps = subst (λ (t : PublishedWithRoom). Keeps graph t.published) (sym c.self.view_is) c.requires.keeps in
    let finds = subst (λ (t : PublishedWithRoom). FindsNewsOf graph t.published.marks c.args.found.now) (sym c.self.view_is) c.requires.news in
    subst (λ (t : PublishedWithRoom). c.mark_found-count.result ≡ news_by graph t.published.marks c.args.found.now.len c.args.found.now.share) c.self.view_is
    (count_published graph c.is_of_graph.ensures.matches.coin _ keeps c.args.found.now finds _ _ (rw c.as_slice.ensures at c.mark_found-count.ensures.added))

pub returns-clause-marks : goal.returns-clause-marks
returns-clause-marks g c =
    let graph = g.P.Prefix.graph c.args.p.now in
    let keeps = subst (λ (t : PublishedWithRoom). Keeps graph t.published) (sym c.self.view_is) c.requires.keeps in
    let finds = subst (λ (t : PublishedWithRoom). FindsNewsOf graph t.published.marks c.args.found.now) (sym c.self.view_is) c.requires.news in
    subst (λ (t : PublishedWithRoom). c.mark_found-count.new.marks.items ≡ marks_by graph t.published.marks c.args.found.now.len c.args.found.now.share) c.self.view_is
    (marks_published graph c.is_of_graph.ensures.matches.coin _ keeps c.args.found.now finds _ _ (rw c.as_slice.ensures at c.mark_found-count.ensures.added))
