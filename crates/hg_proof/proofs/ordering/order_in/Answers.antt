use Rattle.std.proofs.Common.{◌≡◌, ◌∙◌, ℕ, ap₂, length, subst, sym}
use Rattle.hg_model.specs.Prefix.{links_of}
use Rattle.hg_model.specs.Shares.{Share, Speaks, whole}
use Rattle.hg_life.specs.StateWords.{marks_by, state_by}
use Rattle.hg_history.proofs.FoundLaws.{found_is_news}
use Rattle.hg_proof.proofs.WholeLaws.{whole_order}
use Rattle.hg_proof.proofs.ordering.order_in.Goals as goal

pub publish-requires-clause-keeps : goal.publish-requires-clause-keeps
publish-requires-clause-keeps g c = c.in_ok-kept.ensures.keeps c.requires

-- all that was found is news where nothing is published
pub publish-requires-clause-news : goal.publish-requires-clause-news
publish-requires-clause-news g c =
    let graph = g.P.Prefix.graph c.args.p.now in
    let found = c.in_ok-found.found in
    found_is_news graph.members graph.coin (state_by graph c.in_ok-kept.kept.published.marks) found.len found.share found.marks
    (subst (λ (s : Share). Speaks graph.members graph.coin graph.rows (links_of graph) found.len s found.marks) (sym c.in_ok-found.ensures.share) c.in_ok-found.ensures.speaks)

pub returns : goal.returns
returns g c =
    let graph = g.P.Prefix.graph c.args.p.now in
    let old = c.in_ok-kept.kept.published in
    let marks : c.publish.new.self.published.marks ≡ marks_by graph old.marks (length graph.rows) whole =
    c.publish.ensures.marks
    ∙ ap₂ (λ (len : ℕ) (share : Share). marks_by graph old.marks len share) c.in_ok-found.ensures.len (c.in_ok-found.ensures.share ∙ c.new-2.ensures) in
    c.in_ok-from_slice.ensures.items ∙ (c.order.ensures ∙ whole_order graph old c.publish.new.self.published (c.in_ok-kept.ensures.keeps c.requires) c.publish.ensures.keeps marks)
