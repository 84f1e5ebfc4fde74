use Rattle.std.proofs.Common.{sym, subst}
use Rattle.hg_model.specs.Prefix.{links_of}
use Rattle.hg_model.specs.Shares.{Share, Speaks}
use Rattle.hg_life.specs.StateWords.{state_by}
use Rattle.hg_history.proofs.FoundLaws.{found_is_news}
use Rattle.check_calls.proofs.publishing.publish_behind.Goals as goal

pub publish-requires-clause-keeps : goal.publish-requires-clause-keeps
publish-requires-clause-keeps g c = c.in_ok-kept.ensures.keeps c.requires

-- all that was found is news to one who has published nothing
pub publish-requires-clause-news : goal.publish-requires-clause-news
publish-requires-clause-news g c =
    let graph = c.args.frozen.now.graph in
    let found = c.in_ok-found.found in
    found_is_news graph.members graph.coin (state_by graph c.in_ok-kept.kept.published.marks) found.len found.share found.marks
    (subst (λ (s : Share). Speaks graph.members graph.coin graph.rows (links_of graph) found.len s found.marks) (sym c.in_ok-found.ensures.share) c.in_ok-found.ensures.speaks)
