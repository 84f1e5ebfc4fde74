use Rattle.hg_history.proofs.FoundLaws.{found_lasts, found_is_news, news_lasts}
use Rattle.hg_history.proofs.ShareLaws.{published_is_no_news}
use Rattle.hg_history.proofs.FirstLaws.{first_rows_are_a_graph}
use Rattle.hg_history.proofs.AddLaws.{publishing_adds}
use Rattle.hg_history.proofs.laws.found_lasts.Goals as goal

pub returns-clause-lasts : goal.returns-clause-lasts
returns-clause-lasts c = found_lasts

pub returns-clause-published : goal.returns-clause-published
returns-clause-published c = published_is_no_news

pub returns-clause-first : goal.returns-clause-first
returns-clause-first c = first_rows_are_a_graph

pub returns-clause-adds : goal.returns-clause-adds
returns-clause-adds c = publishing_adds

pub returns-clause-whole : goal.returns-clause-whole
returns-clause-whole c = found_is_news

pub returns-clause-news : goal.returns-clause-news
returns-clause-news c = news_lasts
