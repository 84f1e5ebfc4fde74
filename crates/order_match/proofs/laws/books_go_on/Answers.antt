use Rattle.order_match.proofs.BookLaws.{book_more, more_count}
use Rattle.order_match.proofs.laws.books_go_on.Goals as goal

pub returns-clause-more : goal.returns-clause-more
returns-clause-more c = book_more

pub returns-clause-count : goal.returns-clause-count
returns-clause-count c = more_count
