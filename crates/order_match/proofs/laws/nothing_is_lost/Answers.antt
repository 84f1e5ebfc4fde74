use Rattle.order_match.proofs.BookLaws.{book_whole}
use Rattle.order_match.proofs.laws.nothing_is_lost.Goals as goal

pub returns : goal.returns
returns c = book_whole
