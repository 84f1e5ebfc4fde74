use Rattle.hg_pay.proofs.BookLaws.{sum-book_of}
use Rattle.hg_pay.proofs.laws.sum_is_kept.Goals as goal

pub returns : goal.returns
returns c = sum-book_of
