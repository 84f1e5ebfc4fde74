use Rattle.hg_pay.proofs.OrderLaws.{many_effects, book_goes_on, rows_leave_the_book}
use Rattle.hg_pay.proofs.laws.books_go_on.Goals as goal

pub returns-clause-effects : goal.returns-clause-effects
returns-clause-effects c = many_effects

pub returns-clause-more : goal.returns-clause-more
returns-clause-more c = book_goes_on

pub returns-clause-rows : goal.returns-clause-rows
returns-clause-rows c = rows_leave_the_book
