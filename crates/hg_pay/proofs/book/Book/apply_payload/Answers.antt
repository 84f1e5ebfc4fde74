use Rattle.std.proofs.Common.{sym, subst, ℕ}
use Rattle.hg_pay.proofs.BookLaws.{leaves_paid}
use Rattle.hg_pay.proofs.book.Book.apply_payload.Goals as goal

pub returns-clause-book : goal.returns-clause-book
returns-clause-book c = rw c.len.ensures.value (leaves_paid _ _ _ _ _ _ (sym c.in-Some.ensures) c.apply-done.ensures.balances c.apply-done.ensures.done)
