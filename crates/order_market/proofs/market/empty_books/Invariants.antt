use Rattle.std.proofs.Common.{◌≡◌, replicate}
use Rattle.order_match.specs.Books.{no_book}
use Rattle.order_market.proofs.market.empty_books.Given as goal

abbrev pub invariant-loop-made : goal.invariant-loop-made
invariant-loop-made l = l.books.items ≡ replicate l.made no_book
