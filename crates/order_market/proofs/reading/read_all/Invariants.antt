use Rattle.std.proofs.Common.{◌≡◌, ◌≤◌, ◌<◌, ℕ, length, get_or}
use Rattle.order_match.specs.Books.{no_book}
use Rattle.order_market.specs.Market.{IsBehind, book_at, events_at}
use Rattle.order_market.proofs.reading.read_all.Given as goal

abbrev pub invariant-loop-m : goal.invariant-loop-m
invariant-loop-m l = record {
  count : length l.books.items ≡ length l.world.sites;
  read : (k : ℕ) → k < l.m → get_or l.books.items k no_book ≡ book_at l.world k;
  behind : (k : ℕ) → l.m ≤ k → k < length l.books.items → IsBehind (get_or l.books.items k no_book) (events_at l.world k);
}
