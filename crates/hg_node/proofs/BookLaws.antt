-- What a ledger keeps once a row has come, and once an order has grown
use Rattle.std.proofs.Common.{◌≡◌, ℕ, ◌+◌, ◌<◌, ◌≤◌, true, List, [], ◌∷◌, ◌++◌, length, length-append, All, sym, ap, ap₂, ◌∙◌, subst, arith}
use Rattle.std.proofs.lemmas.List.{length_push}
use Rattle.hg_model.specs.declared.row.Row.{Row}
use Rattle.hg_model.specs.declared.row.Placed.{Placed}
use Rattle.hg_model.specs.Order.{ordered}
use Rattle.hg_life.specs.Pay.{Book, opened, book_of}
use Rattle.hg_model.specs.Prefix.{Graph, links_of}
use Rattle.hg_model.specs.Orders.{IsPrefix}
use Rattle.hg_model.proofs.LinkLaws.{length-links}
use Rattle.hg_model.proofs.OrderLaws.{ordered_within, length-ordered_in-le}
use Rattle.hg_kept.specs.Published.{Published, Keeps}
use Rattle.hg_pay.specs.Account.{Account, with_rest}
use Rattle.hg_pay.proofs.OrderLaws.{many_effects, book_goes_on, rows_leave_the_book}
use Rattle.hg_node.specs.ChronicleView.{KeepsBook}

-- what is kept of a graph
module _ (g : Graph) (v : Published) (keeps : Keeps g v) where
  pub kept_within : All (λ (p : Placed). p.place < length g.rows) v.order
  kept_within =
      subst (λ (order : List Placed). All (λ (p : Placed). p.place < length g.rows) order) (sym keeps.order)
      (subst (λ (k : ℕ). All (λ (p : Placed). p.place < k) (ordered g.members g.rows (links_of g) v.marks)) (length-links g.rows)
      (ordered_within g.members g.rows (links_of g) v.marks))

  few_kept : length v.order ≤ length g.rows
  few_kept = omega (arith, ap length keeps.order, length-ordered_in-le g.members g.rows (links_of g) v.marks (λ _. true), length-links g.rows)

  -- there is memory for all of it
  pub fits : (before : List Placed) (a : Account) → KeepsBook g.rows before a → length v.order ≤ a.room
  fits before a book = omega (arith, few_kept, book.memory)

  -- a row that comes leaves the book
  pub book_with_row : (row : Row) (later : List Placed) (a b : Account) → later ≡ v.order → KeepsBook g.rows v.order a → b.opening ≡ a.opening → b.book ≡ a.book → length g.rows + 1 ≤ b.room →
      KeepsBook (g.rows ++ row ∷ []) later b
  book_with_row row later a b same book opening books memory = record {
    book = books ∙ (book.book ∙ (ap (λ (balances : List ℕ). book_of balances g.rows v.order) (sym opening)
        ∙ (sym (rows_leave_the_book b.opening g.rows (row ∷ []) v.order kept_within) ∙ ap (book_of b.opening (g.rows ++ row ∷ [])) (sym same))));
    memory = omega (arith, memory, length_push g.rows row);
  }

-- no more is paid than an order that has grown
pub few_paid : (G : List Row) (order more : List Placed) (a : Account) → KeepsBook G order a → IsPrefix order more → length a.book.effects ≤ length more
few_paid G order more a book grown =
    omega (arith, ap (λ (b : Book). length b.effects) book.book, many_effects a.opening G order, ap length grown.1, length-append order grown.0)

-- and once the rest is paid, the book is that of all of it
pub book_paid : (G : List Row) (order more now : List Placed) (a b : Account) → KeepsBook G order a → IsPrefix order more → now ≡ more → b ≡ record a { book = with_rest G a.book now } →
    KeepsBook G more b
book_paid G order more now a b book grown same is = record {
  book =
      ap (λ (c : Account). c.book) is
      ∙ (ap₂ (with_rest G) book.book (same ∙ grown.1)
      ∙ (book_goes_on a.opening G order grown.0
      ∙ ap₂ (λ (balances : List ℕ) (all : List Placed). book_of balances G all) (sym (ap (λ (c : Account). c.opening) is)) (sym grown.1)));
  memory = omega (arith, book.memory, ap (λ (c : Account). c.room) is);
}

-- at the beginning
pub book_none : (a : Account) (balances : List ℕ) → a.opening ≡ balances → a.book ≡ opened balances → KeepsBook [] [] a
unfolding book_of
book_none a balances opening book = record { book = book ∙ ap opened (sym opening); memory = omega arith }
