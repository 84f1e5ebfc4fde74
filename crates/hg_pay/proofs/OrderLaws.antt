-- The book of an order, event by event
use Rattle.std.proofs.Common.{◌≡◌, ℕ, None, ◌+◌, ◌<◌, List, [], ◌∷◌, ◌++◌, length, drop, fold, get_or, slice_get, All, Option, Some, refl, ap, sym, ◌∙◌, subst, arith}
use Rattle.std.proofs.Math.Seq.{drop-append_seam}
use Rattle.std.proofs.lemmas.List.{length_push, get_or_append_left}
use Rattle.std.proofs.lemmas.List.Elements.{All-head, All-tail}
use Rattle.std.proofs.lemmas.List.Sums.{fold-append}
use Rattle.std.proofs.lemmas.Option.{slice_get-get_or}
use Rattle.hg_model.specs.declared.row.Row.{Row}
use Rattle.hg_model.specs.declared.row.Placed.{Placed}
use Rattle.hg_life.specs.declared.pay.Effect.{Effect}
use Rattle.hg_life.specs.declared.pay.Transfer.{Transfer}
use Rattle.hg_model.specs.Links.{no_row}
use Rattle.hg_life.specs.Pay.{Book, with_placed, with_payload, with_pay, opened, book_of, read_pay}
use Rattle.hg_pay.specs.Applied.{Leaves, LeavesAt}
use Rattle.hg_pay.specs.Account.{with_rest}

-- the row that was read at a place
pub leaves_read : (G : List Row) (place : ℕ) (row : Row) (before after : List ℕ) (e : Effect) → place < length G → slice_get G place ≡ Some row → Leaves before row.creator row.payload after e → LeavesAt G before place after e
leaves_read G place row before after e inside at leaves =
    let some : Some row ≡ Some (get_or G place no_row) = sym at ∙ slice_get-get_or G place no_row inside in
    let same : row ≡ get_or G place no_row = cc in
    subst (λ (r : Row). Leaves before r.creator r.payload after e) same leaves

-- ---- an effect of each event

one_effect : (book : Book) (payer : ℕ) (o : Option (List Transfer)) → length (with_pay book payer o).effects ≡ length book.effects + 1
one_effect book payer None = length_push book.effects _
one_effect book payer (Some ts) = length_push book.effects _

payload_effect : (book : Book) (payer : ℕ) (payload : List ℕ) → length (with_payload book payer payload).effects ≡ length book.effects + 1
payload_effect book payer [] = length_push book.effects _
payload_effect book payer (b ∷ bytes) = one_effect book payer (read_pay (b ∷ bytes))

effects_from : (G : List Row) (book : Book) (order : List Placed) → length (fold (with_placed G) book order).effects ≡ length book.effects + length order
effects_from G book [] = omega arith
effects_from G book (p ∷ order) =
    let rest = effects_from G (with_placed G book p) order in
    let row = get_or G p.place no_row in
    let one = payload_effect book row.creator row.payload in
    omega (arith, rest, one)

pub many_effects : (balances : List ℕ) (G : List Row) (order : List Placed) → length (book_of balances G order).effects ≡ length order
unfolding book_of
many_effects balances G order = omega (arith, effects_from G (opened balances) order)

-- ---- the order goes on, and rows come

fold_rest : (balances : List ℕ) (G : List Row) (order rest : List Placed) → fold (with_placed G) (book_of balances G order) rest ≡ book_of balances G (order ++ rest)
unfolding book_of
fold_rest balances G order rest = sym (fold-append (with_placed G) (opened balances) order rest)

pub book_goes_on : (balances : List ℕ) (G : List Row) (order rest : List Placed) → with_rest G (book_of balances G order) (order ++ rest) ≡ book_of balances G (order ++ rest)
book_goes_on balances G order rest =
    let book = book_of balances G order in
    ap (λ (k : ℕ). fold (with_placed G) book (drop k (order ++ rest))) (many_effects balances G order)
    ∙ (ap (fold (with_placed G) book) (drop-append_seam order rest) ∙ fold_rest balances G order rest)

rows_leave_fold : (G more : List Row) (book : Book) (order : List Placed) → All (λ (p : Placed). p.place < length G) order → fold (with_placed (G ++ more)) book order ≡ fold (with_placed G) book order
rows_leave_fold G more book [] within = refl
rows_leave_fold G more book (p ∷ order) within =
    rows_leave_fold G more (with_placed (G ++ more) book p) order (All-tail (λ (q : Placed). q.place < length G) p order within)
    ∙ ap (λ (row : Row). fold (with_placed G) (with_payload book row.creator row.payload) order)
    (get_or_append_left G more no_row p.place (All-head (λ (q : Placed). q.place < length G) p order within))

pub rows_leave_the_book : (balances : List ℕ) (G more : List Row) (order : List Placed) → All (λ (p : Placed). p.place < length G) order → book_of balances (G ++ more) order ≡ book_of balances G order
unfolding book_of
rows_leave_the_book balances G more order within = rows_leave_fold G more (opened balances) order within
