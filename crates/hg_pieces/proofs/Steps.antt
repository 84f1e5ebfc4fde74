-- The first of what is left of a text, and the others
use Rattle.std.proofs.Common.{◌≡◌, ◌∙◌, ◌+◌, ◌<◌, ◌++◌, ℕ, Bool, List, [], ◌∷◌, length, drop, get_or, sym, ap, add-one, append_assoc, arith}
use Rattle.std.proofs.Math.Seq.{drop-cons}
use Rattle.hg_outcome.specs.Report.{balance_text, balances_text, order_line_text, order_text}
use Rattle.hg_outcome.specs.declared.outcome.OrderLine.{OrderLine}
use Rattle.hg_pieces.specs.Pieces.{piece_text, pieces_text}
use Rattle.hg_pieces.specs.declared.pieces.Piece.{Piece}

pub first_left : {X : Type 0} (xs : List X) (i : ℕ) (d : X) → i < length xs → drop i xs ≡ get_or xs i d ∷ drop (i + 1) xs
first_left xs i d lt = drop-cons xs i d lt ∙ ap (λ k. get_or xs i d ∷ drop k xs) (sym (add-one i))

pub pieces_left : (pieces : List Piece) (i : ℕ) (d : Piece) → i < length pieces
    → pieces_text (drop i pieces) ≡ piece_text (get_or pieces i d) ++ pieces_text (drop (i + 1) pieces)
pieces_left pieces i d lt = ap pieces_text (first_left pieces i d lt)

pub lines_left : (named : Bool) (names : List (List ℕ)) (lines : List OrderLine) (number i : ℕ) (d : OrderLine) → i < length lines
    → order_text named names number (drop i lines) ≡ order_line_text named names number (get_or lines i d) ++ order_text named names (number + 1) (drop (i + 1) lines)
lines_left named names lines number i d lt =
    ap (order_text named names number) (first_left lines i d lt)
    ∙ ap (λ k. order_line_text named names number (get_or lines i d) ++ order_text named names k (drop (i + 1) lines)) (sym (add-one number))

pub balances_left : (names : List (List ℕ)) (balances : List ℕ) (m i : ℕ) (d : ℕ) → i < length balances
    → balances_text names m (drop i balances) ≡ balance_text names m (get_or balances i d) ++ balances_text names (m + 1) (drop (i + 1) balances)
balances_left names balances m i d lt =
    ap (balances_text names m) (first_left balances i d lt)
    ∙ ap (λ k. balance_text names m (get_or balances i d) ++ balances_text names k (drop (i + 1) balances)) (sym (add-one m))

-- four pieces with a text, and what follows them
pub four_then : (pieces : List Piece) (d : Piece) (text rest : List ℕ) → length pieces ≡ 4 → pieces_text pieces ≡ text
    → piece_text (get_or pieces 0 d) ++ (piece_text (get_or pieces 1 d) ++ (piece_text (get_or pieces 2 d) ++ (piece_text (get_or pieces 3 d) ++ rest))) ≡ text ++ rest
four_then (p ∷ q ∷ r ∷ s ∷ []) d text rest four is = rw (← is) (simp append_assoc)
four_then _ d text rest four is = absurd (omega arith)

-- the same of five
pub five_then : (pieces : List Piece) (d : Piece) (text rest : List ℕ) → length pieces ≡ 5 → pieces_text pieces ≡ text
    → piece_text (get_or pieces 0 d) ++ (piece_text (get_or pieces 1 d) ++ (piece_text (get_or pieces 2 d) ++ (piece_text (get_or pieces 3 d) ++ (piece_text (get_or pieces 4 d) ++ rest)))) ≡ text ++ rest
five_then (p ∷ q ∷ r ∷ s ∷ t ∷ []) d text rest five is = rw (← is) (simp append_assoc)
five_then _ d text rest five is = absurd (omega arith)
