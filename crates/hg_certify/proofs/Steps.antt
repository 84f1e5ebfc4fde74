-- The first of what is left of an order, and the others
use Rattle.std.proofs.Common.{◌≡◌, ◌∙◌, ◌+◌, ◌<◌, ◌++◌, ℕ, List, length, drop, get_or, sym, ap, add-one}
use Rattle.hg_model.specs.declared.row.Row.{Row}
use Rattle.hg_model.specs.declared.row.Placed.{Placed}
use Rattle.hg_pieces.proofs.Steps.{first_left}
use Rattle.hg_certify.specs.Text.{entries_text, entry_text}

pub entries_left : (rows : List Row) (order : List Placed) (number i : ℕ) (d : Placed) → i < length order
    → entries_text rows number (drop i order) ≡ entry_text rows number (get_or order i d) ++ entries_text rows (number + 1) (drop (i + 1) order)
entries_left rows order number i d lt =
    ap (entries_text rows number) (first_left order i d lt)
    ∙ ap (λ k. entry_text rows number (get_or order i d) ++ entries_text rows k (drop (i + 1) order)) (sym (add-one number))
