-- The text of what a certificate shows, and that of the reason why one shows nothing
use Rattle.std.specs.Prelude.{ℕ, suc, List, [], ◌∷◌, ◌++◌, length, slice_get, Option, None, Some, codes}
use Rattle.std.specs.Fmt.{decimal}
use Rattle.hex.specs.Hex.{encode_lower}
use Rattle.hg_model.specs.declared.row.Row.{Row}
use Rattle.hg_model.specs.declared.row.Placed.{Placed}
use Rattle.hg_outcome.specs.Report.{fault_text, with_number}
use Rattle.hg_proof.specs.Certificate.{Certificate}
use Rattle.hg_proof.specs.declared.why.Why.{Why}
use Rattle.hg_proof.specs.declared.why.Why.TheVariants as reason

-- how many rows there are, and how many of them are ordered
abbrev pub head_text : Certificate → List ℕ
head_text shown =
    with_number (codes "yes rows") (length shown.rows) ++ (with_number (codes " ordered") (length shown.order) ++ codes "\n")

-- the name of a row in hexadecimal digits, nothing where there is none
abbrev pub name_text : Option Row → List ℕ
name_text None = []
name_text (Some row) = encode_lower row.name

-- the line of an entry of this number: the name of its event, its round received and consensus timestamp
abbrev pub entry_text : List Row → ℕ → Placed → List ℕ
entry_text rows number p =
    decimal number ++ (codes " " ++ (name_text (slice_get rows p.place)
    ++ (with_number (codes " round") p.received ++ (with_number (codes " time") p.time ++ codes "\n"))))

-- a line for each entry, the first with this number
abbrev pub entries_text : List Row → ℕ → List Placed → List ℕ
entries_text rows number [] = []
entries_text rows number (p ∷ order) = entry_text rows number p ++ entries_text rows (suc number) order

abbrev pub shown_text : Certificate → List ℕ
shown_text shown = head_text shown ++ entries_text shown.rows 1 shown.order

abbrev pub why_text : Why → List ℕ
why_text (reason.Form at) = with_number (codes "form") at
why_text (reason.Repeat i) = with_number (codes "repeat") i
why_text (reason.Row i fault) = with_number (codes "row") i ++ (codes " " ++ fault_text fault)
why_text (reason.Order i) = with_number (codes "order") i
