-- What is noted of an order as it grows
use Rattle.std.specs.Prelude.{List, ℕ, length, take, count_by}
use Rattle.hg_model.specs.declared.row.Placed.{Placed}
use Rattle.hg_model.specs.declared.row.Row.{Row}
use Rattle.hg_answering.specs.Telling.{orders_payload}
use Rattle.hg_answering.specs.declared.order_notes.OrderNotes.{OrderNotes}

-- how many entries the order has, and how many of them have a payload: of the first ones of these
abbrev pub first_ordered : List Row → List Placed → ℕ → OrderNotes
first_ordered G order len = record { ordered = len; payloads = count_by (orders_payload G) (take len order) }

abbrev pub order_notes_of : List Row → List Placed → OrderNotes
order_notes_of G order = first_ordered G order (length order)
