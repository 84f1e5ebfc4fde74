-- What a checker answers to the bytes of a certificate: what they hold, or the first reason against it
use Rattle.std.specs.Prelude.{ℕ, suc, Bool, ◌&&◌, ◌==◌, List, [], ◌∷◌, length, Option, Some, None, is_some, option_map, Result, Ok, Err, if◌then◌else◌}
use Rattle.std.specs.Option.{option_or}
use Rattle.hg_model.specs.declared.row.Row.{Row}
use Rattle.hg_model.specs.declared.row.Placed.{Placed}
use Rattle.hg_model.specs.Stakes.{Stakes}
use Rattle.hg_model.specs.Order.{order_of}
use Rattle.hg_model.specs.Prefix.{Graph, graph_of}
use Rattle.hg_life.specs.declared.answers.PutAnswer.{PutAnswer}
use Rattle.hg_life.specs.declared.answers.PutAnswer.TheVariants.{Accepted, Known, Refused}
use Rattle.hg_life.specs.Results.{◌>>=◌}
use Rattle.hg_life.specs.Signing.{Accepts}
use Rattle.hg_graph.specs.Held.{graph_with}
use Rattle.hg_arrival.specs.Arrival.{all_rules}
use Rattle.hg_proof.specs.declared.why.Why.{Why}
use Rattle.hg_proof.specs.declared.why.Why.TheVariants as reason
use Rattle.hg_proof.specs.Certificate.{Certificate}
use Rattle.hg_proof.specs.Reading.{form_of}

-- the reason that the answer of a rule of putting is against the row at place i: what is known stands there twice. No rule
-- accepts
abbrev pub why_at : ℕ → PutAnswer → Why
why_at i (Accepted place) = reason.Repeat i
why_at i (Known place) = reason.Repeat i
why_at i (Refused fault) = reason.Row i fault

-- what speaks first against a row that comes next, where the graph is no member's node
abbrev pub next_why : Accepts → Graph → Row → Option Why
next_why accepts g row = option_map (why_at (length g.rows)) (all_rules accepts None g row)

-- what speaks first against one of these rows, which come one after the other
unfoldable pub rows_why : Accepts → Graph → List Row → Option Why
rows_why accepts g [] = None
rows_why accepts g (row ∷ rows) = option_or (next_why accepts g row) (rows_why accepts (graph_with g row) rows)

-- these rows up to the first that something speaks against, where they come one after the other
unfoldable pub rows_passed : Accepts → Graph → List Row → List Row
rows_passed accepts g [] = []
rows_passed accepts g (row ∷ rows) =
    if is_some (next_why accepts g row) then [] else row ∷ rows_passed accepts (graph_with g row) rows

-- two entries are the same
abbrev pub is_same : Placed → Placed → Bool
is_same p q = p.place == q.place && p.received == q.received && p.time == q.time

-- the first place, counted from i on, at which two orders differ: in an entry, or in that one of them has ended
unfoldable pub difference_from : ℕ → List Placed → List Placed → Option ℕ
difference_from i [] [] = None
difference_from i [] (q ∷ qs) = Some i
difference_from i (p ∷ ps) [] = Some i
difference_from i (p ∷ ps) (q ∷ qs) = if is_same p q then difference_from (suc i) ps qs else Some i

-- the order, if nothing speaks against the rows
abbrev pub unless_why : Option Why → List Placed → Result (List Placed) Why
unless_why None order = Ok order
unless_why (Some why) order = Err why

-- the whole order of these rows, or what speaks first against one of them, among members with these stakes, with coin
-- period c
unfoldable pub ordered_rows : Accepts → Stakes → ℕ → List Row → Result (List Placed) Why
ordered_rows accepts n c rows = unless_why (rows_why accepts (graph_of n c []) rows) (order_of n c rows)

-- the certificate, if its order differs nowhere
abbrev pub unless_at : Option ℕ → Certificate → Result Certificate Why
unless_at None shown = Ok shown
unless_at (Some i) shown = Err (reason.Order i)

-- the same, compared with this order
abbrev pub compared : Certificate → List Placed → Result Certificate Why
compared shown order = unless_at (difference_from 0 shown.order order) shown

-- the rows of the certificate that was read; none where its form was broken
abbrev pub rows_read : Result Certificate Why → List Row
rows_read (Ok shown) = shown.rows
rows_read (Err why) = []

-- the rows that the bytes hold
abbrev pub rows_in : List ℕ → List Row
rows_in bytes = rows_read (form_of bytes)

-- what the bytes show, or the first reason against them: their form comes before all else, and the rows before the order
unfoldable pub judged : Accepts → Stakes → ℕ → List ℕ → Result Certificate Why
judged accepts n c bytes = do
  shown ← form_of bytes
  order ← ordered_rows accepts n c shown.rows
  compared shown order
