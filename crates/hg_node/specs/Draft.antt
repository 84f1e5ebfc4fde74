-- What a node makes of its records: the event's parents, what is signed of it, and what is wrong with it
use Rattle.std.specs.Prelude.{ℕ, List, map, Option, option_map}
use Rattle.std.specs.Option.{option_or}
use Rattle.hg_model.specs.declared.row.Row.{Row}
use Rattle.hg_life.specs.declared.answers.MakeFault.{MakeFault}
use Rattle.hg_life.specs.declared.answers.MakeFault.TheVariants as fault
use Rattle.hg_model.specs.Links.{ParentNames, parent_names, place_of}
use Rattle.hg_life.specs.Spelling.{body_bytes}
use Rattle.hg_life.specs.Verdict.{first_missing, last_name, parents_on, draft_rule, collision_rule, room_rule}
use Rattle.hg_arrival.specs.Arrival.{first_place_by}
use Rattle.hg_node.specs.ChronicleView.{ChronicleView}

-- what is wrong with an event on these others before it is signed
abbrev pub draft_fault : ChronicleView → List (List ℕ) → List ℕ → Option MakeFault
draft_fault r others payload = draft_rule r.own r.graph.rows others payload

-- the names of its parents
abbrev pub draft_names : ChronicleView → List (List ℕ) → ParentNames
draft_names r others = parents_on (last_name r.own r.graph.rows) others

-- the places of the rows with those names
abbrev pub draft_places : ChronicleView → List (List ℕ) → List ℕ
draft_places r others = map (place_of r.graph.rows) (parent_names (draft_names r others))

-- what is wrong with these names as those of other-parents: one is no row's
abbrev pub missing_fault : List Row → List (List ℕ) → Option MakeFault
missing_fault G names = option_map (λ name. fault.MissingOther name) (first_missing G names)

-- what is wrong with the rows at these places as other-parents by the member: one is the member's own
abbrev pub creator_fault : ℕ → List Row → List ℕ → Option MakeFault
creator_fault own G places = option_map (λ place. fault.OtherCreator place) (first_place_by G own places)

-- what is signed of it
abbrev pub draft_body : ChronicleView → List (List ℕ) → ℕ → List ℕ → List ℕ
draft_body r others time payload = body_bytes r.own (draft_names r others) time payload

-- what is wrong with the row once it is signed
abbrev pub row_fault : ChronicleView → Row → Option MakeFault
row_fault r row = option_or (collision_rule r.graph.rows row) (room_rule r.limit r.graph.rows)
