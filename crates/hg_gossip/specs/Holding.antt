-- A holder of a node: the node that it has seen, and which of the node's changes its own calls added
use Rattle.std.specs.Prelude.{ℕ, suc, ◌≡◌, Bool, false, not, cond, List, [], ◌∷◌, ◌++◌, length, map, filter, Option, None, option_map, slice_get}
use Rattle.std.specs.List.{list_any}
use Rattle.std.specs.Str.{bytes_eq}
use Rattle.hg_model.specs.declared.row.Row.{Row}
use Rattle.hg_life.specs.declared.answers.PutAnswer.{PutAnswer}
use Rattle.hg_life.specs.declared.answers.PutAnswer.TheVariants.{Accepted}
use Rattle.hg_life.specs.declared.answers.MakeAnswer.{MakeAnswer}
use Rattle.hg_life.specs.declared.gossip.Parcel.{Parcel}
use Rattle.hg_life.specs.Spelling.{spelling}
use Rattle.hg_life.specs.Verdict.{last_name}
use Rattle.hg_life.specs.Signing.{Accepts}
use Rattle.hg_life.specs.History.{Change}
use Rattle.hg_life.specs.NodeView.{IsNode, NodeView, node_rows, with_changes}
use Rattle.hg_life.specs.Calls.{IsMaking, make_changes, make_draft, put_answer, put_changes}

-- what a holder has seen of its node, and the positions in the history of the changes that its own calls added
pub record Seen (K : Type 0) : Type 0 where
  pub node : NodeView K
  pub positions : List ℕ

-- which signatures are accepted under the keys, and whether others than the holder may change the node
pub record Rules (K : Type 0) : Type 0 where
  pub accepts : K → Accepts
  pub shared : Bool

-- the positions of these changes, of which the first has this one
abbrev pub positions_from : ℕ → List Change → List ℕ
positions_from p [] = []
positions_from p (e ∷ es) = p ∷ positions_from (suc p) es

-- a node that has one holder: each change is of its own calls
abbrev pub seen_whole : {K : Type 0} → NodeView K → Seen K
seen_whole v = record { node = v; positions = positions_from 0 v.history }

abbrev pub rules_alone : {K : Type 0} → (K → Accepts) → Rules K
rules_alone accepts = record { accepts = accepts; shared = false }

-- once others made these changes
abbrev pub with_others : {K : Type 0} → Seen K → List Change → Seen K
with_others s es = record { node = with_changes s.node es; positions = s.positions }

-- once its own call made these
abbrev pub with_own : {K : Type 0} → Seen K → List Change → Seen K
with_own s es = record { node = with_changes s.node es; positions = s.positions ++ positions_from (length s.node.history) es }

-- nothing but what others did came between, which leaves a node a node: nothing at all where it has one holder
pub record Waits {K : Type 0} (rules : Rules K) (old new : Seen K) : Type 0 where
  pub others : List Change
  pub alone : rules.shared ≡ false → others ≡ []
  pub later : new ≡ with_others old others
  pub lawful : IsNode rules.accepts old.node → IsNode rules.accepts new.node

-- bytes were put at the history then reached, with this answer
pub record PutsBytes {K : Type 0} (rules : Rules K) (old : Seen K) (bytes : List ℕ) (new : Seen K) (answer : PutAnswer) : Type 0 where
  pub reached : Seen K
  pub waits : Waits rules old reached
  pub answers : answer ≡ put_answer rules.accepts reached.node bytes
  pub grown : new ≡ with_own reached (put_changes rules.accepts reached.node bytes)

-- an event was made there, or refused
pub record Makes {K : Type 0} (rules : Rules K) (old : Seen K) (others : List (List ℕ)) (time : ℕ) (payload : List ℕ) (new : Seen K) (answer : MakeAnswer) : Type 0 where
  pub reached : Seen K
  pub waits : Waits rules old reached
  pub making : IsMaking rules.accepts reached.node others time payload answer new.node
  pub positions : new.positions ≡ reached.positions ++ positions_from (length reached.node.history) (make_changes reached.node others time payload making.sig)

-- the node that is seen takes the bytes, so that memory is needed for them
abbrev pub WouldTake : {K : Type 0} → Rules K → Seen K → List ℕ → Type 0
WouldTake rules s bytes = put_answer rules.accepts s.node bytes ≡ Accepted (length (node_rows s.node))

-- it signs such an event, so that memory is needed for it
abbrev pub WouldSign : {K : Type 0} → Seen K → List (List ℕ) → List ℕ → Type 0
WouldSign s others payload = make_draft s.node others payload ≡ None

-- the names of rows
abbrev pub row_names : List Row → List (List ℕ)
row_names G = map (λ (row : Row). row.name) G

-- the names of its rows, in the order in which they came
abbrev pub names_in : {K : Type 0} → Seen K → List (List ℕ)
names_in s = row_names (node_rows s.node)

-- a name is among the ones exactly where it is among the others
abbrev pub HaveSame : List (List ℕ) → List (List ℕ) → Type 0
HaveSame names others = (name : List ℕ) → list_any (bytes_eq name) names ≡ list_any (bytes_eq name) others

-- the bytes of the row, unless its name is among these
abbrev pub unnamed_bytes : List (List ℕ) → Row → List (List ℕ)
unnamed_bytes names row = cond (list_any (bytes_eq row.name) names) [] (spelling row ∷ [])

-- these and the bytes of the row at a place, unless its name is among the names; nothing where there is no row
abbrev pub with_row_at : List Row → ℕ → List (List ℕ) → List (List ℕ) → Option (List (List ℕ))
with_row_at G place names rows = option_map (λ (row : Row). rows ++ unnamed_bytes names row) (slice_get G place)

-- those of these rows that have none of the names
abbrev pub unnamed : List (List ℕ) → List Row → List Row
unnamed names G = filter (λ (row : Row). not (list_any (bytes_eq row.name) names)) G

-- what it hands over to one that has rows of these names: the bytes of its other rows, and the name of its last own row
abbrev pub parcel_beyond : {K : Type 0} → List (List ℕ) → Seen K → Parcel
parcel_beyond names s = record { rows = map spelling (unnamed names (node_rows s.node)); last = last_name s.node.start.own (node_rows s.node) }
