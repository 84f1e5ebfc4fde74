-- What a node has beyond rows that another one names, and by which names it tells what it has itself
use Rattle.std.specs.Prelude.{ℕ, ◌≡◌, ◌<◌, Bool, false, true, cond, not, ◌&&◌, List, [], ◌∷◌, get_or, length, slice_set}
use Rattle.std.specs.List.{list_any}
use Rattle.hg_model.specs.declared.row.Row.{Row}
use Rattle.hg_life.specs.declared.gossip.Parcel.{Parcel}
use Rattle.hg_model.specs.Places.{has_place, list_below, some_below}
use Rattle.hg_model.specs.Links.{Link, links, no_row, parents, place_of}
use Rattle.hg_model.specs.Ancestry.{is_ancestor}
use Rattle.hg_model.specs.Graph.{name_at}
use Rattle.hg_model.specs.Held.{is_held}
use Rattle.hg_life.specs.Spelling.{spelling}
use Rattle.hg_life.specs.Verdict.{last_name}
use Rattle.hg_life.specs.NodeView.{NodeView, node_rows}

-- x is a parent of some row
abbrev pub is_parent : List Link → ℕ → Bool
is_parent L x = some_below (length L) (λ y. has_place (parents L y) x)

-- the names of the rows that are no row's parent, in the order of the places
unfoldable pub tips : List Row → List (List ℕ)
tips G = list_below (name_at G) (length G) (λ x. not (is_parent (links G) x))

-- x is an ancestor of the row with this name, if there is one
abbrev pub is_behind : List Row → ℕ → List ℕ → Bool
is_behind G x name = is_held G name && is_ancestor (links G) (place_of G name) x

-- x is an ancestor of a row with one of these names
abbrev pub is_behind_some : List Row → List (List ℕ) → ℕ → Bool
is_behind_some G names x = list_any (is_behind G x) names

-- the bytes of row x
abbrev pub bytes_at : List Row → ℕ → List ℕ
bytes_at G x = spelling (get_or G x no_row)

-- the bytes of the rows that are ancestors of no row with one of these names
unfoldable pub bytes_beyond : List Row → List (List ℕ) → List (List ℕ)
bytes_beyond G names = list_below (bytes_at G) (length G) (λ x. not (is_behind_some G names x))

-- the tips of a node's rows
abbrev pub tips_of : {K : Type 0} → NodeView K → List (List ℕ)
tips_of v = tips (node_rows v)

-- what it hands over to one that has the rows of these names: the bytes of the rows beyond them, and the name of its last own row
abbrev pub beyond_of : {K : Type 0} → List (List ℕ) → NodeView K → Parcel
beyond_of names v = record { rows = bytes_beyond (node_rows v) names; last = last_name v.start.own (node_rows v) }

-- how the code finds them: a flag for each row

-- with the flags at these places set
abbrev pub flagged : List Bool → List ℕ → List Bool
flagged flags [] = flags
flagged flags (p ∷ ps) = flagged (slice_set flags p true) ps

-- the parents of x, where it is flagged
abbrev pub parents_if_flagged : List Link → List Bool → ℕ → List ℕ
parents_if_flagged L flags x = cond (get_or flags x false) (parents L x) []

-- of n rows those are flagged that pass the test
pub record AreFlagged (n : ℕ) (test : ℕ → Bool) (flags : List Bool) : Type 0 where
  pub len : length flags ≡ n
  pub each : (x : ℕ) → x < n → get_or flags x false ≡ test x

-- those that are a parent of some row
abbrev pub AreParentsFlagged : List Row → List Bool → Type 0
AreParentsFlagged G flags = AreFlagged (length G) (is_parent (links G)) flags

-- those that are an ancestor of a row with one of these names
abbrev pub AreBehindFlagged : List Row → List (List ℕ) → List Bool → Type 0
AreBehindFlagged G names flags = AreFlagged (length G) (is_behind_some G names) flags

-- the values at the places below n that are not flagged
abbrev pub list_unflagged : {A : Type 0} → (ℕ → A) → ℕ → List Bool → List A
list_unflagged value n flags = list_below value n (λ x. not (get_or flags x false))

-- the names, and the bytes, of the rows that are not flagged
abbrev pub unflagged_names : List Row → List Bool → List (List ℕ)
unflagged_names G flags = list_unflagged (name_at G) (length G) flags

abbrev pub unflagged_bytes : List Row → List Bool → List (List ℕ)
unflagged_bytes G flags = list_unflagged (bytes_at G) (length G) flags
