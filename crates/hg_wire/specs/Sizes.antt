-- How many bytes are there at least of the field at a place, and behind it
use Rattle.std.specs.Prelude.{ℕ, zero, suc, ◌+◌, ◌*◌, ◌==◌, List, [], ◌∷◌, drop, if◌then◌else◌}
use Rattle.std.specs.Int.{w16, from_be_bytes}
use Rattle.hg_event.specs.First.{least_size}
use Rattle.hg_wire.specs.declared.progress.Stage.{Stage}
use Rattle.hg_wire.specs.declared.progress.Stage.TheVariants.{AtHead, AtName, AtRow, AtLast, Shut, Over}

-- the names of the parents of an event of this kind
abbrev pub parents_size : ℕ → ℕ
parents_size kind = if kind == 0 then 0 else 48 * (kind + 1)

-- the payload, of whose length these are the first bytes
abbrev pub payload_told : List ℕ → ℕ
payload_told [] = 0
payload_told (high ∷ []) = 0
payload_told (high ∷ low ∷ rest) = from_be_bytes w16 (high ∷ low ∷ [])

-- an event, of which these are the first bytes from the kind on: the time stands between the names and the length
abbrev pub least_behind : List ℕ → ℕ
least_behind [] = least_size
least_behind (kind ∷ rest) = least_size + parents_size kind + payload_told (drop (parents_size kind + 8) rest)

-- an event, of which these are the first bytes
abbrev pub least_told : List ℕ → ℕ
least_told bytes = least_behind (drop 6 bytes)

-- the flag, and the name behind 1
abbrev pub last_told : List ℕ → ℕ
last_told [] = 1
last_told (zero ∷ rest) = 1
last_told (suc flag ∷ rest) = 49

-- the field at this place, of which these are the first bytes
abbrev pub least_of : Stage → List ℕ → ℕ
least_of AtHead bytes = 9
least_of (AtName k) bytes = 48
least_of (AtRow k) bytes = least_told bytes
least_of AtLast bytes = last_told bytes
least_of (Shut fault) bytes = 0
least_of Over bytes = 0

-- what stands behind that field: 48 bytes of each name, 81 of each row, and the flag
abbrev pub behind : Stage → ℕ
behind AtHead = 0
behind (AtName k) = 48 * k
behind (AtRow k) = least_size * k + 1
behind AtLast = 0
behind (Shut fault) = 0
behind Over = 0
