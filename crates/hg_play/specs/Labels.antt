-- The bytes that labels stand for
use Rattle.std.specs.Prelude.{ℕ, nat_lt, Option, List, [], ◌++◌, length, map, take, slice_get, slice_index, slice_index_or, slice_set, bit_xor, option_map, unwrap_or, if◌then◌else◌}
use Rattle.std.specs.declared.sync.Arc.{Arc}
use Rattle.sha2.specs.Sha512.{sha384}
use Rattle.hg_model.specs.declared.row.Row.{Row}
use Rattle.hg_model.specs.Links.{ParentNames, place_of}
use Rattle.hg_life.specs.Spelling.{body_bytes, spelling}
use Rattle.hg_life.specs.Signing.{signature_by}
use Rattle.hg_life.specs.NodeView.{NodeView, node_rows}
use Rattle.hg_script.specs.declared.line.Source.{Source}
use Rattle.hg_script.specs.declared.line.Source.TheVariants.{Last, Forged, Raw, Altered, Front}
use Rattle.hg_world.specs.World.{Secrets, WorldView, node_at}
use Rattle.hg_world.specs.Syncs.{last_made}

-- the bytes of a label, by its number; none for a number that is no label's
abbrev pub bytes_at : List (List ℕ) → ℕ → List ℕ
bytes_at labels k = slice_index_or labels k []

-- the name of the event that the label's bytes are
abbrev pub name_of_label : List (List ℕ) → ℕ → List ℕ
name_of_label labels k = sha384 (bytes_at labels k)

-- the names of the events of several labels
abbrev pub names_of_labels : List (List ℕ) → List ℕ → List (List ℕ)
names_of_labels labels ks = map (name_of_label labels) ks

-- the names of the events of a self-parent's label and of several others'
abbrev pub parents_of_labels : List (List ℕ) → ℕ × List ℕ → List ℕ × List (List ℕ)
parents_of_labels labels pair = (name_of_label labels pair.0, names_of_labels labels pair.1)

-- the bytes of the row with this name, if there is one
abbrev pub bytes_named : List Row → List ℕ → List ℕ
bytes_named G name = unwrap_or (option_map spelling (slice_get G (place_of G name))) []

-- the bytes of the event, or none
abbrev pub bytes_of_event : {A : Type 0} → Option (Arc Row A) → List ℕ
bytes_of_event event = unwrap_or (option_map (λ e. spelling e.value) event) []

-- the bytes of the last event that the node made, or none
abbrev pub last_bytes : NodeView Secrets → List ℕ
last_bytes v = unwrap_or (option_map (bytes_named (node_rows v)) (last_made v)) []

-- an event with these fields, under the member's signature
abbrev pub forged : Secrets → ℕ → ParentNames → ℕ → List ℕ → List ℕ
forged secrets m parents time payload =
    body_bytes m parents time payload ++ signature_by secrets m (body_bytes m parents time payload)

-- the byte at a place XORed with the mask, if there is one
abbrev pub altered : List ℕ → ℕ → ℕ → List ℕ
altered bytes at mask = if nat_lt at (length bytes) then slice_set bytes at (bit_xor (slice_index bytes at) mask) else bytes

-- the bytes from a source
abbrev pub source_bytes : Secrets → WorldView → List (List ℕ) → Source → List ℕ
source_bytes secrets w labels (Last m) = last_bytes (node_at w m)
source_bytes secrets w labels (Forged m parents time payload) = forged secrets m (option_map (parents_of_labels labels) parents) time payload
source_bytes secrets w labels (Raw bytes) = bytes
source_bytes secrets w labels (Altered label at mask) = altered (bytes_at labels label) at mask
source_bytes secrets w labels (Front label len) = take len (bytes_at labels label)
