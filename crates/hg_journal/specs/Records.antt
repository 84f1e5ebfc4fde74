-- A record of a journal as bytes: a kind, the length of its body in two bytes, and the body. Its gate stands before it.
use Rattle.std.specs.Prelude.{ℕ, nat_le, List, [], ◌∷◌, ◌++◌, length, take, drop, Option, Some, None, if◌then◌else◌}
use Rattle.std.specs.Int.{w16, from_be_bytes, to_be_bytes}

-- a record that is cut from the front of bytes, and the bytes behind it
pub record Cut : Type 0 where
  pub kind : ℕ
  pub body : List ℕ
  pub rest : List ℕ

-- the number in two bytes
abbrev pub size_of : ℕ → ℕ → ℕ
size_of a b = from_be_bytes w16 (a ∷ b ∷ [])

-- so many of these bytes as a body, if they are there
abbrev pub body_cut : ℕ → ℕ → List ℕ → Option Cut
body_cut kind size bytes =
    if nat_le size (length bytes)
    then Some (record { kind = kind; body = take size bytes; rest = drop size bytes })
    else None

-- the record at the front of these bytes, if one is
abbrev pub record_of : List ℕ → Option Cut
record_of (kind ∷ a ∷ b ∷ bytes) = body_cut kind (size_of a b) bytes
record_of bytes = None

-- the bytes of a record, with a body of less than 65,536 bytes
abbrev pub spelled : ℕ → List ℕ → List ℕ
spelled kind body = kind ∷ (to_be_bytes w16 (length body) ++ body)
