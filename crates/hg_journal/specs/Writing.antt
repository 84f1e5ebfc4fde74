-- What is written to a journal's file, and what a stop may leave of it meanwhile.
use Rattle.std.specs.Prelude.{◌≡◌, ◌≤◌, ◌⊎◌, ℕ, ◌+◌, List, [], ◌∷◌, ◌++◌, length, drop, slice_index, option_map}
use Rattle.std.specs.Option.{ForSome}
use Rattle.hg_io.specs.FileView.{FileView, Leaves, Torn, with_piece}

-- the file is to be made anew, by the cases of `is_anew`
abbrev pub AnewCases : List ℕ → List ℕ → Type 0
AnewCases head file =
    ((length file ≤ 1) ⊎ ((slice_index file 0 ≡ 0) × (length file ≤ 10)))
    ⊎ ((slice_index file 0 ≡ 1 → ⊥) × (drop 1 file ≡ head ++ 0 ∷ []))

-- it begins with a closed gate
abbrev pub IsBegun : List ℕ → Type 0
IsBegun file = (rest : List ℕ) × (file ≡ 0 ∷ rest)

-- .. and has no more bytes than a journal without records
abbrev pub IsOnlyBegun : List ℕ → Type 0
IsOnlyBegun file = IsBegun file × (length file ≤ 10)

-- the file of a journal without records
abbrev pub empty_file : List ℕ → List ℕ
empty_file head = 1 ∷ (head ++ 0 ∷ [])

-- a journal without records, or none yet
abbrev pub IsEmpty : List ℕ → List ℕ → Type 0
IsEmpty head file = AnewCases head file ⊎ (file ≡ empty_file head)

-- a piece was written behind the closed gate at this place
abbrev pub with_record : ℕ → List ℕ → List ℕ → List ℕ
with_record gate piece bytes = with_piece (gate + 1) piece bytes

-- .. and then the gate was opened
abbrev pub appended : ℕ → List ℕ → List ℕ → List ℕ
appended gate piece bytes = with_piece gate (1 ∷ []) (with_record gate piece bytes)

-- one of the two writes was cut short
abbrev pub IsCutShort : ℕ → List ℕ → List ℕ → List ℕ → Type 0
IsCutShort gate piece bytes left =
    Torn (gate + 1) (length piece) bytes left ⊎ Torn gate 1 (with_record gate piece bytes) left

-- a stop leaves only what has P of a file
abbrev pub LeavesOnly : FileView → (List ℕ → Type 0) → Type 0
LeavesOnly file P = (left : List ℕ) → file.may_leave left → P left

-- ---- from old to new, and then at new, where the disk tells the file

-- a stop leaves a journal without records, or none yet
abbrev pub LeavesEmpty : List ℕ → FileView → FileView → Type 0
LeavesEmpty head old new = ForSome old.reads (λ bytes. Leaves old new (IsEmpty head))

abbrev pub EndsEmpty : List ℕ → FileView → FileView → Type 0
EndsEmpty head old new = ForSome old.reads (λ bytes. LeavesOnly new (IsEmpty head))

-- it leaves the file with such a piece cut short
abbrev pub LeavesCutShort : ℕ → List ℕ → FileView → FileView → Type 0
LeavesCutShort gate piece old new = ForSome old.reads (λ bytes. Leaves old new (IsCutShort gate piece bytes))

abbrev pub EndsCutShort : ℕ → List ℕ → FileView → FileView → Type 0
EndsCutShort gate piece old new = ForSome old.reads (λ bytes. LeavesOnly new (IsCutShort gate piece bytes))

-- the piece stands there, behind an open gate
abbrev pub IsAppended : ℕ → List ℕ → FileView → FileView → Type 0
IsAppended gate piece old new = new.reads ≡ option_map (appended gate piece) old.reads
