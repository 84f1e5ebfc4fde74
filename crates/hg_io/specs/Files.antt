-- Files by their names.
use Rattle.std.specs.Prelude.{ℕ, List, Option, option_map, find, Bool}
use Rattle.std.specs.List.{position_or_len}
use Rattle.std.specs.Str.{bytes_eq}

-- the files of a shelf, each with its name and its bytes
abbrev pub Files : Type 0
Files = List (List ℕ × List ℕ)

abbrev pub is_file : List ℕ → List ℕ × List ℕ → Bool
is_file name file = bytes_eq file.0 name

-- the bytes of the first file of this name
abbrev pub content_of : Files → List ℕ → Option (List ℕ)
content_of files name = option_map (λ file. file.1) (find (is_file name) files)

-- the place of the first file of this name, or past the last where there is none
abbrev pub file_place : Files → List ℕ → ℕ
file_place files name = position_or_len (is_file name) files
