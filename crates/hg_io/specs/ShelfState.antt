-- A shelf in memory, as its users see it.
use Rattle.std.specs.Prelude.{◌≡◌, ℕ, ◌+◌, ◌<◌, ◌⊎◌, Contains, List, [], drop, length, replicate, slice_index, slice_set, Option, Some, None, option_and_then, option_map, slice_get, unwrap_or, Result, Ok, Err}
use Rattle.hg_io.specs.Faults.{raised}
use Rattle.hg_io.specs.Files.{Files, content_of, file_place}

pub record ShelfState : Type 0 where
  pub files : Files
  -- the place of the started file, and its bytes that are still to come
  pub started : Option ℕ
  pub left : List ℕ
  -- the numbers of the calls that fail
  pub fails : List ℕ
  -- how many calls there were, and how many of them were starts
  pub calls : ℕ
  pub starts : ℕ
  -- how many of them failed at the name of each file, and last at any other name
  pub faults : List ℕ

-- a shelf that was not called yet
abbrev pub new_shelf : Files → List ℕ → ShelfState
new_shelf files fails = record {
  files = files;
  started = None;
  left = [];
  fails = fails;
  calls = 0;
  starts = 0;
  faults = replicate (length files + 1) 0;
}

-- the bytes of the started file
abbrev pub started_bytes : Files → Option ℕ → List ℕ
started_bytes files started = unwrap_or (option_map (λ file. file.1) (option_and_then (slice_get files) started)) []

-- the bytes of the file of this name, none where there is no such file
abbrev pub bytes_of : Files → List ℕ → List ℕ
bytes_of files name = unwrap_or (content_of files name) []

-- the next call, if it is a start of this name, fails: its number is listed, or there is no such file
abbrev pub RefusesStart : ShelfState → List ℕ → Type 0
RefusesStart s name = Contains s.fails s.calls ⊎ (content_of s.files name ≡ None)

-- the file of this name is started
abbrev pub IsAt : ShelfState → List ℕ → Type 0
IsAt s name = (s.started ≡ Some (file_place s.files name)) × (file_place s.files name < length s.files)

-- how many calls failed at this name
abbrev pub faults_at : ShelfState → List ℕ → ℕ
faults_at s name = slice_index s.faults (file_place s.files name)

-- one more fault, at this place
abbrev pub after_fault : ShelfState → ℕ → ShelfState
after_fault s place = record s { faults = slice_set s.faults place (raised (slice_index s.faults place)) }

-- one more call
abbrev pub called : ShelfState → ShelfState
called s = record s { calls = raised s.calls }

-- one more start
abbrev pub begun : ShelfState → ShelfState
begun s = record (called s) { starts = raised s.starts }

-- the shelf after a start of this name that gave this
abbrev pub after_start : {T E : Type 0} → ShelfState → List ℕ → Result T E → ShelfState
after_start s name (Ok x) = record (begun s) {
  started = Some (file_place s.files name);
  left = bytes_of s.files name;
}
after_start s name (Err e) = after_fault (begun s) (file_place s.files name)

-- the shelf after a read with this name that gave this
abbrev pub after_read : {E : Type 0} → ShelfState → List ℕ → Result ℕ E → ShelfState
after_read s name (Ok k) = record (called s) { left = drop k s.left }
after_read s name (Err e) = after_fault (called s) (file_place s.files name)
