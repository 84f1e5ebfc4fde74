-- Files as they stand in memory.
use Rattle.std.specs.Prelude.{ℕ, ◌<◌, ◌≤◌, List, Option, length, map, String, string_bytes}
use Rattle.std.specs.Option.{ForSome}
use Rattle.std.specs.Global.{Global, Vec}
use Rattle.hg_io.specs.Files.{Files}
use Rattle.hg_io.specs.ShelfState.{started_bytes}

-- each file's name and bytes
abbrev pub files_of : List (String Global × Vec ℕ) → Files
files_of files = map (λ file. (string_bytes file.0, file.1.items)) files

-- one of these files is started, or none, and so many of its bytes are read
abbrev pub IsReadTo : List (String Global × Vec ℕ) → Option ℕ → ℕ → Type 0
IsReadTo files started at = ForSome started (λ place. place < length files)
    × (at ≤ length (started_bytes (files_of files) started))
