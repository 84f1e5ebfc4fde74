-- A script: its lines in bytes, their words, and what all of them do
use Rattle.std.specs.Prelude.{ℕ, suc, Bool, true, false, not, ◌&&◌, ◌||◌, ◌==◌, nat_lt, if◌then◌else◌, List, [], ◌∷◌, ◌++◌, length, filter, slice_index, Option, Some, None, Result, Ok, Err}
use Rattle.std.specs.List.{slice_split}
use Rattle.std.specs.Str.{is_utf8}
use Rattle.std.specs.Str.Lines.{lines}
use Rattle.hg_life.specs.Members.{MemberList}
use Rattle.hg_life.specs.Results.{◌>>=◌}
use Rattle.hg_script.specs.declared.fault.ScriptFault.{ScriptFault}
use Rattle.hg_script.specs.declared.fault.Why.{Why}
use Rattle.hg_script.specs.declared.fault.Why.TheVariants.{Utf8, Workers}
use Rattle.hg_script.specs.declared.line.Action.{Action}
use Rattle.hg_script.specs.declared.line.Action.TheVariants as action
use Rattle.hg_script.specs.declared.line.Line.{Line}
use Rattle.hg_script.specs.Table.{Above, Found, found_by}

abbrev pub is_line_feed : ℕ → Bool
is_line_feed b = b == 10

-- a space or a tab
abbrev pub is_blank : ℕ → Bool
is_blank b = b == 32 || b == 9

-- what stands between spaces and tabs
abbrev pub words_of : List ℕ → List (List ℕ)
words_of text = filter (λ part. not (length part == 0)) (slice_split is_blank text)

-- a line of a worker, and one that prints a block as published
abbrev pub is_alone : Action → Bool
is_alone (action.Freeze member worker) = true
is_alone (action.Publish member worker) = true
is_alone (action.Kept member) = true
is_alone _ = false

-- such a line is refused where there are workers
abbrev pub with_workers : ℕ → Found → Result (Option Found) Why
with_workers workers found = if nat_lt 0 workers && is_alone found.action then Err Workers else Ok (Some found)

-- a line without words does nothing, and neither does a comment, whose first word begins with `#`
abbrev pub line_in : MemberList → ℕ → Above → List (List ℕ) → Result (Option Found) Why
line_in members workers above [] = Ok None
line_in members workers above (word ∷ arguments) =
    if slice_index word 0 == 35 then Ok None
    else found_by members above word arguments >>= with_workers workers

-- what a line of the script does, if anything, below the lines above it
abbrev pub line_of : MemberList → ℕ → Above → List ℕ → Result (Option Found) Why
line_of members workers above text = if is_utf8 text then line_in members workers above (words_of text) else Err Utf8

abbrev pub at_line : {A : Type 0} → ℕ → Result A Why → Result A ScriptFault
at_line number (Ok x) = Ok x
at_line number (Err why) = Err (record { line = number; why = why })

-- the names of the labels, and that of one more
abbrev pub with_label : List (List ℕ) → Option (List ℕ) → List (List ℕ)
with_label labels None = labels
with_label labels (Some name) = labels ++ name ∷ []

abbrev pub with_line : Above → ℕ → Option Found → Above
with_line above number None = above
with_line above number (Some found) = record {
  lines = above.lines ++ record { number = number; action = found.action } ∷ [];
  labels = with_label above.labels found.label;
}

-- what stands above, and the line of this number
abbrev pub line_more : MemberList → ℕ → Above → ℕ → List ℕ → Result Above ScriptFault
line_more members workers above number text =
    at_line number (line_of members workers above text) >>= (λ found. Ok (with_line above number found))

-- what stands above, and the lines of the texts, of which the first has this number
abbrev pub lines_after : MemberList → ℕ → Above → ℕ → List (List ℕ) → Result Above ScriptFault
lines_after members workers above number [] = Ok above
lines_after members workers above number (text ∷ texts) =
    line_more members workers above number text >>= (λ more. lines_after members workers more (suc number) texts)

abbrev pub nothing_above : Above
nothing_above = record { lines = []; labels = [] }

-- what a script is in a run with so many workers. Its lines end at line feeds; the last may lack it; a carriage return before one is dropped
unfoldable pub lines_of : List ℕ → MemberList → ℕ → Result (List Line) ScriptFault
lines_of bytes members workers = lines_after members workers nothing_above 1 (lines bytes) >>= (λ above. Ok above.lines)
