-- The place of a file, and what stands there.
use Rattle.std.proofs.Common.{◌≡◌, ℕ, ◌+◌, ◌≤◌, ◌↔◌, List, [], ◌∷◌, length, map, Option, None, Some, Bool, cond, not, option_map, slice_get, unwrap_or, string_bytes, String, refl, sym, ap, ◌∙◌, arith}
use Rattle.std.specs.List.{position, position_or_len, prefix_len}
use Rattle.std.specs.Global.{Global, Vec}
use Rattle.std.specs.Str.{bytes_eq}
use Rattle.std.proofs.lemmas.Grind.{common_steps}
use Rattle.std.proofs.lemmas.List.Folds.{find_at}
use Rattle.std.proofs.lemmas.List.Sums.{prefix_len-le-length}
use Rattle.std.proofs.lemmas.List.{length-map}
use Rattle.std.proofs.lemmas.Option.{slice_get_past, slice_get-get_or}
use Rattle.std.proofs.lemmas.Bool.Decides.{nat_tests}
use Rattle.hg_io.specs.Files.{Files, content_of, is_file, file_place}
use Rattle.hg_io.specs.FilesOf.{files_of}
use Rattle.hg_io.specs.ShelfState.{started_bytes}

-- the file at the place of a name is the first of that name
pub content_of_place : (files : Files) (name : List ℕ) → content_of files name ≡ option_map (λ file. file.1) (slice_get files (file_place files name))
content_of_place files name = ap (option_map (λ (file : List ℕ × List ℕ). file.1)) (find_at (is_file name) files)

-- a name that no file has is placed past the last
pub content_of_none : (files : Files) (name : List ℕ) → (length files ≤ file_place files name) ↔ (content_of files name ≡ None)
content_of_none files name =
    let here = content_of_place files name in
    let past = slice_get_past files (file_place files name) in
    let within = slice_get-get_or files (file_place files name) ([], []) in
    grind (arith, common_steps, here, past, within)

prefix_len-map : {X Y : Type 0} (f : X → Y) (test : Y → Bool) (xs : List X) → prefix_len test (map f xs) ≡ prefix_len (λ x. test (f x)) xs
prefix_len-map f test [] = refl
prefix_len-map f test (x ∷ xs) = ap (λ n. cond (test (f x)) (1 + n) 0) (prefix_len-map f test xs)

position_unwrapped : {X : Type 0} (test : X → Bool) (xs : List X) → unwrap_or (position test xs) (length xs) ≡ position_or_len test xs
position_unwrapped test xs =
    let within = prefix_len-le-length (λ x. not (test x)) xs in
    grind (arith, common_steps, nat_tests, within)

-- what was sought among the files as they stand in memory is their place
pub place_in_memory : (files : List (String Global × Vec ℕ)) (name : List ℕ)
    → unwrap_or (position (λ file. bytes_eq (string_bytes file.0) name) files) (length files) ≡ file_place (files_of files) name
place_in_memory files name =
    position_unwrapped _ files ∙ sym (prefix_len-map (λ (file : String Global × Vec ℕ). (string_bytes file.0, file.1.items)) (λ file. not (is_file name file)) files)

-- that place is past the last where no file has the name
pub none_in_memory : (files : List (String Global × Vec ℕ)) (name : List ℕ) (place : ℕ) → place ≡ file_place (files_of files) name
    → (length files ≤ place) ↔ (content_of (files_of files) name ≡ None)
none_in_memory files name place same =
    rw same (rw length-map at (content_of_none (files_of files) name))

-- and else its bytes are those of the name
pub bytes_in_memory : (files : List (String Global × Vec ℕ)) (name : List ℕ) (place : ℕ) → place ≡ file_place (files_of files) name
    → unwrap_or (content_of (files_of files) name) [] ≡ started_bytes (files_of files) (Some place)
bytes_in_memory files name place same = rw same (ap (λ (found : Option (List ℕ)). unwrap_or found []) (content_of_place (files_of files) name))
