use Rattle.std.proofs.Common.{ℕ, Option, length, unwrap_or, ap, ◌∙◌}
use Rattle.hg_io.proofs.Places.{bytes_in_memory, none_in_memory, place_in_memory}
use Rattle.hg_io.proofs.shelf_mem.file_place.Goals as goal

pub returns-clause-place : goal.returns-clause-place
returns-clause-place c =
    c.unwrap_or.ensures ∙ ap (λ (found : Option ℕ). unwrap_or found (length c.args.files.now)) c.found_place.ensures ∙ place_in_memory c.args.files.now c.args.name.now

pub returns-clause-none : goal.returns-clause-none
returns-clause-none c = none_in_memory c.args.files.now c.args.name.now c.unwrap_or.result (returns-clause-place c)

pub returns-clause-content : goal.returns-clause-content
returns-clause-content c = bytes_in_memory c.args.files.now c.args.name.now c.unwrap_or.result (returns-clause-place c)
