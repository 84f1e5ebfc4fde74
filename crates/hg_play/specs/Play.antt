-- A script played over the members' nodes: the run of its lines' steps, and all that it prints
use Rattle.std.specs.Prelude.{ℕ, zero, suc, cond, List, [], ◌∷◌, ◌++◌, fold, length}
use Rattle.hg_outcome.specs.declared.outcome.Printed.{Printed}
use Rattle.hg_outcome.specs.declared.outcome.Printed.TheVariants as printed
use Rattle.hg_outcome.specs.declared.outcome.Outcome.{Outcome}
use Rattle.hg_life.specs.Members.{MemberList, has_node, names_of, stakes_of}
use Rattle.hg_model.specs.Places.{list_below}
use Rattle.hg_outcome.specs.Ledger.{block_of}
use Rattle.hg_script.specs.declared.line.Line.{Line}
use Rattle.hg_runs.specs.Run.{Run}
use Rattle.hg_runs.specs.Safety.{IsSafe}
use Rattle.hg_world.specs.declared.step.Step.{Step}
use Rattle.hg_world.specs.World.{WorldView, new_world, rows_at, run_of}
use Rattle.hg_world.specs.Steps.{after_steps, settle_steps}
use Rattle.hg_play.specs.Lines.{action_labels, action_printed, action_steps}
use Rattle.hg_play.specs.Tape.{TapeView, tape}

-- the members' nodes, the bytes of the labels so far, and what was printed so far
pub record Stage : Type 0 where
  pub world : WorldView
  pub labels : List (List ℕ)
  pub printed : List Printed

abbrev pub stage : WorldView → List (List ℕ) → List Printed → Stage
stage w labels printed = record { world = w; labels = labels; printed = printed }

-- it without its world
abbrev pub tape_of : Stage → TapeView
tape_of s = tape s.labels s.printed

-- before the first line
abbrev pub first_stage : MemberList → Stage
first_stage members = stage (new_world members) [] []

-- after a line more
abbrev pub after_line : MemberList → Stage → Line → Stage
after_line members s line =
    stage (after_steps s.world (action_steps s.world s.labels line.action)) (action_labels members s.world s.labels line.action)
    (s.printed ++ action_printed members s.world s.labels line.number line.action)

-- after these lines
abbrev pub after_lines : MemberList → Stage → List Line → Stage
after_lines members s lines = fold (after_line members) s lines

-- at the end each node is settled
abbrev pub end_steps_of : MemberList → ℕ → List Step
end_steps_of members m = cond (has_node members m) (settle_steps m) []

abbrev pub end_steps : MemberList → ℕ → List Step
end_steps members zero = []
end_steps members (suc m) = end_steps members m ++ end_steps_of members m

-- the blocks of all nodes, in the order of the members
abbrev pub block_at : MemberList → WorldView → ℕ → Printed
block_at members w m = printed.Block (block_of members m (rows_at w m))

abbrev pub end_blocks : MemberList → WorldView → List Printed
end_blocks members w = list_below (block_at members w) (length members.entries) (has_node members)

-- what the lines print, and at last the block of each node
abbrev pub all_printed : MemberList → List Line → List Printed
all_printed members lines =
    let s = after_lines members (first_stage members) lines in
    s.printed ++ end_blocks members s.world

-- all that a run prints
unfoldable pub play : MemberList → List Line → Outcome
play members lines = record { names = names_of members; printed = all_printed members lines }

-- the outcome with the names and the last blocks alone
unfoldable pub summary : MemberList → List Line → Outcome
summary members lines = record {
  names = names_of members;
  printed = end_blocks members (after_lines members (first_stage members) lines).world;
}

-- the steps of these lines, one line after the other
abbrev pub lines_steps : MemberList → Stage → List Line → List Step
lines_steps members s [] = []
lines_steps members s (line ∷ lines) =
    action_steps s.world s.labels line.action ++ lines_steps members (after_line members s line) lines

-- all steps of a script
abbrev pub play_steps : MemberList → List Line → List Step
play_steps members lines = lines_steps members (first_stage members) lines ++ end_steps members (length members.entries)

-- the world that they leave
abbrev pub played_world : MemberList → List Line → WorldView
played_world members lines = after_steps (new_world members) (play_steps members lines)

-- the run of these steps: the histories of the members' nodes
unfoldable pub play_run : MemberList → List Line → Run
play_run members lines = run_of (played_world members lines)

-- it is safe
abbrev pub IsSafePlay : MemberList → List Line → Type 0
IsSafePlay members lines = IsSafe (stakes_of members) members.coin (play_run members lines)
