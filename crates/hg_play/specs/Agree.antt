-- What a play prints agrees: of the orders that any two of its blocks show one is a prefix of the other.
-- SWIRLDS-TR-2016-01, section 5. And what ties the lines to the run
use Rattle.std.specs.Prelude.{ℕ, ◌≡◌, ◌*◌, ◌<◌, ◌⊎◌, List, map, Some, slice_get}
use Rattle.hg_outcome.specs.declared.outcome.OrderLine.{OrderLine}
use Rattle.hg_outcome.specs.declared.outcome.Block.{Block}
use Rattle.hg_outcome.specs.declared.outcome.Printed.{Printed}
use Rattle.hg_outcome.specs.declared.outcome.Printed.TheVariants as printed
use Rattle.hg_outcome.specs.declared.outcome.Outcome.{Outcome}
use Rattle.hg_model.specs.Stakes.{total}
use Rattle.hg_life.specs.Members.{MemberList, stakes_of}
use Rattle.hg_model.specs.Order.{Ordered}
use Rattle.hg_script.specs.declared.line.Line.{Line}
use Rattle.hg_runs.specs.Honest.{dishonest, AreApart}
use Rattle.hg_runs.specs.Safety.{IsOnePrefix}
use Rattle.hg_world.specs.World.{new_world}
use Rattle.hg_world.specs.Steps.{after_steps}
use Rattle.hg_play.specs.Play.{after_lines, first_stage, lines_steps, play, play_run}

-- a printed row of an order: its name, round received and consensus timestamp
abbrev pub shown_line : OrderLine → Ordered
shown_line line = record { name = line.name; received = line.received; time = line.time }

-- the order that a block shows
abbrev pub shown_order : Block → List Ordered
shown_order b = map shown_line b.order

-- the block is one of these pieces, with or without names
abbrev pub HasBlock : List Printed → Block → Type 0
HasBlock pieces b = (i : ℕ) × ((slice_get pieces i ≡ Some (printed.Block b)) ⊎ (slice_get pieces i ≡ Some (printed.Names b)))

-- of the orders that any two of the blocks show, of one node or two and at any moments, one is a prefix of the other
abbrev pub BlocksAgree : Outcome → Type 0
BlocksAgree o = (a b : Block) → HasBlock o.printed a → HasBlock o.printed b → IsOnePrefix (shown_order a) (shown_order b)

-- so where the dishonest members have less than a third of the stake and names do not collide, both in the run of the steps
abbrev pub IsAgreed : MemberList → List Line → Type 0
IsAgreed members lines =
    let n = stakes_of members in
    let c = members.coin in
    3 * dishonest n c (play_run members lines) < total n → AreApart n c (play_run members lines) → BlocksAgree (play members lines)

-- the world after lines is that after their steps
abbrev pub LinesAreSteps : Type 0
LinesAreSteps =
    (members : MemberList) (lines : List Line) →
    (after_lines members (first_stage members) lines).world ≡ after_steps (new_world members) (lines_steps members (first_stage members) lines)
