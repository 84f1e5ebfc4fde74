use Rattle.std.proofs.Common.{◌∙◌, ◌++◌, List, ℕ, ap, ap₂}
use Rattle.hg_outcome.specs.declared.outcome.Outcome.{Outcome}
use Rattle.hg_outcome.specs.declared.outcome.Printed.{Printed}
use Rattle.hg_play.specs.Play.{after_lines, end_blocks, first_stage, play}
use Rattle.hg_play.proofs.LawfulLaws.{ended, played_count}
use Rattle.hg_play.proofs.playing.play.Goals as goal

pub closed-requires : goal.closed-requires
closed-requires g c = played_count c.args.members.now c.args.lines.now c.in_ok-world.world c.in_ok-world.tape.printed c.in_ok-world.ensures.played

pub returns-clause-outcome : goal.returns-clause-outcome
unfolding play
returns-clause-outcome g c =
    let members = c.args.members.now in
    let lines = c.args.lines.now in
    let printed = c.in_ok-world.tape.printed in
    let e = ended members c.args.workers lines c.in_ok-world.world printed printed c.in_ok-outcome.outcome c.requires.lines c.in_ok-world.ensures.new c.in_ok-world.ensures.played c.in_ok-outcome.ensures in
    ap₂ (λ (ns : List (List ℕ)) (ps : List Printed). let o : Outcome = record { names = ns; printed = ps } in o) c.in_ok-outcome.ensures.names
    (e.shown ∙ ap (λ (ps : List Printed). ps ++ end_blocks members (after_lines members (first_stage members) lines).world) c.in_ok-world.ensures.played.pieces)

pub returns-clause-safe : goal.returns-clause-safe
returns-clause-safe g c =
    let printed = c.in_ok-world.tape.printed in
    (ended c.args.members.now c.args.workers c.args.lines.now c.in_ok-world.world printed printed c.in_ok-outcome.outcome c.requires.lines c.in_ok-world.ensures.new c.in_ok-world.ensures.played c.in_ok-outcome.ensures).safely

pub returns-clause-agree : goal.returns-clause-agree
returns-clause-agree g c =
    let printed = c.in_ok-world.tape.printed in
    (ended c.args.members.now c.args.workers c.args.lines.now c.in_ok-world.world printed printed c.in_ok-outcome.outcome c.requires.lines c.in_ok-world.ensures.new c.in_ok-world.ensures.played c.in_ok-outcome.ensures).agreeing
