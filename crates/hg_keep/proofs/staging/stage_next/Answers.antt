use Rattle.std.proofs.Common.{rules, ◌≡◌, List, ℕ, Some, None, option_map, sym, ◌∙◌, ap, arith}
use Rattle.std.specs.Option.{option_to_list}
use Rattle.hg_node.specs.Next.{next_others}
use Rattle.hg_keep.proofs.WayLaws.{has_row, turn_none, turn_some}
use Rattle.hg_keep.proofs.staging.stage_next.Goals as goal

pub returns-in_default-clause-turn : goal.returns-in_default-clause-turn
returns-in_default-clause-turn g c =
    let v = c.unwrap-node.result.now in
    let none : next_others v ≡ None = sym c.next_other.ensures ∙ ap (option_map option_to_list) c.in_default.is in
    turn_none g.V.Verifier.accepts c.args.time c.args.stored.now.node v (search rules) none

pub returns-clause-turn : goal.returns-clause-turn
returns-clause-turn g c =
    let v = c.unwrap-node.result.now in
    let comes : next_others v ≡ Some c.names_of.result.now = sym c.next_other.ensures ∙ ap (option_map option_to_list) c.in-Some.is ∙ ap (λ (names : List (List ℕ)). Some names) (sym c.names_of.ensures.names) in
    turn_some g.V.Verifier.accepts c.args.time c.args.stored.now.node c.stage_make.new.self.node v c.names_of.result.now c.in_ok-answer.answer (search rules) comes c.in_ok-answer.ensures.ok

pub returns-clause-row : goal.returns-clause-row
returns-clause-row g c =
    has_row g.V.Verifier.accepts c.args.stored.now.node c.stage_make.new.self.node c.unwrap-node.result.now c.names_of.result.now c.args.time c.in_ok-answer.answer c.stored_changes_replay.ensures.made
    c.is_node.ensures c.names_of.ensures.few (omega (arith, c.ranges.time)) (search rules) c.in_ok-answer.ensures.ok
