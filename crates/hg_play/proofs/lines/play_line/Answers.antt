use Rattle.std.proofs.Common.{◌∙◌, ◌∷◌, [], ℕ, ap}
use Rattle.hg_outcome.specs.declared.outcome.Block.{Block}
use Rattle.hg_outcome.specs.declared.outcome.Printed.TheVariants as printed
use Rattle.hg_life.specs.Calls.{publish_answer}
use Rattle.hg_model.specs.Shares.{Share, whole}
use Rattle.hg_script.specs.declared.line.Action.TheVariants as action
use Rattle.hg_world.specs.declared.step.Step.TheVariants.{Freeze, Publish}
use Rattle.hg_world.specs.World.{WorldView, frozen_by, node_at}
use Rattle.hg_world.specs.Steps.{after_step, settle_steps}
use Rattle.hg_play.specs.Nodes.{seen_alone}
use Rattle.hg_play.specs.Tape.{with_piece}
use Rattle.hg_play.proofs.NodesLaws.{line_told, told_alone}
use Rattle.hg_play.proofs.lines.play_line.Goals as goal

pub returns-in_ok-print-in-Freeze-clause-told : goal.returns-in_ok-print-in-Freeze-clause-told
returns-in_ok-print-in-Freeze-clause-told c =
    let w : WorldView = c.args.world.now in
    let t = c.args.tape.now in
    line_told (seen_alone w) (seen_alone c.freeze-len.new.self) c.args.game.now.members.now c.args.line.now (action.Freeze c.in-Freeze.member c.in-Freeze.worker) t c.print.new.self c.in-Freeze.is
    (told_alone w c.freeze-len.new.self (λ v. Freeze c.in-Freeze.member c.in-Freeze.worker ∷ []) _
    (λ begun. c.in_ok-print-in-Freeze.ensures ∙ ap (λ (len : ℕ). with_piece t (printed.Freeze c.args.line.now.number len)) c.freeze-len.ensures.len) c.freeze-len.ensures.after)

pub returns-in_ok-print-in-Publish-clause-told : goal.returns-in_ok-print-in-Publish-clause-told
returns-in_ok-print-in-Publish-clause-told c =
    let w : WorldView = c.args.world.now in
    let t = c.args.tape.now in
    let m = c.in-Publish.member in
    let worker = c.in-Publish.worker in
    line_told (seen_alone w) (seen_alone c.publish.new.self) c.args.game.now.members.now c.args.line.now (action.Publish m worker) t c.print-in-Publish.new.self c.in-Publish.is
    (told_alone w c.publish.new.self (λ v. Publish m worker whole ∷ []) _
    (λ begun.
    c.in_ok-print-in-Publish.ensures
    ∙ ap (λ (count : ℕ). with_piece t (printed.Publish c.args.line.now.number count))
    (c.in_ok-count-in-Publish.ensures.answer ∙ ap (λ (share : Share). publish_answer (node_at w m) (frozen_by w m worker) share) c.new.ensures))
    (c.in_ok-count-in-Publish.ensures.ok ∙ ap (λ (share : Share). after_step w (Publish m worker share)) c.new.ensures))

pub returns-in_ok-print-in-Show-clause-told : goal.returns-in_ok-print-in-Show-clause-told
returns-in_ok-print-in-Show-clause-told c =
    let w : WorldView = c.args.world.now in
    let t = c.args.tape.now in
    line_told (seen_alone w) (seen_alone c.settled_at.new.world) c.args.game.now.members.now c.args.line.now (action.Show c.in-Show.member) t c.print-in-Show.new.self c.in-Show.is
    (told_alone w c.settled_at.new.world (λ v. settle_steps c.in-Show.member) _
    (λ begun. c.in_ok-print-in-Show.ensures ∙ ap (λ (b : Block). with_piece t (printed.Block b)) (c.in_ok-block-in-Show.ensures.block begun)) c.in_ok-block-in-Show.ensures.world)

pub returns-in_ok-print-in-Names-clause-told : goal.returns-in_ok-print-in-Names-clause-told
returns-in_ok-print-in-Names-clause-told c =
    let w : WorldView = c.args.world.now in
    let t = c.args.tape.now in
    line_told (seen_alone w) (seen_alone c.settled_at-in-Names.new.world) c.args.game.now.members.now c.args.line.now (action.Names c.in-Names.member) t c.print-in-Names.new.self c.in-Names.is
    (told_alone w c.settled_at-in-Names.new.world (λ v. settle_steps c.in-Names.member) _
    (λ begun. c.in_ok-print-in-Names.ensures ∙ ap (λ (b : Block). with_piece t (printed.Names b)) (c.in_ok-block-in-Names.ensures.block begun)) c.in_ok-block-in-Names.ensures.world)
