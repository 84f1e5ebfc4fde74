use Rattle.std.proofs.Common.{length, ap, refl, ◌∙◌}
use Rattle.hg_world.specs.World.{WorldView, new_world}
use Rattle.hg_world.proofs.StepLaws.{steps_sites}
use Rattle.hg_play.specs.Play.{play_steps}
use Rattle.hg_play.proofs.BatchLaws.{world_began, world_made, world_played}
use Rattle.hg_play.proofs.LawfulLaws.{new_count}
use Rattle.hg_play.proofs.PlayLaws.{lines_below}
use Rattle.hg_play.proofs.WorldLaws.{safe-played}
use Rattle.hg_play.proofs.playing.play_world.Goals as goal

pub play_lines-requires : goal.play_lines-requires
play_lines-requires c = lines_below c.args.members.now 0 _ c.args.lines.now (new_count c.args.members.now c.in_ok-world.world c.in_ok-world.ensures) c.requires

pub returns-clause-world : goal.returns-clause-world
returns-clause-world c =
    world_played c.args.members.now c.args.lines.now c.in_ok-world.world c.play_lines.new.world c.settle_all.new.world _ c.in_ok-world.ensures c.in_ok-play_lines.ensures.told c.in_ok-settle_all.ensures.after

pub returns-clause-made : goal.returns-clause-made
returns-clause-made c =
    world_made c.args.members.now c.args.lines.now c.settle_all.new.world
    (world_played c.args.members.now c.args.lines.now c.in_ok-world.world c.play_lines.new.world c.settle_all.new.world _ c.in_ok-world.ensures c.in_ok-play_lines.ensures.told c.in_ok-settle_all.ensures.after)

pub returns-clause-began : goal.returns-clause-began
returns-clause-began c =
    world_began c.args.members.now c.args.lines.now c.settle_all.new.world
    (world_played c.args.members.now c.args.lines.now c.in_ok-world.world c.play_lines.new.world c.settle_all.new.world _ c.in_ok-world.ensures c.in_ok-play_lines.ensures.told c.in_ok-settle_all.ensures.after)

pub returns-clause-safe : goal.returns-clause-safe
returns-clause-safe c =
    safe-played c.args.members.now c.args.lines.now c.settle_all.new.world
    (world_played c.args.members.now c.args.lines.now c.in_ok-world.world c.play_lines.new.world c.settle_all.new.world _ c.in_ok-world.ensures c.in_ok-play_lines.ensures.told c.in_ok-settle_all.ensures.after)
    c.is_world.ensures.safe

pub returns-clause-count : goal.returns-clause-count
returns-clause-count c =
    let played = world_played c.args.members.now c.args.lines.now c.in_ok-world.world c.play_lines.new.world c.settle_all.new.world _ c.in_ok-world.ensures c.in_ok-play_lines.ensures.told c.in_ok-settle_all.ensures.after in
    ap (λ (w : WorldView). length w.sites) played
    ∙ (steps_sites (new_world c.args.members.now) (play_steps c.args.members.now c.args.lines.now) ∙ new_count c.args.members.now (new_world c.args.members.now) refl)
