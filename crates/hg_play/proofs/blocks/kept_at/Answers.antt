use Rattle.std.proofs.Common.{◌≡◌, ◌∙◌, ap, ap₂}
use Rattle.hg_life.specs.NodeView.{NodeView, Start}
use Rattle.hg_play.specs.Lines.{kept_block}
use Rattle.hg_play.specs.Sites.{start_in}
use Rattle.hg_world.specs.World.{Secrets}
use Rattle.hg_play.proofs.WorldLaws.{made_in, start_read}
use Rattle.hg_play.proofs.blocks.kept_at.Goals as goal

pub returns : goal.returns
returns c = λ begun.
    let members = c.args.game.now.members.now in
    let start : c.node.result.now.start ≡ start_in members c.args.member =
    ap (λ (v : NodeView Secrets). v.start) c.node.ensures.value ∙ start_read members c.args.world.now c.args.member begun c.requires in
    c.in_ok-block.ensures members (made_in members c.args.member c.node.result.now start)
    ∙ ap₂ (kept_block members) (ap (λ (s : Start Secrets). s.own) start) c.node.ensures.value
