use Rattle.std.proofs.Common.{◌<◌, length, arith}
use Rattle.hg_play.specs.Nodes.{seen_alone}
use Rattle.hg_play.proofs.NodesLaws.{blocks_more, blocks_none, kept_both, kept_same}
use Rattle.hg_play.proofs.blocks.push_blocks.Goals as goal

pub loop-member-init : goal.loop-member-init
loop-member-init c = record {
  kept = kept_same (seen_alone c.args.world.now);
  told = blocks_none c.args.game.now.members.now (seen_alone c.args.world.now) c.args.tape.now.printed;
}

pub push_block-requires-clause-below : goal.push_block-requires-clause-below
push_block-requires-clause-below c = omega (arith, c.requires, c.loop-member.invariant.kept.count, c.count-member-end.ensures.value, c.loop-member-test.true)

pub loop-member-preserved : goal.loop-member-preserved
loop-member-preserved c =
    let m = c.loop-member.member in
    let inside : m < length c.args.game.now.members.now.entries = omega (arith, c.count-member-end.ensures.value, c.loop-member-test.true) in
    record {
      kept = kept_both c.loop-member.invariant.kept c.push_block.ensures.kept;
      told = blocks_more (seen_alone c.args.world.now) (seen_alone c.loop-member.world) (seen_alone c.push_block.new.world) c.args.game.now.members.now m c.args.tape.now.printed c.loop-member.tape.printed c.push_block.new.tape.printed inside c.push_block.ensures.kept.back
          c.loop-member.invariant.told c.in_ok-push_block.ensures.told;
    }
