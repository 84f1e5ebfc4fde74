use Rattle.std.proofs.Common.{get_or, ◌∙◌, arith}
use Rattle.hg_world.specs.Steps.{settle_steps}
use Rattle.hg_storm.proofs.WorldLaws.{all_sites, member_read, settle_all, settle_more}
use Rattle.hg_storm.proofs.gathering.settle_each.Goals as goal

pub settle-requires : goal.settle-requires
settle-requires c = member_read c.args.world.now c.loop-member.world c.args.circle.now c.loop-member.member-index c.requires c.loop-member-test.true c.loop-member.invariant.sites

pub loop-member-preserved : goal.loop-member-preserved
loop-member-preserved c = record {
  sites = all_sites c.loop-member.world c.settle.new.self (settle_steps (get_or c.args.circle.now c.loop-member.member-index 0)) c.in_ok-settle.ensures.ok ∙ c.loop-member.invariant.sites;
  settled = settle_more c.args.circle.now c.loop-member.member-index c.args.world.now c.loop-member.world c.settle.new.self c.loop-member-test.true c.loop-member.invariant.settled c.in_ok-settle.ensures.ok;
}

pub returns : goal.returns
returns c = settle_all c.args.circle.now c.loop-member.member-index c.args.world.now c.loop-member.world (omega arith) c.loop-member.invariant.settled
