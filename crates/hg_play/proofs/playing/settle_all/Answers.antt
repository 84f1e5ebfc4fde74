use Rattle.std.proofs.Common.{◌∙◌, arith, refl}
use Rattle.hg_play.proofs.SummaryLaws.{settled_next, settled_none}
use Rattle.hg_play.proofs.WorldLaws.{settled_more}
use Rattle.hg_play.proofs.playing.settle_all.Goals as goal

pub loop-member-init : goal.loop-member-init
loop-member-init c = record { sites = refl; after = refl; settled = settled_none c.args.members.now c.args.world.now }

pub settle_at-requires-clause-below : goal.settle_at-requires-clause-below
settle_at-requires-clause-below c = omega (arith, c.requires, c.loop-member.invariant.sites, c.count-member-end.ensures.value, c.loop-member-test.true)

pub loop-member-preserved : goal.loop-member-preserved
loop-member-preserved c = record {
  sites = c.settle_at.ensures.sites ∙ c.loop-member.invariant.sites;
  after = settled_more c.args.members.now c.args.world.now c.loop-member.world c.settle_at.new.world c.loop-member.member c.loop-member.invariant.after c.in_ok-settle_at.ensures.ok;
  settled = settled_next c.args.members.now c.args.world.now c.loop-member.world c.settle_at.new.world c.loop-member.member c.loop-member.invariant.settled c.in_ok-settle_at.ensures.ok c.in_ok-settle_at.ensures.settled;
}
