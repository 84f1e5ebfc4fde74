use Rattle.hg_storm.proofs.WorldLaws.{first_member, first_still, ok_then, pulled_each, rest_members, rest_still}
use Rattle.hg_storm.proofs.gathering.pull_each.Goals as goal

pub pull_to-requires-clause-first : goal.pull_to-requires-clause-first
pull_to-requires-clause-first c = first_member c.args.world.now c.args.circle.now c.in-Some.first.now c.in-Some.rest.now c.in-Some.ensures.cases.0 c.requires

pub pull_to-requires-clause-rest : goal.pull_to-requires-clause-rest
pull_to-requires-clause-rest c = rest_members c.args.world.now c.args.circle.now c.in-Some.first.now c.in-Some.rest.now c.in-Some.ensures.cases.0 c.requires

pub pull_from-requires-clause-first : goal.pull_from-requires-clause-first
pull_from-requires-clause-first c =
    first_still c.args.world.now c.args.circle.now c.in-Some.first.now c.in-Some.rest.now c.in-Some.ensures.cases.0 c.requires c.pull_to.new.world c.in_ok-pull_to.ensures.pulls

pub pull_from-requires-clause-rest : goal.pull_from-requires-clause-rest
pull_from-requires-clause-rest c =
    rest_still c.args.world.now c.args.circle.now c.in-Some.first.now c.in-Some.rest.now c.in-Some.ensures.cases.0 c.requires c.pull_to.new.world c.in_ok-pull_to.ensures.pulls

pub returns : goal.returns
returns c =
    ok_then c.pull_from.result _ _
    (pulled_each c.args.world.now c.args.circle.now c.in-Some.first.now c.in-Some.rest.now c.in-Some.ensures.cases.0 c.requires c.pull_to.new.world c.in_ok-pull_to.ensures.pulls c.pull_from.new.world)
    c.pull_from.ensures.pulls
