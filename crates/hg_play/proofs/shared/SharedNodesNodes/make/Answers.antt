use Rattle.std.proofs.Common.{subst}
use Rattle.std.specs.Prelude.{IfOk}
use Rattle.hg_world.specs.World.{Secrets}
use Rattle.hg_crowd.specs.Party.{PartyView}
use Rattle.hg_play.specs.Nodes.{IsKept, MatchesMaking}
use Rattle.hg_play.specs.Through.{seen_shared}
use Rattle.hg_play.proofs.CallLaws.{IsDone, make_moved}
use Rattle.hg_play.proofs.ReadLaws.{done_keeps, low_seat}
use Rattle.hg_play.proofs.shared.SharedNodesNodes.make.Given as given
use Rattle.hg_play.proofs.shared.SharedNodesNodes.make.Goals as goal

-- all that the call left
left : (g : given.Over) (c : goal.After-make g) → IsDone c.self.inside.party c.make.new.self c.make.result (MatchesMaking (seen_shared c.self.inside.party) (seen_shared c.make.new.self) c.args.member c.args.others.now c.args.time c.args.payload.now)
left g c = make_moved c.self.inside.party c.make.new.self c.args.member c.self.invariant.nodes (low_seat c.self.inside.party c.args.self.now c.args.member c.self.view_is c.requires.member) c.args.others.now c.args.time c.args.payload.now c.make.result c.make.ensures

pub invariant_of-self : goal.invariant_of-self
invariant_of-self g c = done_keeps c.self.inside.party c.make.new.self c.self.inside.known c.make.result _ c.self.invariant (left g c)

pub returns-clause-kept : goal.returns-clause-kept
returns-clause-kept g c = subst (λ (v : PartyView Secrets). IsKept (seen_shared v) (seen_shared c.make.new.self)) c.self.view_is (left g c).kept

pub returns-clause-told : goal.returns-clause-told
returns-clause-told g c = subst (λ (v : PartyView Secrets). IfOk c.make.result (MatchesMaking (seen_shared v) (seen_shared c.make.new.self) c.args.member c.args.others.now c.args.time c.args.payload.now)) c.self.view_is (left g c).told
