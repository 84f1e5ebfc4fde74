use Rattle.std.proofs.Common.{ap₂, ap, ◌≡◌, length, refl, sym, subst, take}
use Rattle.std.specs.Prelude.{All, IfOk}
use Rattle.hg_world.specs.World.{Secrets}
use Rattle.hg_crowd.specs.Crowd.{AreStill}
use Rattle.hg_crowd.specs.Party.{PartyView, party_view}
use Rattle.hg_play.specs.Lines.{IsLineBelow}
use Rattle.hg_play.specs.Nodes.{IsKept}
use Rattle.hg_play.specs.Through.{MatchesParts, seen_shared}
use Rattle.hg_play.proofs.PartLaws.{through_told}
use Rattle.hg_play.proofs.SharedLaws.{still_all}
use Rattle.hg_play.proofs.through.play_through.Given as given
use Rattle.hg_play.proofs.through.play_through.Goals as goal
use Rattle.hg_play.proofs.through.play_through.Goals.{After-play_parts-played}

-- the same nodes still, through the same seats, which may have seen more
since : (g : given.Over) (c : After-play_parts-played g) → (c.play_parts-played.new.nodes.places ≡ c.args.party.places) × AreStill c.args.party.seats c.play_parts-played.new.nodes.seats
since g c =
    let kept = subst (λ (v : PartyView Secrets). IsKept (seen_shared v) (seen_shared c.play_parts-played.new.nodes)) c.new-nodes.ensures c.play_parts-played.ensures.kept in
    kept.since c.args.party (refl, still_all c.args.party.seats)

pub play_parts-played-requires : goal.play_parts-played-requires
play_parts-played-requires g c = subst (λ (v : PartyView Secrets). All (IsLineBelow (length v.seats)) c.args.lines.now) (sym c.new-nodes.ensures) c.requires.lines

pub returns-clause-places : goal.returns-clause-places
returns-clause-places g c =
    subst (λ (v : PartyView Secrets). v.places ≡ c.args.party.places) (sym c.into_parts-party.ensures.same) (since g (goal.at.returns-clause-places g c).After-play_parts-played).0

pub returns-clause-still : goal.returns-clause-still
returns-clause-still g c =
    subst (λ (v : PartyView Secrets). AreStill c.args.party.seats v.seats) (sym c.into_parts-party.ensures.same) (since g (goal.at.returns-clause-still g c).After-play_parts-played).1

pub returns-clause-told : goal.returns-clause-told
returns-clause-told g c =
    let from = since g (goal.at.returns-clause-told g c).After-play_parts-played in
    let lines = c.args.lines.now in
    let told = subst (λ (v : PartyView Secrets). IfOk c.play_parts-played.result (λ r. MatchesParts c.args.game.now.members.now (take r.1 lines) (seen_shared v) c.args.tape (seen_shared c.play_parts-played.new.nodes) r.0))
    c.new-nodes.ensures c.play_parts-played.ensures.told in
    through_told c.args.game.now.members.now lines c.args.party c.play_parts-played.new.nodes c.into_parts-party.result.0.seats c.args.tape c.play_parts-played.result
    (ap₂ party_view from.0 (sym (ap (λ (v : PartyView Secrets). v.seats) c.into_parts-party.ensures.same))) told
