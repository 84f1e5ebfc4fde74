use Rattle.std.proofs.Common.{arith, refl, subst}
use Rattle.std.specs.Prelude.{IfOk}
use Rattle.hg_graph.specs.RowsWithRoom.{rows_of}
use Rattle.hg_world.specs.World.{Secrets}
use Rattle.hg_crowd.specs.Party.{PartyView}
use Rattle.hg_play.specs.Heard.{IsHanded, TakesRows}
use Rattle.hg_play.specs.Through.{MatchesPulled, MatchesTaken, seen_shared}
use Rattle.hg_play.proofs.PartLaws.{pulled_told}
use Rattle.hg_play.proofs.ReadLaws.{hands_keep, low_known, low_seat, noted_keeps, taken_keeps}
use Rattle.hg_play.proofs.shared.SharedNodes.pull_rows.Goals as goal

pub invariant_of-self : goal.invariant_of-self
invariant_of-self g c = hands_keep c.self.inside.party c.lacked.new.party c.self.inside.known c.args.taker c.args.peer c.lacked.result c.self.invariant c.lacked.ensures

pub invariant_of-self-in_err-counts : goal.invariant_of-self-in_err-counts
invariant_of-self-in_err-counts g c =
    taken_keeps c.lacked.new.party c.take.new.party c.self.inside.known c.args.taker (rows_of c.as_slice.result.now) c.take.result
    (hands_keep c.self.inside.party c.lacked.new.party c.self.inside.known c.args.taker c.args.peer c.lacked.result c.self.invariant c.lacked.ensures) c.take.ensures

pub note-requires-clause-taker : goal.note-requires-clause-taker
note-requires-clause-taker g c = low_known c.self.inside.party c.args.self.now c.self.inside.known c.args.taker c.self.view_is c.self.invariant c.requires.taker

pub note-requires-clause-peer : goal.note-requires-clause-peer
note-requires-clause-peer g c = low_known c.self.inside.party c.args.self.now c.self.inside.known c.args.peer c.self.view_is c.self.invariant c.requires.peer

pub invariant_of-self-2 : goal.invariant_of-self-2
invariant_of-self-2 g c =
    let v0 = c.self.inside.party in
    let v1 = c.lacked.new.party in
    let v2 = c.take.new.party in
    let all = c.in_ok-handed.handed in
    let many = c.lacked.ensures.kept.count in
    noted_keeps v1 v2 c.self.inside.known c.note.new.known c.args.taker c.args.peer all c.take.result c.in_ok-counts.counts
    (hands_keep v0 v1 c.self.inside.known c.args.taker c.args.peer c.lacked.result c.self.invariant c.lacked.ensures)
    (omega (arith, many, low_seat v0 c.args.self.now c.args.taker c.self.view_is c.requires.taker))
    (subst (λ r. IfOk r (IsHanded v1 c.args.taker c.args.peer)) c.in_ok-handed.was c.lacked.ensures.handed) c.in_ok-counts.was
    (subst (λ events. TakesRows c.args.taker (rows_of events) c.take.result v1 v2) c.as_slice.ensures.value c.take.ensures) c.note.ensures

pub returns-clause-told : goal.returns-clause-told
returns-clause-told g c =
    let v0 = c.self.inside.party in
    let v1 = c.lacked.new.party in
    let v2 = c.take.new.party in
    let all = c.in_ok-handed.handed in
    let many = c.lacked.ensures.kept.count in
    let taken = subst (λ events. TakesRows c.args.taker (rows_of events) c.take.result v1 v2) c.as_slice.ensures.value c.take.ensures in
    subst (λ (v : PartyView Secrets). MatchesPulled (seen_shared v) (seen_shared v2) c.args.taker c.args.peer c.in_ok-counts.counts all.last) c.self.view_is
    (pulled_told v0 v1 v2 c.args.taker c.args.peer all c.in_ok-counts.counts all.last c.lacked.ensures.nodes
    (omega (arith, many, low_seat v0 c.args.self.now c.args.taker c.self.view_is c.requires.taker))
    (omega (arith, many, low_seat v0 c.args.self.now c.args.peer c.self.view_is c.requires.peer)) refl
    (subst (λ r. IfOk r (IsHanded v1 c.args.taker c.args.peer)) c.in_ok-handed.was c.lacked.ensures.handed) taken.kept.back c.lacked.ensures.none
    (subst (λ r. IfOk r (MatchesTaken (seen_shared v1) (seen_shared v2) c.args.taker (rows_of all.events.items))) c.in_ok-counts.was taken.told))
