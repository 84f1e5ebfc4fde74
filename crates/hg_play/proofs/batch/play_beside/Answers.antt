use Rattle.std.proofs.Common.{rules, ◌≡◌, ◌∙◌, List, ap, ap₂, arith, map, refl, subst, sym, take}
use Rattle.std.specs.Prelude.{IfOk, OnOk}
use Rattle.hg_model.specs.Shares.{whole}
use Rattle.hg_life.specs.Signing.{accepts_by}
use Rattle.hg_board.specs.Seats.{SharedNode}
use Rattle.hg_board.specs.Calls.{after_split, split_off}
use Rattle.hg_crowd.specs.Crowd.{AreSeats}
use Rattle.hg_crowd.specs.Party.{PartyView, party_view}
use Rattle.hg_crowd.specs.Workers.{AllMark}
use Rattle.hg_world.specs.World.{Secrets}
use Rattle.hg_play.specs.Batch.{IsBatch}
use Rattle.hg_play.specs.Through.{MatchesThrough}
use Rattle.hg_play.proofs.BatchLaws.{all_again, back_in, beside_played, first_count, more_beside, more_of_all, own_lines, own_nodes}
use Rattle.hg_play.proofs.batch.play_beside.Goals as goal

pub split-requires : goal.split-requires
split-requires g c = more_of_all 1 c.args.party.seats (omega arith) c.requires.parts

pub join-seats-requires-after_bounds : goal.join-seats-requires-after_bounds
join-seats-requires-after_bounds g c κs within =
    let places = c.args.party.places in
    let firsts = c.args.party.seats in
    let P = c.places-places.result.now in
    let few = c.args.band.now.few in
    let split = party_view P c.into_seats-seats.result.items in
    let own = party_view P c.into_seats-own.result.items in
    let split_is : split ≡ party_view places (map after_split firsts) = ap₂ party_view c.places-places.ensures (c.into_seats-seats.ensures.same ∙ ap (λ (v : PartyView Secrets). v.seats) c.in_ok-split.ensures.old) in
    let own_is : own ≡ party_view places (map split_off firsts) = ap₂ party_view c.places-places.ensures (c.into_seats-own.ensures.same ∙ ap (λ (v : PartyView Secrets). v.seats) c.in_ok-split.ensures.new) in
    let same = c.places-places.ensures ∙ sym (ap (λ (v : PartyView Secrets). v.places) c.in_ok-split.ensures.old) in (
      (
        subst (λ (l : List (SharedNode Secrets)). AreSeats accepts_by l c.into_seats-seats.result.items) (sym same) c.into_seats-seats.ensures.seats,
        (more_beside c.args.band.now.workers places firsts split (omega (arith, few)) c.requires.parts split_is, (c.args.band.now.some, (search rules, search rules))),
      ),
      (own_nodes places firsts own c.args.known own_is c.requires.nodes, (own_lines places firsts own c.args.lines.now own_is c.requires.lines, c.args.game.now.signed)),
    )

pub work_beside-party-requires-clause-parts : goal.work_beside-party-requires-clause-parts
work_beside-party-requires-clause-parts g c κs within =
    let few = c.args.band.now.few in
    let places = c.args.party.places in
    let firsts = c.args.party.seats in
    let P = c.places-places.result.now in
    let split = party_view P c.into_seats-seats.result.items in
    let own = party_view P c.into_seats-own.result.items in
    let seats = c.join-seats.result.0.0.items in
    let called = c.join-seats.result.1.0.items in
    let split_is : split ≡ party_view places (map after_split firsts) = ap₂ party_view c.places-places.ensures (c.into_seats-seats.ensures.same ∙ ap (λ (v : PartyView Secrets). v.seats) c.in_ok-split.ensures.old) in
    let own_is : own ≡ party_view places (map split_off firsts) = ap₂ party_view c.places-places.ensures (c.into_seats-own.ensures.same ∙ ap (λ (v : PartyView Secrets). v.seats) c.in_ok-split.ensures.new) in
    let absorbed = back_in P P c.new-party.result c.new.result c.absorb.new.self seats called refl c.new-party.ensures c.new.ensures c.absorb.ensures.seats in
    let all = all_again places firsts split own (party_view P seats) (party_view P called) c.absorb.new.self split_is own_is refl c.join-seats.ensures.first.1 refl c.join-seats.ensures.second.1.0 absorbed
    (first_count places firsts c.args.known c.requires.nodes) c.requires.parts in
    more_of_all c.args.band.now.workers c.absorb.new.self.seats (omega (arith, few)) all

pub returns : goal.returns
returns g c =
    let places = c.args.party.places in
    let firsts = c.args.party.seats in
    let lines = c.args.lines.now in
    let members = c.args.game.now.members.now in
    let P = c.places-places.result.now in
    let split = party_view P c.into_seats-seats.result.items in
    let own = party_view P c.into_seats-own.result.items in
    let seats = c.join-seats.result.0.0.items in
    let called = c.join-seats.result.1.0.items in
    let back = c.absorb.new.self in
    let lasts = c.work_beside-party.result.0 in
    let split_is : split ≡ party_view places (map after_split firsts) = ap₂ party_view c.places-places.ensures (c.into_seats-seats.ensures.same ∙ ap (λ (v : PartyView Secrets). v.seats) c.in_ok-split.ensures.old) in
    let own_is : own ≡ party_view places (map split_off firsts) = ap₂ party_view c.places-places.ensures (c.into_seats-own.ensures.same ∙ ap (λ (v : PartyView Secrets). v.seats) c.in_ok-split.ensures.new) in
    let absorbed = back_in P P c.new-party.result c.new.result back seats called refl c.new-party.ensures c.new.ensures c.absorb.ensures.seats in
    let back_same = c.absorb.ensures.places ∙ ap (λ (v : PartyView Secrets). v.places) c.new-party.ensures in
    let marked = subst (λ r. OnOk r (AllMark back.places whole back.seats lasts.seats)) c.in_ok-done.was c.work_beside-party.ensures.marked in
    let batch = subst (λ r. IfOk r (λ q. IsBatch lines q.1)) c.in_ok-tape.was c.join-seats.ensures.second.1.1.0 in
    let told = subst (λ r. IfOk r (λ q. MatchesThrough members (take q.1 lines) P own.seats c.args.tape called q.0)) c.in_ok-tape.was c.join-seats.ensures.second.1.1.1 in
    beside_played places firsts split own (party_view P seats) (party_view P called) back split_is own_is refl c.join-seats.ensures.first.1 refl c.join-seats.ensures.second.1.0 absorbed
    members lines c.args.tape c.in_ok-tape.tape c.join-seats.result.1.1 lasts c.in_ok-tape.count back_same c.work_beside-party.ensures.places
    c.work_beside-party.ensures.worked marked c.join-seats.ensures.second.0 batch told
