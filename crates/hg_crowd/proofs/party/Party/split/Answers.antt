use Rattle.std.proofs.Common.{arith, ap₂, sym, subst, ◌≡◌, ◌++◌, ◌∷◌, [], ◌+◌, slice_set, map}
use Rattle.std.specs.Prelude.{All, vec_capacity}
use Rattle.hg_board.specs.Calls.{after_split, split_off}
use Rattle.hg_crowd.specs.Crowd.{AreSeats, IsSeat}
use Rattle.hg_crowd.specs.Party.{PartyView, party_view}
use Rattle.hg_crowd.specs.Workers.{HasMore}
use Rattle.hg_crowd.proofs.ListLaws.{pair_at}
use Rattle.hg_crowd.proofs.CrowdLaws.{Splitting, after_split_all, split_all_now, split_all_others, split_found, split_off_all, split_one}
use Rattle.hg_crowd.proofs.party.Party.split.Goals as goal

pub split-seat-requires-clause-seat : goal.split-seat-requires-clause-seat
split-seat-requires-clause-seat g c =
    let s = c.index_mut.result.now in
    let olds = c.self.inside.seats.items in
    let so = c.nodes.invariant.split in
    let at = split_found olds c.nodes.self-inside.seats.items c.nodes.seats.items c.nodes.i c.len-count.result (vec_capacity c.nodes.seats) s so c.index_mut.ensures.value in
    (pair_at (IsSeat g.V.Verifier.accepts) c.self.inside.shared.now olds c.nodes.i c.index-shared-i.result s c.self.invariant (omega (arith, c.self.invariant.count, so.counted, c.nodes-test.true)) c.index-shared-i.is at).of

pub split-seat-requires-clause-parts : goal.split-seat-requires-clause-parts
split-seat-requires-clause-parts g c =
    let s = c.index_mut.result.now in
    let olds = c.self.inside.seats.items in
    let so = c.nodes.invariant.split in
    let at = split_found olds c.nodes.self-inside.seats.items c.nodes.seats.items c.nodes.i c.len-count.result (vec_capacity c.nodes.seats) s so c.index_mut.ensures.value in
    let parts = subst (λ (v : PartyView g.row.V.Denot). All (HasMore 1) v.seats) (sym c.self.view_is) c.requires in
    subst (HasMore 1) (sym at) (parts c.nodes.i s (omega (arith, so.counted, c.nodes-test.true)))

pub nodes-preserved : goal.nodes-preserved
nodes-preserved g c =
    let s = c.index_mut.result.now in
    let olds = c.self.inside.seats.items in
    let now = c.nodes.self-inside.seats.items in
    let room = vec_capacity c.nodes.seats in
    let next = split_one olds now c.nodes.seats.items c.nodes.i c.len-count.result room s c.split-seat.new.seat c.split-seat.result c.nodes.invariant.split c.nodes-test.true
    c.index_mut.ensures.value c.split-seat.ensures.old c.split-seat.ensures.new in
    record {
      same = c.nodes.invariant.same;
      split = subst (λ l. Splitting olds (slice_set now c.nodes.i c.split-seat.new.seat) l (c.nodes.i + 1) c.len-count.result (vec_capacity c.push_reserved.new.self)) (sym c.push_reserved.ensures.items)
          (subst (λ r. Splitting olds (slice_set now c.nodes.i c.split-seat.new.seat) (c.nodes.seats.items ++ c.split-seat.result ∷ []) (c.nodes.i + 1) c.len-count.result r) (sym c.push_reserved.ensures.capacity) next);
    }

pub returns-clause-old : goal.returns-clause-old
returns-clause-old g c =
    let split = split_all_now c.self.inside.seats.items c.nodes.self-inside.seats.items c.nodes.seats.items c.nodes.i c.len-count.result (vec_capacity c.nodes.seats) c.nodes.invariant.split (omega (arith, c.nodes-test.false)) in
    subst (λ (v : PartyView g.row.V.Denot). party_view c.nodes.self-inside.shared.now c.nodes.self-inside.seats.items ≡ party_view v.places (map after_split v.seats)) c.self.view_is (ap₂ party_view c.nodes.invariant.same split)

pub returns-clause-new : goal.returns-clause-new
returns-clause-new g c =
    let split = split_all_others c.self.inside.seats.items c.nodes.self-inside.seats.items c.nodes.seats.items c.nodes.i c.len-count.result (vec_capacity c.nodes.seats) c.nodes.invariant.split (omega (arith, c.nodes-test.false)) in
    subst (λ (v : PartyView g.row.V.Denot). party_view c.self.inside.shared.now c.nodes.seats.items ≡ party_view v.places (map split_off v.seats)) c.self.view_is (ap₂ party_view (λ i. c.self.inside.shared.now) split)

pub invariant_of-result : goal.invariant_of-result
invariant_of-result g c =
    let split = split_all_others c.self.inside.seats.items c.nodes.self-inside.seats.items c.nodes.seats.items c.nodes.i c.len-count.result (vec_capacity c.nodes.seats) c.nodes.invariant.split (omega (arith, c.nodes-test.false)) in
    subst (AreSeats g.V.Verifier.accepts c.self.inside.shared.now) (sym split) (split_off_all g.V.Verifier.accepts c.self.inside.shared.now c.self.inside.seats.items c.self.invariant)

pub invariant_of-self : goal.invariant_of-self
invariant_of-self g c =
    let split = split_all_now c.self.inside.seats.items c.nodes.self-inside.seats.items c.nodes.seats.items c.nodes.i c.len-count.result (vec_capacity c.nodes.seats) c.nodes.invariant.split (omega (arith, c.nodes-test.false)) in
    subst (λ l. AreSeats g.V.Verifier.accepts l c.nodes.self-inside.seats.items) (sym c.nodes.invariant.same)
    (subst (AreSeats g.V.Verifier.accepts c.self.inside.shared.now) (sym split) (after_split_all g.V.Verifier.accepts c.self.inside.shared.now c.self.inside.seats.items c.self.invariant))
