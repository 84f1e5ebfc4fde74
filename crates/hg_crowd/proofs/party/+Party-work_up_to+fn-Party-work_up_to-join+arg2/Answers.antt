use Rattle.std.proofs.Common.{rules, arith, sym, subst, ◌+◌, ◌-◌}
use Rattle.std.specs.Prelude.{All, OnOk}
use Rattle.hg_crowd.specs.Party.{PartyView}
use Rattle.hg_crowd.specs.Workers.{AllMark, AllMarkUpTo, HasMore}
use Rattle.hg_crowd.proofs.CrowdLaws.{has_fewer, more_after_split, ok_both, ok_map, up_to_first}
use Rattle.hg_crowd.proofs.PartyLaws.{both_marked, both_worked}
use Rattle.hg_crowd.proofs.party.+Party-work_up_to+fn-Party-work_up_to-join+arg2.Goals as goal

pub returns-then-last-eq0-clause-marked : goal.returns-then-last-eq0-clause-marked
returns-then-last-eq0-clause-marked g t c =
    let ps = c.args.self.places in
    let olds = c.args.self.seats in
    let news = c.worked_each.result.0.seats in
    let first = c.if-last-eq0.true in
    ok_map c.worked_each.result.1 (AllMark ps c.new-share.result olds news) (AllMarkUpTo ps c.args.last c.args.shares olds news)
    (up_to_first ps c.args.last c.args.shares c.new-share.result olds news (omega (arith, first)) c.new-share.ensures) c.worked_each.ensures.marked

pub split-requires : goal.split-requires
split-requires g t c =
    let some = c.if-last-eq0.false in
    has_fewer c.args.self.seats c.args.last 1 (omega (arith, some)) c.requires.parts

pub join-party-requires-after_bounds : goal.join-party-requires-after_bounds
join-party-requires-after_bounds g t c κs within =
    let some = c.if-last-eq0.false in
    let before = c.args.last - 1 in
    let more = has_fewer c.args.self.seats c.args.last (before + 1) (omega (arith, some)) c.requires.parts in
    let parts = subst (λ (v : PartyView g.row.V.Denot). All (HasMore before) v.seats) (sym c.in-Ok.ensures.old) (more_after_split before c.args.self.seats more) in
    ((search rules, (λ a m. m, (λ a m. m, (λ a m. m, (parts, (omega (arith, c.requires.last), (search rules, search rules, search rules))))))), tt)

pub returns-clause-worked : goal.returns-clause-worked
returns-clause-worked g t c =
    let some = c.if-last-eq0.false in
    both_worked g.V.Verifier.accepts c.args.self c.split.new.self c.in-Ok.other c.join-party.result.0.0 c.join-party.result.1.0 c.absorb.new.self c.in-Ok.ensures.old c.in-Ok.ensures.new
    c.join-party.ensures.first.0 c.join-party.ensures.first.1.0 c.join-party.ensures.second.1.0 c.absorb.ensures.seats c.are_seats.ensures (has_fewer c.args.self.seats c.args.last 1 (omega (arith, some)) c.requires.parts)

pub returns-clause-marked : goal.returns-clause-marked
returns-clause-marked g t c =
    let some = c.if-last-eq0.false in
    let old = c.args.self in
    let split = c.split.new.self in
    let other = c.in-Ok.other in
    let first = c.join-party.result.0.0 in
    let second = c.join-party.result.1.0 in
    let back = c.absorb.new.self in
    let last = c.args.last in
    let shares = c.args.shares in
    subst (λ r. OnOk r (AllMarkUpTo old.places last shares old.seats back.seats)) (sym c.and.ensures)
    (ok_both c.join-party.result.0.1 c.join-party.result.1.1 (AllMarkUpTo split.places (last - 1) shares split.seats first.seats) (AllMark other.places c.new-share.result other.seats second.seats)
    (AllMarkUpTo old.places last shares old.seats back.seats)
    (both_marked g.V.Verifier.accepts old split other first second back c.in-Ok.ensures.old c.in-Ok.ensures.new c.join-party.ensures.first.0 c.join-party.ensures.first.1.0 c.join-party.ensures.second.1.0 c.absorb.ensures.seats
    (last - 1) last shares c.new-share.result (omega (arith, some)) c.new-share.ensures) c.join-party.ensures.first.1.1 c.join-party.ensures.second.1.1)
