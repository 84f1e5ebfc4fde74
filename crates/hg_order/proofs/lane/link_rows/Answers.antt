use Rattle.std.proofs.Common.{◌≡◌, ◌+◌, ◌-◌, ◌<◌, ◌≤◌, ap, sym, length, replicate, List, ℕ, refl, rules, arith}
use Rattle.hg_order.proofs.BoundLaws.{no_number}
use Rattle.hg_order.proofs.FromLaws.{from_within, read_from}
use Rattle.hg_order.proofs.SweepLaws.{next_none, firsts_from, linked_from}
use Rattle.hg_order.proofs.lane.link_rows.Goals as goal

pub loop-x-init : goal.loop-x-init
loop-x-init g c = record {
  from = omega arith;
  to = omega arith;
  linked = λ k few over. absurd (omega arith);
  first = λ m. rw (c.requires.none, read_from c.args.low (replicate 128 0) m, no_number 128 m) (next_none _ _ m);
  long = refl;
  wide = ap (λ (xs : List ℕ). length xs) c.requires.none;
}

pub end_from-requires : goal.end_from-requires
end_from-requires g c =
    let i = c.loop-x.invariant in
    let m = c.creator-member.result in
    let to = (i.first m).to in
    let few = from_within c.args.low _ (length c.args.timers.now) (rw (read_from c.args.low c.loop-x.next m) at to) in
    let inside = c.requires.inside in
    omega (arith, few, inside, i.long, c.is_shaped.ensures.short)

pub loop-x-preserved : goal.loop-x-preserved
loop-x-preserved g c =
    let i = c.loop-x.invariant in
    let low = c.args.low in
    let y = c.loop-x.x - 1 in
    let by = c.creator-member.ensures.value in
    let from : low ≤ y = omega (arith, c.loop-x-test.true) in
    let inside : y < low + length c.args.timers.now = omega (arith, c.loop-x-test.true, i.to, i.long) in
    let room : c.creator-member.result < length c.loop-x.next = omega (arith, i.wide, c.creator-member.ensures.member, c.is_shaped.ensures.few) in
    let up : y + 1 ≡ c.loop-x.x = omega (arith, c.loop-x-test.true) in
    let firsts = rw (sym up) at i.first in
    record {
      from = from;
      to = search rules;
      linked = λ k few over. rw (c.end_from.ensures, by) (linked_from _ low _ c.loop-x.next y from inside firsts c.loop-x.timers (omega (arith, from, inside, i.long)) (rw (sym up) at i.linked) k (search rules) over);
      first = λ m. rw by (firsts_from _ low _ c.loop-x.next y from inside firsts (rw by at room) m);
      long = search rules;
      wide = search rules;
    }

pub returns-clause-linked : goal.returns-clause-linked
returns-clause-linked g c = λ k few. rw c.loop-x.invariant.long (c.loop-x.invariant.linked k few (omega (arith, c.loop-x-test.false)))

pub returns-clause-first : goal.returns-clause-first
returns-clause-first g c = λ m.
    let at : c.loop-x.x ≡ c.args.low = omega (arith, c.loop-x.invariant.from, c.loop-x-test.false) in
    rw c.loop-x.invariant.long (rw at at (c.loop-x.invariant.first m))
