use Rattle.std.proofs.Common.{◌≡◌, ◌<◌, ◌∙◌, ◌+◌, ◌-◌, ◌/◌, ℕ, List, length, slice_set, refl, sym, ap, subst, inl, inr, arith}
use Rattle.hg_graph.specs.declared.names.HashedRow.{HashedRow}
use Rattle.hg_graph.specs.Names.{AreLaterBelow, Hangs, IsFound, below, hashed_at, with_below}
use Rattle.hg_graph.proofs.WayLaws.{found_put, found_step, later_put, ways_put}
use Rattle.hg_graph.proofs.names.hang.Goals as goal

pub down-init : goal.down-init
down-init c = record { same = refl; before = c.requires.first; way = λ more ways found. found }

pub down-preserved : goal.down-preserved
down-preserved c =
    let held = c.down.invariant in
    let x : ℕ = c.down.x in
    let digits : ℕ = c.down.digits in
    let number : ℕ = c.args.number in
    let next : ℕ = c.next_below-next.result in
    let is = c.next_below-next.ensures in
    let some = c.if-next-eq0.false in
    let later : AreLaterBelow c.down.hashed (number - 1) = rw held.same c.requires.later in
    record {
      same = held.same;
      before = elim (later x digits) [ inl none ↦ absurd (omega (arith, none, is, some)) | inr more ↦ omega (arith, more.1, is, some, held.before) ];
      way = λ more ways found. held.way more ways
          (let at : x + 1 - 1 ≡ x = omega arith in
          found_step more (number - 1) (x + 1) digits (omega arith)
          (elim (ways.kept x digits) [
            | inl none ↦ absurd (omega (arith, none, is, some))
            | inr kept ↦
                (let back : next - 1 + 1 ≡ next = omega (arith, some) in
                subst (λ n. IsFound more (number - 1) n (digits / 2)) (back ∙ (is ∙ (sym kept ∙ ap (λ (y : ℕ). below (hashed_at more y) digits) (sym at)))) found)
          ]));
    }

pub down-smaller : goal.down-smaller
down-smaller c =
    let held = c.down.invariant in
    let is = c.next_below-next.ensures in
    let later : AreLaterBelow c.down.hashed (c.args.number - 1) = rw held.same c.requires.later in
    elim (later c.down.x c.down.digits) [ inl none ↦ absurd (omega (arith, none, is, c.if-next-eq0.false)) | inr more ↦ omega (arith, more.0, more.1, is, held.before) ]

pub returns-then-next-eq0 : goal.returns-then-next-eq0
returns-then-next-eq0 c =
    let held = c.down.invariant in
    let hashed = c.down.hashed in
    let x : ℕ = c.down.x in
    let digits : ℕ = c.down.digits in
    let number : ℕ = c.args.number in
    let inside : x < length hashed = omega (arith, held.before, c.requires.few, ap (λ (hs : List HashedRow). length hs) held.same) in
    let none : below (hashed_at hashed x) digits ≡ 0 = sym c.next_below-next.ensures ∙ c.if-next-eq0.true in
    let later : AreLaterBelow hashed (number - 1) = rw held.same c.requires.later in
    let ways = ways_put hashed x digits number inside none in
    let hangs : Hangs c.args.first c.args.hash number hashed (slice_set hashed x (with_below (hashed_at hashed x) digits number)) = record {
      ways = ways;
      later = later_put hashed x digits number inside none held.before later;
      found = held.way _ ways (found_put hashed x digits number inside none (number - 1) (omega (arith, held.before)));
    } in
    rw c.with_below.ensures (subst (λ (hs : List HashedRow). Hangs c.args.first c.args.hash number hs (slice_set hashed x (with_below (hashed_at hashed x) digits number))) held.same hangs)
