use Rattle.std.proofs.Common.{◌≡◌, ◌∙◌, ◌-◌, ◌<◌, ℕ, false, take, nat_eq, nat_le, ap, sym, arith, rules}
use Rattle.std.proofs.lemmas.Bool.{le-leb}
use Rattle.hg_model.specs.Stakes.{stake_of}
use Rattle.hg_model.specs.Rounds.{stake_at}
use Rattle.hg_model.specs.Seeing.{strongly_sees}
use Rattle.hg_rounds.specs.Tabled.{seen_weight}
use Rattle.hg_rounds.proofs.SeenLaws.{found, passed, too_light}
use Rattle.hg_rounds.proofs.WeightLaws.{rows_weight-last, some_left}
use Rattle.hg_rounds.proofs.place.sees_weight.Goals as goal
use Rattle.hg_rounds.proofs.place.sees_weight.Goals.{then-loop-missing-test+else-missing-rest, else-loop-missing-test}

pub overflow_sub-left : goal.overflow_sub-left
overflow_sub-left g c =
    let shape = g.S.Sight.shape c.args.sight.now in
    let some = some_left (stake_at shape.members shape.links) c.args.rows.now c.loop-missing.left c.loop-missing.rest c.loop-missing.invariant.rest (omega (arith, c.loop-missing-test.true, c.if-missing-rest.true)) in
    omega arith

pub bounds-rows-left : goal.bounds-rows-left
bounds-rows-left g c =
    let shape = g.S.Sight.shape c.args.sight.now in
    let some = some_left (stake_at shape.members shape.links) c.args.rows.now c.loop-missing.left c.loop-missing.rest c.loop-missing.invariant.rest (omega (arith, c.loop-missing-test.true, c.if-missing-rest.true)) in
    omega (arith, c.loop-missing.invariant.within)

pub overflow_sub-rest : goal.overflow_sub-rest
overflow_sub-rest g c =
    let shape = g.S.Sight.shape c.args.sight.now in
    let some = some_left (stake_at shape.members shape.links) c.args.rows.now c.loop-missing.left c.loop-missing.rest c.loop-missing.invariant.rest (omega (arith, c.loop-missing-test.true, c.if-missing-rest.true)) in
    let last = rows_weight-last (stake_at shape.members shape.links) c.args.rows.now c.loop-missing.left (c.loop-missing.left - 1) (omega arith) c.loop-missing.invariant.within in
    omega (arith, c.loop-missing.invariant.rest, last, c.from-stake.ensures ∙ (c.stake.ensures ∙ ap (stake_of shape.members) c.creator.ensures.value))

pub loop-missing-smaller : goal.loop-missing-smaller
loop-missing-smaller g c =
    let shape = g.S.Sight.shape c.args.sight.now in
    let some = some_left (stake_at shape.members shape.links) c.args.rows.now c.loop-missing.left c.loop-missing.rest c.loop-missing.invariant.rest (omega (arith, c.loop-missing-test.true, c.if-missing-rest.true)) in
    omega arith

pub loop-missing-smaller-then-strongly_sees : goal.loop-missing-smaller-then-strongly_sees
loop-missing-smaller-then-strongly_sees g c =
    let shape = g.S.Sight.shape c.args.sight.now in
    let some = some_left (stake_at shape.members shape.links) c.args.rows.now c.loop-missing.left c.loop-missing.rest c.loop-missing.invariant.rest (omega (arith, c.loop-missing-test.true, c.if-missing-rest.true)) in
    omega arith

pub loop-missing-preserved-then-strongly_sees : goal.loop-missing-preserved-then-strongly_sees
loop-missing-preserved-then-strongly_sees g c =
    let shape = g.S.Sight.shape c.args.sight.now in
    let stake = stake_at shape.members shape.links in
    let some = some_left stake c.args.rows.now c.loop-missing.left c.loop-missing.rest c.loop-missing.invariant.rest (omega (arith, c.loop-missing-test.true, c.if-missing-rest.true)) in
    let is = c.from-stake.ensures ∙ (c.stake.ensures ∙ ap (stake_of shape.members) c.creator.ensures.value) in
    let last = rows_weight-last stake c.args.rows.now c.loop-missing.left (c.loop-missing.left - 1) (omega arith) c.loop-missing.invariant.within in
    record {
      within = omega (arith, c.loop-missing.invariant.within);
      rest = omega (arith, c.loop-missing.invariant.rest, last, is);
      settled = c.loop-missing.invariant.settled
          ∙ rw c.saturating_sub-missing.ensures (found stake (strongly_sees shape.members shape.links c.args.x) c.args.rows.now c.loop-missing.left (c.loop-missing.left - 1)
          c.loop-missing.missing c.from-stake.result (omega arith) c.loop-missing.invariant.within (sym c.strongly_sees.ensures ∙ c.if-strongly_sees.true) is);
    }

pub loop-missing-preserved : goal.loop-missing-preserved
loop-missing-preserved g c =
    let shape = g.S.Sight.shape c.args.sight.now in
    let stake = stake_at shape.members shape.links in
    let some = some_left stake c.args.rows.now c.loop-missing.left c.loop-missing.rest c.loop-missing.invariant.rest (omega (arith, c.loop-missing-test.true, c.if-missing-rest.true)) in
    let is = c.from-stake.ensures ∙ (c.stake.ensures ∙ ap (stake_of shape.members) c.creator.ensures.value) in
    let last = rows_weight-last stake c.args.rows.now c.loop-missing.left (c.loop-missing.left - 1) (omega arith) c.loop-missing.invariant.within in
    record {
      within = omega (arith, c.loop-missing.invariant.within);
      rest = omega (arith, c.loop-missing.invariant.rest, last, is);
      settled = c.loop-missing.invariant.settled
          ∙ passed stake (strongly_sees shape.members shape.links c.args.x) c.args.rows.now c.loop-missing.left (c.loop-missing.left - 1)
          c.loop-missing.missing (omega arith) c.loop-missing.invariant.within (sym c.strongly_sees.ensures ∙ c.if-strongly_sees.false);
    }

pub returns : goal.returns
returns g c =
    let shape = g.S.Sight.shape c.args.sight.now in
    let missing : ℕ = c.loop-missing.missing in
    let rest : ℕ → ℕ = λ k. seen_weight shape c.args.x (take k c.args.rows.now) in
    elim c.loop-missing-test.branch [
      | then-loop-missing-test+else-missing-rest w ↦ (
          let light : c.loop-missing.rest < missing = omega (arith, w.if-missing-rest.false) in
          let some : nat_eq missing 0 ≡ false = search rules in
          some ∙ sym (c.loop-missing.invariant.settled ∙ too_light (stake_at shape.members shape.links) (strongly_sees shape.members shape.links c.args.x) (take c.loop-missing.left c.args.rows.now) missing c.loop-missing.rest c.loop-missing.invariant.rest light))
      | else-loop-missing-test w ↦ (
          let zero : missing ≡ 0 = omega (arith, w.loop-missing-test.false) in
          ap (λ m. nat_eq m 0) zero ∙ sym (c.loop-missing.invariant.settled ∙ (ap (λ m. nat_le m (rest c.loop-missing.left)) zero ∙ le-leb 0 (rest c.loop-missing.left) (omega arith))))
    ]
