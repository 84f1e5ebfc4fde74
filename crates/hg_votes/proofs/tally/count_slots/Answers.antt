use Rattle.std.proofs.Common.{◌+◌, ◌*◌, ◌^◌, ◌<◌, ◌&&◌, not, get_or, sym, arith}
use Rattle.hg_model.proofs.PlacesLaws.{count_below_zero}
use Rattle.hg_bits.specs.Words.{has_bit}
use Rattle.hg_votes.proofs.SlotLaws.{yes_more, no_more, few_shared}
use Rattle.hg_votes.proofs.tally.count_slots.Goals as goal

pub loop-k-init : goal.loop-k-init
loop-k-init c =
    let voters = c.args.voters.now in
    let voted = c.args.voted.now in
    record {
      yes = sym (count_below_zero (λ i. has_bit voters i && has_bit voted i));
      no = sym (count_below_zero (λ i. has_bit voters i && not (has_bit voted i)));
    }

pub overflow_add-yes : goal.overflow_add-yes
overflow_add-yes c =
    let voters = c.args.voters.now in
    let voted = c.args.voted.now in
    let fits : get_or voters c.loop-k.k 0 < 2 ^ 64 = omega (arith, c.type_inv.voters c.loop-k.k) in
    omega (arith, yes_more voters voted c.loop-k.k fits, few_shared voters (has_bit voted) (64 * (c.loop-k.k + 1)) (omega arith))

pub overflow_add-no : goal.overflow_add-no
overflow_add-no c =
    let voters = c.args.voters.now in
    let voted = c.args.voted.now in
    let fits : get_or voters c.loop-k.k 0 < 2 ^ 64 = omega (arith, c.type_inv.voters c.loop-k.k) in
    let small : get_or voted c.loop-k.k 0 < 2 ^ 64 = omega (arith, c.type_inv.voted c.loop-k.k) in
    omega (arith, no_more voters voted c.loop-k.k fits small, few_shared voters (λ i. not (has_bit voted i)) (64 * (c.loop-k.k + 1)) (omega arith))

pub loop-k-preserved : goal.loop-k-preserved
loop-k-preserved c =
    let voters = c.args.voters.now in
    let voted = c.args.voted.now in
    let fits : get_or voters c.loop-k.k 0 < 2 ^ 64 = omega (arith, c.type_inv.voters c.loop-k.k) in
    let small : get_or voted c.loop-k.k 0 < 2 ^ 64 = omega (arith, c.type_inv.voted c.loop-k.k) in
    record {
      yes = omega (arith, c.loop-k.invariant.yes, yes_more voters voted c.loop-k.k fits);
      no = omega (arith, c.loop-k.invariant.no, no_more voters voted c.loop-k.k fits small);
    }

pub returns-clause-yes : goal.returns-clause-yes
returns-clause-yes c =
    omega (arith, c.loop-k.invariant.yes, few_shared c.args.voters.now (has_bit c.args.voted.now) (64 * c.loop-k.k) (omega (arith, c.loop-k.auto.k-end)), c.requires.short)

pub returns-clause-no : goal.returns-clause-no
returns-clause-no c =
    omega (arith, c.loop-k.invariant.no, few_shared c.args.voters.now (λ i. not (has_bit c.args.voted.now i)) (64 * c.loop-k.k) (omega (arith, c.loop-k.auto.k-end)), c.requires.short)
