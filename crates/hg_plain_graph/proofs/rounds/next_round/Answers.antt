use Rattle.std.proofs.Common.{◌∙◌, ◌≡◌, ◌+◌, cond, ap, sym, arith, slice_index}
use Rattle.hg_model.specs.Links.{parents}
use Rattle.hg_model.specs.Seeing.{is_supermajority}
use Rattle.hg_model.specs.Rounds.{parent_round, round_of}
use Rattle.hg_model.proofs.RoundLaws.{round_of-le}
use Rattle.hg_plain_graph.proofs.StepLaws.{round_next}
use Rattle.hg_plain_graph.proofs.rounds.next_round.Goals as goal

-- what the calls gave is the next round
next : (c : goal.Then-is_supermajority) → c.parent_round-r.result + 1 ≡ round_of c.args.seeing.now.members c.args.seeing.now.links c.args.x
next c =
    let n = c.args.seeing.now.members in
    let L = c.args.seeing.now.links in
    let same = c.links.ensures ∙ c.ancestry.ensures.value in
    let r_is = c.parent_round-r.ensures ∙ ap (λ links. parent_round (λ p. slice_index c.args.rounds.now p) (parents links c.args.x)) same in
    let many = c.is_supermajority.ensures ∙ ap (λ k. is_supermajority k c.weigh_seen.result) c.total.ensures.value in
    sym (ap (λ b. cond b (c.parent_round-r.result + 1) c.parent_round-r.result) c.if-is_supermajority.true)
    ∙ round_next n L c.ancestry.ensures.shaped.earlier c.args.rounds.now c.args.x _ _ _ c.requires.known r_is c.weigh_seen.ensures many

pub overflow_add-result : goal.overflow_add-result
overflow_add-result c =
    let fits = round_of-le c.args.seeing.now.members c.args.seeing.now.links c.ancestry.ensures.shaped.earlier c.args.x in
    omega (arith, next c, fits)

pub returns-then-is_supermajority : goal.returns-then-is_supermajority
returns-then-is_supermajority c = next c

pub returns-else-is_supermajority : goal.returns-else-is_supermajority
returns-else-is_supermajority c =
    let n = c.args.seeing.now.members in
    let L = c.args.seeing.now.links in
    let same = c.links.ensures ∙ c.ancestry.ensures.value in
    let r_is = c.parent_round-r.ensures ∙ ap (λ links. parent_round (λ p. slice_index c.args.rounds.now p) (parents links c.args.x)) same in
    let many = c.is_supermajority.ensures ∙ ap (λ k. is_supermajority k c.weigh_seen.result) c.total.ensures.value in
    sym (ap (λ b. cond b (c.parent_round-r.result + 1) c.parent_round-r.result) c.if-is_supermajority.false)
    ∙ round_next n L c.ancestry.ensures.shaped.earlier c.args.rounds.now c.args.x _ _ _ c.requires.known r_is c.weigh_seen.ensures many
